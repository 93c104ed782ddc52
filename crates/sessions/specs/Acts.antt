-- What the session of an identity answers, if there is one.
use Rattle.std.specs.Prelude.{ℕ, Some, None, Option}
use Rattle.ul_nas.specs.Message.{Message}
use Rattle.session.specs.declared.outcome.Expiry.{Expiry}
use Rattle.session.specs.declared.outcome.Expiry.TheVariants.{Nothing}
use Rattle.session.specs.Session.{SessionView}
use Rattle.session.specs.Time.{counted_expiry}
use Rattle.session.specs.Messages.{pending_message}

-- what becomes of its waiting request by time
abbrev pub expiry_of : ℕ → Option SessionView → Expiry
expiry_of seconds None = Nothing
expiry_of seconds (Some v) = counted_expiry seconds v.state

-- the message of its waiting request
abbrev pub message_of : ℕ → Option SessionView → Option Message
message_of i None = None
message_of i (Some v) = pending_message i v
