-- A message that is sent where there is room for it.
use Rattle.std.specs.Prelude.{ℕ, Bool, false, cond, List, [], ◌∷◌, ◌++◌, length, Some, None, Option}
use Rattle.sessions.specs.Acts.{message_of}
use Rattle.sessions.specs.Table.{session_of}
use Rattle.ul_nas.specs.Format.{encoding}
use Rattle.ul_nas.specs.Message.{Message}
use Rattle.uplink.specs.Waiting.{room}
use Rattle.requests.specs.State.{StateView}

-- the message of the waiting request of an identity, if one waits
abbrev pub waiting_message : ℕ → StateView → Option Message
waiting_message identity s = message_of identity (session_of identity s.sessions)

-- there is a message, and room for it
abbrev pub sends : Option Message → ℕ → Bool
sends None waiting = false
sends (Some m) waiting = room waiting

-- the message is the newest waiting one, if there is one and room for it
abbrev pub with_message : Option Message → List (List ℕ) → List (List ℕ)
with_message None waiting = waiting
with_message (Some m) waiting = cond (room (length waiting)) (waiting ++ encoding m ∷ []) waiting
