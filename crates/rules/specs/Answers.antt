-- The numbers of the answers.
use Rattle.std.specs.Prelude.{ℕ}
use Rattle.dl_nas.specs.Message.{number_of}
use Rattle.session.specs.declared.outcome.Reply.{Reply}
use Rattle.session.specs.declared.outcome.Reply.TheVariants.{ModificationComplete, ReleaseComplete, Status}
use Rattle.rules.specs.declared.answer.TakeInRefusal.{TakeInRefusal}
use Rattle.rules.specs.declared.answer.TakeInRefusal.TheVariants.{Message, Waiting}

-- the number of the question that refuses a message: the reader's, or 12
abbrev pub refusal_number : TakeInRefusal → ℕ
refusal_number (Message fault) = number_of fault
refusal_number Waiting = 12

-- the type octet of a reply
abbrev pub reply_type : Reply → ℕ
reply_type ModificationComplete = 0xCC
reply_type ReleaseComplete = 0xD4
reply_type Status = 0xD6
