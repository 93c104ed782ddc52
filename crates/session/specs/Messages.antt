-- The messages that a session sends.
use Rattle.std.specs.Prelude.{ℕ, List, [], ◌∷◌, Some, None, Ok, Err, Option, Result}
use Rattle.std.specs.Option.{option_map}
use Rattle.ul_nas.specs.declared.write.WriteRefusal.{WriteRefusal}
use Rattle.ul_nas.specs.Message.{Carried, establishment_request, modification_request, release_request, modification_complete, release_complete, status, Message, message}
use Rattle.ul_nas.specs.Writing.{write_answer, over, refusal_number}
use Rattle.ul_nas.specs.Format.{encoding}
use Rattle.session.specs.declared.messages.PendingRefusal.{PendingRefusal}
use Rattle.session.specs.declared.messages.PendingRefusal.TheVariants.{NotPending, NotWritten}
use Rattle.session.specs.declared.outcome.Reply.{Reply}
use Rattle.session.specs.declared.outcome.Reply.TheVariants.{ModificationComplete, ReleaseComplete, Status}
use Rattle.session.specs.declared.state.State.{State}
use Rattle.session.specs.declared.state.State.TheVariants.{Inactive, ActivePending, Active, ModificationPending, InactivePending}
use Rattle.session.specs.Session.{SessionView}

-- octets that are there; an absent part is left out
abbrev pub present : List ℕ → Option (List ℕ)
present [] = None
present (x ∷ xs) = Some (x ∷ xs)

-- an establishment request asks for the request type, the slice and the name
abbrev pub establishment_carried : SessionView → Carried
establishment_carried v = establishment_request v.request_type (present v.slice) (present v.name)

-- the waiting PTI, and C1, C9 or D1, by the state
abbrev pub request_in : State → SessionView → Option (ℕ × Carried)
request_in Inactive v = None
request_in (ActivePending w) v = Some (w.pti, establishment_carried v)
request_in Active v = None
request_in (ModificationPending w) v = Some (w.pti, modification_request)
request_in (InactivePending w) v = Some (w.pti, release_request)

abbrev pub pending_content : SessionView → Option (ℕ × Carried)
pending_content v = request_in v.state v

-- the message of the waiting request of a session that has an identity
abbrev pub pending_message : ℕ → SessionView → Option Message
pending_message i v = option_map (λ c. message i c.0 c.1) (pending_content v)

-- a refusal of the writer is told as it is
abbrev pub written : Result ℕ WriteRefusal → Result ℕ PendingRefusal
written (Ok n) = Ok n
written (Err e) = Err (NotWritten e)

-- where nothing is pending, nothing is written
abbrev pub pending_answer : Option Message → ℕ → Result ℕ PendingRefusal
pending_answer None room = Err NotPending
pending_answer (Some m) room = written (write_answer m room)

-- a refusal leaves the buffer as it was
abbrev pub pending_buffer : Result ℕ PendingRefusal → Option Message → List ℕ → List ℕ
pending_buffer (Err e) m before = before
pending_buffer (Ok n) None before = before
pending_buffer (Ok n) (Some m) before = over (encoding m) before

-- nothing pending has no question; the writer's refusal has the writer's
abbrev pub pending_refusal_number : PendingRefusal → Option ℕ
pending_refusal_number NotPending = None
pending_refusal_number (NotWritten e) = refusal_number e

-- CC, D4 or D6
abbrev pub reply_carried : Reply → Carried
reply_carried ModificationComplete = modification_complete
reply_carried ReleaseComplete = release_complete
reply_carried Status = status

abbrev pub reply_message : Reply → ℕ → ℕ → Message
reply_message r i p = message i p (reply_carried r)
