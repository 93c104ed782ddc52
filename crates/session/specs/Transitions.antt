-- The transition table: what a message of the network does to a session, one line a case.
use Rattle.std.specs.Prelude.{ℕ, Bool, true, false, cond, not, ◌&&◌, ◌||◌, List, [], ◌∷◌, Some, None, Option, ◌==◌}
use Rattle.dl_nas.specs.declared.message.Received.{Received}
use Rattle.dl_nas.specs.Content.{message_type_of}
use Rattle.session.specs.declared.outcome.Ended.{Ended}
use Rattle.session.specs.declared.outcome.Ended.TheVariants.{Accepted, Rejected, Returned, Overtaken, Nothing}
use Rattle.session.specs.declared.outcome.Reply.{Reply}
use Rattle.session.specs.declared.outcome.Reply.TheVariants.{ModificationComplete, ReleaseComplete, Status}
use Rattle.session.specs.declared.outcome.Outcome.{Outcome}
use Rattle.session.specs.declared.state.State.{State}
use Rattle.session.specs.declared.state.State.TheVariants.{Inactive, ActivePending, Active, ModificationPending, InactivePending}
use Rattle.session.specs.declared.transition.Line.{Line}
use Rattle.session.specs.declared.transition.Line.TheVariants.{EstablishmentAccepted, EstablishmentRejected, ModificationRejected, ModificationAccepted, ReleaseRejected, ReleaseAccepted, ModificationCommanded, ReleaseCommanded, RequestOvertaken, EstablishmentReturned, ModificationReturned, ReleaseReturned, NotActive}
use Rattle.session.specs.State.{asked, unasked, inactive}
use Rattle.session.specs.Session.{SessionView, with_state}

-- no 5GMM cause stands outside; with one, the message is one of the handset's own, sent back
abbrev pub without_cause : Option ℕ → Bool
without_cause None = true
without_cause (Some cause) = false

abbrev pub from_network : Received → Bool
from_network m = without_cause m.mm_cause

-- a message of a type, from the network
abbrev pub sent : ℕ → Received → Bool
sent type m = message_type_of m.content == type && from_network m

-- a request of a type, sent back
abbrev pub returned : ℕ → Received → Bool
returned type m = message_type_of m.content == type && not (from_network m)

-- C2, C3, CA, CB, D2 or D3, from the network
abbrev pub answerable : Received → Bool
answerable m = sent 0xC2 m || (sent 0xC3 m || (sent 0xCA m || (sent 0xCB m || (sent 0xD2 m || sent 0xD3 m))))

-- ACTIVE PENDING, with the waiting PTI
abbrev pub establishing : State → ℕ → Bool
establishing Inactive p = false
establishing (ActivePending w) p = asked w p
establishing Active p = false
establishing (ModificationPending w) p = false
establishing (InactivePending w) p = false

-- MODIFICATION PENDING, with the waiting PTI
abbrev pub modifying : State → ℕ → Bool
modifying Inactive p = false
modifying (ActivePending w) p = false
modifying Active p = false
modifying (ModificationPending w) p = asked w p
modifying (InactivePending w) p = false

-- INACTIVE PENDING, with the waiting PTI
abbrev pub releasing : State → ℕ → Bool
releasing Inactive p = false
releasing (ActivePending w) p = false
releasing Active p = false
releasing (ModificationPending w) p = false
releasing (InactivePending w) p = asked w p

-- ACTIVE, with PTI 0
abbrev pub active_unasked : State → ℕ → Bool
active_unasked Inactive p = false
active_unasked (ActivePending w) p = false
active_unasked Active p = p == 0
active_unasked (ModificationPending w) p = false
active_unasked (InactivePending w) p = false

-- MODIFICATION PENDING, with PTI 0
abbrev pub modifying_unasked : State → ℕ → Bool
modifying_unasked Inactive p = false
modifying_unasked (ActivePending w) p = false
modifying_unasked Active p = false
modifying_unasked (ModificationPending w) p = unasked w p
modifying_unasked (InactivePending w) p = false

-- INACTIVE PENDING, with PTI 0
abbrev pub releasing_unasked : State → ℕ → Bool
releasing_unasked Inactive p = false
releasing_unasked (ActivePending w) p = false
releasing_unasked Active p = false
releasing_unasked (ModificationPending w) p = false
releasing_unasked (InactivePending w) p = unasked w p

-- when each line applies
abbrev pub applies : Line → State → Received → Bool
applies EstablishmentAccepted s m = sent 0xC2 m && establishing s m.pti
applies EstablishmentRejected s m = sent 0xC3 m && establishing s m.pti
applies ModificationRejected s m = sent 0xCA m && modifying s m.pti
applies ModificationAccepted s m = sent 0xCB m && modifying s m.pti
applies ReleaseRejected s m = sent 0xD2 m && releasing s m.pti
applies ReleaseAccepted s m = sent 0xD3 m && releasing s m.pti
applies ModificationCommanded s m = sent 0xCB m && (active_unasked s m.pti || modifying_unasked s m.pti)
applies ReleaseCommanded s m = sent 0xD3 m && active_unasked s m.pti
applies RequestOvertaken s m = sent 0xD3 m && (modifying_unasked s m.pti || releasing_unasked s m.pti)
applies EstablishmentReturned s m = returned 0xC1 m && establishing s m.pti
applies ModificationReturned s m = returned 0xC9 m && modifying s m.pti
applies ReleaseReturned s m = returned 0xD1 m && releasing s m.pti
applies NotActive s m = inactive s && answerable m

-- the state afterwards
abbrev pub next_state : Line → State → State
next_state EstablishmentAccepted s = Active
next_state EstablishmentRejected s = Inactive
next_state ModificationRejected s = Active
next_state ModificationAccepted s = Active
next_state ReleaseRejected s = Active
next_state ReleaseAccepted s = Inactive
next_state ModificationCommanded s = s
next_state ReleaseCommanded s = Inactive
next_state RequestOvertaken s = Inactive
next_state EstablishmentReturned s = Inactive
next_state ModificationReturned s = Active
next_state ReleaseReturned s = Active
next_state NotActive s = s

abbrev pub took_effect_of : Ended → Option Reply → Outcome
took_effect_of ended reply = record { ended = ended; took_effect = true; reply = reply }

abbrev pub no_effect : Option Reply → Outcome
no_effect reply = record { ended = Nothing; took_effect = false; reply = reply }

-- how the request ended, and the reply
abbrev pub line_outcome : Line → Outcome
line_outcome EstablishmentAccepted = took_effect_of Accepted None
line_outcome EstablishmentRejected = took_effect_of Rejected None
line_outcome ModificationRejected = took_effect_of Rejected None
line_outcome ModificationAccepted = took_effect_of Accepted (Some ModificationComplete)
line_outcome ReleaseRejected = took_effect_of Rejected None
line_outcome ReleaseAccepted = took_effect_of Accepted (Some ReleaseComplete)
line_outcome ModificationCommanded = took_effect_of Nothing (Some ModificationComplete)
line_outcome ReleaseCommanded = took_effect_of Nothing (Some ReleaseComplete)
line_outcome RequestOvertaken = took_effect_of Overtaken (Some ReleaseComplete)
line_outcome EstablishmentReturned = took_effect_of Returned None
line_outcome ModificationReturned = took_effect_of Returned None
line_outcome ReleaseReturned = took_effect_of Returned None
line_outcome NotActive = no_effect (Some Status)

abbrev pub lines : List Line
lines =
    EstablishmentAccepted ∷ EstablishmentRejected ∷ ModificationRejected ∷ ModificationAccepted ∷ ReleaseRejected
    ∷ ReleaseAccepted ∷ ModificationCommanded ∷ ReleaseCommanded ∷ RequestOvertaken ∷ EstablishmentReturned
    ∷ ModificationReturned ∷ ReleaseReturned ∷ NotActive ∷ []

-- the first of some lines that applies
abbrev pub first_of : List Line → State → Received → Option Line
first_of [] s m = None
first_of (l ∷ ls) s m = cond (applies l s m) (Some l) (first_of ls s m)

-- the line of a state and a message; none where the message is passed over
abbrev pub line_of : State → Received → Option Line
line_of s m = first_of lines s m

abbrev pub state_by : Option Line → State → State
state_by None s = s
state_by (Some l) s = next_state l s

abbrev pub outcome_by : Option Line → Outcome
outcome_by None = no_effect None
outcome_by (Some l) = line_outcome l

abbrev pub moved_by : Option Line → SessionView → SessionView
moved_by l v = with_state (state_by l v.state) v

-- what a message does: the state afterwards, and the outcome; the other data stay
abbrev pub taken_in : SessionView → Received → SessionView
taken_in v m = moved_by (line_of v.state m) v

abbrev pub outcome_of : SessionView → Received → Outcome
outcome_of v m = outcome_by (line_of v.state m)
