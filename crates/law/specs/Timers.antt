-- The back-off timers of a life, read off the list of moments: what the last mark or lifting left on a key, and the seconds
-- counted since.
use Rattle.std.specs.Prelude.{ℕ, ◌+◌, ◌-◌, Bool, true, false, cond, ◌||◌, List, [], ◌∷◌, ◌++◌, Some, None, Ok, Err, Option, Result, ◌==◌, nat_lt}
use Rattle.std.specs.Str.{bytes_eq}
use Rattle.backoff.specs.declared.octet.TimerValue.{TimerValue}
use Rattle.backoff.specs.declared.octet.TimerValue.TheVariants.{Zero, Seconds, Deactivated}
use Rattle.dl_nas.specs.declared.message.MessageFault.{MessageFault}
use Rattle.dl_nas.specs.declared.message.Received.{Received}
use Rattle.dl_nas.specs.Message.{received}
use Rattle.keys.specs.Octets.{KeyOctets, same_key}
use Rattle.kept_set.specs.Loading.{known_seconds}
use Rattle.session.specs.declared.outcome.Reply.{Reply}
use Rattle.session.specs.declared.outcome.Reply.TheVariants.{ModificationComplete, ReleaseComplete, Status}
use Rattle.session.specs.declared.timers.TimerKind.{TimerKind}
use Rattle.session.specs.declared.timers.TimerKind.TheVariants.{T3396, T3584, T3585}
use Rattle.session.specs.declared.timers.TimerRule.{TimerRule}
use Rattle.session.specs.declared.timers.TimerRule.TheVariants.{NoMark, Mark, LiftAll}
use Rattle.session.specs.Laws.{ends}
use Rattle.session.specs.Timers.{kind_number, message_rule}
use Rattle.keys.specs.KeyParts.{name_key, slice_name_key, slice_key}
use Rattle.ul_nas.specs.Message.{emergency}
use Rattle.rules.specs.declared.answer.Answer.{Answer}
use Rattle.rules.specs.declared.answer.TakenIn.{TakenIn as Taking}
use Rattle.rules.specs.Calls.{Said, switch_on, switch_off, establish, modify, release, take_in, time_reading, change_network, network_take, look}
use Rattle.law.specs.Moments.{Moment}
use Rattle.law.specs.Requests.{told_by, now, Asked, asked}

-- the key of each kind, made of network, slice and name
abbrev pub key_of : TimerKind → KeyOctets → KeyOctets
key_of T3396 = name_key
key_of T3584 = slice_name_key
key_of T3585 = slice_key

-- what happens to the timer of one kind on one key: a mark or a lifting, time, the lifting of what is deactivated
pub data Stroke : Type 0 where
  set : TimerValue → Stroke
  passed : ℕ → Stroke
  reactivated : Stroke

-- CC or D4
abbrev pub completes : Option Reply → Bool
completes None = false
completes (Some ModificationComplete) = true
completes (Some ReleaseComplete) = true
completes (Some Status) = false

-- a message took effect: it ended a request, or the reply is CC or D4
abbrev pub took_effect_of : Taking → Bool
took_effect_of t = ends t.ended || completes t.reply

-- what the octets of a message say of the timers
abbrev pub ruling : Result Received MessageFault → TimerRule
ruling (Err fault) = NoMark
ruling (Ok m) = message_rule m.content m.mm_cause m.outer_timer

abbrev pub ruled : TimerKind → TimerRule → List Stroke
ruled kind NoMark = []
ruled kind (Mark kind' value) = cond (kind_number kind' == kind_number kind) (set value ∷ []) []
ruled kind LiftAll = set Zero ∷ []

-- on the keys of the session's last establishment, unless that was an emergency one
abbrev pub ruled_on : TimerKind → KeyOctets → TimerRule → Option Asked → List Stroke
ruled_on kind k rule None = []
ruled_on kind k rule (Some a) = cond (emergency a.request_type) [] (cond (same_key (key_of kind a.parts) k) (ruled kind rule) [])

abbrev pub taken_in : TimerKind → KeyOctets → List ℕ → List Moment → Option Taking → List Stroke
taken_in kind k octets h None = []
taken_in kind k octets h (Some t) = cond (took_effect_of t) (ruled_on kind k (ruling (received octets)) (asked t.identity h)) []

-- another card than at the last switch off lifts all; the time off is counted where it is known
abbrev pub stroke : TimerKind → KeyOctets → List Moment → Answer → Said → List Stroke
stroke kind k h a (switch_on card network reading off) = passed (known_seconds off) ∷ cond (bytes_eq card (now h).card) [] (set Zero ∷ [])
stroke kind k h a switch_off = reactivated ∷ []
stroke kind k h a (establish identity type slice name) = []
stroke kind k h a (modify identity) = []
stroke kind k h a (release identity) = []
stroke kind k h a (take_in octets) = taken_in kind k octets h (told_by a).message
stroke kind k h a (time_reading reading) = passed (reading - (now h).reading) ∷ []
stroke kind k h a (change_network network) = []
stroke kind k h a (network_take room) = []
stroke kind k h a (look slice name) = []

abbrev pub strokes : TimerKind → KeyOctets → List Moment → List Stroke
strokes kind k [] = []
strokes kind k (m ∷ h) = stroke kind k h m.answer m.call ++ strokes kind k h

abbrev pub lifted_if_deactivated : TimerValue → TimerValue
lifted_if_deactivated Zero = Zero
lifted_if_deactivated (Seconds n) = Seconds n
lifted_if_deactivated Deactivated = Zero

-- what the last mark or lifting left
abbrev pub imposed : List Stroke → TimerValue
imposed [] = Zero
imposed (set v ∷ es) = v
imposed (passed n ∷ es) = imposed es
imposed (reactivated ∷ es) = lifted_if_deactivated (imposed es)

-- the seconds counted since
abbrev pub counted : List Stroke → ℕ
counted [] = 0
counted (set v ∷ es) = 0
counted (passed n ∷ es) = counted es + n
counted (reactivated ∷ es) = counted es

-- deactivated, or more seconds than were counted
abbrev pub stands : TimerValue → ℕ → Bool
stands Zero n = false
stands (Seconds s) n = nat_lt n s
stands Deactivated n = true

-- the calls so far leave a bar on the key that some parts make
abbrev pub barred : TimerKind → KeyOctets → List Moment → Bool
barred kind parts h = stands (imposed (strokes kind (key_of kind parts) h)) (counted (strokes kind (key_of kind parts) h))
