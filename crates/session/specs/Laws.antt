-- What holds of the transition table, and of time.
use Rattle.std.specs.Prelude.{◌≡◌, ℕ, ◌≤◌, Bool, true, false, not, ◌&&◌, List, [], ◌∷◌, Some, None, Option}
use Rattle.dl_nas.specs.declared.message.Received.{Received}
use Rattle.session.specs.declared.outcome.Ended.{Ended}
use Rattle.session.specs.declared.outcome.Ended.TheVariants.{Accepted, Rejected, Returned, Overtaken, Nothing}
use Rattle.session.specs.declared.state.Waiting.{Waiting}
use Rattle.session.specs.declared.state.State.{State}
use Rattle.session.specs.declared.state.State.TheVariants.{Inactive}
use Rattle.session.specs.State.{new_request, waiting_of}
use Rattle.session.specs.Time.{waited}
use Rattle.session.specs.declared.transition.Line.{Line}
use Rattle.session.specs.Transitions.{applies, lines, line_of, state_by, outcome_by}

-- none of some lines applies
abbrev pub none_of : List Line → State → Received → Bool
none_of [] s m = true
none_of (l ∷ ls) s m = not (applies l s m) && none_of ls s m

-- the cases: a line applies, or the message is passed over, since no line does
abbrev pub holds : Option Line → State → Received → Bool
holds (Some l) s m = applies l s m
holds None s m = none_of lines s m

-- one case holds, and no other
pub record OneCase (s : State) (m : Received) : Type 0 where
  pub case : Option Line
  pub holding : holds case s m ≡ true
  pub only : (other : Option Line) → holds other s m ≡ true → other ≡ case

-- exactly one case holds of every state and message
abbrev pub ExactlyOne : Type 0
ExactlyOne = (s : State) (m : Received) → OneCase s m

-- no message leaves INACTIVE
abbrev pub InactiveStays : Type 0
InactiveStays = (m : Received) → state_by (line_of Inactive m) Inactive ≡ Inactive

-- a message that took no effect changes no state
abbrev pub OnlyEffectMoves : Type 0
OnlyEffectMoves = (s : State) (m : Received) → (outcome_by (line_of s m)).took_effect ≡ false → state_by (line_of s m) s ≡ s

-- a request waits
abbrev pub some_waits : Option Waiting → Bool
some_waits None = false
some_waits (Some w) = true

abbrev pub pending : State → Bool
pending s = some_waits (waiting_of s)

-- a request ended
abbrev pub ends : Ended → Bool
ends Accepted = true
ends Rejected = true
ends Returned = true
ends Overtaken = true
ends Nothing = false

-- a request is told to have ended exactly where one waited before and none waits afterwards
abbrev pub EndsTold : Type 0
EndsTold = (s : State) (m : Received) → ends (outcome_by (line_of s m)).ended ≡ (pending s && not (pending (state_by (line_of s m) s)))

-- a request after several readings of seconds, unless it is given up on the way
abbrev pub waited_on : List ℕ → Option Waiting → Option Waiting
waited_on [] o = o
waited_on (n ∷ ns) None = None
waited_on (n ∷ ns) (Some w) = waited_on ns (waited n w)

-- five readings of at least 16 seconds: after four of them the request still waits, after the fifth it is given up
pub record FiveReadings (p a b c d e : ℕ) : Type 0 where
  pub four : waited_on (a ∷ b ∷ c ∷ d ∷ []) (Some (new_request p)) ≡ Some (record { pti = p; left = 16; expiries = 4 })
  pub five : waited_on (a ∷ b ∷ c ∷ d ∷ e ∷ []) (Some (new_request p)) ≡ None

abbrev pub FiveExpiries : Type 0
FiveExpiries = (p a b c d e : ℕ) → 16 ≤ a → 16 ≤ b → 16 ≤ c → 16 ≤ d → 16 ≤ e → FiveReadings p a b c d e
