-- A life: the moments that a script of calls leads to, from a commissioned handset on.
use Rattle.std.specs.Prelude.{ℕ, Bool, true, false, cond, List, [], ◌∷◌, ◌++◌, None, fold}
use Rattle.rules.specs.declared.answer.Answer.{Answer}
use Rattle.rules.specs.declared.answer.Answer.TheVariants.{SwitchedOn, SwitchedOff, LetOut, Stopped, TakenIn, NotTakenIn, Read, NetworkChanged, Taken, Looked, NotAvailable}
use Rattle.rules.specs.Calls.{Said, Handset, Step, performed}
use Rattle.rules.specs.Power.{commissioned}

-- a call, its answer, and what waits on the uplink after it
pub record Moment : Type 0 where
  pub call : Said
  pub answer : Answer
  pub waiting : List (List ℕ)

-- a call of the life: the power state had it, and it was no mere look
abbrev pub available : Answer → Bool
available (SwitchedOn n) = true
available (SwitchedOff t) = true
available (LetOut pti) = true
available (Stopped q) = true
available (TakenIn t) = true
available (NotTakenIn e) = true
available (Read e) = true
available NetworkChanged = true
available (Taken m) = true
available (Looked t) = false
available NotAvailable = false

-- what waits after the moments so far, the newest first
abbrev pub waiting_after : List (List ℕ) → List Moment → List (List ℕ)
waiting_after before [] = before
waiting_after before (m ∷ h) = m.waiting

-- the moments of a life, newest first, the answers of all its calls in their order, and the handset
pub record Life : Type 0 where
  pub moments : List Moment
  pub replies : List Answer
  pub handset : Handset

abbrev pub moment_of : Said → Step → Moment
moment_of c s = record { call = c; answer = s.answer; waiting = s.after.waiting }

-- one call more; a call that is not available leaves no moment
abbrev pub lived_on : Said → Step → Life → Life
lived_on c s l = record {
  moments = cond (available s.answer) (moment_of c s ∷ l.moments) l.moments;
  replies = l.replies ++ s.answer ∷ [];
  handset = s.after;
}

abbrev pub called : Life → Said → Life
called l c = lived_on c (performed c l.handset) l

abbrev pub begun : List (List ℕ) → List (List ℕ) → Life
begun waiting records = record { moments = []; replies = []; handset = record { state = None; waiting = waiting; records = commissioned records } }

-- the life of a script, the oldest call first
abbrev pub life : List Said → List (List ℕ) → List (List ℕ) → Life
life script waiting records = fold called (begun waiting records) script
