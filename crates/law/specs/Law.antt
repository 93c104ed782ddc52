-- The law, at every moment of a life.
use Rattle.std.specs.Prelude.{◌≡◌, ℕ, ◌+◌, ◌≤◌, Bool, true, false, ◌||◌, ◌⊎◌, List, [], ◌∷◌, ◌++◌, length, Some, None, Option, ◌==◌, nat_lt}
use Rattle.std.specs.Option.{option_map}
use Rattle.keys.specs.Octets.{KeyOctets}
use Rattle.requests.specs.declared.question.Question.{Question}
use Rattle.requests.specs.declared.question.Question.TheVariants as question
use Rattle.requests.specs.Questions.{question_number}
use Rattle.requests.specs.Wanted.{octets_in}
use Rattle.session.specs.declared.timers.TimerKind.TheVariants.{T3396, T3584, T3585}
use Rattle.ul_nas.specs.Message.{Message, message, establishment_request, modification_request, release_request, request_type_of, emergency}
use Rattle.ul_nas.specs.Format.{encoding}
use Rattle.uplink.specs.Sizes.{capacity}
use Rattle.rules.specs.declared.answer.Answer.{Answer}
use Rattle.rules.specs.declared.answer.Answer.TheVariants.{SwitchedOff, LetOut, Stopped}
use Rattle.rules.specs.declared.answer.ClosedTally.{ClosedTally}
use Rattle.rules.specs.Calls.{Said, establish, modify, release}
use Rattle.law.specs.Moments.{Moment, waiting_after, life}
use Rattle.law.specs.Requests.{now, Asked, asked, of, pending, long_readings, waiting}
use Rattle.law.specs.Tallies.{let_out_of, accepted, rejected, returned, overtaken, given_up_of}
use Rattle.law.specs.Timers.{barred}

abbrev pub Iff : Type 0 → Type 0 → Type 0
Iff P Q = (P → Q) × (Q → P)

-- a request reaches the questions of the timers: none before them, 1 to 6 and 13, stopped it
abbrev pub early : Question → Bool
early q = nat_lt (question_number q) 7 || question_number q == 13

abbrev pub ReachesTimers : Answer → Type 0
ReachesTimers a = (q : Question) → a ≡ Stopped q → early q ≡ false

-- a request is stopped by the first of T3396, T3584 and T3585 that the calls so far leave on its key, and by no other of them
pub record StoppedByTimers (parts : KeyOctets) (a : Answer) (h : List Moment) : Type 0 where
  pub t3396 : Iff (a ≡ Stopped question.T3396) (barred T3396 parts h ≡ true)
  pub t3584 : Iff (a ≡ Stopped question.T3584) ((barred T3396 parts h ≡ false) × (barred T3584 parts h ≡ true))
  pub t3585 : Iff (a ≡ Stopped question.T3585) ((barred T3396 parts h ≡ false) × (barred T3584 parts h ≡ false) × (barred T3585 parts h ≡ true))

-- Bars: so every establishment of type 1 or 2 that reaches the timers, on the keys of what it asks for in the network of the
-- moment, and every modification of a session that is no emergency one, on the keys of its establishment
pub record Barring (c : Said) (a : Answer) (h : List Moment) : Type 0 where
  pub establishments : (identity type : ℕ) (slice name : Option (List ℕ)) → c ≡ establish identity type slice name → (type == 1 || type == 2) ≡ true → ReachesTimers a
      → StoppedByTimers (record { network = (now h).network; slice = octets_in slice; name = octets_in name }) a h
  pub modifications : (identity : ℕ) (e : Asked) → c ≡ modify identity → asked identity h ≡ Some e → emergency e.request_type ≡ false → ReachesTimers a
      → StoppedByTimers e.parts a h

-- a request is let out with a PTI, and its message is the newest waiting one, all others unmoved
pub record Left (asks : ℕ → Option Message) (a : Answer) (before after : List (List ℕ)) : Type 0 where
  pub pti : ℕ
  pub message : Message
  pub answer_is : a ≡ LetOut pti
  pub message_is : asks pti ≡ Some message
  pub newest : after ≡ before ++ encoding message ∷ []

-- or a question stops it, and what waits stays; 12 stops it only where eight messages wait
pub record Held (a : Answer) (before after : List (List ℕ)) : Type 0 where
  pub stop : Question
  pub answer_is : a ≡ Stopped stop
  pub unmoved : after ≡ before
  pub full : stop ≡ question.Waiting → length before ≡ capacity

-- Let out: so every request, an establishment with type, slice and name as given
pub record Sending (c : Said) (a : Answer) (before after : List (List ℕ)) : Type 0 where
  pub establishments : (identity type : ℕ) (slice name : Option (List ℕ)) → c ≡ establish identity type slice name
      → Left (λ pti. option_map (λ t. message identity pti (establishment_request t slice name)) (request_type_of type)) a before after ⊎ Held a before after
  pub modifications : (identity : ℕ) → c ≡ modify identity → Left (λ pti. Some (message identity pti modification_request)) a before after ⊎ Held a before after
  pub releases : (identity : ℕ) → c ≡ release identity → Left (λ pti. Some (message identity pti release_request)) a before after ⊎ Held a before after

-- Tally: every request that was let out since switch-on has ended in one way, or is pending
abbrev pub Balanced : List Moment → Type 0
Balanced h = let_out_of h ≡ accepted h + rejected h + returned h + overtaken h + given_up_of h + waiting h

-- and switch off tells these numbers; the requests still pending are cut off
pub record Told (t : ClosedTally) (h : List Moment) : Type 0 where
  pub let_out_is : t.since_on.let_out ≡ let_out_of h
  pub accepted_is : t.since_on.accepted ≡ accepted h
  pub rejected_is : t.since_on.rejected ≡ rejected h
  pub returned_is : t.since_on.returned ≡ returned h
  pub overtaken_is : t.since_on.overtaken ≡ overtaken h
  pub given_up_is : t.since_on.given_up ≡ given_up_of h
  pub cut_off_is : t.cut_off ≡ waiting h

-- Ends: no request is pending once five readings at least 16 seconds above the one before have come since it left
abbrev pub Ending : List Moment → Type 0
Ending h = (identity : ℕ) → 5 ≤ long_readings (of identity h) → pending (of identity h) ≡ None

-- what holds at a moment, after a history and with messages waiting before it
pub record Kept (before : List (List ℕ)) (m : Moment) (h : List Moment) : Type 0 where
  pub barring : Barring m.call m.answer h
  pub sending : Sending m.call m.answer before m.waiting
  pub balanced : (now (m ∷ h)).on ≡ true → Balanced (m ∷ h)
  pub told : (t : ClosedTally) → m.answer ≡ SwitchedOff t → Told t h
  pub ending : Ending (m ∷ h)

abbrev pub Law : List (List ℕ) → List Moment → Type 0
Law before [] = Unit {0}
Law before (m ∷ h) = Kept (waiting_after before h) m h × Law before h

-- every life keeps the law, whatever the calls, the waiting messages and the records at its beginning
abbrev pub EveryLife : Type 0
EveryLife =
    (script : List Said) (waiting records : List (List ℕ)) → length waiting ≤ capacity → length records ≡ 97
    → Law waiting (life script waiting records).moments
