-- How many requests were let out since the last switch-on, and how they ended, read off the answers.
use Rattle.std.specs.Prelude.{ℕ, ◌+◌, cond, List, [], ◌∷◌, Some, None, Option}
use Rattle.session.specs.declared.outcome.Ended.{Ended}
use Rattle.session.specs.declared.outcome.Ended.TheVariants.{Accepted, Rejected, Returned, Overtaken, Nothing}
use Rattle.rules.specs.declared.answer.TakenIn.{TakenIn as Taking}
use Rattle.rules.specs.Calls.{Said, switch_on, switch_off, establish, modify, release, take_in, time_reading, change_network, network_take, look}
use Rattle.law.specs.Moments.{Moment}
use Rattle.law.specs.Requests.{Tells, told_by}

-- a number that each answer tells, summed since the last switch-on
abbrev pub more : Said → ℕ → ℕ → ℕ
more (switch_on card network reading off) n was = 0
more switch_off n was = was + n
more (establish identity type slice name) n was = was + n
more (modify identity) n was = was + n
more (release identity) n was = was + n
more (take_in octets) n was = was + n
more (time_reading reading) n was = was + n
more (change_network network) n was = was + n
more (network_take room) n was = was + n
more (look slice name) n was = was + n

abbrev pub summed : (Tells → ℕ) → List Moment → ℕ
summed count [] = 0
summed count (m ∷ h) = more m.call (count (told_by m.answer)) (summed count h)

-- a number for each way in which a message ends a request
abbrev pub by_end : ℕ → ℕ → ℕ → ℕ → Ended → ℕ
by_end a r b o Accepted = a
by_end a r b o Rejected = r
by_end a r b o Returned = b
by_end a r b o Overtaken = o
by_end a r b o Nothing = 0

abbrev pub by_message : (Ended → ℕ) → Option Taking → ℕ
by_message count None = 0
by_message count (Some t) = count t.ended

abbrev pub let_out_of : List Moment → ℕ
let_out_of = summed (λ t. cond t.out 1 0)

abbrev pub accepted : List Moment → ℕ
accepted = summed (λ t. by_message (by_end 1 0 0 0) t.message)

abbrev pub rejected : List Moment → ℕ
rejected = summed (λ t. by_message (by_end 0 1 0 0) t.message)

abbrev pub returned : List Moment → ℕ
returned = summed (λ t. by_message (by_end 0 0 1 0) t.message)

abbrev pub overtaken : List Moment → ℕ
overtaken = summed (λ t. by_message (by_end 0 0 0 1) t.message)

abbrev pub given_up_of : List Moment → ℕ
given_up_of = summed (λ t. t.given_up_of)
