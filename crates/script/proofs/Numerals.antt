-- Reading a number digit by digit, with an early refusal, is reading it whole.
use Rattle.std.proofs.Common.{◌≡◌, ℕ, ◌+◌, ◌-◌, ◌*◌, ◌<◌, ◌≤◌, eqb, List, [], ◌∷◌, length, get_or, drop, Some, None, Option, refl, ◌∙◌, arith}
use Rattle.std.proofs.lemmas.List.{at_drop_more}
use Rattle.std.proofs.lemmas.Bool.{cond_both}
use Rattle.std.proofs.lemmas.Bool.Decides.{nat_tests}
use Rattle.script.specs.Number.{spelled_behind, fitting_behind, extended, numeral}

-- more digits make no smaller number
grows : (n : ℕ) (cs : List ℕ) → n ≤ spelled_behind n cs
grows n [] = omega arith
grows n (c ∷ cs) = let more = grows (n * 10 + (c - 48)) cs in omega arith

-- a digit that does not fit leaves no number, and one that fits leaves the rest to be read
abbrev pub onward : Option ℕ → List ℕ → Option ℕ
onward None cs = None
onward (Some n) cs = fitting_behind n cs

pub one_digit : (n c : ℕ) (cs : List ℕ) → fitting_behind n (c ∷ cs) ≡ onward (extended n c) cs
one_digit n c cs = let more = grows (n * 10 + (c - 48)) cs in grind (arith, nat_tests)

pub step_on : (word : List ℕ) (i n : ℕ) → i < length word → fitting_behind n (drop i word) ≡ onward (extended n (get_or word i 0)) (drop (i + 1) word)
step_on word i n h = at_drop_more (fitting_behind n) word i 0 h ∙ one_digit n (get_or word i 0) (drop (i + 1) word)

pub no_number : (word : List ℕ) → fitting_behind 0 word ≡ None → numeral word ≡ None
no_number word e = cond_both (eqb (length word) 0) None (fitting_behind 0 word) (λ r. r ≡ None) (λ _. refl) (λ _. e)
