-- A table after a rule for every timer: it is full and sound, and goes by the law of the rule.
use Rattle.std.proofs.Common.{◌≡◌, ℕ, true, List, map, length, sym, ap, ◌∙◌, subst}
use Rattle.std.proofs.lemmas.List.{length-map}
use Rattle.backoff.specs.declared.timer.BackOffTimer.{BackOffTimer}
use Rattle.keys.specs.Octets.{KeyOctets}
use Rattle.bars.specs.declared.bar.Bar.{Bar}
use Rattle.bars.specs.Bars.{shown, apart, retimed}
use Rattle.bars.specs.Laws.{Goes}
use Rattle.bars.proofs.Loops.{shown_retimed}

pub still_full : {K : Type 0} (f : Bar K → Bar K) (xs ys : List (Bar K)) → ys ≡ map f xs → {n : ℕ} → length xs ≡ n → length ys ≡ n
still_full f xs ys e h = ap length e ∙ length-map xs f ∙ h

module _ {K : Type 0} (octets : K → KeyOctets) (rule : KeyOctets → BackOffTimer → BackOffTimer) where
  after : (xs ys : List (Bar K)) → ys ≡ map (retimed (λ k t. rule (octets k) t)) xs → shown octets ys ≡ map (retimed rule) (shown octets xs)
  after xs ys e = ap (shown octets) e ∙ shown_retimed octets rule xs

  pub still_apart : (xs ys : List (Bar K)) → ys ≡ map (retimed (λ k t. rule (octets k) t)) xs → Goes rule (shown octets xs) (map (retimed rule) (shown octets xs))
      → apart (shown octets ys) ≡ true
  still_apart xs ys e goes = ap apart (after xs ys e) ∙ goes.sound

  pub gone : (Law : List (Bar KeyOctets) → List (Bar KeyOctets) → Type 0) → ((bs : List (Bar KeyOctets)) → Law bs (map (retimed rule) bs))
      → (xs ys : List (Bar K)) → ys ≡ map (retimed (λ k t. rule (octets k) t)) xs
      → (shown octets ys ≡ map (retimed rule) (shown octets xs)) × Law (shown octets xs) (shown octets ys)
  gone Law holds xs ys e = (after xs ys e, subst (Law (shown octets xs)) (sym (after xs ys e)) (holds (shown octets xs)))
