-- Loops over a row of bars, whatever the kind of key.
use Rattle.std.proofs.Common.{◌≡◌, ℕ, ◌+◌, ◌<◌, ◌≤◌, Bool, true, false, cond, not, List, [], ◌∷◌, ◌++◌, map, length, get_or, take, drop, set, Some, None, Option, sym, refl, ap, ◌∙◌, append-nil, arith}
use Rattle.std.proofs.lemmas.List.{take_all, drop_all, length-map, map-set}
use Rattle.std.proofs.lemmas.Bool.Decides.{nat_tests}
use Rattle.std.proofs.lemmas.List.Edits.{map_over_more}
use Rattle.std.specs.List.{prefix_len}
use Rattle.std.specs.Option.{MatchOption}
use Rattle.backoff.specs.declared.timer.BackOffTimer.{BackOffTimer}
use Rattle.keys.specs.Octets.{KeyOctets}
use Rattle.bars.specs.declared.bar.Bar.{Bar}
use Rattle.bars.specs.Places.{found, vacant}
use Rattle.bars.specs.Bars.{bar_octets, shown, stands, holds, place_for, imposed, retimed}

-- a loop that retimes a row in place
module _ {K : Type 0} (f : K → BackOffTimer → BackOffTimer) (xs ys : List (Bar K)) (i : ℕ) (inv : ys ≡ map (retimed f) (take i xs) ++ drop i xs) where
  pub retimed_more : (x : Bar K) (t : BackOffTimer) → i < length xs → x ≡ get_or ys i x → t ≡ f (get_or ys i x).key (get_or ys i x).timer
      → set ys i (record { key = (get_or ys i x).key; timer = t }) ≡ map (retimed f) (take (i + 1) xs) ++ drop (i + 1) xs
  retimed_more x t h is e =
      let made : BackOffTimer → List (Bar K) = λ u. set ys i (record { key = (get_or ys i x).key; timer = u }) in
      ap made e ∙ ap (λ z. set ys i (retimed f z)) (sym is) ∙ map_over_more (retimed f) xs ys i x h inv is

  pub retimed_all : length xs ≤ i → ys ≡ map (retimed f) xs
  retimed_all h =
      inv ∙ ap (λ t. map (retimed f) t ++ drop i xs) (take_all i xs h) ∙ ap (λ t. map (retimed f) xs ++ t) (drop_all i xs h) ∙ append-nil (map (retimed f) xs)

-- how long a front of standing bars is
pub standing_front : {K : Type 0} (bs : List (Bar K)) → prefix_len (λ b. not (vacant b)) bs ≡ prefix_len (λ b. stands b.timer) bs
standing_front [] = refl
standing_front (b ∷ bs) = ap (λ n. cond (not (vacant b)) (1 + n) 0) (standing_front bs) ∙ ap (λ t. cond t (1 + prefix_len (λ x. stands x.timer) bs) 0) (twice (stands b.timer))
  where
    twice : (t : Bool) → not (not t) ≡ t
    twice true = refl
    twice false = refl

module _ {K : Type 0} (octets : K → KeyOctets) where
  -- a rule of the key's octets, before and after the keys are shown by them
  pub shown_retimed : (rule : KeyOctets → BackOffTimer → BackOffTimer) (bs : List (Bar K))
      → shown octets (map (retimed (λ k t. rule (octets k) t)) bs) ≡ map (retimed rule) (shown octets bs)
  shown_retimed rule [] = refl
  shown_retimed rule (b ∷ bs) = ap (λ ys. record { key = octets b.key; timer = rule (octets b.key) b.timer } ∷ ys) (shown_retimed rule bs)

  -- how long a front passes a test, before and after the keys are shown
  pub leading_shown : (p : Bar KeyOctets → Bool) (bs : List (Bar K)) → prefix_len (λ b. p (bar_octets octets b)) bs ≡ prefix_len p (shown octets bs)
  leading_shown p [] = refl
  leading_shown p (b ∷ bs) = ap (λ n. cond (p (bar_octets octets b)) (1 + n) 0) (leading_shown p bs)

  -- the place for a bar on a key, from the two searches for it, the second where the first finds none
  pub placed : (k : KeyOctets) (bs : List (Bar K)) (held place : Option ℕ) → held ≡ found (prefix_len (λ b. not (holds k (bar_octets octets b))) bs) (length bs)
      → MatchOption held (place ≡ found (prefix_len (λ b. not (vacant b)) bs) (length bs)) (λ n. place ≡ Some n) → place ≡ found (place_for k (shown octets bs)) (length bs)
  placed k bs None place h p =
      let same = leading_shown (λ b. not (holds k b)) bs in
      let room = standing_front bs ∙ leading_shown (λ b. stands b.timer) bs in
      let long = length-map bs (bar_octets octets) in
      grind (arith, nat_tests)
  placed k bs (Some n) place h p =
      let same = leading_shown (λ b. not (holds k b)) bs in
      let long = length-map bs (bar_octets octets) in
      grind (arith, nat_tests)

  -- a bar put at the place that was found for its key
  pub put_at : (k : K) (t : BackOffTimer) (bs : List (Bar K)) (n : ℕ) → Some n ≡ found (place_for (octets k) (shown octets bs)) (length bs)
      → shown octets (set bs n (record { key = k; timer = t })) ≡ imposed (octets k) t (shown octets bs)
  put_at k t bs n e =
      let same : n ≡ place_for (octets k) (shown octets bs) = grind arith in
      map-set (bar_octets octets) bs n (record { key = k; timer = t }) ∙ ap (λ i. set (shown octets bs) i (record { key = octets k; timer = t })) same
