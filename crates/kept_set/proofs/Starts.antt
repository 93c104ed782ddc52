-- A table with one bar more.
use Rattle.std.proofs.Common.{◌≡◌, ℕ, zero, suc, ◌+◌, Bool, true, cond, not, ◌&&◌, ltb, List, [], ◌∷◌, length, set, refl, ap, ◌∙◌, arith}
use Rattle.std.proofs.lemmas.List.{length-set}
use Rattle.std.proofs.lemmas.List.Sums.{sum_by-set}
use Rattle.std.proofs.lemmas.Bool.{and_parts, and_from, not-true, ltb-true}
use Rattle.backoff.specs.declared.timer.BackOffTimer.TheVariants.{Running}
use Rattle.keys.specs.Octets.{KeyOctets, same_key}
use Rattle.bars.specs.declared.bar.Bar.{Bar}
use Rattle.bars.specs.Bars.{stands, timer_on, apart, standing, place_for, has_place, imposed}
use Rattle.bars.specs.Sizes.{place_count}
use Rattle.bars.proofs.Rows.{stopped_at_leading}
use Rattle.bars.proofs.Changes.{imposes}
use Rattle.timers.specs.Kept.{takes}
use Rattle.timers.proofs.Room.{taken_place, taken_has_place}
use Rattle.kept_set.specs.Laws.{lawful_timer, lawful_bars}

pub lawful_set : (kind : ℕ) (b : Bar KeyOctets) (bs : List (Bar KeyOctets)) (i : ℕ) → lawful_timer kind b.key b.timer ≡ true → lawful_bars kind bs ≡ true → lawful_bars kind (set bs i b) ≡ true
lawful_set kind b [] i h l = refl
lawful_set kind b (x ∷ xs) zero h l = let p = and_parts (lawful_timer kind x.key x.timer) (lawful_bars kind xs) l in and_from _ _ h p.1
lawful_set kind b (x ∷ xs) (suc i) h l =
    let p = and_parts (lawful_timer kind x.key x.timer) (lawful_bars kind xs) l in
    and_from _ _ p.0 (lawful_set kind b xs i h p.1)

-- a bar that the table takes
module _ (k : KeyOctets) (s : ℕ) (bs : List (Bar KeyOctets)) (full : length bs ≡ place_count) (ok : takes k bs ≡ true) where
  placed : has_place k bs ≡ true
  placed = taken_has_place k bs full ok

  pub started_full : length (imposed k (Running s) bs) ≡ place_count
  started_full = length-set bs (place_for k bs) _ ∙ full

  pub started_single : apart bs ≡ true → apart (imposed k (Running s) bs) ≡ true
  started_single h = (imposes k (Running s) bs h).sound

  pub started_timer : apart bs ≡ true → (q : KeyOctets) → timer_on (imposed k (Running s) bs) q ≡ cond (same_key k q) (Running s) (timer_on bs q)
  started_timer h q = (imposes k (Running s) bs h).timers q ∙ ap (λ r. cond (r && same_key k q) (Running s) (timer_on bs q)) placed

  pub started_lawful : (kind : ℕ) → lawful_timer kind k (Running s) ≡ true → lawful_bars kind bs ≡ true → lawful_bars kind (imposed k (Running s) bs) ≡ true
  started_lawful kind h l = lawful_set kind (record { key = k; timer = Running s }) bs (place_for k bs) h l

  pub started_count : standing (imposed k (Running s) bs) ≡ standing bs + 1
  started_count =
      let p = and_parts (not (stands (timer_on bs k))) (ltb (standing bs) place_count) ok in
      let at = taken_place k bs (not-true _ p.0) in
      let within = ltb-true (place_for k bs) (length bs) placed in
      let free = stopped_at_leading bs (place_for k bs) (record { key = k; timer = Running s }) at within in
      let gone = ap (λ (t : Bool). cond {A = ℕ} t 1 0) free in
      let one = sum_by-set (λ (x : Bar KeyOctets). cond (stands x.timer) 1 0) bs (place_for k bs) (record { key = k; timer = Running s }) (record { key = k; timer = Running s }) within in
      omega arith
