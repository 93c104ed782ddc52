-- The timers of each kind with one kept bar more.
use Rattle.std.proofs.Common.{◌≡◌, ℕ, ◌+◌, true, false, cond, ◌&&◌, eqb, ◌⊎◌, List, length, sym, refl, ap, ◌∙◌, subst, ⊎_elim, arith}
use Rattle.std.proofs.lemmas.Bool.{cases_Bool, cond-true, cond-false, eqb-true}
use Rattle.backoff.specs.declared.timer.BackOffTimer.TheVariants.{Running}
use Rattle.keys.specs.Octets.{KeyOctets, same_key}
use Rattle.bars.specs.declared.bar.Bar.{Bar}
use Rattle.bars.specs.Bars.{timer_on, apart, standing, imposed}
use Rattle.bars.specs.Sizes.{place_count}
use Rattle.bar_record.specs.Record.{Kept, written, lawful}
use Rattle.bar_record.proofs.Rebuilt.{kinds}
use Rattle.timers.specs.Timers.{TimersView}
use Rattle.timers.specs.Kept.{table_of, with_table, with_kept, takes_kept}
use Rattle.kept_set.proofs.Starts.{started_full, started_single, started_timer, started_count}

abbrev pub OneOf : ℕ → Type 0
OneOf kind = (kind ≡ 1) ⊎ ((kind ≡ 2) ⊎ (kind ≡ 3))

-- what holds of the three kinds
pub each : (P : ℕ → Type 0) → P 1 → P 2 → P 3 → (kind : ℕ) → OneOf kind → P kind
each P a b d kind o = ⊎_elim (λ e. subst P (sym e) a) (⊎_elim (λ e. subst P (sym e) b) (λ e. subst P (sym e) d)) o

pub lawful_kind : (v : Kept) → lawful v ≡ true → OneOf v.kind
lawful_kind v law = kinds v (written v) refl law

table_with : (bs : List (Bar KeyOctets)) (t : TimersView) (j : ℕ) → OneOf j → (kind : ℕ) → OneOf kind → table_of kind (with_table j bs t) ≡ cond (eqb j kind) bs (table_of kind t)
table_with bs t =
    each (λ j. (kind : ℕ) → OneOf kind → table_of kind (with_table j bs t) ≡ cond (eqb j kind) bs (table_of kind t))
    (each (λ kind. table_of kind (with_table 1 bs t) ≡ cond (eqb 1 kind) bs (table_of kind t)) refl refl refl)
    (each (λ kind. table_of kind (with_table 2 bs t) ≡ cond (eqb 2 kind) bs (table_of kind t)) refl refl refl)
    (each (λ kind. table_of kind (with_table 3 bs t) ≡ cond (eqb 3 kind) bs (table_of kind t)) refl refl refl)

-- three tables of 32 places, no two bars of a kind on one key
pub record Good (t : TimersView) : Type 0 where
  pub full : (kind : ℕ) → OneOf kind → length (table_of kind t) ≡ place_count
  pub single : (kind : ℕ) → OneOf kind → apart (table_of kind t) ≡ true

module _ (v : Kept) (t : TimersView) (law : lawful v ≡ true) (good : Good t) (ok : takes_kept v t ≡ true) where
  own : OneOf v.kind
  own = lawful_kind v law

  table_then : (kind : ℕ) → OneOf kind → table_of kind (with_kept v t) ≡ cond (eqb v.kind kind) (imposed v.key (Running v.seconds) (table_of v.kind t)) (table_of kind t)
  table_then kind o = table_with (imposed v.key (Running v.seconds) (table_of v.kind t)) t v.kind own kind o

  -- the table of the bar's kind, and of another
  hit : (kind : ℕ) → OneOf kind → eqb v.kind kind ≡ true → table_of kind (with_kept v t) ≡ imposed v.key (Running v.seconds) (table_of v.kind t)
  hit kind o e = table_then kind o ∙ cond-true _ _ _ e

  miss : (kind : ℕ) → OneOf kind → eqb v.kind kind ≡ false → table_of kind (with_kept v t) ≡ table_of kind t
  miss kind o e = table_then kind o ∙ cond-false _ _ _ e

  same_table : (kind : ℕ) → eqb v.kind kind ≡ true → table_of v.kind t ≡ table_of kind t
  same_table kind e = ap (λ j. table_of j t) (eqb-true v.kind kind e)

  pub good_then : Good (with_kept v t)
  good_then = record {
    full = λ kind o. ⊎_elim
        (λ e. ap length (hit kind o e) ∙ started_full v.key v.seconds (table_of v.kind t) (good.full v.kind own) ok)
        (λ e. ap length (miss kind o e) ∙ good.full kind o)
        (cases_Bool (eqb v.kind kind));
    single = λ kind o. ⊎_elim
        (λ e. ap apart (hit kind o e) ∙ started_single v.key v.seconds (table_of v.kind t) (good.full v.kind own) ok (good.single v.kind own))
        (λ e. ap apart (miss kind o e) ∙ good.single kind o)
        (cases_Bool (eqb v.kind kind));
  }

  pub timer_then : (kind : ℕ) → OneOf kind → (k : KeyOctets) → timer_on (table_of kind (with_kept v t)) k ≡ cond (eqb v.kind kind && same_key v.key k) (Running v.seconds) (timer_on (table_of kind t) k)
  timer_then kind o k =
      ⊎_elim
      (λ e.
      ap (λ bs. timer_on bs k) (hit kind o e)
      ∙ started_timer v.key v.seconds (table_of v.kind t) (good.full v.kind own) ok (good.single v.kind own) k
      ∙ ap (λ bs. cond (same_key v.key k) (Running v.seconds) (timer_on bs k)) (same_table kind e)
      ∙ sym (ap (λ b. cond (b && same_key v.key k) (Running v.seconds) (timer_on (table_of kind t) k)) e))
      (λ e.
      ap (λ bs. timer_on bs k) (miss kind o e)
      ∙ sym (ap (λ b. cond (b && same_key v.key k) (Running v.seconds) (timer_on (table_of kind t) k)) e))
      (cases_Bool (eqb v.kind kind))

  pub count_then : (kind : ℕ) → OneOf kind → standing (table_of kind (with_kept v t)) ≡ cond (eqb v.kind kind) 1 0 + standing (table_of kind t)
  count_then kind o =
      ⊎_elim
      (λ e.
      let same = ap standing (hit kind o e) in
      let more = started_count v.key v.seconds (table_of v.kind t) (good.full v.kind own) ok in
      let here = ap standing (same_table kind e) in
      let test = cond-true {A = ℕ} (eqb v.kind kind) 1 0 e in
      omega arith)
      (λ e.
      let same = ap standing (miss kind o e) in
      let test = cond-false {A = ℕ} (eqb v.kind kind) 1 0 e in
      omega arith)
      (cases_Bool (eqb v.kind kind))
