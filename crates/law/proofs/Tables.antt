-- One table of timers: it stays sound, and the timer on every key goes as the stroke says.
use Rattle.std.proofs.Common.{◌≡◌, ℕ, zero, suc, ◌-◌, ◌<◌, ◌≤◌, Bool, true, false, cond, ◌&&◌, ltb, List, [], ◌∷◌, map, set, sym, refl, ap, ◌∙◌, arith}
use Rattle.std.proofs.lemmas.List.{length-set, length-map}
use Rattle.std.proofs.lemmas.Bool.{cond_both, and_parts, and_from, ltb-true}
use Rattle.std.proofs.lemmas.Bool.Decides.{nat_tests}
use Rattle.backoff.specs.declared.octet.TimerValue.{TimerValue}
use Rattle.backoff.specs.declared.octet.TimerValue.TheVariants.{Zero, Seconds, Deactivated}
use Rattle.backoff.specs.declared.timer.BackOffTimer.{BackOffTimer}
use Rattle.backoff.specs.declared.timer.BackOffTimer.TheVariants.{Stopped, Running}
use Rattle.backoff.specs.declared.timer.BackOffTimer.TheVariants as timer
use Rattle.backoff.specs.Timer as timers
use Rattle.bars.specs.declared.bar.Bar.{Bar}
use Rattle.bars.specs.Bars.{timer_on, apart, place_for, has_place, imposed, retimed, lifting, reactivated, lifted, deactivated_lifted, counted_off}
use Rattle.bars.specs.Claimed.{among, claimed_keys, distinct}
use Rattle.bars.proofs.Changes.{lifts, reactivates, counts, imposes}
use Rattle.bar_record.specs.Record.{seconds_kept, key_kept}
use Rattle.kept_set.specs.Laws.{lawful_timer, lawful_bars, SoundTable}
use Rattle.keys.specs.Octets.{KeyOctets, same_key}
use Rattle.keys.specs.Lawful.{key_lawful as laws}
use Rattle.session.specs.declared.timers.TimerKind.{TimerKind}
use Rattle.session.specs.declared.timers.TimerKind.TheVariants.{T3396, T3584, T3585}
use Rattle.session.specs.declared.timers.TimerRule.{TimerRule}
use Rattle.session.specs.declared.timers.TimerRule.TheVariants.{NoMark, Mark, LiftAll}
use Rattle.session.specs.Timers.{kind_number}
use Rattle.timers.specs.Timers.{TimersView, no_timers, counted_timers, set_on}
use Rattle.timers.specs.Timers as tables
use Rattle.law.specs.Timers.{key_of, Stroke}
use Rattle.law.specs.Timers as law
use Rattle.law.proofs.Strokes.{left_by, lawful_value}

-- the table of a kind
abbrev pub table : TimerKind → TimersView → List (Bar KeyOctets)
table T3396 t = t.t3396
table T3584 t = t.t3584
table T3585 t = t.t3585

-- 32 places, lawful bars, and no two on one key
abbrev pub Sound : TimerKind → List (Bar KeyOctets) → Type 0
Sound kind bs = SoundTable (kind_number kind) bs

-- a rule that lets a timer end, or go on with seconds that can be left
module _ (kind : ℕ) (rule : KeyOctets → BackOffTimer → BackOffTimer) (keeps : (k : KeyOctets) (t : BackOffTimer) → lawful_timer kind k t ≡ true → lawful_timer kind k (rule k t) ≡ true) where
  lawful_retimed : (bs : List (Bar KeyOctets)) → lawful_bars kind bs ≡ true → lawful_bars kind (map (retimed rule) bs) ≡ true
  lawful_retimed [] h = refl
  lawful_retimed (b ∷ bs) h =
      let p = and_parts (lawful_timer kind b.key b.timer) (lawful_bars kind bs) h in
      and_from _ _ (keeps b.key b.timer p.0) (lawful_retimed bs p.1)

lawful_lifting : (kind : ℕ) (q k : KeyOctets) (t : BackOffTimer) → lawful_timer kind k t ≡ true → lawful_timer kind k (lifting q k t) ≡ true
lawful_lifting kind q k t h = cond_both (same_key k q) Stopped t (λ x. lawful_timer kind k x ≡ true) (λ _. refl) (λ _. h)

lawful_reactivated : (kind : ℕ) (k : KeyOctets) (t : BackOffTimer) → lawful_timer kind k t ≡ true → lawful_timer kind k (reactivated t) ≡ true
lawful_reactivated kind k Stopped h = refl
lawful_reactivated kind k (Running left) h = h
lawful_reactivated kind k timer.Deactivated h = refl

seconds_less : (left n : ℕ) → n < left → seconds_kept left ≡ true → seconds_kept (left - n) ≡ true
seconds_less left n l h = grind (arith, nat_tests)

lawful_counted : (kind n : ℕ) (k : KeyOctets) (t : BackOffTimer) → lawful_timer kind k t ≡ true → lawful_timer kind k (timers.counted n t) ≡ true
lawful_counted kind n k Stopped h = refl
lawful_counted kind n k (Running left) h =
    let p = and_parts (key_kept kind k) (seconds_kept left) h in
    cond_both (ltb n left) (Running (left - n)) Stopped (λ x. lawful_timer kind k x ≡ true)
    (λ e. and_from (key_kept kind k) (seconds_kept (left - n)) p.0 (seconds_less left n (ltb-true n left e) p.1))
    (λ _. refl)
lawful_counted kind n k timer.Deactivated h = h

lawful_set : (kind : ℕ) (k : KeyOctets) (t : BackOffTimer) → lawful_timer kind k t ≡ true → (i : ℕ) (bs : List (Bar KeyOctets)) → lawful_bars kind bs ≡ true → lawful_bars kind (set bs i (record { key = k; timer = t })) ≡ true
lawful_set kind k t h i [] l = refl
lawful_set kind k t h zero (b ∷ bs) l = and_from _ _ h (and_parts (lawful_timer kind b.key b.timer) (lawful_bars kind bs) l).1
lawful_set kind k t h (suc i) (b ∷ bs) l =
    let p = and_parts (lawful_timer kind b.key b.timer) (lawful_bars kind bs) l in
    and_from _ _ p.0 (lawful_set kind k t h i bs p.1)

-- time
pub sound_counted : (kind : TimerKind) (n : ℕ) (bs : List (Bar KeyOctets)) → Sound kind bs → Sound kind (counted_off n bs)
sound_counted kind n bs s = record {
  full = length-map bs _ ∙ s.full;
  single = (counts n bs s.single).sound;
  lawful = lawful_retimed (kind_number kind) (λ _ t. timers.counted n t) (lawful_counted (kind_number kind) n) bs s.lawful;
}

pub timer_counted : (kind : TimerKind) (n : ℕ) (bs : List (Bar KeyOctets)) → Sound kind bs → (k : KeyOctets) → timer_on (counted_off n bs) k ≡ timers.counted n (timer_on bs k)
timer_counted kind n bs s k = (counts n bs s.single).timers k

pub timer_reactivated : (bs : List (Bar KeyOctets)) → apart bs ≡ true → (k : KeyOctets) → timer_on (deactivated_lifted bs) k ≡ reactivated (timer_on bs k)
timer_reactivated bs s k = (reactivates bs s).timers k

-- a lifting
same_flip : (x y : KeyOctets) → same_key x y ≡ same_key y x
same_flip x y = at (same_key x y) (same_key y x) (laws.symmetric x y) (laws.symmetric y x)
  where
    at : (p q : Bool) → (p ≡ true → q ≡ true) → (q ≡ true → p ≡ true) → p ≡ q
    at true true f g = refl
    at true false f g = sym (f refl)
    at false true f g = g refl
    at false false f g = refl

module _ (kind : TimerKind) (k : KeyOctets) (bs : List (Bar KeyOctets)) (s : Sound kind bs) where
  sound_lifted : Sound kind (lifted k bs)
  sound_lifted = record {
    full = length-map bs _ ∙ s.full;
    single = (lifts k bs s.single).sound;
    lawful = lawful_retimed (kind_number kind) (lifting k) (lawful_lifting (kind_number kind) k) bs s.lawful;
  }

  timer_lifted : (q : KeyOctets) → timer_on (lifted k bs) q ≡ cond (same_key k q) Stopped (timer_on bs q)
  timer_lifted q = (lifts k bs s.single).timers q ∙ ap (λ b. cond b Stopped (timer_on bs q)) (same_flip q k)

  -- a timer is put on a key that is claimed, where at most as many keys are claimed as there are places
  module _ (ks : List KeyOctets) (here : among k (claimed_keys bs ks) ≡ true) (few : distinct (claimed_keys bs ks) ≤ 32) where
    placed : has_place k bs ≡ true
    placed = (imposes k Stopped bs s.single).sure ks here (let p = s.full in omega arith)

    sound_imposed : (t : BackOffTimer) → lawful_timer (kind_number kind) k t ≡ true → Sound kind (imposed k t bs)
    sound_imposed t l = record {
      full = length-set bs (place_for k bs) (record { key = k; timer = t }) ∙ s.full;
      single = (imposes k t bs s.single).sound;
      lawful = lawful_set (kind_number kind) k t l (place_for k bs) bs s.lawful;
    }

    timer_imposed : (t : BackOffTimer) (q : KeyOctets) → timer_on (imposed k t bs) q ≡ cond (same_key k q) t (timer_on bs q)
    timer_imposed t q = (imposes k t bs s.single).timers q ∙ ap (λ b. cond (b && same_key k q) t (timer_on bs q)) placed

    -- what a timer octet does
    pub sound_set : (v : TimerValue) → lawful_value v ≡ true → key_kept (kind_number kind) k ≡ true → Sound kind (set_on v k bs)
    sound_set Zero l c = sound_lifted
    sound_set (Seconds n) l c = sound_imposed (Running n) (and_from _ _ c l)
    sound_set Deactivated l c = sound_imposed timer.Deactivated c

    pub timer_set : (v : TimerValue) → lawful_value v ≡ true → (q : KeyOctets) → timer_on (set_on v k bs) q ≡ cond (same_key k q) (left_by v 0) (timer_on bs q)
    timer_set Zero l q = timer_lifted q
    timer_set (Seconds n) l q =
        let some : ltb 0 n ≡ true = grind (arith, nat_tests) in
        let all : n - 0 ≡ n = omega arith in
        timer_imposed (Running n) q ∙ ap (λ t. cond (same_key k q) t (timer_on bs q)) (sym (ap (λ b. cond b (Running (n - 0)) Stopped) some ∙ ap Running all))
    timer_set Deactivated l q = timer_imposed timer.Deactivated q

-- what a rule does to the table of a kind: the strokes of that kind
abbrev pub acted : List Stroke → KeyOctets → List (Bar KeyOctets) → List (Bar KeyOctets)
acted [] k bs = bs
acted (law.set v ∷ es) k bs = set_on v k bs
acted (law.passed n ∷ es) k bs = bs
acted (law.reactivated ∷ es) k bs = bs

pub ruled_table : (kind : TimerKind) (rule : TimerRule) (k : KeyOctets) (t : TimersView) → table kind (tables.ruled rule k t) ≡ acted (law.ruled kind rule) (key_of kind k) (table kind t)
ruled_table kind NoMark k t = refl
ruled_table T3396 LiftAll k t = refl
ruled_table T3584 LiftAll k t = refl
ruled_table T3585 LiftAll k t = refl
ruled_table T3396 (Mark T3396 v) k t = refl
ruled_table T3396 (Mark T3584 v) k t = refl
ruled_table T3396 (Mark T3585 v) k t = refl
ruled_table T3584 (Mark T3396 v) k t = refl
ruled_table T3584 (Mark T3584 v) k t = refl
ruled_table T3584 (Mark T3585 v) k t = refl
ruled_table T3585 (Mark T3396 v) k t = refl
ruled_table T3585 (Mark T3584 v) k t = refl
ruled_table T3585 (Mark T3585 v) k t = refl

pub counted_table : (kind : TimerKind) (n : ℕ) (t : TimersView) → table kind (counted_timers n t) ≡ counted_off n (table kind t)
counted_table T3396 n t = refl
counted_table T3584 n t = refl
counted_table T3585 n t = refl

-- a table of free places
pub free_sound : (kind : TimerKind) → Sound kind (table kind no_timers)
free_sound T3396 = record { full = refl; single = refl; lawful = refl }
free_sound T3584 = record { full = refl; single = refl; lawful = refl }
free_sound T3585 = record { full = refl; single = refl; lawful = refl }

pub free_timer : (kind : TimerKind) (k : KeyOctets) → timer_on (table kind no_timers) k ≡ Stopped
free_timer T3396 k = refl
free_timer T3584 k = refl
free_timer T3585 k = refl
