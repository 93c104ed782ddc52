-- Every running bar of a handset's timers has seconds that can be kept, from the switch-on on.
use Rattle.std.proofs.Common.{◌≡◌, ℕ, zero, suc, ◌-◌, ◌<◌, Bool, true, false, cond, ◌&&◌, eqb, ltb, leb, List, [], ◌∷◌, map, set, Some, None, Option, sym, refl, ap, ◌∙◌, ⊎_elim, arith}
use Rattle.std.specs.Str.{bytes_eq}
use Rattle.std.proofs.lemmas.Bool.{cases_Bool, cond-true, cond-false, cond_both, and_parts, and_from, ltb-true, leb-true, le-leb}
use Rattle.backoff.specs.declared.octet.TimerValue.{TimerValue}
use Rattle.backoff.specs.declared.octet.TimerValue.TheVariants as value
use Rattle.backoff.specs.declared.timer.BackOffTimer.{BackOffTimer}
use Rattle.backoff.specs.declared.timer.BackOffTimer.TheVariants.{Stopped, Running, Deactivated}
use Rattle.backoff.specs.Timer.{counted}
use Rattle.keys.specs.Octets.{KeyOctets, same_key}
use Rattle.bars.specs.declared.bar.Bar.{Bar}
use Rattle.bars.specs.Bars.{place_for, imposed, retimed, lifting, reactivated, lifted}
use Rattle.session.specs.declared.timers.TimerKind.{TimerKind}
use Rattle.session.specs.declared.timers.TimerKind.TheVariants.{T3396, T3584, T3585}
use Rattle.session.specs.declared.timers.TimerRule.{TimerRule}
use Rattle.session.specs.declared.timers.TimerRule.TheVariants.{NoMark, Mark, LiftAll}
use Rattle.bar_record.specs.Record.{Kept, key_kept, seconds_kept, lawful}
use Rattle.bar_record.specs.Reading.{told}
use Rattle.bar_record.proofs.Telling.{told_lawful}
use Rattle.keys.specs.KeyParts.{name_key, slice_name_key, slice_key}
use Rattle.timers.specs.Timers.{TimersView, no_timers, counted_timers, activated_timers, set_on, marked, ruled}
use Rattle.timers.specs.Kept.{table_of, with_kept, takes_kept}
use Rattle.kept_set.specs.Trailer.{trailer_number, trailer_card, trailer_count, last_records}
use Rattle.kept_set.specs.Loading.{with_record, and_then, loaded, kept_timers, or_none, known_seconds, restored}
use Rattle.kept_set.specs.Laws.{timer_seconds_kept, bars_seconds_kept, all_seconds_kept, value_seconds_kept, rule_seconds_kept}

inner : {A : Type 0} {x y : A} → ◌≡◌ {A = Option A} (Some x) (Some y) → x ≡ y
inner e = cc

not_none : {A : Type 0} {x : A} → ◌≡◌ {A = Option A} None (Some x) → ⊥
not_none e = cc

-- from each table to all, and back
pub all_from : (t : TimersView) → bars_seconds_kept t.t3396 ≡ true → bars_seconds_kept t.t3584 ≡ true → bars_seconds_kept t.t3585 ≡ true → all_seconds_kept t ≡ true
all_from t a b d = and_from (bars_seconds_kept t.t3396) (bars_seconds_kept t.t3584 && bars_seconds_kept t.t3585) a (and_from (bars_seconds_kept t.t3584) (bars_seconds_kept t.t3585) b d)

pub record EachKept (t : TimersView) : Type 0 where
  pub t3396 : bars_seconds_kept t.t3396 ≡ true
  pub t3584 : bars_seconds_kept t.t3584 ≡ true
  pub t3585 : bars_seconds_kept t.t3585 ≡ true

pub each_kept : (t : TimersView) → all_seconds_kept t ≡ true → EachKept t
each_kept t h =
    let p = and_parts (bars_seconds_kept t.t3396) (bars_seconds_kept t.t3584 && bars_seconds_kept t.t3585) h in
    let q = and_parts (bars_seconds_kept t.t3584) (bars_seconds_kept t.t3585) p.1 in
    record { t3396 = p.0; t3584 = q.0; t3585 = q.1 }

seconds_set : (b : Bar KeyOctets) (bs : List (Bar KeyOctets)) (i : ℕ) → timer_seconds_kept b.timer ≡ true → bars_seconds_kept bs ≡ true → bars_seconds_kept (set bs i b) ≡ true
seconds_set b [] i h l = refl
seconds_set b (x ∷ xs) zero h l = and_from _ _ h (and_parts (timer_seconds_kept x.timer) (bars_seconds_kept xs) l).1
seconds_set b (x ∷ xs) (suc i) h l =
    let p = and_parts (timer_seconds_kept x.timer) (bars_seconds_kept xs) l in
    and_from _ _ p.0 (seconds_set b xs i h p.1)

-- a table with a timer imposed
pub imposed_seconds : (k : KeyOctets) (t : BackOffTimer) (bs : List (Bar KeyOctets)) → timer_seconds_kept t ≡ true → bars_seconds_kept bs ≡ true → bars_seconds_kept (imposed k t bs) ≡ true
imposed_seconds k t bs h l = seconds_set (record { key = k; timer = t }) bs (place_for k bs) h l

-- a table whose timers go by a rule that keeps them so
retimed_seconds : (f : KeyOctets → BackOffTimer → BackOffTimer) → ((k : KeyOctets) (t : BackOffTimer) → timer_seconds_kept t ≡ true → timer_seconds_kept (f k t) ≡ true) → (bs : List (Bar KeyOctets)) → bars_seconds_kept bs ≡ true → bars_seconds_kept (map (retimed f) bs) ≡ true
retimed_seconds f keeps [] l = refl
retimed_seconds f keeps (b ∷ bs) l =
    let p = and_parts (timer_seconds_kept b.timer) (bars_seconds_kept bs) l in
    and_from _ _ (keeps b.key b.timer p.0) (retimed_seconds f keeps bs p.1)

fewer_seconds : (seconds left : ℕ) → seconds < left → seconds_kept left ≡ true → seconds_kept (left - seconds) ≡ true
fewer_seconds seconds left h k =
    let p = and_parts (leb 1 left) (leb left 35712000) k in
    let most = leb-true left 35712000 p.1 in
    and_from _ _ (le-leb 1 (left - seconds) (omega arith)) (le-leb (left - seconds) 35712000 (omega arith))

counted_one : (seconds : ℕ) (t : BackOffTimer) → timer_seconds_kept t ≡ true → timer_seconds_kept (counted seconds t) ≡ true
counted_one seconds Stopped h = refl
counted_one seconds (Running left) h =
    cond_both (ltb seconds left) (Running (left - seconds)) Stopped (λ x. timer_seconds_kept x ≡ true) (λ e. fewer_seconds seconds left (ltb-true seconds left e) h) (λ _. refl)
counted_one seconds Deactivated h = refl

reactivated_one : (t : BackOffTimer) → timer_seconds_kept t ≡ true → timer_seconds_kept (reactivated t) ≡ true
reactivated_one Stopped h = refl
reactivated_one (Running left) h = h
reactivated_one Deactivated h = refl

lifted_one : (b : Bool) (t : BackOffTimer) → timer_seconds_kept t ≡ true → timer_seconds_kept (cond b Stopped t) ≡ true
lifted_one true t h = refl
lifted_one false t h = h

lifted_seconds : (k : KeyOctets) (bs : List (Bar KeyOctets)) → bars_seconds_kept bs ≡ true → bars_seconds_kept (lifted k bs) ≡ true
lifted_seconds k = retimed_seconds (lifting k) (λ q t h. lifted_one (same_key q k) t h)

-- all timers are stopped
pub start_seconds : all_seconds_kept no_timers ≡ true
start_seconds = refl

-- after some seconds
pub counted_seconds : (seconds : ℕ) (t : TimersView) → all_seconds_kept t ≡ true → all_seconds_kept (counted_timers seconds t) ≡ true
counted_seconds seconds t h =
    let p = each_kept t h in
    let one : (bs : List (Bar KeyOctets)) → bars_seconds_kept bs ≡ true → bars_seconds_kept (map (retimed (λ _ x. counted seconds x)) bs) ≡ true = retimed_seconds (λ _ x. counted seconds x) (λ _ x. counted_one seconds x) in
    all_from (counted_timers seconds t) (one t.t3396 p.t3396) (one t.t3584 p.t3584) (one t.t3585 p.t3585)

-- with the deactivated bars lifted
pub activated_seconds : (t : TimersView) → all_seconds_kept t ≡ true → all_seconds_kept (activated_timers t) ≡ true
activated_seconds t h =
    let p = each_kept t h in
    let one : (bs : List (Bar KeyOctets)) → bars_seconds_kept bs ≡ true → bars_seconds_kept (map (retimed (λ _ x. reactivated x)) bs) ≡ true = retimed_seconds (λ _ x. reactivated x) (λ _ x. reactivated_one x) in
    all_from (activated_timers t) (one t.t3396 p.t3396) (one t.t3584 p.t3584) (one t.t3585 p.t3585)

-- after a rule whose seconds can be kept
set_seconds : (v : TimerValue) (k : KeyOctets) (bs : List (Bar KeyOctets)) → value_seconds_kept v ≡ true → bars_seconds_kept bs ≡ true → bars_seconds_kept (set_on v k bs) ≡ true
set_seconds value.Zero k bs h l = lifted_seconds k bs l
set_seconds (value.Seconds n) k bs h l = imposed_seconds k (Running n) bs h l
set_seconds value.Deactivated k bs h l = imposed_seconds k Deactivated bs refl l

marked_seconds : (kind : TimerKind) (v : TimerValue) (k : KeyOctets) (t : TimersView) → value_seconds_kept v ≡ true → EachKept t → all_seconds_kept (marked kind v k t) ≡ true
marked_seconds T3396 v k t h p = all_from (marked T3396 v k t) (set_seconds v (name_key k) t.t3396 h p.t3396) p.t3584 p.t3585
marked_seconds T3584 v k t h p = all_from (marked T3584 v k t) p.t3396 (set_seconds v (slice_name_key k) t.t3584 h p.t3584) p.t3585
marked_seconds T3585 v k t h p = all_from (marked T3585 v k t) p.t3396 p.t3584 (set_seconds v (slice_key k) t.t3585 h p.t3585)

pub ruled_seconds : (rule : TimerRule) (k : KeyOctets) (t : TimersView) → rule_seconds_kept rule ≡ true → all_seconds_kept t ≡ true → all_seconds_kept (ruled rule k t) ≡ true
ruled_seconds NoMark k t h l = l
ruled_seconds (Mark kind v) k t h l = marked_seconds kind v k t h (each_kept t l)
ruled_seconds LiftAll k t h l =
    let p = each_kept t l in
    all_from (ruled LiftAll k t) (lifted_seconds (name_key k) t.t3396 p.t3396) (lifted_seconds (slice_name_key k) t.t3584 p.t3584) (lifted_seconds (slice_key k) t.t3585 p.t3585)

-- what is restored
cond_seconds : (b : Bool) (bs bs' : List (Bar KeyOctets)) → bars_seconds_kept bs ≡ true → bars_seconds_kept bs' ≡ true → bars_seconds_kept (cond b bs bs') ≡ true
cond_seconds true bs bs' h l = h
cond_seconds false bs bs' h l = l

table_seconds : (kind : ℕ) (t : TimersView) → EachKept t → bars_seconds_kept (table_of kind t) ≡ true
table_seconds kind t p = cond_seconds (eqb kind 1) t.t3396 (cond (eqb kind 2) t.t3584 t.t3585) p.t3396 (cond_seconds (eqb kind 2) t.t3584 t.t3585 p.t3584 p.t3585)

with_kept_seconds : (v : Kept) (t : TimersView) → lawful v ≡ true → EachKept t → EachKept (with_kept v t)
with_kept_seconds v t law p =
    let kept = (and_parts (key_kept v.kind v.key) (seconds_kept v.seconds) law).1 in
    let h = imposed_seconds v.key (Running v.seconds) (table_of v.kind t) kept (table_seconds v.kind t p) in
    record {
      t3396 = cond_seconds (eqb v.kind 1) _ t.t3396 h p.t3396;
      t3584 = cond_seconds (eqb v.kind 2) _ t.t3584 h p.t3584;
      t3585 = cond_seconds (eqb v.kind 3) _ t.t3585 h p.t3585;
    }

loaded_one : (r : List ℕ) (rs : List (List ℕ)) (t t' : TimersView) → EachKept t → ((u : TimersView) → EachKept u → loaded rs u ≡ Some t' → EachKept t')
    → (o : Option Kept) → told r ≡ o → and_then (loaded rs) (with_record o t) ≡ Some t' → EachKept t'
loaded_one r rs t t' p ih None is e = absurd (not_none e)
loaded_one r rs t t' p ih (Some v) is e =
    ⊎_elim
    (λ ok. ih (with_kept v t) (with_kept_seconds v t (told_lawful r v is).0 p) (sym (ap (and_then (loaded rs)) (cond-true (takes_kept v t) (Some (with_kept v t)) None ok)) ∙ e))
    (λ no_place. absurd (not_none (sym (ap (and_then (loaded rs)) (cond-false (takes_kept v t) (Some (with_kept v t)) None no_place)) ∙ e)))
    (cases_Bool (takes_kept v t))

loaded_seconds : (rs : List (List ℕ)) (t t' : TimersView) → EachKept t → loaded rs t ≡ Some t' → EachKept t'
loaded_seconds [] t t' p e =
    let same : t ≡ t' = inner e in
    record { t3396 = ap (λ u. bars_seconds_kept u.t3396) (sym same) ∙ p.t3396; t3584 = ap (λ u. bars_seconds_kept u.t3584) (sym same) ∙ p.t3584; t3585 = ap (λ u. bars_seconds_kept u.t3585) (sym same) ∙ p.t3585 }
loaded_seconds (r ∷ rs) t t' p e = loaded_one r rs t t' p (λ u q h. loaded_seconds rs u t' q h) (told r) refl e

pub loaded_set_seconds : (card : List ℕ) (records : List (List ℕ)) (t : TimersView) → kept_timers card records ≡ Some t → all_seconds_kept t ≡ true
loaded_set_seconds card records t e =
    ⊎_elim
    (λ h.
    let p = loaded_seconds (last_records (trailer_count records) records) no_timers t (each_kept no_timers start_seconds) (sym (cond-true _ _ _ h) ∙ e) in
    all_from t p.t3396 p.t3584 p.t3585)
    (λ h. absurd (not_none (sym (cond-false _ _ _ h) ∙ e)))
    (cases_Bool (bytes_eq card (trailer_card records) && leb (trailer_count records) trailer_number))

or_none_seconds : (o : Option TimersView) → ((t : TimersView) → o ≡ Some t → all_seconds_kept t ≡ true) → all_seconds_kept (or_none o) ≡ true
or_none_seconds None each = start_seconds
or_none_seconds (Some t) each = each t refl

pub restored_seconds : (card : List ℕ) (off : Option ℕ) (records : List (List ℕ)) → all_seconds_kept (restored card off records) ≡ true
restored_seconds card off records = counted_seconds (known_seconds off) (or_none (kept_timers card records)) (or_none_seconds (kept_timers card records) (loaded_set_seconds card records))
