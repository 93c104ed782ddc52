-- What a change of a table means for the timer on every key.
use Rattle.std.proofs.Common.{◌≡◌, ℕ, ◌<◌, ◌≤◌, Bool, true, false, cond, not, List, [], ◌∷◌, ◌++◌, length, set, sym, refl, ap, ◌∙◌, subst, ⊎_elim, arith}
use Rattle.std.specs.List.{prefix_len}
use Rattle.std.proofs.lemmas.List.{set_past}
use Rattle.std.proofs.lemmas.Bool.{cases_lt, and_from}
use Rattle.std.proofs.lemmas.Bool.Decides.{nat_tests}
use Rattle.backoff.specs.declared.timer.BackOffTimer.{BackOffTimer}
use Rattle.backoff.specs.declared.timer.BackOffTimer.TheVariants.{Stopped}
use Rattle.backoff.specs.Timer.{counted}
use Rattle.keys.specs.Octets.{KeyOctets, same_key}
use Rattle.keys.specs.Lawful.{key_lawful as laws}
use Rattle.bars.specs.declared.bar.Bar.{Bar}
use Rattle.bars.specs.Bars.{stands, holds, timer_on, free, apart, standing, place_for, has_place, imposed, lifting, reactivated, lifted, deactivated_lifted, counted_off}
use Rattle.bars.specs.Claimed.{among, distinct, covered, keys_of, claimed_keys}
use Rattle.bars.specs.Laws.{Lifts, Reactivates, Counts, Imposing, Imposes}
use Rattle.bars.proofs.Rows.{same_left, timer_retimed, apart_retimed, timer_set, apart_set, but_held, but_free, free_since, stopped_at_leading, full_since, lifted_still}
use Rattle.bars.proofs.Distincts.{distinct_more, pigeonhole}

pub lifts : (k : KeyOctets) (bs : List (Bar KeyOctets)) → Lifts k bs (lifted k bs)
lifts k bs h =
    let still : (q : KeyOctets) → lifting k q Stopped ≡ Stopped = λ q. lifted_still (same_key q k) in
    record {
      sound = apart_retimed (lifting k) still bs h;
      timers = λ q. timer_retimed (lifting k) still (λ x y t e. ap (λ b. cond b Stopped t) (same_left x y k e)) q bs h;
    }

pub reactivates : (bs : List (Bar KeyOctets)) → Reactivates bs (deactivated_lifted bs)
reactivates bs h =
    record {
      sound = apart_retimed (λ _ t. reactivated t) (λ _. refl) bs h;
      timers = λ q. timer_retimed (λ _ t. reactivated t) (λ _. refl) (λ x y t e. refl) q bs h;
    }

pub counts : (seconds : ℕ) (bs : List (Bar KeyOctets)) → Counts seconds bs (counted_off seconds bs)
counts seconds bs h =
    record {
      sound = apart_retimed (λ _ t. counted seconds t) (λ _. refl) bs h;
      timers = λ q. timer_retimed (λ _ t. counted seconds t) (λ _. refl) (λ x y t e. refl) q bs h;
    }

covered_more : (xs ys : List KeyOctets) (y : KeyOctets) → covered xs ys ≡ true → covered xs (y ∷ ys) ≡ true
covered_more [] ys y h = refl
covered_more (x ∷ xs) ys y h = let ih = covered_more xs ys y in grind arith

covered_front : (xs ys : List KeyOctets) → covered xs (xs ++ ys) ≡ true
covered_front [] ys = refl
covered_front (x ∷ xs) ys =
    let rest = covered_more xs (xs ++ ys) x (covered_front xs ys) in
    let self = laws.reflexive x in
    grind arith

-- where no place is left, more keys are claimed than there are places
no_place : (k : KeyOctets) (bs : List (Bar KeyOctets)) (ks : List KeyOctets) → apart bs ≡ true → free k bs ≡ true → standing bs ≡ length bs
    → among k (claimed_keys bs ks) ≡ true → distinct (claimed_keys bs ks) ≤ length bs → ⊥
no_place k bs ks h none full here few =
    let more = distinct_more k bs h none in
    let cover : covered (k ∷ keys_of bs) (claimed_keys bs ks) ≡ true = and_from (among k (claimed_keys bs ks)) (covered (keys_of bs) (claimed_keys bs ks)) here (covered_front (keys_of bs) ks) in
    let most = pigeonhole (k ∷ keys_of bs) (claimed_keys bs ks) cover in
    omega arith

module _ (k : KeyOctets) (t : BackOffTimer) (bs : List (Bar KeyOctets)) (h : apart bs ≡ true) where
  -- the bar is put at a place that may be taken for its key
  taken : (i : ℕ) → i < length bs → ((q : KeyOctets) → timer_on (set bs i (record { key = k; timer = t })) q ≡ cond (same_key k q) t (timer_on bs q))
      → apart (set bs i (record { key = k; timer = t })) ≡ true → Imposing k t true bs (set bs i (record { key = k; timer = t }))
  taken i within timers sound = record { sound = sound; timers = timers; sure = λ ks _ _. refl }

  held_place : prefix_len (λ b. not (holds k b)) bs < length bs
      → Imposing k t true bs (set bs (prefix_len (λ b. not (holds k b)) bs) (record { key = k; timer = t }))
  held_place held =
      let but = but_held k (prefix_len (λ b. not (holds k b)) bs) bs held refl h in
      taken _ held (λ q. timer_set (record { key = k; timer = t }) q _ bs held but) (apart_set (record { key = k; timer = t }) _ bs but h)

  free_place : length bs ≤ prefix_len (λ b. not (holds k b)) bs → prefix_len (λ b. stands b.timer) bs < length bs
      → Imposing k t true bs (set bs (prefix_len (λ b. stands b.timer) bs) (record { key = k; timer = t }))
  free_place none room =
      let free = free_since k bs none in
      let but = but_free k (prefix_len (λ b. stands b.timer) bs) bs (record { key = k; timer = t }) room free (stopped_at_leading bs _ (record { key = k; timer = t }) refl room) in
      taken _ room (λ q. timer_set (record { key = k; timer = t }) q _ bs room but) (apart_set (record { key = k; timer = t }) _ bs but h)

  nowhere : length bs ≤ prefix_len (λ b. not (holds k b)) bs → length bs ≤ prefix_len (λ b. stands b.timer) bs
      → Imposing k t false bs (set bs (prefix_len (λ b. stands b.timer) bs) (record { key = k; timer = t }))
  nowhere none full =
      let same = set_past bs (prefix_len (λ b. stands b.timer) bs) (record { key = k; timer = t }) full in
      record {
        sound = ap apart same ∙ h;
        timers = λ q. ap (λ xs. timer_on xs q) same;
        sure = λ ks here few. absurd (no_place k bs ks h (free_since k bs none) (full_since bs (length bs) refl full) here few);
      }

  -- from the place that was found to the place for the key
  at_place : (i : ℕ) (r : Bool) → place_for k bs ≡ i → has_place k bs ≡ r → Imposing k t r bs (set bs i (record { key = k; timer = t })) → Imposing k t (has_place k bs) bs (imposed k t bs)
  at_place i r e f x =
      subst (λ j. Imposing k t (has_place k bs) bs (set bs j (record { key = k; timer = t }))) (sym e)
      (subst (λ b. Imposing k t b bs (set bs i (record { key = k; timer = t }))) (sym f) x)

  imposing : Imposing k t (has_place k bs) bs (imposed k t bs)
  imposing =
      ⊎_elim
      (λ held. at_place _ true (grind (arith, nat_tests)) (grind (arith, nat_tests)) (held_place held))
      (λ none. ⊎_elim
      (λ room. at_place _ true (grind (arith, nat_tests)) (grind (arith, nat_tests)) (free_place none room))
      (λ full. at_place _ false (grind (arith, nat_tests)) (grind (arith, nat_tests)) (nowhere none full))
      (cases_lt (prefix_len (λ b. stands b.timer) bs) (length bs)))
      (cases_lt (prefix_len (λ b. not (holds k b)) bs) (length bs))

pub imposes : (k : KeyOctets) (t : BackOffTimer) (bs : List (Bar KeyOctets)) → Imposes k t (has_place k bs) bs (imposed k t bs)
imposes k t bs h = imposing k t bs h
