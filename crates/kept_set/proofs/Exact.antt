-- A lawful set is restored, and nothing else is.
use Rattle.std.proofs.Common.{◌≡◌, ℕ, ◌+◌, ◌≤◌, Bool, true, false, cond, not, ◌&&◌, ◌||◌, eqb, ltb, leb, ◌⊎◌, List, [], ◌∷◌, map, length, Some, None, Option, sym, refl, ap, ◌∙◌, subst, inl, inr, ⊎_elim, arith}
use Rattle.std.specs.Str.{bytes_eq}
use Rattle.std.proofs.lemmas.Option.{none-some}
use Rattle.std.proofs.lemmas.Slice.Eq.{bytes_eq-Decides}
use Rattle.std.proofs.lemmas.List.Sums.{count_by-le-length}
use Rattle.std.proofs.lemmas.Bool.{cases_Bool, cases_eq, cond-true, cond-false, eqb-true, eq-eqb, ne_eqb, lt-ltb, le-leb, leb-true, and_parts, and_from, or_parts, not-true, both_ways}
use Rattle.backoff.specs.declared.timer.BackOffTimer.{BackOffTimer}
use Rattle.backoff.specs.declared.timer.BackOffTimer.TheVariants.{Stopped, Running}
use Rattle.keys.specs.Octets.{KeyOctets, same_key}
use Rattle.keys.specs.Lawful.{key_lawful as laws}
use Rattle.bars.specs.declared.bar.Bar.{Bar}
use Rattle.bars.specs.Bars.{stands, timer_on, apart, standing}
use Rattle.bars.specs.Sizes.{place_count}
use Rattle.bar_record.specs.Record.{Kept, written, lawful}
use Rattle.bar_record.specs.Reading.{told}
use Rattle.bar_record.proofs.Telling.{told_written, told_lawful}
use Rattle.keys.specs.KeyParts.{name_key, slice_name_key, slice_key}
use Rattle.timers.specs.Timers.{TimersView, no_parts, no_timers}
use Rattle.timers.specs.Kept.{table_of, with_kept, takes_kept}
use Rattle.kept_set.specs.Trailer.{trailer_number, trailer_card, trailer_count, last_records}
use Rattle.kept_set.specs.Loading.{with_record, and_then, loaded, kept_timers}
use Rattle.kept_set.specs.Sets.{all_lawful, kept_among, no_key_twice, of_kind, timer_kept, LawfulSet, RestoredSet, EverySetRestoresExactly}
use Rattle.kept_set.proofs.OfKinds.{OneOf, each, lawful_kind, Good, good_then, timer_then, count_then}
use Rattle.kept_set.proofs.Returns.{none_on, none_twice, none_standing, or_stopped}

-- no bar of the timers stands on a key of the list
abbrev pub clear : TimersView → List Kept → Bool
clear t [] = true
clear t (v ∷ vs) = not (stands (timer_on (table_of v.kind t) v.key)) && clear t vs

and_swap : (p q r : Bool) → (p && (q && r)) ≡ (q && (p && r))
and_swap true q r = refl
and_swap false true r = refl
and_swap false false r = refl

clear_one : (b : Bool) (s : ℕ) (x : BackOffTimer) (a r : Bool) → (not (stands (cond b (Running s) x)) && (not a && r)) ≡ (not (b || a) && (not (stands x) && r))
clear_one true s x a r = refl
clear_one false s x a r = and_swap (not (stands x)) (not a) r

module _ (v : Kept) (t : TimersView) (law : lawful v ≡ true) (good : Good t) (ok : takes_kept v t ≡ true) where
  -- with one bar more, its key is no longer clear
  clear_then : (ws : List Kept) → all_lawful ws ≡ true → clear (with_kept v t) ws ≡ (not (kept_among v ws) && clear t ws)
  clear_then [] h = refl
  clear_then (w ∷ ws) h =
      let p = and_parts (lawful w) (all_lawful ws) h in
      ap (λ y. not (stands y) && clear (with_kept v t) ws) (timer_then v t law good ok w.kind (lawful_kind w p.0) w.key)
      ∙ ap (λ r. not (stands (cond (eqb v.kind w.kind && same_key v.key w.key) (Running v.seconds) (timer_on (table_of w.kind t) w.key))) && r) (clear_then ws p.1)
      ∙ clear_one (eqb v.kind w.kind && same_key v.key w.key) v.seconds (timer_on (table_of w.kind t) w.key) (kept_among v ws) (clear t ws)

-- no other bar of the list is on the bar's key
kept_none : (v : Kept) (kind : ℕ) (k : KeyOctets) → (eqb v.kind kind && same_key v.key k) ≡ true → (ws : List Kept) → kept_among v ws ≡ false → timer_kept kind ws k ≡ Stopped
kept_none v kind k e [] h = refl
kept_none v kind k e (w ∷ ws) h =
    let p = or_parts (eqb v.kind w.kind && same_key v.key w.key) (kept_among v ws) h in
    let q = and_parts (eqb v.kind kind) (same_key v.key k) e in
    ⊎_elim
    (λ yes-here.
    let r = and_parts (eqb w.kind kind) (same_key w.key k) yes-here in
    let kinds-same = eqb-true v.kind kind q.0 ∙ sym (eqb-true w.kind kind r.0) in
    let keys-same = laws.transitive v.key k w.key q.1 (laws.symmetric w.key k r.1) in
    absurd (both_ways _ p.0 (and_from _ _ (eq-eqb v.kind w.kind kinds-same) keys-same)))
    (λ not-here. cond-false _ _ _ not-here ∙ kept_none v kind k e ws p.1)
    (cases_Bool (eqb w.kind kind && same_key w.key k))

-- what is loaded from the records of lawful bars
pub record LoadedSet (t : TimersView) (bars : List Kept) : Type 0 where
  pub after : TimersView
  pub loads : loaded (map written bars) t ≡ Some after
  pub timers : (kind : ℕ) → OneOf kind → (k : KeyOctets) → timer_on (table_of kind after) k ≡ cond (stands (timer_kept kind bars k)) (timer_kept kind bars k) (timer_on (table_of kind t) k)
  pub count : (kind : ℕ) → OneOf kind → standing (table_of kind after) ≡ of_kind kind bars + standing (table_of kind t)

-- bars for which the timers have room
pub record Room (t : TimersView) (bars : List Kept) : Type 0 where
  pub lawful : all_lawful bars ≡ true
  pub clear_keys : clear t bars ≡ true
  pub once : no_key_twice bars ≡ true
  pub room : (kind : ℕ) → OneOf kind → of_kind kind bars + standing (table_of kind t) ≤ place_count

module _ (v : Kept) (vs : List Kept) (t : TimersView) (good : Good t) (r : Room t (v ∷ vs)) where
  laws_of : (lawful v ≡ true) × (all_lawful vs ≡ true)
  laws_of = and_parts (lawful v) (all_lawful vs) r.lawful

  keys_of : (not (stands (timer_on (table_of v.kind t) v.key)) ≡ true) × (clear t vs ≡ true)
  keys_of = and_parts (not (stands (timer_on (table_of v.kind t) v.key))) (clear t vs) r.clear_keys

  once_of : (not (kept_among v vs) ≡ true) × (no_key_twice vs ≡ true)
  once_of = and_parts (not (kept_among v vs)) (no_key_twice vs) r.once

  ok : takes_kept v t ≡ true
  ok =
      let few = r.room v.kind (lawful_kind v laws_of.0) in
      let own = cond-true {A = ℕ} (eqb v.kind v.kind) 1 0 (eq-eqb v.kind v.kind refl) in
      and_from _ _ keys_of.0 (lt-ltb (standing (table_of v.kind t)) place_count (omega arith))

  room_then : Room (with_kept v t) vs
  room_then = record {
    lawful = laws_of.1;
    clear_keys = clear_then v t laws_of.0 good ok vs laws_of.1 ∙ and_from _ _ once_of.0 keys_of.1;
    once = once_of.1;
    room = λ kind o. let few = r.room kind o in let c = count_then v t laws_of.0 good ok kind o in omega arith;
  }

  loaded_then : LoadedSet (with_kept v t) vs → LoadedSet t (v ∷ vs)
  loaded_then L = record {
    after = L.after;
    loads =
        ap (λ o. and_then (loaded (map written vs)) (with_record o t)) (told_written v (written v) refl laws_of.0)
        ∙ ap (and_then (loaded (map written vs))) (cond-true (takes_kept v t) (Some (with_kept v t)) None ok)
        ∙ L.loads;
    timers = λ kind o k.
        let whole : Bool → BackOffTimer = λ b. cond (stands (cond b (Running v.seconds) (timer_kept kind vs k))) (cond b (Running v.seconds) (timer_kept kind vs k)) (timer_on (table_of kind t) k) in
        ⊎_elim
        (λ e.
        L.timers kind o k
        ∙ ap (λ x. cond (stands x) x (timer_on (table_of kind (with_kept v t)) k)) (kept_none v kind k e vs (not-true _ once_of.0))
        ∙ timer_then v t laws_of.0 good ok kind o k
        ∙ cond-true _ _ _ e
        ∙ sym (ap whole e))
        (λ e.
        L.timers kind o k
        ∙ ap (λ x. cond (stands (timer_kept kind vs k)) (timer_kept kind vs k) x) (timer_then v t laws_of.0 good ok kind o k ∙ cond-false _ _ _ e)
        ∙ sym (ap whole e))
        (cases_Bool (eqb v.kind kind && same_key v.key k));
    count = λ kind o. let c = L.count kind o in let d = count_then v t laws_of.0 good ok kind o in omega arith;
  }

pub load_lawful : (vs : List Kept) (t : TimersView) → Good t → Room t vs → LoadedSet t vs
load_lawful [] t good r = record { after = t; loads = refl; timers = λ kind o k. refl; count = λ kind o. omega arith }
load_lawful (v ∷ vs) t good r =
    loaded_then v vs t good r (load_lawful vs (with_kept v t) (good_then v t (laws_of v vs t good r).0 good (ok v vs t good r)) (room_then v vs t good r))

-- the bars that loaded records tell
pub record ToldSet (t : TimersView) (rs : List (List ℕ)) : Type 0 where
  pub bars : List Kept
  pub are : rs ≡ map written bars
  pub fits : Room t bars

module _ (r : List ℕ) (rs : List (List ℕ)) (t t' : TimersView) (good : Good t)
    (ih : (u : TimersView) → Good u → loaded rs u ≡ Some t' → ToldSet u rs) where
  told_more : (v : Kept) (is : told r ≡ Some v) (ok : takes_kept v t ≡ true) → loaded rs (with_kept v t) ≡ Some t' → ToldSet t (r ∷ rs)
  told_more v is ok e =
      let law = told_lawful r v is in
      let I = ih (with_kept v t) (good_then v t law.0 good ok) e in
      let F = I.fits in
      let keys = and_parts (not (kept_among v I.bars)) (clear t I.bars) (sym (clear_then v t law.0 good ok I.bars F.lawful) ∙ F.clear_keys) in
      let free = and_parts (not (stands (timer_on (table_of v.kind t) v.key))) (ltb (standing (table_of v.kind t)) place_count) ok in
      record {
        bars = v ∷ I.bars;
        are = λ i. law.1 i ∷ I.are i;
        fits = record {
          lawful = and_from (lawful v) (all_lawful I.bars) law.0 F.lawful;
          clear_keys = and_from (not (stands (timer_on (table_of v.kind t) v.key))) (clear t I.bars) free.0 keys.1;
          once = and_from (not (kept_among v I.bars)) (no_key_twice I.bars) keys.0 F.once;
          room = λ kind o. let few = F.room kind o in let c = count_then v t law.0 good ok kind o in omega arith;
        };
      }

  told_one : (o : Option Kept) → told r ≡ o → and_then (loaded rs) (with_record o t) ≡ Some t' → ToldSet t (r ∷ rs)
  told_one None is e = cc
  told_one (Some v) is e =
      ⊎_elim
      (λ ok. told_more v is ok (sym (ap (and_then (loaded rs)) (cond-true (takes_kept v t) (Some (with_kept v t)) None ok)) ∙ e))
      (λ no_place. absurd (none-some _ (sym (ap (and_then (loaded rs)) (cond-false (takes_kept v t) (Some (with_kept v t)) None no_place)) ∙ e)))
      (cases_Bool (takes_kept v t))

pub load_only : (rs : List (List ℕ)) (t t' : TimersView) → Good t → loaded rs t ≡ Some t' → ToldSet t rs
load_only [] t t' good e = record {
  bars = [];
  are = refl;
  fits = record {
    lawful = refl;
    clear_keys = refl;
    once = refl;
    room = λ kind o. let most = count_by-le-length (λ (b : Bar KeyOctets). stands b.timer) (table_of kind t) in let full = good.full kind o in omega arith;
  };
}
load_only (r ∷ rs) t t' good e = told_one r rs t t' good (λ u g h. load_only rs u t' g h) (told r) refl e

-- nothing stands before the first record is loaded
good_start : Good no_timers
good_start = record {
  full = each (λ kind. length (table_of kind no_timers) ≡ place_count) refl refl refl;
  single = each (λ kind. apart (table_of kind no_timers) ≡ true) (none_twice (name_key no_parts) place_count) (none_twice (slice_name_key no_parts) place_count) (none_twice (slice_key no_parts) place_count);
}

start_on : (kind : ℕ) → OneOf kind → (k : KeyOctets) → timer_on (table_of kind no_timers) k ≡ Stopped
start_on = each (λ kind. (k : KeyOctets) → timer_on (table_of kind no_timers) k ≡ Stopped) (none_on (name_key no_parts) place_count) (none_on (slice_name_key no_parts) place_count) (none_on (slice_key no_parts) place_count)

start_standing : (kind : ℕ) → OneOf kind → standing (table_of kind no_timers) ≡ 0
start_standing = each (λ kind. standing (table_of kind no_timers) ≡ 0) (none_standing (name_key no_parts) place_count) (none_standing (slice_name_key no_parts) place_count) (none_standing (slice_key no_parts) place_count)

start_clear : (vs : List Kept) → all_lawful vs ≡ true → clear no_timers vs ≡ true
start_clear [] h = refl
start_clear (v ∷ vs) h =
    let p = and_parts (lawful v) (all_lawful vs) h in
    and_from _ _ (ap (λ x. not (stands x)) (start_on v.kind (lawful_kind v p.0) v.key)) (start_clear vs p.1)

-- the three kinds together are all
kinds_all : (vs : List Kept) → all_lawful vs ≡ true → of_kind 1 vs + of_kind 2 vs + of_kind 3 vs ≡ length vs
kinds_all [] h = refl
kinds_all (v ∷ vs) h =
    let p = and_parts (lawful v) (all_lawful vs) h in
    let ih = kinds_all vs p.1 in
    let one = each (λ kind. cond {A = ℕ} (eqb kind 1) 1 0 + cond {A = ℕ} (eqb kind 2) 1 0 + cond {A = ℕ} (eqb kind 3) 1 0 ≡ 1) refl refl refl v.kind (lawful_kind v p.0) in
    omega arith

no_others : (kind : ℕ) → (OneOf kind → ⊥) → (vs : List Kept) → all_lawful vs ≡ true → of_kind kind vs ≡ 0
no_others kind other [] h = refl
no_others kind other (v ∷ vs) h =
    let p = and_parts (lawful v) (all_lawful vs) h in
    let ih = no_others kind other vs p.1 in
    let none = cond-false {A = ℕ} (eqb v.kind kind) 1 0 (ne_eqb v.kind kind (λ e. other (subst OneOf e (lawful_kind v p.0)))) in
    omega arith

one_or_not : (kind : ℕ) → OneOf kind ⊎ (OneOf kind → ⊥)
one_or_not kind =
    ⊎_elim
    (λ a. inl (inl a))
    (λ a. ⊎_elim
    (λ b. inl (inr (inl b)))
    (λ b. ⊎_elim (λ d. inl (inr (inr d))) (λ d. inr (λ o. ⊎_elim a (⊎_elim b d) o)) (cases_eq kind 3))
    (cases_eq kind 2))
    (cases_eq kind 1)

module _ (card : List ℕ) (records : List (List ℕ)) where
  of_lawful : (bars : List Kept) → LawfulSet card records bars → (t : TimersView) × (kept_timers card records ≡ Some t) × RestoredSet bars t
  of_lawful bars s =
      let fits : Room no_timers bars = record {
        lawful = s.lawful;
        clear_keys = start_clear bars s.lawful;
        once = s.once;
        room = λ kind o. let few = s.room kind in let none = start_standing kind o in omega arith;
      } in
      let L = load_lawful bars no_timers good_start fits in
      let same = (bytes_eq-Decides card (trailer_card records)).1 s.owner in
      let loads = cond-true _ _ _ (and_from _ _ same (le-leb (trailer_count records) trailer_number s.few)) ∙ ap (λ rs. loaded rs no_timers) s.kept ∙ L.loads in
      let timers : (kind : ℕ) → OneOf kind → (k : KeyOctets) → timer_on (table_of kind L.after) k ≡ timer_kept kind bars k =
      λ kind o k. L.timers kind o k ∙ or_stopped (timer_kept kind bars k) (timer_on (table_of kind no_timers) k) (start_on kind o k) in (
        L.after,
        loads,
        record {
          t3396 = timers 1 (inl refl);
          t3584 = timers 2 (inr (inl refl));
          t3585 = timers 3 (inr (inr refl));
          count =
              let a = L.count 1 (inl refl) in
              let b = L.count 2 (inr (inl refl)) in
              let d = L.count 3 (inr (inr refl)) in
              let na = start_standing 1 (inl refl) in
              let nb = start_standing 2 (inr (inl refl)) in
              let nd = start_standing 3 (inr (inr refl)) in
              let all = kinds_all bars s.lawful in
              omega arith;
        },
      )

  of_loaded : (t : TimersView) → kept_timers card records ≡ Some t → (bars : List Kept) × LawfulSet card records bars
  of_loaded t e =
      ⊎_elim
      (λ h.
      let p = and_parts (bytes_eq card (trailer_card records)) (leb (trailer_count records) trailer_number) h in
      let T = load_only (last_records (trailer_count records) records) no_timers t good_start (sym (cond-true _ _ _ h) ∙ e) in
      let F = T.fits in (
        T.bars,
        record {
          owner = (bytes_eq-Decides card (trailer_card records)).0 p.0;
          few = leb-true (trailer_count records) trailer_number p.1;
          kept = T.are;
          lawful = F.lawful;
          room = λ kind. ⊎_elim (λ o. let few = F.room kind o in omega arith) (λ other. let none = no_others kind other T.bars F.lawful in omega arith) (one_or_not kind);
          once = F.once;
        },
      ))
      (λ h. absurd (none-some t (sym (cond-false _ _ _ h) ∙ e)))
      (cases_Bool (bytes_eq card (trailer_card records) && leb (trailer_count records) trailer_number))

  of_none : (o : Option TimersView) → kept_timers card records ≡ o → ((bars : List Kept) → LawfulSet card records bars → ⊥) → o ≡ None
  of_none None e none = refl
  of_none (Some t) e none = let s = of_loaded t e in absurd (none s.0 s.1)

pub restores_exactly : EverySetRestoresExactly
restores_exactly card records = record {
  lawful = of_lawful card records;
  only = of_loaded card records;
  otherwise = λ none. of_none card records (kept_timers card records) refl none;
}
