-- The running bars of a table, loaded from their records into a table of their kind.
use Rattle.std.proofs.Common.{◌≡◌, ℕ, ◌+◌, ◌≤◌, Bool, true, false, cond, not, List, [], ◌∷◌, ◌++◌, map, length, Some, None, sym, refl, ap, ◌∙◌, ⊎_elim, arith}
use Rattle.std.proofs.lemmas.Bool.{and_parts, and_from, not-true, not_from_false, cases_Bool, cond-true, cond-false, lt-ltb, both_ways}
use Rattle.backoff.specs.declared.timer.BackOffTimer.{BackOffTimer}
use Rattle.backoff.specs.declared.timer.BackOffTimer.TheVariants.{Stopped, Running, Deactivated}
use Rattle.keys.specs.Octets.{KeyOctets, same_key}
use Rattle.keys.specs.Lawful.{key_lawful as laws}
use Rattle.bars.specs.declared.bar.Bar.{Bar}
use Rattle.bars.specs.Bars.{stands, timer_on, free, apart, standing, imposed, reactivated, deactivated_lifted}
use Rattle.bars.specs.Sizes.{place_count}
use Rattle.bars.proofs.Rows.{free_same, timer_free, free_retimed}
use Rattle.bar_record.specs.Record.{Kept, key_kept, seconds_kept, written}
use Rattle.bar_record.proofs.Telling.{told_written}
use Rattle.timers.specs.Timers.{TimersView}
use Rattle.timers.specs.Kept.{takes, table_of, with_table, with_kept}
use Rattle.kept_set.specs.Loading.{with_record, and_then, loaded}
use Rattle.kept_set.specs.Storing.{running_bars}
use Rattle.kept_set.specs.Laws.{lawful_timer, lawful_bars}
use Rattle.kept_set.proofs.Starts.{started_full, started_single, started_timer, started_lawful, started_count}

-- the running bars of one table have room in another, in which no bar stands on a key of theirs
pub record Fits (kind : ℕ) (bars table : List (Bar KeyOctets)) : Type 0 where
  pub full : length table ≡ place_count
  pub single : apart table ≡ true
  pub lawful : lawful_bars kind table ≡ true
  pub bars_single : apart bars ≡ true
  pub bars_lawful : lawful_bars kind bars ≡ true
  pub room : standing table + length (running_bars kind bars) ≤ place_count
  pub fresh : (k : KeyOctets) → stands (timer_on table k) ≡ true → free k bars ≡ true

-- the table with these bars
pub record Filled (kind : ℕ) (bars table : List (Bar KeyOctets)) : Type 0 where
  pub after : List (Bar KeyOctets)
  pub full : length after ≡ place_count
  pub single : apart after ≡ true
  pub lawful : lawful_bars kind after ≡ true
  pub count : standing after ≡ standing table + length (running_bars kind bars)
  pub timers : (k : KeyOctets) → timer_on after k ≡ cond (stands (timer_on (deactivated_lifted bars) k)) (timer_on (deactivated_lifted bars) k) (timer_on table k)
  pub loads : (t : TimersView) (rest : List (List ℕ)) → table_of kind t ≡ table → loaded (map written (running_bars kind bars) ++ rest) t ≡ loaded rest (with_table kind after t)

-- a kind whose table can be read and replaced
module _ (kind : ℕ) (get-put : (bs : List (Bar KeyOctets)) (t : TimersView) → table_of kind (with_table kind bs t) ≡ bs)
    (put-put : (bs bs' : List (Bar KeyOctets)) (t : TimersView) → with_table kind bs' (with_table kind bs t) ≡ with_table kind bs' t)
    (put-get : (t : TimersView) → with_table kind (table_of kind t) t ≡ t) where
  nothing : (table : List (Bar KeyOctets)) → Fits kind [] table → Filled kind [] table
  nothing table f = record {
    after = table;
    full = f.full;
    single = f.single;
    lawful = f.lawful;
    count = omega arith;
    timers = λ k. refl;
    loads = λ t rest e. ap (loaded rest) (sym (ap (λ bs. with_table kind bs t) (sym e) ∙ put-get t));
  }

  -- a bar that is not kept: its place is passed over
  module _ (key : KeyOctets) (bars table : List (Bar KeyOctets)) where
    passed_stopped : Fits kind (record { key = key; timer = Stopped } ∷ bars) table → Fits kind bars table
    passed_stopped f = record {
      full = f.full;
      single = f.single;
      lawful = f.lawful;
      bars_single = f.bars_single;
      bars_lawful = f.bars_lawful;
      room = f.room;
      fresh = λ k h. f.fresh k h;
    }

    passed_deactivated : Fits kind (record { key = key; timer = Deactivated } ∷ bars) table → Fits kind bars table
    passed_deactivated f = record {
      full = f.full;
      single = f.single;
      lawful = f.lawful;
      bars_single = (and_parts (free key bars) (apart bars) f.bars_single).1;
      bars_lawful = (and_parts (key_kept kind key) (lawful_bars kind bars) f.bars_lawful).1;
      room = f.room;
      fresh = λ k h. (and_parts (not (same_key key k)) (free k bars) (f.fresh k h)).1;
    }

    as_stopped : Filled kind bars table → Filled kind (record { key = key; timer = Stopped } ∷ bars) table
    as_stopped f = record { after = f.after; full = f.full; single = f.single; lawful = f.lawful; count = f.count; timers = f.timers; loads = f.loads }

    as_deactivated : Filled kind bars table → Filled kind (record { key = key; timer = Deactivated } ∷ bars) table
    as_deactivated f = record { after = f.after; full = f.full; single = f.single; lawful = f.lawful; count = f.count; timers = f.timers; loads = f.loads }

  -- a running bar: the table takes it
  module _ (key : KeyOctets) (left : ℕ) (bars table : List (Bar KeyOctets)) (f : Fits kind (record { key = key; timer = Running left } ∷ bars) table) where
    law : (lawful_timer kind key (Running left) ≡ true) × (lawful_bars kind bars ≡ true)
    law = and_parts (lawful_timer kind key (Running left)) (lawful_bars kind bars) f.bars_lawful

    one : (free key bars ≡ true) × (apart bars ≡ true)
    one = and_parts (free key bars) (apart bars) f.bars_single

    listed : running_bars kind (record { key = key; timer = Running left } ∷ bars) ≡ record { kind = kind; key = key; seconds = left } ∷ running_bars kind bars
    listed = cond-true (seconds_kept left) _ _ (and_parts (key_kept kind key) (seconds_kept left) law.0).1

    size : length (running_bars kind (record { key = key; timer = Running left } ∷ bars)) ≡ 1 + length (running_bars kind bars)
    size = ap length listed ∙ omega arith

    untaken : stands (timer_on table key) ≡ false
    untaken =
        ⊎_elim
        (λ h. let p = and_parts (not (same_key key key)) (free key bars) (f.fresh key h) in absurd (both_ways _ (not-true (same_key key key) p.0) (laws.reflexive key)))
        (λ h. h)
        (cases_Bool (stands (timer_on table key)))

    ok : takes key table ≡ true
    ok = let r = f.room in let n = size in and_from _ _ (not_from_false _ untaken) (lt-ltb (standing table) place_count (omega arith))

    timer_more : (k : KeyOctets) → timer_on (imposed key (Running left) table) k ≡ cond (same_key key k) (Running left) (timer_on table k)
    timer_more = started_timer key left table f.full ok f.single

    count_more : standing (imposed key (Running left) table) ≡ standing table + 1
    count_more = started_count key left table f.full ok

    free_there : (k : KeyOctets) → same_key key k ≡ true → free k bars ≡ true
    free_there k e = sym (free_same key k bars e) ∙ one.0

    next : Fits kind bars (imposed key (Running left) table)
    next = record {
      full = started_full key left table f.full ok;
      single = started_single key left table f.full ok f.single;
      lawful = started_lawful key left table f.full ok kind law.0 f.lawful;
      bars_single = one.1;
      bars_lawful = law.1;
      room = let r = f.room in let n = size in let c = count_more in omega arith;
      fresh = λ k h. ⊎_elim
          (λ e. free_there k e)
          (λ e. (and_parts (not (same_key key k)) (free k bars) (f.fresh k (ap stands (sym (timer_more k ∙ cond-false _ _ _ e)) ∙ h))).1)
          (cases_Bool (same_key key k));
    }

    module _ (F : Filled kind bars (imposed key (Running left) table)) where
      timers_then : (k : KeyOctets) → timer_on F.after k ≡ cond (stands (timer_on (deactivated_lifted (record { key = key; timer = Running left } ∷ bars)) k)) (timer_on (deactivated_lifted (record { key = key; timer = Running left } ∷ bars)) k) (timer_on table k)
      timers_then k =
          let whole : Bool → BackOffTimer = λ b. cond (stands (cond b (Running left) (timer_on (deactivated_lifted bars) k))) (cond b (Running left) (timer_on (deactivated_lifted bars) k)) (timer_on table k) in
          ⊎_elim
          (λ e.
          let none = timer_free k (deactivated_lifted bars) (free_retimed (λ _ t. reactivated t) (λ _. refl) k bars (free_there k e)) in
          F.timers k
          ∙ ap (λ x. cond (stands x) x (timer_on (imposed key (Running left) table) k)) none
          ∙ timer_more k
          ∙ cond-true _ _ _ e
          ∙ sym (ap whole e))
          (λ e.
          F.timers k
          ∙ ap (λ x. cond (stands (timer_on (deactivated_lifted bars) k)) (timer_on (deactivated_lifted bars) k) x) (timer_more k ∙ cond-false _ _ _ e)
          ∙ sym (ap whole e))
          (cases_Bool (same_key key k))

      loads_then : (t : TimersView) (rest : List (List ℕ)) → table_of kind t ≡ table
          → loaded (map written (running_bars kind (record { key = key; timer = Running left } ∷ bars)) ++ rest) t ≡ loaded rest (with_table kind F.after t)
      loads_then t rest e =
          let v : Kept = record { kind = kind; key = key; seconds = left } in
          let others = map written (running_bars kind bars) ++ rest in
          ap (λ vs. loaded (map written vs ++ rest) t) listed
          ∙ ap (λ o. and_then (loaded others) (with_record o t)) (told_written v (written v) refl law.0)
          ∙ ap (and_then (loaded others)) (cond-true (takes key (table_of kind t)) (Some (with_kept v t)) None (ap (takes key) e ∙ ok))
          ∙ ap (λ bs. loaded others (with_table kind (imposed key (Running left) bs) t)) e
          ∙ F.loads (with_table kind (imposed key (Running left) table) t) rest (get-put (imposed key (Running left) table) t)
          ∙ ap (loaded rest) (put-put (imposed key (Running left) table) F.after t)

      with_first : Filled kind (record { key = key; timer = Running left } ∷ bars) table
      with_first = record {
        after = F.after;
        full = F.full;
        single = F.single;
        lawful = F.lawful;
        count = let c = F.count in let m = count_more in let n = size in omega arith;
        timers = timers_then;
        loads = loads_then;
      }

  -- the first place, whatever its timer
  one_more : (key : KeyOctets) (timer : BackOffTimer) (bars : List (Bar KeyOctets)) → ((table : List (Bar KeyOctets)) → Fits kind bars table → Filled kind bars table)
      → (table : List (Bar KeyOctets)) → Fits kind (record { key = key; timer = timer } ∷ bars) table → Filled kind (record { key = key; timer = timer } ∷ bars) table
  one_more key Stopped bars ih table f = as_stopped key bars table (ih table (passed_stopped key bars table f))
  one_more key (Running left) bars ih table f = with_first key left bars table f (ih (imposed key (Running left) table) (next key left bars table f))
  one_more key Deactivated bars ih table f = as_deactivated key bars table (ih table (passed_deactivated key bars table f))

  pub fill : (bars table : List (Bar KeyOctets)) → Fits kind bars table → Filled kind bars table
  fill [] table f = nothing table f
  fill (b ∷ bars) table f = one_more b.key b.timer bars (fill bars) table f
