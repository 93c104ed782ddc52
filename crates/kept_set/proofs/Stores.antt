-- Storing records one in front of the other, and the trailer behind them.
use Rattle.std.proofs.Common.{◌≡◌, ℕ, ◌+◌, ◌-◌, ◌<◌, ◌≤◌, Bool, true, false, cond, List, [], ◌∷◌, ◌++◌, map, length, get_or, take, drop, set, replicate, IfSome, Some, None, Option, sym, refl, ap, ◌∙◌, subst, append_assoc, arith}
use Rattle.std.proofs.lemmas.List.{drop_more, drop_all, take_more, set_at, length-map, length-append, length-drop, length-take-le, take-append-drop, nil_from_length}
use Rattle.std.proofs.lemmas.Bool.{cond-true, and_from, lt-ltb, eq-eqb}
use Rattle.std.specs.Option.{option_map}
use Rattle.backoff.specs.declared.timer.BackOffTimer.{BackOffTimer}
use Rattle.backoff.specs.declared.timer.BackOffTimer.TheVariants.{Stopped, Running, Deactivated}
use Rattle.keys.specs.Octets.{KeyOctets}
use Rattle.bars.specs.declared.bar.Bar.{Bar}
use Rattle.bars.specs.Sizes.{place_count}
use Rattle.bar_record.specs.declared.lawful.LawfulBar.{LawfulBar}
use Rattle.bar_record.specs.Lawful.{lawful_view}
use Rattle.bar_record.specs.Record.{Kept, written, seconds_kept}
use Rattle.timers.specs.Timers.{TimersView}
use Rattle.timers.specs.Kept.{kept_timer, kept_bar, kept_places}
use Rattle.keeper.specs.Records.{records_after}
use Rattle.keeper.specs.Sizes.{record_count, record_length}
use Rattle.kept_set.specs.Trailer.{trailer_number, trailer}
use Rattle.kept_set.specs.Storing.{kept_before, running_bars, kept_bars, stored_bars, number_before, put_before}

-- a record of a lawful number and length is written
pub record_written : (records : List (List ℕ)) (number : ℕ) (content new : List ℕ) → number < record_count → content ≡ new → length new ≡ record_length → records_after records number content ≡ set records number new
record_written records number content new h e long =
    ap (records_after records number) e ∙ cond-true _ (set records number new) records (and_from _ _ (lt-ltb number record_count h) (eq-eqb (length new) record_length long))

-- what is there, of a row in which it may be missing
abbrev pub before : Option Kept → List Kept → List Kept
before None vs = vs
before (Some v) vs = v ∷ vs

abbrev pub present : List (Option Kept) → List Kept
present [] = []
present (o ∷ os) = before o (present os)

before_most : (o : Option Kept) (vs : List Kept) → length (before o vs) ≤ 1 + length vs
before_most None vs = omega arith
before_most (Some v) vs = omega arith

pub present_most : (os : List (Option Kept)) → length (present os) ≤ length os
present_most [] = omega arith
present_most (o ∷ os) = let ih = present_most os in let h = before_most o (present os) in omega arith

before_append : (o : Option Kept) (us vs : List Kept) → before o (us ++ vs) ≡ before o us ++ vs
before_append None us vs = refl
before_append (Some v) us vs = refl

pub present_append : (os ps : List (Option Kept)) → present (os ++ ps) ≡ present os ++ present ps
present_append [] ps = refl
present_append (o ∷ os) ps = ap (before o) (present_append os ps) ∙ before_append o (present os) (present ps)

cond_before : (b : Bool) (v : Kept) (vs : List Kept) → cond b (v ∷ vs) vs ≡ before (cond b (Some v) None) vs
cond_before true v vs = refl
cond_before false v vs = refl

timer_before : (kind : ℕ) (key : KeyOctets) (t : BackOffTimer) (vs : List Kept) → kept_before kind key t vs ≡ before (kept_timer kind key t) vs
timer_before kind key Stopped vs = refl
timer_before kind key (Running left) vs = cond_before (seconds_kept left) (record { kind = kind; key = key; seconds = left }) vs
timer_before kind key Deactivated vs = refl

-- the running bars of a table are what is kept at its places
pub running_present : (kind : ℕ) (bs : List (Bar KeyOctets)) → running_bars kind bs ≡ present (map (kept_bar kind) bs)
running_present kind [] = refl
running_present kind (b ∷ bs) = timer_before kind b.key b.timer (running_bars kind bs) ∙ ap (before (kept_bar kind b)) (running_present kind bs)

pub kept_present : (t : TimersView) → kept_bars t ≡ present (kept_places t)
kept_present t =
    (λ i. running_present 1 t.t3396 i ++ (running_present 2 t.t3584 i ++ running_present 3 t.t3585 i))
    ∙ ap (λ vs. present (map (kept_bar 1) t.t3396) ++ vs) (sym (present_append (map (kept_bar 2) t.t3584) (map (kept_bar 3) t.t3585)))
    ∙ sym (present_append (map (kept_bar 1) t.t3396) (map (kept_bar 2) t.t3584 ++ map (kept_bar 3) t.t3585))

-- the three tables have 96 places
pub places_count : (t : TimersView) → length t.t3396 ≡ place_count → length t.t3584 ≡ place_count → length t.t3585 ≡ place_count → length (kept_places t) ≡ trailer_number
places_count t a b d =
    let first = length-map t.t3396 (kept_bar 1) in
    let second = length-map t.t3584 (kept_bar 2) in
    let third = length-map t.t3585 (kept_bar 3) in
    let two = length-append (map (kept_bar 2) t.t3584) (map (kept_bar 3) t.t3585) in
    let all = length-append (map (kept_bar 1) t.t3396) (map (kept_bar 2) t.t3584 ++ map (kept_bar 3) t.t3585) in
    omega arith

-- a record written in front of others
put_front : (old ys : List (List ℕ)) (first : ℕ) (x : List ℕ) → 0 < first → first ≤ length old → set (take first old ++ ys) (first - 1) x ≡ take (first - 1) old ++ x ∷ ys
put_front old ys first x some h =
    let more : first ≡ first - 1 + 1 = omega arith in
    ap (λ m. set (take m old ++ ys) (first - 1) x) more
    ∙ ap (λ xs. set (xs ++ ys) (first - 1) x) (take_more old (first - 1) [] (omega arith))
    ∙ ap (λ xs. set xs (first - 1) x) (append_assoc (take (first - 1) old) (get_or old (first - 1) [] ∷ []) ys)
    ∙ set_at (take (first - 1) old) (get_or old (first - 1) []) ys x (first - 1) (length-take-le (first - 1) old (omega arith))

-- the bars of the places from one on are stored
pub record Put (old : List (List ℕ)) (ps : List (Option Kept)) (i first : ℕ) (records : List (List ℕ)) : Type 0 where
  pub count : first + length (present (drop i ps)) ≡ trailer_number
  pub are : records ≡ take first old ++ (map written (present (drop i ps)) ++ drop trailer_number old)

module _ (old : List (List ℕ)) (ps : List (Option Kept)) where
  pub put_none : (i : ℕ) → length ps ≤ i → Put old ps i trailer_number old
  put_none i h =
      let none = ap present (drop_all i ps h) in
      record {
        count = ap (λ vs. trailer_number + length vs) none;
        are = sym (ap (λ vs. take trailer_number old ++ (map written vs ++ drop trailer_number old)) none ∙ take-append-drop trailer_number old);
      }

  module _ (full : length ps ≡ trailer_number) (long : trailer_number < length old) where
    put_one : (o : Option Kept) (vs : List Kept) (first : ℕ) (records : List (List ℕ)) → first + length vs ≡ trailer_number → length (before o vs) ≤ trailer_number
        → records ≡ take first old ++ (map written vs ++ drop trailer_number old)
        → (number_before o first + length (before o vs) ≡ trailer_number) × (put_before o first records ≡ take (number_before o first) old ++ (map written (before o vs) ++ drop trailer_number old))
    put_one None vs first records c h e = (c, e)
    put_one (Some v) vs first records c h e =
        (omega arith, ap (λ rs. set rs (first - 1) (written v)) e ∙ put_front old (map written vs ++ drop trailer_number old) first (written v) (omega arith) (omega arith))

    most : (i : ℕ) → length (present (drop i ps)) ≤ trailer_number
    most i = let a = present_most (drop i ps) in let b = length-drop i ps in omega arith

    -- one place more
    module _ (i first : ℕ) (records : List (List ℕ)) (some : 0 < i) (within : i ≤ trailer_number) (inv : Put old ps i first records) where
      front : present (drop (i - 1) ps) ≡ before (get_or ps (i - 1) None) (present (drop i ps))
      front =
          let back : i - 1 + 1 ≡ i = omega arith in
          ap present (drop_more ps (i - 1) None (omega arith)) ∙ ap (λ j. before (get_or ps (i - 1) None) (present (drop j ps))) back

      front_most : length (before (get_or ps (i - 1) None) (present (drop i ps))) ≤ trailer_number
      front_most = subst (λ vs. length vs ≤ trailer_number) front (most (i - 1))

      pub put_more : (first' : ℕ) (records' : List (List ℕ)) → first' ≡ number_before (get_or ps (i - 1) None) first → records' ≡ put_before (get_or ps (i - 1) None) first records → Put old ps (i - 1) first' records'
      put_more first' records' ef er =
          let p = put_one (get_or ps (i - 1) None) (present (drop i ps)) first records inv.count front_most inv.are in
          let r : Put old ps (i - 1) (number_before (get_or ps (i - 1) None) first) (put_before (get_or ps (i - 1) None) first records) = record {
            count = ap (λ vs. number_before (get_or ps (i - 1) None) first + length vs) front ∙ p.0;
            are = p.1 ∙ ap (λ vs. take (number_before (get_or ps (i - 1) None) first) old ++ (map written vs ++ drop trailer_number old)) (sym front);
          } in
          subst (λ n. Put old ps (i - 1) n records') (sym ef) (subst (λ rs. Put old ps (i - 1) (number_before (get_or ps (i - 1) None) first) rs) (sym er) r)

      -- before the records there is one more for a bar
      pub put_room : (bar : Option LawfulBar) → option_map lawful_view bar ≡ get_or ps (i - 1) None → IfSome bar (λ _. 0 < first)
      put_room None e = tt
      put_room (Some b) e =
          let c = inv.count in
          let h = subst (λ o. length (before o (present (drop i ps))) ≤ trailer_number) (sym e) front_most in
          omega arith

-- the trailer behind the records of the bars
pub trailer_put : (old : List (List ℕ)) (bars : List (List ℕ)) (first : ℕ) (x : List ℕ) → length old ≡ record_count → first + length bars ≡ trailer_number
    → set (take first old ++ (bars ++ drop trailer_number old)) trailer_number x ≡ take first old ++ (bars ++ x ∷ [])
trailer_put old bars first x long c =
    let some : trailer_number < length old = omega arith in
    let over = length-drop (trailer_number + 1) old in
    let none : drop (trailer_number + 1) old ≡ [] = nil_from_length (drop (trailer_number + 1) old) (omega arith) in
    let one = drop_more old trailer_number [] some ∙ ap (λ xs. get_or old trailer_number [] ∷ xs) none in
    let size = length-append (take first old) bars in
    let part = length-take-le first old (omega arith) in
    ap (λ xs. set (take first old ++ (bars ++ xs)) trailer_number x) one
    ∙ ap (λ xs. set xs trailer_number x) (sym (append_assoc (take first old) bars (get_or old trailer_number [] ∷ [])))
    ∙ set_at (take first old ++ bars) (get_or old trailer_number []) [] x trailer_number (omega arith)
    ∙ append_assoc (take first old) bars (x ∷ [])

-- all places are stored
pub put_end : (old : List (List ℕ)) (ps : List (Option Kept)) (i first : ℕ) (records : List (List ℕ)) (vs : List Kept) → i ≡ 0 → vs ≡ present ps → Put old ps i first records
    → (first + length vs ≡ trailer_number) × (records ≡ take first old ++ (map written vs ++ drop trailer_number old))
put_end old ps i first records vs e f inv =
    let all : present (drop i ps) ≡ vs = ap (λ j. present (drop j ps)) e ∙ sym f in (
      ap (λ us. first + length us) (sym all) ∙ inv.count,
      inv.are ∙ ap (λ us. take first old ++ (map written us ++ drop trailer_number old)) all,
    )

-- the records of the bars, and then the trailer, are the stored set
pub all_stored : (old records : List (List ℕ)) (card : List ℕ) (vs : List Kept) (first n : ℕ) → length old ≡ record_count → first + length vs ≡ trailer_number → n ≡ trailer_number - first
    → records ≡ take first old ++ (map written vs ++ drop trailer_number old)
    → set records trailer_number (trailer card n) ≡ stored_bars card vs old
all_stored old records card vs first n long c e are =
    let size : n ≡ length vs = omega arith in
    let start : first ≡ trailer_number - length vs = omega arith in
    let put = trailer_put old (map written vs) first (trailer card n) long (ap (λ m. first + m) (length-map vs written) ∙ c) in
    ap (λ rs. set rs trailer_number (trailer card n)) are
    ∙ put
    ∙ ap (λ m. take m old ++ (map written vs ++ trailer card n ∷ [])) start
    ∙ ap (λ m. take (trailer_number - length vs) old ++ (map written vs ++ trailer card m ∷ [])) size

pub trailer_length : (card : List ℕ) (n : ℕ) → length card ≡ 8 → length (trailer card n) ≡ record_length
trailer_length card n full = let l = length-append card (n ∷ replicate 119 0) in omega arith
