-- What was stored is loaded with the same card, and with no other.
use Rattle.std.proofs.Common.{◌≡◌, ℕ, zero, suc, ◌-◌, ◌≤◌, true, cond, List, [], ◌∷◌, ◌++◌, map, length, get_or, take, replicate, Some, None, sym, refl, ap, ◌∙◌, ⊎_elim, append_assoc, append-nil, arith}
use Rattle.std.specs.Str.{bytes_eq}
use Rattle.std.proofs.lemmas.Slice.Eq.{bytes_eq-Decides}
use Rattle.std.proofs.lemmas.List.{length-map, length-append, length-take-le, length-replicate, map-append, get_or_at, take_at, drop_at}
use Rattle.std.proofs.lemmas.List.Sums.{sum_by-cons}
use Rattle.std.proofs.lemmas.Bool.{and_from, and_left, cases_Bool, cond-true, cond-false, le-leb, false≢true}
use Rattle.backoff.specs.declared.timer.BackOffTimer.{BackOffTimer}
use Rattle.backoff.specs.declared.timer.BackOffTimer.TheVariants.{Stopped, Running, Deactivated}
use Rattle.keys.specs.Octets.{KeyOctets}
use Rattle.bars.specs.declared.bar.Bar.{Bar}
use Rattle.bars.specs.Bars.{stands, timer_on, apart, standing, deactivated_lifted}
use Rattle.bars.specs.Sizes.{place_count}
use Rattle.bar_record.specs.Record.{Kept, written}
use Rattle.keeper.specs.Sizes.{record_count}
use Rattle.keys.specs.KeyParts.{name_key, slice_name_key, slice_key}
use Rattle.timers.specs.Timers.{TimersView, free_places, no_parts, no_timers}
use Rattle.timers.specs.Kept.{kept_bar, with_table, standing_in}
use Rattle.kept_set.specs.Trailer.{trailer_number, trailer, trailer_card, trailer_count, last_records}
use Rattle.kept_set.specs.Loading.{loaded, kept_timers}
use Rattle.kept_set.specs.Storing.{running_bars, kept_bars, stored_bars}
use Rattle.kept_set.specs.Laws.{lawful_bars, SoundTable, FullTimers, SoundTimers, SameTimers, LoadsBack, AnotherCard}
use Rattle.kept_set.proofs.Stores.{present_most, running_present}
use Rattle.kept_set.proofs.Tables.{Fits, Filled, fill}

-- free places: no bar stands
module _ (key : KeyOctets) where
  pub none_on : (n : ℕ) (k : KeyOctets) → timer_on (replicate n (record { key = key; timer = Stopped })) k ≡ Stopped
  none_on zero k = refl
  none_on (suc n) k = none_on n k

  pub none_twice : (n : ℕ) → apart (replicate n (record { key = key; timer = Stopped })) ≡ true
  none_twice zero = refl
  none_twice (suc n) = none_twice n

  none_unlawful : (kind n : ℕ) → lawful_bars kind (replicate n (record { key = key; timer = Stopped })) ≡ true
  none_unlawful kind zero = refl
  none_unlawful kind (suc n) = none_unlawful kind n

  pub none_standing : (n : ℕ) → standing (replicate n (record { key = key; timer = Stopped })) ≡ 0
  none_standing zero = refl
  none_standing (suc n) =
      let one = sum_by-cons (λ (b : Bar KeyOctets). cond (stands b.timer) 1 0) (record { key = key; timer = Stopped }) (replicate n (record { key = key; timer = Stopped })) in
      let ih = none_standing n in
      omega arith

pub running_most : (kind : ℕ) (bs : List (Bar KeyOctets)) → length (running_bars kind bs) ≤ length bs
running_most kind bs =
    let same = ap length (running_present kind bs) in
    let most = present_most (map (kept_bar kind) bs) in
    let long = length-map bs (kept_bar kind) in
    omega arith

-- the running bars of a table have room among free places
fits_free : (kind : ℕ) (bs : List (Bar KeyOctets)) (key : KeyOctets) → SoundTable kind bs → Fits kind bs (free_places key)
fits_free kind bs key s = record {
  full = length-replicate {A = Bar KeyOctets} place_count (record { key = key; timer = Stopped });
  single = none_twice key place_count;
  lawful = none_unlawful key kind place_count;
  bars_single = s.single;
  bars_lawful = s.lawful;
  room = let none = none_standing key place_count in let most = running_most kind bs in let full = s.full in omega arith;
  fresh = λ k h. absurd (false≢true (ap stands (sym (none_on key place_count k)) ∙ h));
}

pub or_stopped : (x y : BackOffTimer) → y ≡ Stopped → cond (stands x) x y ≡ x
or_stopped Stopped y e = e
or_stopped (Running left) y e = refl
or_stopped Deactivated y e = refl

-- the bars that were filled into free places are those of the table, the deactivated ones lifted
same_timers : (kind : ℕ) (bs : List (Bar KeyOctets)) (key : KeyOctets) (F : Filled kind bs (free_places key)) → SameTimers F.after (deactivated_lifted bs)
same_timers kind bs key F k = F.timers k ∙ or_stopped (timer_on (deactivated_lifted bs) k) (timer_on (free_places key) k) (none_on key place_count k)

filled_sound : (kind : ℕ) (bs table : List (Bar KeyOctets)) (F : Filled kind bs table) → SoundTable kind F.after
filled_sound kind bs table F = record { full = F.full; single = F.single; lawful = F.lawful }

-- what the stored records say
module _ (card : List ℕ) (vs : List Kept) (records : List (List ℕ)) (card-full : length card ≡ 8) (long : length records ≡ record_count) (few : length vs ≤ trailer_number) where
  part : length (take (trailer_number - length vs) records) ≡ trailer_number - length vs
  part = length-take-le (trailer_number - length vs) records (omega arith)

  last_is : get_or (stored_bars card vs records) trailer_number [] ≡ trailer card (length vs)
  last_is =
      let m = length-map vs written in
      let p = part in
      let size = length-append (take (trailer_number - length vs) records) (map written vs) in
      ap (λ rs. get_or rs trailer_number []) (sym (append_assoc (take (trailer_number - length vs) records) (map written vs) (trailer card (length vs) ∷ [])))
      ∙ get_or_at (take (trailer_number - length vs) records ++ map written vs) (trailer card (length vs)) [] [] trailer_number (omega arith)

  card_is : trailer_card (stored_bars card vs records) ≡ card
  card_is = ap (take 8) last_is ∙ take_at card (length vs ∷ replicate 119 0) 8 card-full

  count_is : trailer_count (stored_bars card vs records) ≡ length vs
  count_is = ap (λ r. get_or r 8 0) last_is ∙ get_or_at card (length vs) (replicate 119 0) 0 8 card-full

  records_are : last_records (length vs) (stored_bars card vs records) ≡ map written vs
  records_are =
      ap (take (length vs)) (drop_at (take (trailer_number - length vs) records) (map written vs ++ (trailer card (length vs) ∷ [])) (trailer_number - length vs) part)
      ∙ take_at (map written vs) (trailer card (length vs) ∷ []) (length vs) (length-map vs written)

  -- with its card the stored records of the bars are loaded
  pub stored_loads : kept_timers card (stored_bars card vs records) ≡ loaded (map written vs) no_timers
  stored_loads =
      let same = (bytes_eq-Decides card (trailer_card (stored_bars card vs records))).1 (sym card_is) in
      let n = count_is in
      cond-true _ _ _ (and_from _ _ same (le-leb (trailer_count (stored_bars card vs records)) trailer_number (omega arith)))
      ∙ ap (λ m. loaded (last_records m (stored_bars card vs records)) no_timers) count_is
      ∙ ap (λ rs. loaded rs no_timers) records_are

  pub other_card : (card' : List ℕ) → (card' ≡ card → ⊥) → kept_timers card' (stored_bars card vs records) ≡ None
  other_card card' differs =
      ⊎_elim
      (λ h. absurd (differs ((bytes_eq-Decides card' (trailer_card (stored_bars card vs records))).0 h ∙ card_is)))
      (λ h. cond-false _ _ _ (and_left _ _ h))
      (cases_Bool (bytes_eq card' (trailer_card (stored_bars card vs records))))

pub sound_full : (t : TimersView) → SoundTimers t → FullTimers t
sound_full t s = record { t3396 = s.t3396.full; t3584 = s.t3584.full; t3585 = s.t3585.full }

-- at most 96 bars are kept
pub kept_most : (t : TimersView) → FullTimers t → length (kept_bars t) ≤ trailer_number
kept_most t s =
    let a = running_most 1 t.t3396 in
    let b = running_most 2 t.t3584 in
    let d = running_most 3 t.t3585 in
    let fa = s.t3396 in
    let fb = s.t3584 in
    let fd = s.t3585 in
    let two = length-append (running_bars 2 t.t3584) (running_bars 3 t.t3585) in
    let all = length-append (running_bars 1 t.t3396) (running_bars 2 t.t3584 ++ running_bars 3 t.t3585) in
    omega arith

pub another_card : AnotherCard
another_card card card' t records full long s differs = other_card card (kept_bars t) records full long (kept_most t s) card' differs

-- the records of the three tables, one table after the other
written_all : (xs ys zs : List Kept) → map written (xs ++ (ys ++ zs)) ≡ map written xs ++ (map written ys ++ (map written zs ++ []))
written_all xs ys zs =
    map-append written xs (ys ++ zs)
    ∙ ap (λ rs. map written xs ++ rs) (map-append written ys zs)
    ∙ ap (λ rs. map written xs ++ (map written ys ++ rs)) (sym (append-nil (map written zs)))

module _ (t : TimersView) (s : SoundTimers t) where
  names : Filled 1 t.t3396 no_timers.t3396
  names = fill 1 (λ bs u. refl) (λ bs bs' u. refl) (λ u. refl) t.t3396 no_timers.t3396 (fits_free 1 t.t3396 _ s.t3396)

  slice_names : Filled 2 t.t3584 no_timers.t3584
  slice_names = fill 2 (λ bs u. refl) (λ bs bs' u. refl) (λ u. refl) t.t3584 no_timers.t3584 (fits_free 2 t.t3584 _ s.t3584)

  slices : Filled 3 t.t3585 no_timers.t3585
  slices = fill 3 (λ bs u. refl) (λ bs bs' u. refl) (λ u. refl) t.t3585 no_timers.t3585 (fits_free 3 t.t3585 _ s.t3585)

  pub restored_timers : TimersView
  restored_timers = record { t3396 = names.after; t3584 = slice_names.after; t3585 = slices.after }

  bars_load : loaded (map written (kept_bars t)) no_timers ≡ Some restored_timers
  unfolding restored_timers
  bars_load =
      ap (λ rs. loaded rs no_timers) (written_all (running_bars 1 t.t3396) (running_bars 2 t.t3584) (running_bars 3 t.t3585))
      ∙ names.loads no_timers (map written (running_bars 2 t.t3584) ++ (map written (running_bars 3 t.t3585) ++ [])) refl
      ∙ slice_names.loads (with_table 1 names.after no_timers) (map written (running_bars 3 t.t3585) ++ []) refl
      ∙ slices.loads (with_table 2 slice_names.after (with_table 1 names.after no_timers)) [] refl

  -- how many bars stand then
  count_then : standing_in (restored_timers) ≡ length (kept_bars t)
  unfolding restored_timers
  count_then =
      let a = names.count in
      let b = slice_names.count in
      let d = slices.count in
      let na = none_standing (name_key no_parts) place_count in
      let nb = none_standing (slice_name_key no_parts) place_count in
      let nd = none_standing (slice_key no_parts) place_count in
      let two = length-append (running_bars 2 t.t3584) (running_bars 3 t.t3585) in
      let all = length-append (running_bars 1 t.t3396) (running_bars 2 t.t3584 ++ running_bars 3 t.t3585) in
      omega arith

pub loads_back : LoadsBack
unfolding restored_timers
loads_back card t records full long s = record {
  after = restored_timers t s;
  loads = stored_loads card (kept_bars t) records full long (kept_most t (sound_full t s)) ∙ bars_load t s;
  sound = record {
    t3396 = filled_sound 1 t.t3396 no_timers.t3396 (names t s);
    t3584 = filled_sound 2 t.t3584 no_timers.t3584 (slice_names t s);
    t3585 = filled_sound 3 t.t3585 no_timers.t3585 (slices t s);
  };
  t3396 = same_timers 1 t.t3396 (name_key no_parts) (names t s);
  t3584 = same_timers 2 t.t3584 (slice_name_key no_parts) (slice_names t s);
  t3585 = same_timers 3 t.t3585 (slice_key no_parts) (slices t s);
  count = count_then t s;
}
