-- What the kept records give back: with the same card every timer, but deactivated ones stopped; with another card none.
use Rattle.std.proofs.Common.{◌≡◌, ℕ, ◌-◌, false, List, [], ◌∷◌, ◌++◌, map, length, take, Some, None, arith}
use Rattle.std.specs.Str.{bytes_eq}
use Rattle.std.proofs.lemmas.Slice.Eq.{bytes_eq-Decides}
use Rattle.std.proofs.lemmas.List.{length-append, length-map, length-take}
use Rattle.std.proofs.lemmas.Bool.{both_ways}
use Rattle.bar_record.specs.Record.{written}
use Rattle.bars.specs.Bars.{timer_on, deactivated_lifted}
use Rattle.keys.specs.Octets.{KeyOctets}
use Rattle.kept_set.specs.Laws.{SoundTimers, LoadedBack}
use Rattle.kept_set.specs.Storing.{kept_bars, stored}
use Rattle.kept_set.specs.Trailer.{trailer_number, trailer}
use Rattle.kept_set.proofs.Returns.{sound_full, kept_most, another_card, loads_back}
use Rattle.session.specs.declared.timers.TimerKind.{TimerKind}
use Rattle.session.specs.declared.timers.TimerKind.TheVariants.{T3396, T3584, T3585}
use Rattle.timers.specs.Timers.{TimersView}
use Rattle.kept_set.specs.Loading.{kept_timers}
use Rattle.law.proofs.Tables.{table, Sound}

each_sound : (t : TimersView) → SoundTimers t → (kind : TimerKind) → Sound kind (table kind t)
each_sound t s T3396 = s.t3396
each_sound t s T3584 = s.t3584
each_sound t s T3585 = s.t3585

each_timer : (card : List ℕ) (t : TimersView) (records : List (List ℕ)) (b : LoadedBack card t records) (kind : TimerKind) (k : KeyOctets) → timer_on (table kind b.after) k ≡ timer_on (deactivated_lifted (table kind t)) k
each_timer card t records b T3396 k = b.t3396 k
each_timer card t records b T3584 k = b.t3584 k
each_timer card t records b T3585 k = b.t3585 k

module _ (card : List ℕ) (t : TimersView) (records : List (List ℕ)) (long : length card ≡ 8) (many : length records ≡ 97) (sound : (kind : TimerKind) → Sound kind (table kind t)) where
  all_sound : SoundTimers t
  all_sound = record { t3396 = sound T3396; t3584 = sound T3584; t3585 = sound T3585 }

  pub same_card : (t' : TimersView) × (kept_timers card (stored card t records) ≡ Some t') × ((kind : TimerKind) → Sound kind (table kind t'))
      × ((kind : TimerKind) (k : KeyOctets) → timer_on (table kind t') k ≡ timer_on (deactivated_lifted (table kind t)) k)
  same_card = let b = loads_back card t records long many all_sound in (b.after, b.loads, each_sound b.after b.sound, each_timer card t records b)

  pub other_card : (card' : List ℕ) → bytes_eq card' card ≡ false → kept_timers card' (stored card t records) ≡ None
  other_card card' other =
      another_card card card' t records long many (sound_full t all_sound) (λ same. both_ways (bytes_eq card' card) other ((bytes_eq-Decides card' card).1 same))

  pub same_size : length (stored card t records) ≡ 97
  same_size =
      let few = kept_most t (sound_full t all_sound) in
      let rest = length-append (map written (kept_bars t)) (trailer card (length (kept_bars t)) ∷ []) in
      let all = length-append (take (trailer_number - length (kept_bars t)) records) (map written (kept_bars t) ++ (trailer card (length (kept_bars t)) ∷ [])) in
      let n = length-map (kept_bars t) written in
      let first = length-take (trailer_number - length (kept_bars t)) records in
      omega arith
