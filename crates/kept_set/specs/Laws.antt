-- The laws of the kept set: what was stored is restored with the same card, and with no other.
use Rattle.std.specs.Prelude.{◌≡◌, ℕ, Bool, true, ◌&&◌, List, [], ◌∷◌, length, Some, None, ◌≢◌}
use Rattle.backoff.specs.declared.octet.TimerValue.{TimerValue}
use Rattle.backoff.specs.declared.octet.TimerValue.TheVariants as value
use Rattle.backoff.specs.declared.timer.BackOffTimer.{BackOffTimer}
use Rattle.backoff.specs.declared.timer.BackOffTimer.TheVariants.{Stopped, Running, Deactivated}
use Rattle.bars.specs.declared.bar.Bar.{Bar}
use Rattle.bars.specs.Bars.{timer_on, apart, deactivated_lifted}
use Rattle.bars.specs.Sizes.{place_count}
use Rattle.keys.specs.Octets.{KeyOctets}
use Rattle.session.specs.declared.timers.TimerRule.{TimerRule}
use Rattle.session.specs.declared.timers.TimerRule.TheVariants.{NoMark, Mark, LiftAll}
use Rattle.bar_record.specs.Record.{key_kept, seconds_kept}
use Rattle.keeper.specs.Sizes.{record_count}
use Rattle.timers.specs.Timers.{TimersView}
use Rattle.timers.specs.Kept.{standing_in}
use Rattle.kept_set.specs.Loading.{kept_timers}
use Rattle.kept_set.specs.Storing.{kept_bars, stored}

-- a bar that stands has a key of its kind, and if it is running, seconds that can be kept
abbrev pub lawful_timer : ℕ → KeyOctets → BackOffTimer → Bool
lawful_timer kind key Stopped = true
lawful_timer kind key (Running left) = key_kept kind key && seconds_kept left
lawful_timer kind key Deactivated = key_kept kind key

abbrev pub lawful_bars : ℕ → List (Bar KeyOctets) → Bool
lawful_bars kind [] = true
lawful_bars kind (b ∷ bs) = lawful_timer kind b.key b.timer && lawful_bars kind bs

-- every running bar has seconds that can be kept
abbrev pub timer_seconds_kept : BackOffTimer → Bool
timer_seconds_kept Stopped = true
timer_seconds_kept (Running left) = seconds_kept left
timer_seconds_kept Deactivated = true

abbrev pub bars_seconds_kept : List (Bar KeyOctets) → Bool
bars_seconds_kept [] = true
bars_seconds_kept (b ∷ bs) = timer_seconds_kept b.timer && bars_seconds_kept bs

abbrev pub all_seconds_kept : TimersView → Bool
all_seconds_kept t = bars_seconds_kept t.t3396 && (bars_seconds_kept t.t3584 && bars_seconds_kept t.t3585)

-- a timer octet's value, and a rule, with seconds that can be kept
abbrev pub value_seconds_kept : TimerValue → Bool
value_seconds_kept value.Zero = true
value_seconds_kept (value.Seconds n) = seconds_kept n
value_seconds_kept value.Deactivated = true

abbrev pub rule_seconds_kept : TimerRule → Bool
rule_seconds_kept NoMark = true
rule_seconds_kept (Mark kind v) = value_seconds_kept v
rule_seconds_kept LiftAll = true

-- a table of 32 places whose bars are lawful, and no two of them on one key
pub record SoundTable (kind : ℕ) (bs : List (Bar KeyOctets)) : Type 0 where
  pub full : length bs ≡ place_count
  pub single : apart bs ≡ true
  pub lawful : lawful_bars kind bs ≡ true

-- three tables of 32 places
pub record FullTimers (t : TimersView) : Type 0 where
  pub t3396 : length t.t3396 ≡ place_count
  pub t3584 : length t.t3584 ≡ place_count
  pub t3585 : length t.t3585 ≡ place_count

pub record SoundTimers (t : TimersView) : Type 0 where
  pub t3396 : SoundTable 1 t.t3396
  pub t3584 : SoundTable 2 t.t3584
  pub t3585 : SoundTable 3 t.t3585

-- every key has the same timer
abbrev pub SameTimers : List (Bar KeyOctets) → List (Bar KeyOctets) → Type 0
SameTimers bs bs' = (k : KeyOctets) → timer_on bs k ≡ timer_on bs' k

-- what is restored of stored timers: every running bar with its seconds, and no other
pub record LoadedBack (card : List ℕ) (t : TimersView) (records : List (List ℕ)) : Type 0 where
  pub after : TimersView
  pub loads : kept_timers card (stored card t records) ≡ Some after
  pub sound : SoundTimers after
  pub t3396 : SameTimers after.t3396 (deactivated_lifted t.t3396)
  pub t3584 : SameTimers after.t3584 (deactivated_lifted t.t3584)
  pub t3585 : SameTimers after.t3585 (deactivated_lifted t.t3585)
  pub count : standing_in after ≡ length (kept_bars t)

-- stored and loaded with the same card, every running bar is there again, and the deactivated ones are lifted
abbrev pub LoadsBack : Type 0
LoadsBack = (card : List ℕ) (t : TimersView) (records : List (List ℕ)) → length card ≡ 8 → length records ≡ record_count → SoundTimers t → LoadedBack card t records

-- with another card nothing is restored
abbrev pub AnotherCard : Type 0
AnotherCard = (card card' : List ℕ) (t : TimersView) (records : List (List ℕ)) → length card ≡ 8 → length records ≡ record_count → FullTimers t
    → (card' ≢ card) → kept_timers card' (stored card t records) ≡ None
