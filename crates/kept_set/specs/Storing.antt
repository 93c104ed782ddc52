-- Which records the running bars are kept in.
use Rattle.std.specs.Prelude.{ℕ, ◌-◌, cond, List, [], ◌∷◌, ◌++◌, map, length, take, Some, None, Option, slice_set}
use Rattle.backoff.specs.declared.timer.BackOffTimer.{BackOffTimer}
use Rattle.backoff.specs.declared.timer.BackOffTimer.TheVariants.{Stopped, Running, Deactivated}
use Rattle.bars.specs.declared.bar.Bar.{Bar}
use Rattle.keys.specs.Octets.{KeyOctets}
use Rattle.timers.specs.Timers.{TimersView}
use Rattle.bar_record.specs.Record.{Kept, written, seconds_kept}
use Rattle.kept_set.specs.Trailer.{trailer_number, trailer}

-- a running bar of a kind with seconds that can be kept, in front of others; a deactivated one is not kept
abbrev pub kept_before : ℕ → KeyOctets → BackOffTimer → List Kept → List Kept
kept_before kind key Stopped rest = rest
kept_before kind key (Running left) rest = cond (seconds_kept left) (record { kind = kind; key = key; seconds = left } ∷ rest) rest
kept_before kind key Deactivated rest = rest

-- the running bars of a table
abbrev pub running_bars : ℕ → List (Bar KeyOctets) → List Kept
running_bars kind [] = []
running_bars kind (b ∷ bs) = kept_before kind b.key b.timer (running_bars kind bs)

-- the running bars of the three tables: T3396, T3584, T3585
abbrev pub kept_bars : TimersView → List Kept
kept_bars t = running_bars 1 t.t3396 ++ (running_bars 2 t.t3584 ++ running_bars 3 t.t3585)

-- n bars are kept in the last n records before the trailer, which has the card and n; the other records stay
abbrev pub stored_bars : List ℕ → List Kept → List (List ℕ) → List (List ℕ)
stored_bars card bars records = take (trailer_number - length bars) records ++ (map written bars ++ (trailer card (length bars) ∷ []))

abbrev pub stored : List ℕ → TimersView → List (List ℕ) → List (List ℕ)
stored card t records = stored_bars card (kept_bars t) records

-- the number of the first record, and the records, with that of a bar more in front, if there is one
abbrev pub number_before : Option Kept → ℕ → ℕ
number_before None first = first
number_before (Some v) first = first - 1

abbrev pub put_before : Option Kept → ℕ → List (List ℕ) → List (List ℕ)
put_before None first records = records
put_before (Some v) first records = slice_set records (first - 1) (written v)
