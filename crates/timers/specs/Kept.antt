-- The kept bars among a handset's timers.
use Rattle.std.specs.Prelude.{ℕ, ◌+◌, Bool, cond, not, ◌&&◌, List, ◌++◌, map, Some, None, Option, ◌==◌, nat_lt, slice_index_or}
use Rattle.backoff.specs.declared.timer.BackOffTimer.{BackOffTimer}
use Rattle.backoff.specs.declared.timer.BackOffTimer.TheVariants.{Stopped, Running, Deactivated}
use Rattle.bars.specs.declared.bar.Bar.{Bar}
use Rattle.bars.specs.Bars.{stands, timer_on, standing, imposed}
use Rattle.bars.specs.Sizes.{place_count}
use Rattle.keys.specs.Octets.{KeyOctets}
use Rattle.bar_record.specs.Record.{Kept, seconds_kept}
use Rattle.timers.specs.Timers.{TimersView}

-- a table has a place for one bar more on a key: none stands on it yet, and fewer than 32 stand
abbrev pub takes : KeyOctets → List (Bar KeyOctets) → Bool
takes k bs = not (stands (timer_on bs k)) && nat_lt (standing bs) place_count

-- the table of a kind
abbrev pub table_of : ℕ → TimersView → List (Bar KeyOctets)
table_of kind t = cond (kind == 1) t.t3396 (cond (kind == 2) t.t3584 t.t3585)

-- another table of a kind, the others as they are
abbrev pub with_table : ℕ → List (Bar KeyOctets) → TimersView → TimersView
with_table kind bs t = record { t3396 = cond (kind == 1) bs t.t3396; t3584 = cond (kind == 2) bs t.t3584; t3585 = cond (kind == 3) bs t.t3585 }

-- the timers with a kept bar more, running with its seconds
abbrev pub with_kept : Kept → TimersView → TimersView
with_kept v t = with_table v.kind (imposed v.key (Running v.seconds) (table_of v.kind t)) t

-- a kept bar is restored where its table takes it
abbrev pub takes_kept : Kept → TimersView → Bool
takes_kept v t = takes v.key (table_of v.kind t)

-- how many bars stand
abbrev pub standing_in : TimersView → ℕ
standing_in t = standing t.t3396 + standing t.t3584 + standing t.t3585

-- what is kept of the timer on a key: a running one with seconds that can be kept; a deactivated one is not kept
abbrev pub kept_timer : ℕ → KeyOctets → BackOffTimer → Option Kept
kept_timer kind key Stopped = None
kept_timer kind key (Running left) = cond (seconds_kept left) (Some (record { kind = kind; key = key; seconds = left })) None
kept_timer kind key Deactivated = None

abbrev pub kept_bar : ℕ → Bar KeyOctets → Option Kept
kept_bar kind b = kept_timer kind b.key b.timer

-- what is kept at a place of a table, and nothing past its last place
abbrev pub kept_at : ℕ → List (Bar KeyOctets) → ℕ → Option Kept
kept_at kind bs place = slice_index_or (map (kept_bar kind) bs) place None

-- what is kept at each of the 96 places of T3396, T3584 and T3585, one table after the other
abbrev pub kept_places : TimersView → List (Option Kept)
kept_places t = map (kept_bar 1) t.t3396 ++ (map (kept_bar 2) t.t3584 ++ map (kept_bar 3) t.t3585)
