-- Which bars are restored from the kept records.
use Rattle.std.specs.Prelude.{ℕ, cond, ◌&&◌, List, [], ◌∷◌, Some, None, Option, nat_le}
use Rattle.std.specs.Str.{bytes_eq}
use Rattle.timers.specs.Timers.{TimersView, no_timers, counted_timers}
use Rattle.bar_record.specs.Record.{Kept}
use Rattle.bar_record.specs.Reading.{told}
use Rattle.kept_set.specs.Trailer.{trailer_number, trailer_card, trailer_count, last_records}
pub use Rattle.timers.specs.Kept.{takes, table_of, with_table, with_kept, takes_kept, standing_in}

-- one record more: it is lawful, its key has no bar yet, and fewer than 32 of its kind stand; else nothing is restored
abbrev pub with_record : Option Kept → TimersView → Option TimersView
with_record None t = None
with_record (Some v) t = cond (takes_kept v t) (Some (with_kept v t)) None

abbrev pub and_then : (TimersView → Option TimersView) → Option TimersView → Option TimersView
and_then next None = None
and_then next (Some t) = next t

-- the bars of some records, one after the other
abbrev pub loaded : List (List ℕ) → TimersView → Option TimersView
loaded [] t = Some t
loaded (r ∷ rs) t = and_then (loaded rs) (with_record (told r) t)

-- the kept set: with the trailer's card and at most 96 bars, those of the records before the trailer
abbrev pub kept_timers : List ℕ → List (List ℕ) → Option TimersView
kept_timers card records =
    cond (bytes_eq card (trailer_card records) && nat_le (trailer_count records) trailer_number)
    (loaded (last_records (trailer_count records) records) no_timers) None

-- nothing is restored where there is no lawful kept set
abbrev pub or_none : Option TimersView → TimersView
or_none None = no_timers
or_none (Some t) = t

-- unknown time takes off nothing
abbrev pub known_seconds : Option ℕ → ℕ
known_seconds None = 0
known_seconds (Some n) = n

-- what is restored: seconds left above the time off go on, less it
abbrev pub restored : List ℕ → Option ℕ → List (List ℕ) → TimersView
restored card off records = counted_timers (known_seconds off) (or_none (kept_timers card records))
