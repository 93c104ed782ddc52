-- The bar that a record tells, as a function of its octets.
use Rattle.std.specs.Prelude.{ℕ, ◌+◌, ◌*◌, cond, ◌&&◌, List, [], take, drop, Some, None, Option, ◌==◌, slice_index}
use Rattle.std.specs.Str.{bytes_eq}
use Rattle.keys.specs.Octets.{KeyOctets}
use Rattle.bar_record.specs.Record.{Kept, written, lawful}

-- the number in octets 114 to 117, the high one first
abbrev pub seconds_in : List ℕ → ℕ
seconds_in xs = 16777216 * slice_index xs 114 + (65536 * slice_index xs 115 + (256 * slice_index xs 116 + slice_index xs 117))

-- the key at the fixed places of a record: the T3396 key has no network
abbrev pub key_in : List ℕ → KeyOctets
key_in xs = record { network = cond (slice_index xs 0 == 1) [] (take 3 (drop 1 xs)); slice = take (slice_index xs 4) (drop 5 xs); name = take (slice_index xs 13) (drop 14 xs) }

-- what the fixed places of a record say
abbrev pub said_in : List ℕ → Kept
said_in xs = record { kind = slice_index xs 0; key = key_in xs; seconds = seconds_in xs }

-- the bar of a record, where that is the record of a lawful bar
abbrev pub told : List ℕ → Option Kept
told xs = cond (lawful (said_in xs) && bytes_eq xs (written (said_in xs))) (Some (said_in xs)) None
