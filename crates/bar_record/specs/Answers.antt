-- What writing and reading a record answer.
use Rattle.std.specs.Prelude.{◌≡◌, ℕ, ◌+◌, ◌<◌, true, cond, List, length, Some, None, Ok, Err, Option, Result, ◌==◌, ◌≢◌, slice_index}
use Rattle.std.specs.Option.{option_map}
use Rattle.keys.specs.declared.name.Name.{Name}
use Rattle.keys.specs.declared.network.Network.{Network}
use Rattle.keys.specs.declared.slice.Slice.{Slice}
use Rattle.bar_record.specs.declared.kept.KeptBar.{KeptBar}
use Rattle.bar_record.specs.declared.kept.KeptKey.{KeptKey}
use Rattle.bar_record.specs.declared.kept.KeptKey.TheVariants.{T3396, T3584, T3585}
use Rattle.bar_record.specs.declared.write.RecordRefusal.{RecordRefusal}
use Rattle.bar_record.specs.declared.write.RecordRefusal.TheVariants.{Length, Seconds}
use Rattle.bar_record.specs.Record.{Kept, kept_view, seconds_kept, written, lawful}

-- the length is looked at first, then the seconds
abbrev pub write_answer : Kept → ℕ → Result (Unit {0}) RecordRefusal
write_answer v n = cond (n == 128) (cond (seconds_kept v.seconds) (Ok tt) (Err Seconds)) (Err Length)

-- the record, or the place as it was
abbrev pub place_after : Result (Unit {0}) RecordRefusal → Kept → List ℕ → List ℕ
place_after (Ok _) v place = written v
place_after (Err _) v place = place

-- the key of a kind, of the parts that it has
abbrev pub key_made : ℕ → Network → Slice → Name → Option KeptKey
key_made kind network slice name =
    cond (kind == 1) (Some (T3396 (record { name = name })))
    (cond (kind == 2) (Some (T3584 (record { network = network; slice = slice; name = name })))
    (cond (kind == 3) (Some (T3585 (record { network = network; slice = slice }))) None))

-- octets stand in a record from a place on
abbrev pub Stands : List ℕ → ℕ → List ℕ → Type 0
Stands xs at ys = (j : ℕ) → j < length ys → slice_index xs (at + j) ≡ slice_index ys j

-- A record is read exactly if it is lawful: what is read is a lawful bar whose record this is, and what is not read is the
-- record of no lawful bar.
abbrev pub ReadExactly : List ℕ → Option KeptBar → Type 0
ReadExactly xs (Some b) = (lawful (kept_view b) ≡ true) × (xs ≡ written (kept_view b))
ReadExactly xs None = (v : Kept) → lawful v ≡ true → xs ≢ written v

-- Reading back what was written gives key and seconds.
abbrev pub ReadsBack : List ℕ → Option KeptBar → Type 0
ReadsBack xs r = (v : Kept) → lawful v ≡ true → xs ≡ written v → option_map kept_view r ≡ Some v
