-- Moving the oldest waiting message into a record.
use Rattle.std.specs.Prelude.{ℕ, Bool, cond, not, ◌&&◌, List, ◌++◌, length, drop, replicate, ◌==◌, nat_lt, slice_set}
use Rattle.keeper.specs.Sizes.{record_count, record_length}
use Rattle.uplink.specs.Waiting.{oldest}

-- a message waits, and the record's number is lawful
abbrev pub filed : List (List ℕ) → ℕ → Bool
filed waiting number = nat_lt number record_count && not (length waiting == 0)

-- the oldest no longer waits
abbrev pub queue_after : List (List ℕ) → ℕ → List (List ℕ)
queue_after waiting number = cond (filed waiting number) (drop 1 waiting) waiting

-- a message with zeros behind it, up to the length of a record
abbrev pub padded : List ℕ → List ℕ
padded message = message ++ drop (length message) (replicate record_length 0)

-- the record holds it, with zeros behind it
abbrev pub records_after : List (List ℕ) → List (List ℕ) → ℕ → List (List ℕ)
records_after waiting records number = cond (filed waiting number) (slice_set records number (padded (oldest waiting))) records
