-- What a keeper answers, and what it holds afterwards.
use Rattle.std.specs.Prelude.{ℕ, Bool, cond, ◌&&◌, List, [], length, replicate, Ok, Err, Result, ◌==◌, nat_lt, slice_index_or, slice_set}
use Rattle.keeper.specs.declared.KeeperRefusal.{KeeperRefusal}
use Rattle.keeper.specs.declared.KeeperRefusal.TheVariants.{Number, Length}
use Rattle.keeper.specs.Sizes.{record_count, record_length}

-- a number and a length for which a record is written or read
abbrev pub lawful : ℕ → ℕ → Bool
lawful number len = nat_lt number record_count && len == record_length

-- the answer: the number is looked at first, then the length
abbrev pub answered : ℕ → ℕ → Result Unit KeeperRefusal
answered number len = cond (nat_lt number record_count) (cond (len == record_length) (Ok tt) (Err Length)) (Err Number)

-- all records after a write
abbrev pub records_after : List (List ℕ) → ℕ → List ℕ → List (List ℕ)
records_after records number content = cond (lawful number (length content)) (slice_set records number content) records

-- the caller's place after a read
abbrev pub place_after : List (List ℕ) → ℕ → List ℕ → List ℕ
place_after records number place = cond (lawful number (length place)) (slice_index_or records number []) place

-- all records before the first write
abbrev pub blank_records : List (List ℕ)
blank_records = replicate record_count (replicate record_length 0)
