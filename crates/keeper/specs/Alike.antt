-- Two keepers to which the same calls go.
use Rattle.std.specs.Prelude.{ℕ, Bool, true, ◌&&◌, List, [], ◌∷◌, length, replicate, Result}
use Rattle.std.specs.Str.{bytes_eq}
use Rattle.keeper.specs.declared.alike.KeeperCall.{KeeperCall}
use Rattle.keeper.specs.declared.alike.KeeperCall.TheVariants.{Write, Read}
use Rattle.keeper.specs.declared.KeeperRefusal.{KeeperRefusal}
use Rattle.keeper.specs.Records.{answered, records_after, place_after}

-- a call: to write a record, or to read one into a place of so many zeros
pub data Asked : Type 0 where
  writing : ℕ → List ℕ → Asked
  reading : ℕ → ℕ → Asked

abbrev pub asked : KeeperCall → Asked
asked (Write number content) = writing number content.now
asked (Read number len) = reading number len

-- the answer to a call
abbrev pub answered_to : Asked → Result Unit KeeperRefusal
answered_to (writing number content) = answered number (length content)
answered_to (reading number len) = answered number len

-- all records after a call
abbrev pub after : List (List ℕ) → Asked → List (List ℕ)
after records (writing number content) = records_after records number content
after records (reading number len) = records

-- the caller's place after a call
abbrev pub told_by : List (List ℕ) → Asked → List ℕ
told_by records (writing number content) = []
told_by records (reading number len) = place_after records number (replicate len 0)

-- two keepers with such records answer a call alike: an answer rests on number and length only, so it is the octets told that may differ
abbrev pub alike : List (List ℕ) → List (List ℕ) → Asked → Bool
alike one other call = bytes_eq (told_by one call) (told_by other call)

-- the same for several calls, the first one first
abbrev pub after_all : List (List ℕ) → List Asked → List (List ℕ)
after_all records [] = records
after_all records (call ∷ calls) = after_all (after records call) calls

abbrev pub all_alike : List (List ℕ) → List (List ℕ) → List Asked → Bool
all_alike one other [] = true
all_alike one other (call ∷ calls) = alike one other call && all_alike (after one call) (after other call) calls
