-- What the two makes hold.
use Rattle.std.specs.Prelude.{ℕ, zero, suc, ◌+◌, ◌*◌, ◌/◌, ◌%◌, List, [], ◌∷◌, length, map, take, drop, slice_index}
use Rattle.arrayvec.specs.ArrayVec.{ArrayVec}

-- what slots hold, one message each
abbrev pub shown : ArrayVec (ArrayVec ℕ) → List (List ℕ)
shown slots = map (λ message. message.items) slots.items

-- a message behind its length in two octets, the high one first
abbrev pub framed : List ℕ → List ℕ
framed m = (length m / 256) ∷ (length m % 256) ∷ m

-- the length that a line begins with
abbrev pub size : List ℕ → ℕ
size xs = 256 * slice_index xs 0 + slice_index xs 1

-- the first messages of a line
unfoldable pub parsed : List ℕ → ℕ → List (List ℕ)
parsed xs zero = []
parsed xs (suc n) = take (size xs) (drop 2 xs) ∷ parsed (drop (size xs) (drop 2 xs)) n
