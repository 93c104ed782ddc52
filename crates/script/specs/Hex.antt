-- Octets in hexadecimal.
use Rattle.std.specs.List.{flat_map}
use Rattle.std.specs.Prelude.{ℕ, ◌+◌, ◌-◌, ◌*◌, ◌/◌, ◌%◌, cond, ◌&&◌, List, [], ◌∷◌, length, Some, None, Option, ◌==◌, nat_le, nat_lt, slice_index}

-- the value of a digit: 0 to 9, A to F or a to f
abbrev pub digit_of : ℕ → Option ℕ
digit_of c =
    cond (nat_le 48 c && nat_le c 57) (Some (c - 48))
    (cond (nat_le 65 c && nat_le c 70) (Some (c - 65 + 10))
    (cond (nat_le 97 c && nat_le c 102) (Some (c - 97 + 10)) None))

-- two digits together, the high one first
abbrev pub joined : Option ℕ → Option ℕ → Option ℕ
joined None low = None
joined (Some h) None = None
joined (Some h) (Some l) = Some (16 * h + l)

abbrev pub octet_of : ℕ → ℕ → Option ℕ
octet_of high low = joined (digit_of high) (digit_of low)

-- an octet in front of others, where all are octets
abbrev pub before : Option ℕ → Option (List ℕ) → Option (List ℕ)
before None rest = None
before (Some o) None = None
before (Some o) (Some os) = Some (o ∷ os)

-- the octets of a word: two digits each, and none left over
abbrev pub octets_of : List ℕ → Option (List ℕ)
octets_of [] = Some []
octets_of (high ∷ []) = None
octets_of (high ∷ (low ∷ rest)) = before (octet_of high low) (octets_of rest)

-- the octet of a word of two digits
abbrev pub lone_octet : List ℕ → Option ℕ
lone_octet word = cond (length word == 2) (octet_of (slice_index word 0) (slice_index word 1)) None

-- the capital digit of a value below 16
abbrev pub capital : ℕ → ℕ
capital d = cond (nat_lt d 10) (48 + d) (55 + d)

-- an octet as it is written: two capital digits
abbrev pub capital_pair : ℕ → List ℕ
capital_pair o = capital (o / 16) ∷ (capital (o % 16) ∷ [])

-- octets as they are written
abbrev pub capitals : List ℕ → List ℕ
capitals os = flat_map capital_pair os
