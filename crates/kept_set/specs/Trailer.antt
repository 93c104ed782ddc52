-- The trailer, the last record, points back to the records of the kept bars.
use Rattle.std.specs.Prelude.{ℕ, ◌-◌, List, [], ◌∷◌, ◌++◌, take, drop, replicate, slice_index, slice_index_or}

-- the number of the trailer; the records below it may hold kept bars
abbrev pub trailer_number : ℕ
trailer_number = 96

-- the card in octets 0 to 7, the number of the kept bars in octet 8, zeros
abbrev pub trailer : List ℕ → ℕ → List ℕ
trailer card n = card ++ n ∷ replicate 119 0

-- the card and the number of the kept bars, as the trailer has them
abbrev pub trailer_card : List (List ℕ) → List ℕ
trailer_card records = take 8 (slice_index_or records trailer_number [])

abbrev pub trailer_count : List (List ℕ) → ℕ
trailer_count records = slice_index (slice_index_or records trailer_number []) 8

-- the last n records before the trailer
abbrev pub last_records : ℕ → List (List ℕ) → List (List ℕ)
last_records n records = take n (drop (trailer_number - n) records)
