-- Decimal numbers below 2^32.
use Rattle.std.specs.Prelude.{ℕ, ◌+◌, ◌-◌, ◌*◌, ◌^◌, Bool, true, cond, ◌&&◌, List, [], ◌∷◌, length, Some, None, Option, ◌==◌, nat_le, nat_lt}

-- a decimal digit
abbrev pub is_digit : ℕ → Bool
is_digit c = nat_le 48 c && nat_le c 57

-- every character of a word is a decimal digit
abbrev pub digits_only : List ℕ → Bool
digits_only [] = true
digits_only (c ∷ cs) = is_digit c && digits_only cs

-- the number that digits spell behind a number already read
abbrev pub spelled_behind : ℕ → List ℕ → ℕ
spelled_behind n [] = n
spelled_behind n (c ∷ cs) = spelled_behind (n * 10 + (c - 48)) cs

-- the same, where all characters are digits and the number is below 2^32
abbrev pub fitting_behind : ℕ → List ℕ → Option ℕ
fitting_behind n cs = cond (digits_only cs && nat_lt (spelled_behind n cs) (2 ^ 32)) (Some (spelled_behind n cs)) None

-- the number of a word: at least one digit, nothing but digits, and below 2^32
abbrev pub numeral : List ℕ → Option ℕ
numeral word = cond (length word == 0) None (fitting_behind 0 word)

-- a number with one more digit behind it, where that is one and the number stays below 2^32
abbrev pub extended : ℕ → ℕ → Option ℕ
extended n c = cond (is_digit c && nat_lt (n * 10 + (c - 48)) (2 ^ 32)) (Some (n * 10 + (c - 48))) None
