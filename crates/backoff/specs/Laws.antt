-- What holds of the timer octet, in the subject's own words.
use Rattle.std.specs.Prelude.{◌≡◌, ℕ, ◌+◌, ◌*◌, ◌/◌, ◌<◌, ◌≤◌, true, List, ◌∷◌, ◌++◌, map, replicate, Ok, Err, Result}
use Rattle.std.specs.List.{range_with_len}
use Rattle.backoff.specs.declared.octet.TimerUnit.{TimerUnit}
use Rattle.backoff.specs.declared.octet.TimerValue.{TimerValue}
use Rattle.backoff.specs.declared.octet.TimerValue.TheVariants.{Zero, Seconds, Deactivated}
use Rattle.backoff.specs.declared.octet.ShowRefusal.{ShowRefusal}
use Rattle.backoff.specs.declared.octet.ShowRefusal.TheVariants.{NoSeconds, TooLong}
use Rattle.backoff.specs.Octet.{unit_of, unit_seconds, timed, reading, rounded, shown}

-- the unit of an octet
abbrev pub unit_in : ℕ → TimerUnit
unit_in octet = unit_of (octet / 32)

-- An octet shows n seconds fairly: it reads back to a time that is not below them and is less than one unit
-- above them, and in no shorter unit would the value take five bits.
pub record Shown (n octet : ℕ) : Type 0 where
  pub time : ℕ
  pub reads : reading octet ≡ Seconds time
  pub not_below : n ≤ time
  pub near : time < n + unit_seconds (unit_in octet)
  pub shortest : (w : TimerUnit) → timed w ≡ true → unit_seconds w < unit_seconds (unit_in octet) → 31 < rounded n w

-- What showing n seconds answers: 1 to 35,712,000 seconds are shown fairly, others are refused.
abbrev pub Shows : ℕ → Result ℕ ShowRefusal → Type 0
Shows n (Ok octet) = (1 ≤ n) × (n ≤ 35712000) × Shown n octet
Shows n (Err NoSeconds) = n ≡ 0
Shows n (Err TooLong) = 35712000 < n

-- the 32 readings of a unit of time, by the value
abbrev pub row : ℕ → List TimerValue
row step = Zero ∷ map (λ v. Seconds (step * v)) (range_with_len 1 31)

-- the standard's table written out: the readings of the 256 octets in their order
abbrev pub table : List TimerValue
table = row 600 ++ (row 3600 ++ (row 36000 ++ (row 2 ++ (row 30 ++ (row 60 ++ (row 1152000 ++ replicate 32 Deactivated))))))

-- the 256 octets read to exactly what the table says
abbrev pub TableRead : Type 0
TableRead = map reading (range_with_len 0 256) ≡ table

-- worked values: A5 is 300 seconds, A0 zero, E0 deactivated; 62 seconds show 7F, 63 show 83
pub record WorkedValues : Type 0 where
  pub a5 : reading 0xA5 ≡ Seconds 300
  pub a0 : reading 0xA0 ≡ Zero
  pub e0 : reading 0xE0 ≡ Deactivated
  pub show_62 : shown 62 ≡ Ok 0x7F
  pub show_63 : shown 63 ≡ Ok 0x83
