-- The timer octet of TS 24.008 clause 10.5.7.4a: the high three bits are the unit, the low five bits are the value.
use Rattle.std.specs.Prelude.{ℕ, ◌+◌, ◌-◌, ◌*◌, ◌/◌, ◌%◌, Bool, true, false, cond, List, [], ◌∷◌, Ok, Err, Result, ◌==◌, nat_le}
use Rattle.backoff.specs.declared.octet.TimerUnit.{TimerUnit}
use Rattle.backoff.specs.declared.octet.TimerUnit.TheVariants.{TenMinutes, OneHour, TenHours, TwoSeconds, ThirtySeconds, OneMinute, ThreeHundredTwentyHours, Deactivated}
use Rattle.backoff.specs.declared.octet.TimerValue.{TimerValue}
use Rattle.backoff.specs.declared.octet.TimerValue.TheVariants as value
use Rattle.backoff.specs.declared.octet.ShowRefusal.{ShowRefusal}
use Rattle.backoff.specs.declared.octet.ShowRefusal.TheVariants.{NoSeconds, TooLong}

-- the three bits of each unit
abbrev pub unit_number : TimerUnit → ℕ
unit_number TenMinutes = 0
unit_number OneHour = 1
unit_number TenHours = 2
unit_number TwoSeconds = 3
unit_number ThirtySeconds = 4
unit_number OneMinute = 5
unit_number ThreeHundredTwentyHours = 6
unit_number Deactivated = 7

-- the unit that three bits name
abbrev pub unit_of : ℕ → TimerUnit
unit_of n =
    cond (n == 0) TenMinutes
    (cond (n == 1) OneHour
    (cond (n == 2) TenHours
    (cond (n == 3) TwoSeconds
    (cond (n == 4) ThirtySeconds
    (cond (n == 5) OneMinute
    (cond (n == 6) ThreeHundredTwentyHours
    Deactivated))))))

-- the seconds of one step of each unit; deactivated is no unit of time
abbrev pub unit_seconds : TimerUnit → ℕ
unit_seconds TenMinutes = 600
unit_seconds OneHour = 3600
unit_seconds TenHours = 36000
unit_seconds TwoSeconds = 2
unit_seconds ThirtySeconds = 30
unit_seconds OneMinute = 60
unit_seconds ThreeHundredTwentyHours = 1152000
unit_seconds Deactivated = 0

-- the seven units of time
abbrev pub timed : TimerUnit → Bool
timed TenMinutes = true
timed OneHour = true
timed TenHours = true
timed TwoSeconds = true
timed ThirtySeconds = true
timed OneMinute = true
timed ThreeHundredTwentyHours = true
timed Deactivated = false

-- what a unit and a value say together: value 0 is zero in every unit of time
abbrev pub reading_of : TimerUnit → ℕ → TimerValue
reading_of unit v = cond (timed unit) (cond (v == 0) value.Zero (value.Seconds (unit_seconds unit * v))) value.Deactivated

-- what an octet says
abbrev pub reading : ℕ → TimerValue
reading octet = reading_of (unit_of (octet / 32)) (octet % 32)

-- the octet of a unit and a value
abbrev pub octet_of : TimerUnit → ℕ → ℕ
octet_of unit v = 32 * unit_number unit + v

-- the value that shows a number of seconds in a unit: rounded up
abbrev pub rounded : ℕ → TimerUnit → ℕ
rounded n unit = (n + (unit_seconds unit - 1)) / unit_seconds unit

-- the units of time, from the shortest to the longest
abbrev pub ascending : List TimerUnit
ascending = TwoSeconds ∷ ThirtySeconds ∷ OneMinute ∷ TenMinutes ∷ OneHour ∷ TenHours ∷ ThreeHundredTwentyHours ∷ []

-- the octet in the first of some units in which the value takes five bits
abbrev pub first_fit : ℕ → List TimerUnit → Result ℕ ShowRefusal
first_fit n [] = Err TooLong
first_fit n (unit ∷ units) = cond (nat_le (rounded n unit) 31) (Ok (octet_of unit (rounded n unit))) (first_fit n units)

-- the octet that shows a number of seconds: in the shortest unit whose value takes five bits
abbrev pub shown : ℕ → Result ℕ ShowRefusal
shown n = cond (n == 0) (Err NoSeconds) (first_fit n ascending)
