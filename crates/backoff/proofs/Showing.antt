-- What showing a number of seconds answers is fair: the octet of the first unit that fits reads back to a near time,
-- and every shorter unit was tried before.
use Rattle.std.proofs.Common.{◌≡◌, ℕ, zero, suc, ◌+◌, ◌-◌, ◌*◌, ◌/◌, ◌%◌, ◌<◌, ◌≤◌, true, false, eqb, leb, List, [], ◌∷◌, Ok, Err, refl, ap, ◌∙◌, mod-lt, mul-zero, arith}
use native.Mathlib.Nat.{div-add-mod}
use Rattle.std.proofs.lemmas.Bool.{cond_both, leb-true, leb-false, eqb-true, eqb-false, false≢true}
use Rattle.std.proofs.lemmas.Bool.Decides.{nat_tests}
use Rattle.backoff.specs.declared.octet.TimerUnit.{TimerUnit}
use Rattle.backoff.specs.declared.octet.TimerUnit.TheVariants.{TenMinutes, OneHour, TenHours, TwoSeconds, ThirtySeconds, OneMinute, ThreeHundredTwentyHours, Deactivated}
use Rattle.backoff.specs.declared.octet.ShowRefusal.TheVariants.{NoSeconds}
use Rattle.backoff.specs.Octet.{unit_number, unit_of, unit_seconds, timed, octet_of, rounded, ascending, first_fit, shown}
use Rattle.backoff.specs.Laws.{unit_in, Shown, Shows}

-- a quotient rounded up, times the divisor, is the least multiple that is not below
multiple : (step n : ℕ) → 0 < step → (n ≤ step * ((n + (step - 1)) / step)) × (step * ((n + (step - 1)) / step) < n + step)
multiple step n h =
    let parts = div-add-mod (n + (step - 1)) step in
    let small = mod-lt (n + (step - 1)) h in
    (omega arith, omega arith)

positive : (step n v : ℕ) → 0 < n → n ≤ step * v → 0 < v
positive step n zero h k = let z = mul-zero step in omega arith
positive step n (suc v) h k = omega arith

-- the unit that a unit's bits name is that unit
unit_back : (u : TimerUnit) → unit_of (unit_number u) ≡ u
unit_back TenMinutes = refl
unit_back OneHour = refl
unit_back TenHours = refl
unit_back TwoSeconds = refl
unit_back ThirtySeconds = refl
unit_back OneMinute = refl
unit_back ThreeHundredTwentyHours = refl
unit_back Deactivated = refl

step_positive : (u : TimerUnit) → timed u ≡ true → 0 < unit_seconds u
step_positive TenMinutes h = omega arith
step_positive OneHour h = omega arith
step_positive TenHours h = omega arith
step_positive TwoSeconds h = omega arith
step_positive ThirtySeconds h = omega arith
step_positive OneMinute h = omega arith
step_positive ThreeHundredTwentyHours h = omega arith
step_positive Deactivated h = let z : ◌≡◌ {A = ℕ} 0 1 = cc in omega arith

-- no unit of time that is shorter than u fits n seconds
abbrev Past : ℕ → TimerUnit → Type 0
Past n u = (w : TimerUnit) → timed w ≡ true → unit_seconds w < unit_seconds u → 31 < rounded n w

fair_octet : (n : ℕ) (u : TimerUnit) (octet : ℕ) → unit_in octet ≡ u → octet % 32 ≡ rounded n u → timed u ≡ true → 0 < n → Past n u → Shown n octet
fair_octet n u octet eu ev t h past =
    let m = multiple (unit_seconds u) n (step_positive u t) in
    let some = positive (unit_seconds u) n (rounded n u) h m.0 in
    let nonzero : eqb (rounded n u) 0 ≡ false = grind (arith, nat_tests) in
    record {
      time = unit_seconds u * rounded n u;
      reads = rw (eu, ev, t, nonzero) refl;
      not_below = m.0;
      near = rw eu m.1;
      shortest = λ w tw lt. past w tw (rw eu at lt);
    }

fair : (n : ℕ) (u : TimerUnit) → timed u ≡ true → 0 < n → rounded n u ≤ 31 → Past n u → Shown n (octet_of u (rounded n u))
fair n u t h fits past =
    let high : octet_of u (rounded n u) / 32 ≡ unit_number u = omega arith in
    fair_octet n u (octet_of u (rounded n u)) (ap unit_of high ∙ unit_back u) (omega arith) t h past

-- one unit: either it fits and its octet is fair, or the units after it are tried
try_unit : (n : ℕ) (u : TimerUnit) (us : List TimerUnit) → timed u ≡ true → 0 < n → (rounded n u ≤ 31 → n ≤ 35712000) → Past n u
    → (31 < rounded n u → Shows n (first_fit n us)) → Shows n (first_fit n (u ∷ us))
try_unit n u us t h range past more =
    cond_both (leb (rounded n u) 31) (Ok (octet_of u (rounded n u))) (first_fit n us) (Shows n)
    (λ e. let fits = leb-true (rounded n u) 31 e in (h, range fits, fair n u t h fits past))
    (λ e. more (leb-false (rounded n u) 31 e))

by_unit : (P : TimerUnit → Type 0) → P TwoSeconds → P ThirtySeconds → P OneMinute → P TenMinutes → P OneHour → P TenHours → P ThreeHundredTwentyHours
    → P Deactivated → (w : TimerUnit) → P w
by_unit P a b c d e f g o TwoSeconds = a
by_unit P a b c d e f g o ThirtySeconds = b
by_unit P a b c d e f g o OneMinute = c
by_unit P a b c d e f g o TenMinutes = d
by_unit P a b c d e f g o OneHour = e
by_unit P a b c d e f g o TenHours = f
by_unit P a b c d e f g o ThreeHundredTwentyHours = g
by_unit P a b c d e f g o Deactivated = o

first_fit_fair : (n : ℕ) → 0 < n → Shows n (first_fit n ascending)
first_fit_fair n h =
    let Q : TimerUnit → TimerUnit → Type 0 = λ u w. timed w ≡ true → unit_seconds w < unit_seconds u → 31 < rounded n w in
    let out : (u : TimerUnit) → Q u Deactivated = λ u t. absurd (false≢true t) in
    try_unit n TwoSeconds (ThirtySeconds ∷ OneMinute ∷ TenMinutes ∷ OneHour ∷ TenHours ∷ ThreeHundredTwentyHours ∷ []) refl h (λ z. omega arith)
    (by_unit (Q TwoSeconds) (λ t z. omega arith) (λ t z. omega arith) (λ t z. omega arith) (λ t z. omega arith) (λ t z. omega arith) (λ t z. omega arith) (λ t z. omega arith) (out TwoSeconds)) λ a.
    try_unit n ThirtySeconds (OneMinute ∷ TenMinutes ∷ OneHour ∷ TenHours ∷ ThreeHundredTwentyHours ∷ []) refl h (λ z. omega arith)
    (by_unit (Q ThirtySeconds) (λ t z. a) (λ t z. omega arith) (λ t z. omega arith) (λ t z. omega arith) (λ t z. omega arith) (λ t z. omega arith) (λ t z. omega arith) (out ThirtySeconds)) λ b.
    try_unit n OneMinute (TenMinutes ∷ OneHour ∷ TenHours ∷ ThreeHundredTwentyHours ∷ []) refl h (λ z. omega arith)
    (by_unit (Q OneMinute) (λ t z. a) (λ t z. b) (λ t z. omega arith) (λ t z. omega arith) (λ t z. omega arith) (λ t z. omega arith) (λ t z. omega arith) (out OneMinute)) λ c.
    try_unit n TenMinutes (OneHour ∷ TenHours ∷ ThreeHundredTwentyHours ∷ []) refl h (λ z. omega arith)
    (by_unit (Q TenMinutes) (λ t z. a) (λ t z. b) (λ t z. c) (λ t z. omega arith) (λ t z. omega arith) (λ t z. omega arith) (λ t z. omega arith) (out TenMinutes)) λ d.
    try_unit n OneHour (TenHours ∷ ThreeHundredTwentyHours ∷ []) refl h (λ z. omega arith)
    (by_unit (Q OneHour) (λ t z. a) (λ t z. b) (λ t z. c) (λ t z. d) (λ t z. omega arith) (λ t z. omega arith) (λ t z. omega arith) (out OneHour)) λ e.
    try_unit n TenHours (ThreeHundredTwentyHours ∷ []) refl h (λ z. omega arith)
    (by_unit (Q TenHours) (λ t z. a) (λ t z. b) (λ t z. c) (λ t z. d) (λ t z. e) (λ t z. omega arith) (λ t z. omega arith) (out TenHours)) λ f.
    try_unit n ThreeHundredTwentyHours [] refl h (λ z. omega arith)
    (by_unit (Q ThreeHundredTwentyHours) (λ t z. a) (λ t z. b) (λ t z. c) (λ t z. d) (λ t z. e) (λ t z. f) (λ t z. omega arith) (out ThreeHundredTwentyHours)) λ g.
    omega arith

pub shown_fairly : (n : ℕ) → Shows n (shown n)
shown_fairly n =
    cond_both (eqb n 0) (Err NoSeconds) (first_fit n ascending) (Shows n) (λ e. eqb-true n 0 e)
    (λ e. let ne = eqb-false n 0 e in first_fit_fair n (omega arith))
