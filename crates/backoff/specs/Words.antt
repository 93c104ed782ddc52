-- The words of a timer octet.
use Rattle.std.specs.Prelude.{ℕ, cond, List, ◌++◌, codes, decimal}
use Rattle.backoff.specs.declared.octet.TimerUnit.{TimerUnit}
use Rattle.backoff.specs.Octet.{unit_seconds, timed}

-- the value, and the seconds of its unit
abbrev pub told : TimerUnit → ℕ → List ℕ
told unit v = cond (timed unit) (decimal v ++ (codes " x " ++ (decimal (unit_seconds unit) ++ codes " s"))) (codes "deactivated")
