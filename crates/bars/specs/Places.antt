-- A place that was looked for in a row.
use Rattle.std.specs.Prelude.{ℕ, Bool, cond, not, nat_lt, Some, None, Option}
use Rattle.bars.specs.declared.bar.Bar.{Bar}
use Rattle.bars.specs.Bars.{stands}

-- the bar does not stand, so that its place is free
abbrev pub vacant : {K : Type 0} → Bar K → Bool
vacant b = not (stands b.timer)

-- the place with a number, where the row is longer
abbrev pub found : ℕ → ℕ → Option ℕ
found place long = cond (nat_lt place long) (Some place) None
