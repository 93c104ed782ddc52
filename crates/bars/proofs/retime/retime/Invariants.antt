use Rattle.std.proofs.Common.{◌≡◌, ◌++◌, map, take, drop}
use Rattle.std.specs.Fn.{FnReturnsAt}
use Rattle.backoff.specs.declared.timer.BackOffTimer.{BackOffTimer}
use Rattle.bars.specs.Bars.{retimed}
use Rattle.bars.specs.declared.bar.Bar.{Bar}
use Rattle.bars.proofs.retime.retime.Given as goal

abbrev pub invariant-loop-bar : goal.invariant-loop-bar
invariant-loop-bar g l =
    (f : g.row.K.Denot → BackOffTimer → BackOffTimer) → ((b : Bar g.row.K.Denot) (t : BackOffTimer) → FnReturnsAt g.F.Fn l.rule b t → t ≡ f b.key b.timer)
    → l.bars ≡ map (retimed f) (take l.bar-index l.initial.bars) ++ drop l.bar-index l.initial.bars
