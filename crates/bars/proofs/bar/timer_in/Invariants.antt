use Rattle.std.proofs.Common.{◌≡◌, drop}
use Rattle.bars.specs.Bars.{shown, timer_on}
use Rattle.bars.proofs.bar.timer_in.Given as goal

abbrev pub invariant-loop-bar : goal.invariant-loop-bar
invariant-loop-bar g l =
    let octets = g.K.Key.octets in
    timer_on (shown octets (drop l.bar-index l.bars)) (octets l.key) ≡ timer_on (shown octets l.bars) (octets l.key)
