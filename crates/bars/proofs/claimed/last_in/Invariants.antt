use Rattle.std.proofs.Common.{◌≡◌, ◌+◌, ◌≤◌, map, length}
use Rattle.bars.specs.Bars.{shown}
use Rattle.bars.specs.Claimed.{claimed}
use Rattle.bars.proofs.claimed.last_in.Given as goal

abbrev pub invariant-loop-rest : goal.invariant-loop-rest
invariant-loop-rest g l =
    let octets = g.K.Key.octets in
    (l.n + length l.rest ≤ length l.bars) × (l.n + claimed (shown octets l.rest) (map octets l.keys) ≡ claimed (shown octets l.bars) (map octets l.keys))

abbrev pub decreases-loop-rest : goal.decreases-loop-rest
decreases-loop-rest g l = length l.rest
