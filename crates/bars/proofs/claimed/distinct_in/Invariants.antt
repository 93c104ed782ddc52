use Rattle.std.proofs.Common.{◌≡◌, ◌+◌, ◌≤◌, map, length}
use Rattle.bars.specs.Claimed.{distinct}
use Rattle.bars.proofs.claimed.distinct_in.Given as goal

abbrev pub invariant-loop-rest : goal.invariant-loop-rest
invariant-loop-rest g l =
    let octets = g.K.Key.octets in
    (l.n + length l.rest ≤ length l.keys) × (l.n + distinct (map octets l.rest) ≡ distinct (map octets l.keys))

abbrev pub decreases-loop-rest : goal.decreases-loop-rest
decreases-loop-rest g l = length l.rest
