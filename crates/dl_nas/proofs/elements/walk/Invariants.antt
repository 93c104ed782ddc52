use Rattle.std.proofs.Common.{◌≡◌, ◌+◌, length}
use Rattle.dl_nas.specs.Elements.{walked, nothing}
use Rattle.dl_nas.proofs.elements.walk.Given as goal

abbrev pub invariant-loop-rest : goal.invariant-loop-rest
invariant-loop-rest l =
    (walked l.part.octets.now 0 l.part.place nothing ≡ walked l.rest 0 l.place l.found)
    × (l.place + length l.rest ≡ l.part.place + length l.part.octets.now)

abbrev pub decreases-loop-rest : goal.decreases-loop-rest
decreases-loop-rest l = length l.rest
