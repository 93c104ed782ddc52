use Rattle.std.proofs.Common.{◌≡◌, length, vec_items}
use Rattle.script.specs.Hex.{octets_of}
use Rattle.script.proofs.Octets.{behind}
use Rattle.script.proofs.hex.octets.Given as goal

abbrev pub invariant-loop-rest : goal.invariant-loop-rest
invariant-loop-rest l = octets_of l.initial.rest ≡ behind (vec_items l.found) (octets_of l.rest)

abbrev pub decreases-loop-rest : goal.decreases-loop-rest
decreases-loop-rest l = length l.rest
