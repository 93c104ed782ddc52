use Rattle.std.proofs.Common.{◌≡◌, drop}
use Rattle.backoff.specs.Octet.{first_fit, ascending}
use Rattle.backoff.proofs.octet.show.Given as goal

abbrev pub invariant-loop-unit : goal.invariant-loop-unit
invariant-loop-unit l = first_fit l.seconds ascending ≡ first_fit l.seconds (drop l.unit-index ascending)
