use Rattle.std.proofs.Common.{map, drop}
use Rattle.keeper.specs.Alike.{asked}
use Rattle.keeper.proofs.Calls.{Left}
use Rattle.keeper.proofs.alike.answer_alike.Given as goal

abbrev pub invariant-loop-call : goal.invariant-loop-call
invariant-loop-call g l =
    Left (g.A.Keeper.records l.initial.one) (g.B.Keeper.records l.initial.other) (map asked l.calls) (g.A.Keeper.records l.one) (g.B.Keeper.records l.other) (map asked (drop l.call-index l.calls)) l.same
