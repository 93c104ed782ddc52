use Rattle.std.proofs.Common.{drop}
use Rattle.uplink.proofs.Calls.{Left}
use Rattle.uplink.proofs.alike.answer_alike.Given as goal

abbrev pub invariant-loop-call : goal.invariant-loop-call
invariant-loop-call g l =
    Left (g.A.Uplink.waiting l.initial.one) (g.B.Uplink.waiting l.initial.other) l.calls (g.A.Uplink.waiting l.one) (g.B.Uplink.waiting l.other) (drop l.call-index l.calls) l.alike
