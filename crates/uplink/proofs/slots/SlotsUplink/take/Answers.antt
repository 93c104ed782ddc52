use Rattle.std.proofs.Common.{rules}
use Rattle.std.proofs.lemmas.List.{drop-map}
use Rattle.uplink.proofs.SlotSteps.{left_short}
use Rattle.uplink.proofs.slots.SlotsUplink.take.Goals as goal

pub invariant_of-self-clause-short : goal.invariant_of-self-clause-short
invariant_of-self-clause-short c = left_short c.args.self.now.messages _ (search (rules, drop-map)) c.args.self.now.short
