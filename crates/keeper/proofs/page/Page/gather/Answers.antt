use Rattle.std.proofs.Common.{arith}
use Rattle.std.proofs.lemmas.Grind.{common_steps}
use Rattle.keeper.proofs.Kept.{gathered_entry, gathered_none}
use Rattle.keeper.proofs.page.Page.gather.Goals as goal
use Rattle.keeper.proofs.page.Page.gather.Goals.{in-Some, in_default}

pub loop-number-preserved : goal.loop-number-preserved
loop-number-preserved c =
    let from = c.args.from.now.entries.items in
    let here = c.loop-number.self.entries.items in
    let n = c.loop-number.number in
    let old = c.loop-number.invariant.gathered in
    elim c.match-find.branch [
      | in-Some w ↦ record {
        room = grind (arith, common_steps);
        gathered = rw (w.self-is, w.append.ensures) (gathered_entry from here n c.loop-number-test.true old w.in-Some.entry.now w.in-Some.ensures);
      }
      | in_default w ↦ record {
        room = grind (arith, common_steps);
        gathered = rw w.self-is (gathered_none from here n c.loop-number-test.true old w.in_default.ensures);
      }
    ]
