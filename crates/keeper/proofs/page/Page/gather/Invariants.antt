use Rattle.std.proofs.Common.{◌≤◌}
use Rattle.arrayvec.specs.ArrayVec.{array_vec_len}
use Rattle.keeper.specs.Layout.{latest}
use Rattle.keeper.proofs.Kept.{Gathered}
use Rattle.keeper.proofs.page.Page.gather.Given as goal

abbrev pub invariant-loop-number : goal.invariant-loop-number
invariant-loop-number l = record {
  room : array_vec_len l.self.entries ≤ l.number;
  gathered : Gathered (latest l.from.entries.items) (latest l.self.entries.items) l.number;
}
