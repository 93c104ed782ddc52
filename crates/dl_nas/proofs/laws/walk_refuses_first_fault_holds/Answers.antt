use Rattle.dl_nas.proofs.Refusals.{walk_refuses_first_fault}
use Rattle.dl_nas.proofs.laws.walk_refuses_first_fault_holds.Goals as goal

pub returns : goal.returns
returns c = walk_refuses_first_fault
