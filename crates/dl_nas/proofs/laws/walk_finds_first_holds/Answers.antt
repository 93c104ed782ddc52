use Rattle.dl_nas.proofs.Items.{walk_finds_first}
use Rattle.dl_nas.proofs.laws.walk_finds_first_holds.Goals as goal

pub returns : goal.returns
returns c = walk_finds_first
