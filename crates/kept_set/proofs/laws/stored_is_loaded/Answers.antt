use Rattle.kept_set.proofs.Returns.{loads_back}
use Rattle.kept_set.proofs.laws.stored_is_loaded.Goals as goal

pub returns : goal.returns
returns c = loads_back
