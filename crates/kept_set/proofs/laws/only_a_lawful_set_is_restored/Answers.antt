use Rattle.kept_set.proofs.Exact.{restores_exactly}
use Rattle.kept_set.proofs.laws.only_a_lawful_set_is_restored.Goals as goal

pub returns : goal.returns
returns c = restores_exactly
