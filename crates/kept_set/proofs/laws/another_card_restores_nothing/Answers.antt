use Rattle.kept_set.proofs.Returns.{another_card}
use Rattle.kept_set.proofs.laws.another_card_restores_nothing.Goals as goal

pub returns : goal.returns
returns c = another_card
