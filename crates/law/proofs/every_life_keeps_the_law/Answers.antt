use Rattle.law.proofs.Lives.{every_life}
use Rattle.law.proofs.every_life_keeps_the_law.Goals as goal

pub returns : goal.returns
returns c = every_life
