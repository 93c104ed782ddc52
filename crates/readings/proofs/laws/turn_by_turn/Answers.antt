use Rattle.readings.proofs.Serving.{turn_by_turn}
use Rattle.readings.proofs.laws.turn_by_turn.Goals as goal

pub returns : goal.returns
returns c = turn_by_turn
