use Rattle.sessions.proofs.Differing.{stay_different}
use Rattle.sessions.proofs.laws.ptis_stay_different.Goals as goal

pub returns : goal.returns
returns c = stay_different
