use Rattle.session.proofs.Lines.{one_case}
use Rattle.session.proofs.laws.one_case_applies.Goals as goal

pub returns : goal.returns
returns c = one_case
