use Rattle.ul_nas.proofs.Longest.{longest}
use Rattle.ul_nas.proofs.laws.longest_encoding.Goals as goal

pub returns-clause-law : goal.returns-clause-law
returns-clause-law c = longest
