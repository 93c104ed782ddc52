use Rattle.std.proofs.Common.{rules}
use Rattle.ul_nas.proofs.Exacts.{exact, read_exactly}
use Rattle.ul_nas.proofs.read.read.Goals as goal

pub returns-clause-exact : goal.returns-clause-exact
returns-clause-exact c = read_exactly c.args.octets.now c.ok_or.result (search rules)

pub returns-clause-law : goal.returns-clause-law
returns-clause-law c = exact
