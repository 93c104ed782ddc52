use Rattle.std.proofs.Common.{refl, rules}
use Rattle.std.proofs.lemmas.List.{take_rest}
use Rattle.ul_nas.proofs.Told.{told_if_lawful}
use Rattle.ul_nas.proofs.read.read_message.Goals as goal

pub returns : goal.returns
returns c =
    told_if_lawful c.args.octets.now _ _ (search rules) (take_rest c.args.octets.now 10) c.in_ok-content.ensures
    _ c.is_lawful.result c.then_some.result refl c.is_lawful.ensures c.then_some.ensures
