use Rattle.dl_nas.proofs.Messages.{accepts_format}
use Rattle.dl_nas.proofs.message.read.Goals as goal

pub returns-clause-format : goal.returns-clause-format
returns-clause-format c = accepts_format c.args.message.now c.read_layers.result c.read_layers.ensures
