use Rattle.std.proofs.Common.{◌∙◌}
use Rattle.sessions.proofs.Steps.{waiting_any}
use Rattle.sessions.proofs.table.Sessions.is_waiting.Goals as goal

pub returns : goal.returns
returns c = c.is_waiting_in.ensures ∙ waiting_any c.args.pti c.args.self.now.records
