use Rattle.std.proofs.Common.{◌∙◌}
use Rattle.sessions.proofs.Steps.{pending_count}
use Rattle.sessions.proofs.table.Sessions.pending.Goals as goal

pub returns : goal.returns
returns c = c.pending_in.ensures ∙ pending_count c.args.self.now.records
