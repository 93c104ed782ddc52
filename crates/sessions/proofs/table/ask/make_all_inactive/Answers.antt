use Rattle.std.proofs.Common.{arith, sym, ap, ◌∙◌}
use Rattle.session.specs.Session.{session_view, with_state}
use Rattle.session.specs.declared.state.State.TheVariants.{Inactive}
use Rattle.sessions.proofs.Steps.{inactive_more}
use Rattle.sessions.proofs.table.ask.make_all_inactive.Goals as goal

pub loop-session-preserved : goal.loop-session-preserved
loop-session-preserved c =
    inactive_more c.args.sessions.now c.loop-session.sessions c.loop-session.session-index c.loop-session.invariant c.session-item.result c.deactivate.new.self
    c.loop-session-test.true (omega arith) c.session-item.is (c.deactivate.ensures ∙ ap (λ z. with_state Inactive (session_view z)) (sym c.session-item.is))
