use Rattle.std.proofs.Common.{◌≡◌, ◌++◌, map, take, drop}
use Rattle.session.specs.Session.{with_state}
use Rattle.session.specs.declared.state.State.TheVariants.{Inactive}
use Rattle.sessions.specs.Table.{views}
use Rattle.sessions.proofs.table.ask.make_all_inactive.Given as goal

abbrev pub invariant-loop-session : goal.invariant-loop-session
invariant-loop-session l =
    views l.sessions ≡ map (with_state Inactive) (take l.session-index (views l.initial.sessions)) ++ drop l.session-index (views l.initial.sessions)
