use Rattle.sessions.specs.Table.{sessions_view}
use Rattle.sessions.specs.Ptis.{waiting_ptis}
use Rattle.sessions.proofs.Free.{Seeking}
use Rattle.sessions.proofs.table.Sessions.next_pti.Given as goal

abbrev pub invariant-loop : goal.invariant-loop
invariant-loop l = Seeking (waiting_ptis (sessions_view l.self)) l.last l.counter l.pti
