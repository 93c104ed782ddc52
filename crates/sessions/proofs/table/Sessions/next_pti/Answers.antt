use Rattle.std.proofs.Common.{sym, arith}
use Rattle.sessions.specs.Table.{sessions_view}
use Rattle.sessions.specs.Ptis.{waiting_ptis}
use Rattle.sessions.proofs.Steps.{sessions_full}
use Rattle.sessions.proofs.Free.{seek_start, seek_more, seek_found, seek_end}
use Rattle.sessions.proofs.table.Sessions.next_pti.Goals as goal

pub loop-init : goal.loop-init
loop-init c = seek_start (waiting_ptis (sessions_view c.args.self.now)) c.args.last c.after-pti.result c.after-pti.ensures

pub returns-then-not-is_waiting-clause-first : goal.returns-then-not-is_waiting-clause-first
returns-then-not-is_waiting-clause-first c =
    let t = c.args.self.now in
    seek_found (sessions_view t) c.args.last c.loop.counter c.loop.pti (sessions_full t) (sym c.if-not-is_waiting.ensures) c.loop.invariant

pub loop-preserved : goal.loop-preserved
loop-preserved c =
    seek_more (waiting_ptis (sessions_view c.args.self.now)) c.args.last c.loop.counter c.loop.pti c.after-pti-in-loop.result (omega arith) (sym c.if-not-is_waiting.ensures) c.loop.invariant c.after-pti-in-loop.ensures

pub returns : goal.returns
returns c =
    let t = c.args.self.now in
    let full = sessions_full t in
    let free = seek_end (sessions_view t) c.args.last c.loop.counter c.loop.pti full (omega arith) c.loop.invariant in
    record {
      first = seek_found (sessions_view t) c.args.last c.loop.counter c.loop.pti full free c.loop.invariant;
      lawful = c.loop.invariant.0;
      free = free;
    }
