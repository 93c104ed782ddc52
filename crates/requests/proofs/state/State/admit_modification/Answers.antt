use Rattle.std.proofs.Common.{arith}
use Rattle.std.proofs.lemmas.Grind.{common_steps}
use Rattle.session.specs.Session.{session_view}
use Rattle.requests.specs.Decisions.{own_timers_stop, let_out_stop}
use Rattle.requests.specs.State.{state_view}
use Rattle.requests.proofs.Admitted.{stopped_first}
use Rattle.requests.proofs.state.State.admit_modification.Goals as goal

pub returns-in_err-admit_own_timers : goal.returns-in_err-admit_own_timers
returns-in_err-admit_own_timers c =
    let s = state_view c.args.self.now in
    let e = stopped_first (own_timers_stop s (session_view c.in_ok-session.session)) (let_out_stop s c.args.waiting) in
    grind (arith, common_steps)
