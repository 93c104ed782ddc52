use Rattle.std.proofs.Common.{arith}
use Rattle.std.proofs.lemmas.Grind.{common_steps}
use Rattle.requests.specs.Decisions.{keys_stop, let_out_stop}
use Rattle.requests.specs.State.{state_view}
use Rattle.requests.specs.Wanted.{wanted_view}
use Rattle.requests.proofs.Admitted.{stopped_first, admitted_first}
use Rattle.requests.proofs.state.State.admit_establishment.Goals as goal

pub returns-in_err-admit_keys : goal.returns-in_err-admit_keys
returns-in_err-admit_keys c =
    let s = state_view c.args.self.now in
    let e = stopped_first (keys_stop s (wanted_view c.args.wanted.now)) (let_out_stop s c.args.waiting) in
    grind (arith, common_steps)

pub returns : goal.returns
returns c =
    let s = state_view c.args.self.now in
    let e = admitted_first (keys_stop s (wanted_view c.args.wanted.now)) (let_out_stop s c.args.waiting) in
    grind (arith, common_steps)
