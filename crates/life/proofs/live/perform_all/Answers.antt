use Rattle.std.proofs.Common.{◌<◌, length, get_or, ap, ◌∙◌, arith}
use Rattle.rules.specs.declared.answer.Answer.TheVariants.{NotAvailable}
use Rattle.rules.specs.Calls.{performed}
use Rattle.life.specs.declared.call.Call.TheVariants.{SwitchOff}
use Rattle.life.specs.Said.{said, power_view}
use Rattle.life.proofs.Runs.{answers_more, handset_more}
use Rattle.life.proofs.live.perform_all.Goals as goal

pub loop-i-preserved : goal.loop-i-preserved
loop-i-preserved g c =
    let view = power_view g.U.Uplink.waiting g.K.Keeper.records in
    let h = view c.args.power in
    let script = c.args.script.now in
    let i = c.loop-i.i in
    let within : c.loop-i.i < length c.args.script.now = omega arith in
    let room : c.loop-i.i < length c.args.answers.now = omega arith in
    let told = c.perform-next.ensures.answer ∙ ap (λ x. (performed (said (get_or c.args.script.now c.loop-i.i SwitchOff)) x).answer) c.loop-i.invariant.1 in (
      answers_more h script i SwitchOff within c.args.answers.now c.loop-i.answers c.perform-next.result.1 NotAvailable room c.loop-i.invariant.0 told,
      handset_more h script i SwitchOff within (view c.loop-i.power) (view c.perform-next.result.0) c.loop-i.invariant.1 c.perform-next.ensures.after,
    )
