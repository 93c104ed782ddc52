use Rattle.std.proofs.Common.{◌≡◌, ◌≤◌, map, length, None, sym, ap, ◌∙◌, arith}
use Rattle.std.proofs.lemmas.List.{length-map}
use Rattle.law.proofs.Lives.{every_life}
use Rattle.rules.specs.Calls.{Handset}
use Rattle.rules.specs.Power.{commissioned}
use Rattle.life.specs.Lives.{goes_on, filled}
use Rattle.life.specs.Said.{said}
use Rattle.life.proofs.live.live.Goals as goal

pub returns : goal.returns
returns g c =
    let script = map said c.args.script.now in
    let n = length-map c.args.script.now said in
    let before = c.args.answers.now in
    let waiting = g.U.Uplink.waiting c.args.uplink in
    let records = g.K.Keeper.records c.args.keeper in
    let uplink = ap g.U.Uplink.waiting c.commission.ensures.uplink in
    let start : ◌≡◌ {A = Handset} (record { state = None; waiting = g.U.Uplink.waiting c.commission.result.uplink; records = g.K.Keeper.records c.commission.result.keeper }) (record { state = None; waiting = waiting; records = commissioned records }) = ap (λ w. record { state = None; waiting = w; records = g.K.Keeper.records c.commission.result.keeper }) uplink ∙ ap (λ r. record { state = None; waiting = waiting; records = r }) c.commission.ensures.records in
    record {
      enough = (let room : length (map said c.args.script.now) ≤ length c.args.answers.now = omega arith in room);
      answers = c.perform_all.ensures.answers ∙ ap (λ h. filled (goes_on h script).replies (length c.args.script.now) before) start ∙ ap (λ k. filled (goes_on (record { state = None; waiting = waiting; records = commissioned records }) script).replies k before) (sym n);
      handset_is = c.perform_all.ensures.handset ∙ ap (λ h. (goes_on h script).handset) start;
      law = every_life script waiting records (g.met.U.Uplink.few c.args.uplink) (g.met.K.Keeper.count c.args.keeper);
    }
