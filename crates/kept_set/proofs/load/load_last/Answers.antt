use Rattle.std.proofs.Common.{◌<◌, length, ap, ◌∙◌, arith}
use Rattle.std.specs.Option.{option_map}
use Rattle.bar_record.specs.Reading.{told}
use Rattle.timers.specs.Timers.{timers_view}
use Rattle.kept_set.specs.Trailer.{trailer_number}
use Rattle.kept_set.specs.Loading.{with_record}
use Rattle.kept_set.proofs.Loads.{loaded_more, loaded_not}
use Rattle.kept_set.proofs.load.load_last.Goals as goal

pub loop-number-preserved : goal.loop-number-preserved
loop-number-preserved g c =
    let records = g.K.Keeper.records c.args.keeper.now in
    let count = g.met.K.Keeper.count c.args.keeper.now in
    let long : trailer_number < length records = omega arith in
    let t = timers_view c.loop-number.timers in
    let read = c.in_ok-timers.ensures ∙ ap (λ r. with_record (told r) t) c.record_at.ensures in
    loaded_more records c.loop-number.number t long c.loop-number-test.true (timers_view c.in_ok-timers.timers) read ∙ c.loop-number.invariant

pub returns-in_err-timers : goal.returns-in_err-timers
returns-in_err-timers g c =
    let records = g.K.Keeper.records c.args.keeper.now in
    let count = g.met.K.Keeper.count c.args.keeper.now in
    let long : trailer_number < length records = omega arith in
    let t = timers_view c.loop-number.timers in
    let read = c.in_err-timers.ensures ∙ ap (λ r. with_record (told r) t) c.record_at.ensures in
    ap (option_map timers_view) c.from_residual.ensures ∙ loaded_not records c.loop-number.number t long c.loop-number-test.true read ∙ c.loop-number.invariant
