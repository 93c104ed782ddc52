use Rattle.std.proofs.Common.{◌-◌, ◌∙◌, arith}
use Rattle.timers.specs.Timers.{timers_view}
use Rattle.kept_set.specs.Trailer.{trailer_number, trailer}
use Rattle.kept_set.specs.Storing.{kept_bars}
use Rattle.kept_set.proofs.Stores.{record_written, trailer_length, all_stored}
use Rattle.kept_set.proofs.store.store.Goals as goal

pub returns-clause-records : goal.returns-clause-records
returns-clause-records g c =
    let card = c.args.card.now.octets in
    let old = g.K.Keeper.records c.args.keeper.now in
    let records = g.K.Keeper.records c.store_bars-n.new.keeper in
    let e = c.store_bars-n.ensures in
    let put = record_written records trailer_number c.trailer_of.result (trailer card (trailer_number - c.store_bars-n.result)) (omega arith) c.trailer_of.ensures (trailer_length card (trailer_number - c.store_bars-n.result) c.args.card.now.full) in
    c.write.ensures.records ∙ put
    ∙ all_stored old records card (kept_bars (timers_view c.args.timers.now)) c.store_bars-n.result (trailer_number - c.store_bars-n.result) (g.met.K.Keeper.count c.args.keeper.now) e.first (omega arith) e.records
