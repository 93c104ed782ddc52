use Rattle.ul_nas.specs.Message.{viewed}
use Rattle.ul_nas.proofs.Trips.{round_trip, reads_back}
use Rattle.ul_nas.proofs.write.write.Goals as goal

pub returns-clause-back : goal.returns-clause-back
returns-clause-back c =
    let e = c.write_message.ensures in
    reads_back (viewed c.args.message.now) c.args.out.now _ c.write_message.result e.answer e.buffer

pub returns-clause-law : goal.returns-clause-law
returns-clause-law c = round_trip
