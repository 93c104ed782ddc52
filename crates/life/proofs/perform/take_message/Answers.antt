use Rattle.life.proofs.Places.{took_so}
use Rattle.life.proofs.perform.take_message.Goals as goal

pub returns-clause-answer : goal.returns-clause-answer
returns-clause-answer g c =
    took_so c.args.room c.min-place.result c.take_oldest-length.result (g.U.Uplink.waiting c.args.uplink.now) c.take_oldest-length.new.place
    c.min-place.ensures c.take_oldest-length.ensures.answer c.take_oldest-length.ensures.place
