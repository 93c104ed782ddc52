use Rattle.std.proofs.Common.{length, ap, ◌∙◌, arith}
use Rattle.arrayvec.proofs.ArrayVecLemmas.{items-with_items}
use Rattle.keeper.specs.Records.{place_after}
use Rattle.keeper.proofs.Calls.{zeros}
use Rattle.keeper.proofs.alike.read.Goals as goal

pub returns-clause-place : goal.returns-clause-place
returns-clause-place g c =
    let empty = zeros 255 c.from.result c.args.length c.from-place.result.items c.from-place.ensures.0 c.from.ensures (omega arith) in
    items-with_items c.truncate.new.self c.read-answer.new.place (omega (arith, ap length c.deref_mut.ensures.value))
    ∙ c.read-answer.ensures.place
    ∙ ap (place_after (g.K.Keeper.records c.args.keeper.now) c.args.number) (c.deref_mut.ensures.value ∙ c.truncate.ensures.items ∙ empty)
