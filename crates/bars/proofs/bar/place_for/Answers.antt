use Rattle.std.specs.Prelude.{Some, None, refl}
use Rattle.std.proofs.Common.{sym, ◌∙◌}
use Rattle.bars.proofs.Loops.{placed}
use Rattle.bars.proofs.bar.place_for.Goals as goal

pub returns-in-Some : goal.returns-in-Some
returns-in-Some g c =
    let octets = g.K.Key.octets in
    let held = c.in-Some.place in
    placed octets (octets c.args.key.now) c.args.bars.now (Some held) (Some held) (sym c.in-Some.is ∙ c.held_place.ensures) refl

pub returns-in-None : goal.returns-in-None
returns-in-None g c =
    let octets = g.K.Key.octets in
    placed octets (octets c.args.key.now) c.args.bars.now None c.free_place.result (sym c.in-None.is ∙ c.held_place.ensures) c.free_place.ensures
