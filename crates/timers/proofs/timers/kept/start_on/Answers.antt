use Rattle.std.proofs.Common.{◌≡◌, length, sym, ap, ◌∙◌, arith}
use Rattle.std.proofs.lemmas.List.{length-map}
use Rattle.std.proofs.lemmas.Bool.{and_from, not_from_false, lt-ltb}
use Rattle.bars.specs.Bars.{bar_octets, shown, stands}
use Rattle.bars.specs.Sizes.{place_count}
use Rattle.timers.proofs.Room.{taken_has_place}
use Rattle.timers.proofs.timers.kept.start_on.Goals as goal

pub returns-clause-answer : goal.returns-clause-answer
returns-clause-answer g c =
    let octets = g.K.Key.octets in
    let table = c.args.table.now in
    let bs = shown octets table.places in
    let none = ap stands (sym c.timer_on.ensures) ∙ sym c.is_standing.ensures ∙ c.if-is_standing.false in
    let ok = and_from _ _ (not_from_false _ none) (lt-ltb _ place_count (omega arith)) in
    let full : length bs ≡ place_count = length-map table.places (bar_octets octets) ∙ table.full in
    c.impose.ensures.answer ∙ taken_has_place (octets c.args.key) bs full ok ∙ sym ok
