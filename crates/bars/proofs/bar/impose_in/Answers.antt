use Rattle.bars.proofs.Loops.{put_at}
use Rattle.std.proofs.Common.{sym, ◌∙◌}
use Rattle.bars.proofs.bar.impose_in.Goals as goal

pub returns-in-Some-clause-after : goal.returns-in-Some-clause-after
returns-in-Some-clause-after g c =
    put_at g.K.Key.octets c.args.key c.args.timer c.args.bars.now c.in-Some.place (sym c.in-Some.is ∙ c.place_for.ensures)
