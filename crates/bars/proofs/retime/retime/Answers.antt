use Rattle.std.proofs.Common.{refl, arith}
use Rattle.bars.proofs.Loops.{retimed_more, retimed_all}
use Rattle.bars.proofs.retime.retime.Goals as goal

pub loop-bar-preserved : goal.loop-bar-preserved
loop-bar-preserved g c f e =
    retimed_more {K = g.row.K.Denot} f c.args.bars.now c.loop-bar.bars c.loop-bar.bar-index (c.loop-bar.invariant f e) c.bar-item.result c.rule-bar.result (omega arith) c.bar-item.is
    (e _ _ (record { shown = _; shows = refl; says = record { met = c.rule-bar.ensures } }))

pub returns : goal.returns
returns g c f e = retimed_all {K = g.row.K.Denot} f c.args.bars.now c.loop-bar.bars c.loop-bar.bar-index (c.loop-bar.invariant f e) (omega arith)
