use Rattle.std.proofs.Common.{◌∙◌, arith, rules, ltb-false, ltb-true}
use Rattle.std.proofs.lemmas.Result.{err_from_is_err_and}
use Rattle.dl_nas.proofs.Walks.{turn, stop}
use Rattle.dl_nas.proofs.elements.walk.Goals as goal

pub returns-in_err-size : goal.returns-in_err-size
returns-in_err-size c =
    let p = err_from_is_err_and c.from_residual.result c.from_residual.ensures.1 in
    let s = stop c.loop-rest.rest.now c.loop-rest.place c.loop-rest.found c.in_err-size.field-0.0 (omega (arith, ltb-true, ltb-false)) c.in_err-size.ensures in
    let i = c.loop-rest.invariant.0 in
    let q = p.1 in
    let r = p.2 in
    cc

pub loop-rest-preserved : goal.loop-rest-preserved
loop-rest-preserved c =
    let t = turn c.loop-rest.rest.now c.loop-rest.place c.in_ok-size.size c.loop-rest.found c.noted-found.result
    (omega (arith, ltb-true, ltb-false)) c.in_ok-size.ensures c.noted-found.ensures in
    (c.loop-rest.invariant.0 ∙ t, search rules)
