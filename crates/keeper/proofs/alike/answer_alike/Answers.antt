use Rattle.std.proofs.Common.{map, subst}
use Rattle.std.proofs.lemmas.List.{drop_all}
use Rattle.keeper.specs.Alike.{asked}
use Rattle.keeper.proofs.Calls.{Left, left_law}
use Rattle.keeper.proofs.alike.answer_alike.Goals as goal

pub returns-clause-law : goal.returns-clause-law
returns-clause-law g c =
    let a = g.A.Keeper.records in
    let b = g.B.Keeper.records in
    let s = c.loop-call in
    left_law _ _ _ _ _ s.same
    (subst (λ calls. Left (a c.args.one.now) (b c.args.other.now) (map asked c.args.calls.now) (a s.one) (b s.other) (map asked calls) s.same)
    (drop_all s.call-index c.args.calls.now c.loop-call-test.false) s.invariant)
