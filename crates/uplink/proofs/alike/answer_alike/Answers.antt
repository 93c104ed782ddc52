use Rattle.std.proofs.Common.{◌≡◌, ◌+◌, ◌↔◌, true, drop, subst, rules}
use Rattle.std.proofs.lemmas.List.{drop_more}
use Rattle.uplink.proofs.Calls.{Left, left_more, left_law}
use Rattle.uplink.proofs.alike.answer_alike.Goals as goal

pub loop-call-preserved : goal.loop-call-preserved
loop-call-preserved g c =
    let a = g.A.Uplink.waiting in
    let b = g.B.Uplink.waiting in
    let s = c.loop-call in
    let calls = c.args.calls.now in
    let same : (c.eq-same.result ≡ true) ↔ (c.answer.result ≡ c.answer-in-loop-call.result) = search rules in
    let l = subst (λ cs. Left (a c.args.one.now) (b c.args.other.now) calls (a s.one) (b s.other) cs s.alike) (drop_more calls s.call-index _ c.loop-call-test.true) s.invariant in
    left_more _ _ _ _ _ _ _ _ (drop (s.call-index + 1) calls) s.alike c.eq-same.result _ _ l
    c.answer.ensures.queue c.answer-in-loop-call.ensures.queue c.answer.ensures.answer c.answer-in-loop-call.ensures.answer same

pub returns-clause-answer : goal.returns-clause-answer
returns-clause-answer g c = left_law _ _ _ _ _ _ c.loop-call.alike c.loop-call.invariant
