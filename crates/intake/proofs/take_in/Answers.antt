use Rattle.std.proofs.Common.{◌≡◌, ◌+◌, Some, sym, ap, ◌∙◌, arith}
use Rattle.requests.specs.Sound.{all_lawful, claims_fit}
use Rattle.requests.specs.SoundViews.{sound_view}
use Rattle.rules.specs.TakingIn.{tally_with}
use Rattle.session.specs.Session.{session_view}
use Rattle.session.specs.Timers.{timer_rule}
use Rattle.session.specs.Transitions.{taken_in, outcome_of}
use Rattle.sessions.specs.Laws.{all_differ}
use Rattle.sessions.specs.Ptis.{waiting_ptis, pending}
use Rattle.sessions.specs.Table.{session_of, changed}
use Rattle.session.specs.Session.{session_parts}
use Rattle.timers.specs.Timers.{timers_view, ruled}
use Rattle.requests.proofs.Thinning.{differ_thinner, lawful_thinner}
use Rattle.requests.proofs.Holding.{ended_in}
use Rattle.intake.proofs.Kept.{out_with, thinner, claims_taken, sums_taken}
use Rattle.intake.proofs.take_in.Goals as goal

pub invariant_of-state : goal.invariant_of-state
invariant_of-state c =
    let state = c.args.state.now in
    let s = sound_view state in
    let m = c.args.message.now in
    let i = m.identity in
    let v = session_view c.in-Some.session in
    let is : session_of i s.sessions ≡ Some v = sym c.in-Some.ensures in
    let answer = c.answer_on-answer.ensures in
    let sessions = c.take_in.ensures.after in
    let timers : timers_view c.apply.new.self ≡ ruled (timer_rule v.request_type m (outcome_of v m).took_effect) (session_parts v) s.timers =
    c.apply.ensures ∙ ap (λ a. ruled a.rule (session_parts v) s.timers) answer in
    let tally : c.tally_with-state.result ≡ tally_with (outcome_of v m).ended s.tally = c.tally_with-state.ensures ∙ ap (λ a. tally_with a.ended s.tally) answer in
    let out : c.tally_with-state.result.let_out ≡ s.tally.let_out = ap (λ x. x.let_out) tally ∙ out_with (outcome_of v m).ended s.tally in
    let few = state.few in
    record {
      differ = ap (λ x. all_differ (waiting_ptis x)) sessions ∙ differ_thinner i s.sessions v (λ x. taken_in x m) is (thinner v m) state.differ;
      lawful = ap all_lawful sessions ∙ lawful_thinner i s.sessions v (λ x. taken_in x m) is (thinner v m) state.lawful;
      claims =
          ap (claims_fit (timers_view c.apply.new.self)) sessions ∙ ap (λ t. claims_fit t (changed i (λ x. taken_in x m) s.sessions)) timers
          ∙ claims_taken i s.sessions v m s.timers is (record { t3396 = state.plain.timers.t3396.apart; t3584 = state.plain.timers.t3584.apart; t3585 = state.plain.timers.t3585.apart }) state.claims;
      few = omega arith;
      sums =
          ap (λ x. x.let_out) tally ∙ sums_taken i s.sessions v m s.tally is state.sums
          ∙ ap (λ x. ended_in x + pending (changed i (λ y. taken_in y m) s.sessions)) (sym tally)
          ∙ ap (λ y. ended_in c.tally_with-state.result + pending y) (sym sessions);
    }
