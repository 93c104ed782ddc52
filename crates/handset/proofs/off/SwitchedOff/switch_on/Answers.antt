use Rattle.std.proofs.Common.{◌≡◌, ℕ, ap, ◌∙◌, arith}
use Rattle.requests.specs.Sound.{all_lawful, claims_fit}
use Rattle.sessions.specs.Laws.{all_differ}
use Rattle.sessions.specs.Ptis.{waiting_ptis, pending}
use Rattle.sessions.specs.Table.{sessions_view}
use Rattle.timers.specs.Timers.{timers_view}
use Rattle.handset.proofs.Fresh.{fresh_claims}
use Rattle.handset.proofs.off.SwitchedOff.switch_on.Goals as goal

pub invariant_of-state : goal.invariant_of-state
invariant_of-state g c =
    let sessions = c.new.ensures in
    let tally = c.default.ensures in
    let none : ◌≡◌ {A = ℕ} (pending (sessions_view c.new.result)) 0 = ap pending sessions in
    record {
      differ = ap (λ x. all_differ (waiting_ptis x)) sessions;
      lawful = ap all_lawful sessions;
      claims = ap (claims_fit (timers_view c.restore-timers.result)) sessions ∙ fresh_claims c.restore-timers.result;
      few = omega arith;
      sums = omega arith;
    }
