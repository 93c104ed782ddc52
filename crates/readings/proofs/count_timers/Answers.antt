use Rattle.std.proofs.Common.{ap, ◌∙◌}
use Rattle.requests.specs.Sound.{claims_fit}
use Rattle.requests.specs.SoundViews.{sound_view}
use Rattle.readings.proofs.Counting.{claims_counted}
use Rattle.readings.proofs.count_timers.Goals as goal

pub invariant_of-state : goal.invariant_of-state
invariant_of-state c =
    let state = c.args.state.now in
    let s = sound_view state in
    record {
      differ = state.differ;
      lawful = state.lawful;
      claims =
          ap (λ t. claims_fit t s.sessions) c.count.ensures
          ∙ claims_counted c.args.seconds s.timers s.sessions state.plain.timers.t3396.apart state.plain.timers.t3584.apart state.plain.timers.t3585.apart state.claims;
      few = state.few;
      sums = state.sums;
    }
