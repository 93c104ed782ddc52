use Rattle.std.proofs.Common.{◌≡◌, ◌-◌, length, ap, ◌∙◌}
use Rattle.requests.specs.SoundViews.{sound_view}
use Rattle.rules.specs.Reading.{expired}
use Rattle.readings.specs.Turns.{timers_counted}
use Rattle.readings.proofs.read_clock.Goals as goal

pub returns-clause-answer : goal.returns-clause-answer
returns-clause-answer g c =
    let s = sound_view c.args.state.now in
    let w = g.U.Uplink.waiting c.args.uplink.now in
    let seconds : c.saturating_sub-seconds.result ≡ c.args.reading - s.reading = c.saturating_sub-seconds.ensures in
    let middle = c.count_timers.ensures ∙ ap (λ n. timers_counted n c.args.reading s) seconds in
    c.serve_all.ensures.answer ∙ ap (λ x. expired c.saturating_sub-seconds.result x.sessions (length w)) middle ∙ ap (λ n. expired n s.sessions (length w)) seconds
