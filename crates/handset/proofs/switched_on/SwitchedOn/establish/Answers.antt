use Rattle.std.proofs.Common.{length, Ok, ap, ◌∙◌}
use Rattle.requests.specs.Decisions.{establish_stop}
use Rattle.requests.specs.LettingOut.{unless_stopped}
use Rattle.requests.specs.Sending.{waiting_message, with_message}
use Rattle.requests.specs.SoundViews.{sound_view, lawful_view}
use Rattle.rules.specs.Requests.{establish_sends}
use Rattle.handset.proofs.Sent.{sent_establishing, not_stopped}
use Rattle.handset.proofs.switched_on.SwitchedOn.establish.Goals as goal

pub returns-clause-queue : goal.returns-clause-queue
returns-clause-queue g c =
    let s = sound_view c.args.self.now.state in
    let w = lawful_view c.in_ok-wanted.wanted in
    let i = c.args.identity in
    let pti = c.in_ok-pti.pti in
    let waiting = g.U.Uplink.waiting c.args.self.now.uplink in
    let told = c.in_ok-pti.ensures.answer ∙ ap (λ n. unless_stopped (establish_stop s i w n) s) c.count.ensures in
    c.send_pending.ensures.queue ∙ ap (λ x. with_message (waiting_message i x) waiting) c.in_ok-pti.ensures.state
    ∙ sent_establishing s i pti waiting w (not_stopped (establish_stop s i w (length waiting)) s pti told)
    ∙ ap (λ x. establish_sends (Ok pti) i x waiting) c.in_ok-wanted.ensures
