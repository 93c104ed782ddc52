use Rattle.std.proofs.Common.{length, Ok, sym, ap, ◌∙◌}
use Rattle.requests.specs.SoundViews.{sound_view}
use Rattle.rules.specs.TakingIn.{taken, replied, waiting_after_taken}
use Rattle.handset.proofs.Replied.{reply_due, reply_queued}
use Rattle.handset.proofs.switched_on.SwitchedOn.take_in.Goals as goal

pub returns-in-Some-clause-queue : goal.returns-in-Some-clause-queue
returns-in-Some-clause-queue g c =
    let state = c.args.self.now.state in
    let s = sound_view state in
    let m = c.in_ok-message.message in
    let a = c.in_ok-answer.answer in
    let reply = c.in-Some.reply in
    let waiting = g.U.Uplink.waiting c.args.self.now.uplink in
    let told = c.in_ok-answer.ensures.answer ∙ ap (λ n. taken (Ok m) s n) c.count.ensures in
    let due = reply_due s m (length waiting) a reply told c.in-Some.is in
    c.send_reply.ensures ∙ reply_queued s m reply waiting state.lawful due ∙ ap (λ o. replied o m waiting) (sym c.in-Some.is)
    ∙ ap (λ x. waiting_after_taken (Ok a) x waiting) c.in_ok-message.ensures.answer
