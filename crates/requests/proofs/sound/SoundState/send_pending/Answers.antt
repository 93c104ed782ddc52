use Rattle.std.proofs.Common.{◌≡◌, ◌-◌, length, take, drop, sym, ap, arith}
use Rattle.sessions.specs.Table.{sessions_view}
use Rattle.requests.specs.Sending.{waiting_message, sends, with_message}
use Rattle.requests.specs.SoundViews.{sound_view}
use Rattle.requests.proofs.Messages.{waiting_lawful, not_written, queued}
use Rattle.requests.proofs.sound.SoundState.send_pending.Goals as goal

pub returns-in-Ok-clause-queue : goal.returns-in-Ok-clause-queue
returns-in-Ok-clause-queue g c =
    let self = c.args.self.now in
    let from_zero : c.in-Ok.n - 0 ≡ c.in-Ok.n = omega arith in
    queued (waiting_message c.args.identity (sound_view self)) c.in-Ok.n _ c.write_pending.new.out (take (c.in-Ok.n - 0) (drop 0 c.write_pending.new.out)) (g.U.Uplink.waiting c.args.uplink.now) (g.U.Uplink.waiting c.send.new.self)
    (λ m e. waiting_lawful c.args.identity (sessions_view self.plain.sessions) m self.lawful e)
    c.in-Ok.ensures.answer c.in-Ok.ensures.buffer (ap (λ k. take k c.write_pending.new.out) from_zero) c.send.ensures.queue

pub returns-in-Err : goal.returns-in-Err
returns-in-Err g c =
    let self = c.args.self.now in
    let waiting = g.U.Uplink.waiting c.args.uplink.now in
    let none = not_written (waiting_message c.args.identity (sound_view self)) c.in-Err.field-0
    (λ m e. waiting_lawful c.args.identity (sessions_view self.plain.sessions) m self.lawful e) c.in-Err.ensures.answer in
    record { answer = sym (ap (λ o. sends o (length waiting)) none); queue = sym (ap (λ o. with_message o waiting) none) }
