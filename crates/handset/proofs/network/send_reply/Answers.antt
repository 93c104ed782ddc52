use Rattle.std.proofs.Common.{◌≡◌, ◌-◌, take, drop, replicate, ap, arith}
use Rattle.handset.proofs.Replied.{reply_sent}
use Rattle.handset.proofs.network.send_reply.Goals as goal

pub returns-in-Ok : goal.returns-in-Ok
returns-in-Ok g c =
    let from_zero : c.in-Ok.n - 0 ≡ c.in-Ok.n = omega arith in
    reply_sent c.args.reply c.args.identity c.args.pti c.in-Ok.n (replicate 128 0) c.write_reply.new.out (take (c.in-Ok.n - 0) (drop 0 c.write_reply.new.out))
    (g.U.Uplink.waiting c.args.uplink.now) (g.U.Uplink.waiting c.send.new.self)
    c.in-Ok.ensures.answer c.in-Ok.ensures.buffer (ap (λ k. take k c.write_reply.new.out) from_zero) c.send.ensures.queue
