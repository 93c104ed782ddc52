use Rattle.std.proofs.Common.{◌≡◌, ◌<◌, ◌≤◌, ◌++◌, length, arith, rules}
use Rattle.uplink.specs.Sizes.{capacity, longest_message}
use Rattle.uplink.proofs.LineSteps.{sent}
use Rattle.uplink.proofs.line.LineUplink.send.Goals as goal

pub invariant_of-self : goal.invariant_of-self
invariant_of-self c =
    let s = c.args.self.now in
    let m = c.args.message.now in
    let line = c.try_extend_from_slice-2.new.self.items in
    let room : s.count < capacity = search rules in
    let short : length m ≤ longest_message = search rules in
    let e : line ≡ (s.line.items ++ c.to_be_bytes-length.result) ++ m = search rules in
    let l = sent s.line.items s.count s.whole s.short line _ m short c.to_be_bytes-length.ensures e in
    record { few = omega arith; whole = l.1; short = l.2 }
