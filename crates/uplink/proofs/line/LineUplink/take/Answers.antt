use Rattle.std.proofs.Common.{◌≡◌, ◌+◌, ◌<◌, drop, length, arith, rules}
use Rattle.uplink.specs.Makes.{parsed}
use Rattle.uplink.specs.Waiting.{oldest}
use Rattle.uplink.proofs.LineSteps.{taken}
use Rattle.uplink.proofs.line.LineUplink.take.Goals as goal

pub invariant_of-self : goal.invariant_of-self
invariant_of-self c =
    let s = c.args.self.now in
    let line = c.drop-drain.new.self.0.items in
    let some : 0 < s.count = search rules in
    let e : line ≡ drop (2 + length (oldest (parsed s.line.items s.count))) s.line.items = search rules in
    let l = taken s.line.items s.count s.whole s.short some line e in
    record { few = omega arith; whole = l.1; short = l.2 }
