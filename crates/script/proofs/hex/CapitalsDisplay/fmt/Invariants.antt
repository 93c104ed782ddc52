use Rattle.std.proofs.Common.{◌≡◌, take}
use Rattle.std.specs.Fmt.{IsPlainFormatter, HasWritten}
use Rattle.script.specs.Hex.{capitals}
use Rattle.script.proofs.hex.CapitalsDisplay.fmt.Given as goal

abbrev pub invariant-loop-octet : goal.invariant-loop-octet
invariant-loop-octet g l = (l.octet-items ≡ l.self.octets.now) × (IsPlainFormatter l.initial.f → HasWritten g.W.Write.write_str_gives l.initial.f (capitals (take l.octet-index l.octet-items)) l.f)
