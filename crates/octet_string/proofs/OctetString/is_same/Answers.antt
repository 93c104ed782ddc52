use Rattle.std.proofs.Common.{◌∙◌}
use Rattle.octet_string.specs.Same.{same_by_octets}
use Rattle.octet_string.proofs.OctetString.is_same.Goals as goal

pub returns : goal.returns
returns g c = c.eq.ensures ∙ same_by_octets c.args.self.now c.args.other.now
