-- What a string of octets holds.
use Rattle.std.specs.Prelude.{ℕ, List, take}
use Rattle.octet_string.specs.declared.OctetString.{OctetString}

-- its octets
abbrev pub held : {N : ℕ} → OctetString N → List ℕ
held s = take s.count s.octets
