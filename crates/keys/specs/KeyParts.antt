-- The parts of the three keys, and the keys made of them, by their octets.
use Rattle.std.specs.Prelude.{[]}
use Rattle.keys.specs.Octets.{KeyOctets}
use Rattle.keys.specs.Parts.{name_octets, slice_octets}
use Rattle.keys.specs.declared.parts.KeyParts.{KeyParts}

-- network, slice and name together are the T3584 key
abbrev pub parts_view : KeyParts → KeyOctets
parts_view p = record { network = p.network.octets; slice = slice_octets p.slice; name = name_octets p.name }

-- the T3396 key: the name
abbrev pub name_key : KeyOctets → KeyOctets
name_key k = record { network = []; slice = []; name = k.name }

-- the T3584 key: network, slice and name
abbrev pub slice_name_key : KeyOctets → KeyOctets
slice_name_key k = record { network = k.network; slice = k.slice; name = k.name }

-- the T3585 key: network and slice
abbrev pub slice_key : KeyOctets → KeyOctets
slice_key k = record { network = k.network; slice = k.slice; name = [] }
