-- Sameness of a name, a slice, a network, and of the three kinds of key.
use Rattle.std.specs.Prelude.{Bool, []}
use Rattle.std.specs.Str.{bytes_eq}
use Rattle.keys.specs.Same.{by, both}
use Rattle.keys.specs.Octets.{KeyOctets, same_name_octets}
use Rattle.keys.specs.Parts.{name_octets, slice_octets}
use Rattle.keys.specs.declared.name.Name.{Name}
use Rattle.keys.specs.declared.slice.Slice.{Slice}
use Rattle.keys.specs.declared.network.Network.{Network}
use Rattle.keys.specs.declared.key.NameKey.{NameKey}
use Rattle.keys.specs.declared.key.SliceNameKey.{SliceNameKey}
use Rattle.keys.specs.declared.key.SliceKey.{SliceKey}

abbrev pub same_name : Name → Name → Bool
same_name = by name_octets same_name_octets

abbrev pub same_slice : Slice → Slice → Bool
same_slice = by slice_octets bytes_eq

abbrev pub same_network : Network → Network → Bool
same_network = by (λ n. n.octets) bytes_eq

-- the octets of each kind of key
abbrev pub name_key_octets : NameKey → KeyOctets
name_key_octets k = record { network = []; slice = []; name = name_octets k.name }

abbrev pub slice_name_key_octets : SliceNameKey → KeyOctets
slice_name_key_octets k = record { network = k.network.octets; slice = slice_octets k.slice; name = name_octets k.name }

abbrev pub slice_key_octets : SliceKey → KeyOctets
slice_key_octets k = record { network = k.network.octets; slice = slice_octets k.slice; name = [] }

-- two keys of a kind are the same when their parts are
abbrev pub same_name_key : NameKey → NameKey → Bool
same_name_key = by (λ k. k.name) same_name

abbrev pub same_slice_name_key : SliceNameKey → SliceNameKey → Bool
same_slice_name_key = both (by (λ k. k.network) same_network) (both (by (λ k. k.slice) same_slice) (by (λ k. k.name) same_name))

abbrev pub same_slice_key : SliceKey → SliceKey → Bool
same_slice_key = both (by (λ k. k.network) same_network) (by (λ k. k.slice) same_slice)
