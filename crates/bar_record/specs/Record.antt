-- The kept record of a bar.
use Rattle.std.specs.Prelude.{ℕ, ◌-◌, ◌/◌, ◌%◌, Bool, false, cond, ◌&&◌, List, map, length, ◌==◌, nat_le, nat_lt, slice_index}
use Rattle.std.specs.List.{range_with_len}
use Rattle.keys.specs.Lengths.{slice_held}
use Rattle.keys.specs.Octets.{KeyOctets}
use Rattle.keys.specs.Sames.{name_key_octets, slice_name_key_octets, slice_key_octets}
use Rattle.bar_record.specs.declared.kept.KeptKey.{KeptKey}
use Rattle.bar_record.specs.declared.kept.KeptKey.TheVariants.{T3396, T3584, T3585}
use Rattle.bar_record.specs.declared.kept.KeptBar.{KeptBar}

-- a kept bar by its octets: the number of its kind, its key, its seconds left
pub record Kept : Type 0 where
  pub kind : ℕ
  pub key : KeyOctets
  pub seconds : ℕ

-- the number of each kind
abbrev pub kind_number : KeptKey → ℕ
kind_number (T3396 k) = 1
kind_number (T3584 k) = 2
kind_number (T3585 k) = 3

abbrev pub key_octets : KeptKey → KeyOctets
key_octets (T3396 k) = name_key_octets k
key_octets (T3584 k) = slice_name_key_octets k
key_octets (T3585 k) = slice_key_octets k

abbrev pub kept_view : KeptBar → Kept
kept_view b = record { kind = kind_number b.key; key = key_octets b.key; seconds = b.seconds }

-- a number in four octets, the high one first
abbrev pub seconds_octet : ℕ → ℕ → ℕ
seconds_octet s i =
    cond (i == 0) (s / 16777216)
    (cond (i == 1) (s / 65536 % 256)
    (cond (i == 2) (s / 256 % 256)
    (s % 256)))

-- the octet of the record with a number: kind, network, slice length, slice, name length, name, seconds; zero elsewhere,
-- and where a part has no more octets
abbrev pub octet_at : Kept → ℕ → ℕ
octet_at v i =
    cond (i == 0) v.kind
    (cond (nat_lt i 4) (slice_index v.key.network (i - 1))
    (cond (i == 4) (length v.key.slice)
    (cond (nat_lt i 13) (slice_index v.key.slice (i - 5))
    (cond (i == 13) (length v.key.name)
    (cond (nat_lt i 114) (slice_index v.key.name (i - 14))
    (cond (nat_lt i 118) (seconds_octet v.seconds (i - 114))
    0))))))

-- the 128 octets of the record
abbrev pub written : Kept → List ℕ
written v = map (octet_at v) (range_with_len 0 128)

-- seconds that can be left of a running timer
abbrev pub seconds_kept : ℕ → Bool
seconds_kept s = nat_le 1 s && nat_le s 35712000

-- a key of each kind: the name; network, slice and name; network and slice
abbrev pub key_kept : ℕ → KeyOctets → Bool
key_kept kind k =
    cond (kind == 1) (length k.network == 0 && (length k.slice == 0 && nat_le (length k.name) 100))
    (cond (kind == 2) (length k.network == 3 && (slice_held (length k.slice) && nat_le (length k.name) 100))
    (cond (kind == 3) (length k.network == 3 && (slice_held (length k.slice) && length k.name == 0))
    false))

-- a kept bar that is lawful
abbrev pub lawful : Kept → Bool
lawful v = key_kept v.kind v.key && seconds_kept v.seconds
