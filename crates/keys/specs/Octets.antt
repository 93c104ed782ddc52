-- A key by its octets, the same form for every kind: a part that the kind's key lacks, and an absent part, has none.
use Rattle.std.specs.Prelude.{ℕ, Bool, List}
use Rattle.std.specs.Str.{bytes_eq}
use Rattle.keys.specs.Same.{by, both}

pub record KeyOctets : Type 0 where
  pub network : List ℕ
  pub slice : List ℕ
  pub name : List ℕ

-- two names are the same when their octets are
abbrev pub same_name_octets : List ℕ → List ℕ → Bool
same_name_octets = bytes_eq

-- two keys are the same when each part is
abbrev pub same_key : KeyOctets → KeyOctets → Bool
same_key = both (by (λ k. k.network) bytes_eq) (both (by (λ k. k.slice) bytes_eq) (by (λ k. k.name) same_name_octets))
