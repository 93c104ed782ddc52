-- The laws of sameness, from those of the parts.
use Rattle.std.specs.Prelude.{◌≡◌, Bool, true, false, ◌&&◌, refl}
use Rattle.std.proofs.Common.{sym, ap, ◌∙◌}
use Rattle.std.specs.Str.{bytes_eq}
use Rattle.std.proofs.lemmas.Slice.Eq.{bytes_eq-Decides}
use Rattle.std.proofs.lemmas.Bool.{and_parts, and_from}
use Rattle.octet_string.specs.Same.{same_fields, same_by_octets}
use Rattle.keys.specs.Same.{Laws, by, both}
use Rattle.keys.specs.Octets.{same_key}
use Rattle.keys.specs.Parts.{name_octets, slice_octets}
use Rattle.keys.specs.Sames.{same_name, same_slice, same_network, same_name_key, same_slice_name_key, same_slice_key, name_key_octets, slice_name_key_octets, slice_key_octets}
use Rattle.keys.specs.declared.name.Name.{Name}
use Rattle.keys.specs.declared.slice.Slice.{Slice}
use Rattle.keys.specs.declared.network.Network.{Network}
use Rattle.keys.specs.declared.key.NameKey.{NameKey}
use Rattle.keys.specs.declared.key.SliceNameKey.{SliceNameKey}
use Rattle.keys.specs.declared.key.SliceKey.{SliceKey}

octets_lawful : Laws bytes_eq
octets_lawful = record {
  reflexive = λ x. (bytes_eq-Decides x x).1 refl;
  symmetric = λ x y h. (bytes_eq-Decides y x).1 (sym ((bytes_eq-Decides x y).0 h));
  transitive = λ x y z h k. (bytes_eq-Decides x z).1 ((bytes_eq-Decides x y).0 h ∙ (bytes_eq-Decides y z).0 k);
}

by_lawful : {A B : Type 0} (part : A → B) {same : B → B → Bool} → Laws same → Laws (by part same)
by_lawful part laws = record {
  reflexive = λ x. laws.reflexive (part x);
  symmetric = λ x y. laws.symmetric (part x) (part y);
  transitive = λ x y z. laws.transitive (part x) (part y) (part z);
}

both_lawful : {A : Type 0} {p q : A → A → Bool} → Laws p → Laws q → Laws (both p q)
both_lawful {p = p} {q = q} l m = record {
  reflexive = λ x. and_from (p x x) (q x x) (l.reflexive x) (m.reflexive x);
  symmetric = λ x y h. let hs = and_parts (p x y) (q x y) h in and_from (p y x) (q y x) (l.symmetric x y hs.0) (m.symmetric x y hs.1);
  transitive = λ x y z h k.
      let hs = and_parts (p x y) (q x y) h in
      let ks = and_parts (p y z) (q y z) k in
      and_from (p x z) (q x z) (l.transitive x y z hs.0 ks.0) (m.transitive x y z hs.1 ks.1);
}

name_lawful : Laws same_name
name_lawful = by_lawful name_octets octets_lawful

slice_lawful : Laws same_slice
slice_lawful = by_lawful slice_octets octets_lawful

network_lawful : Laws same_network
network_lawful = by_lawful (λ n. n.octets) octets_lawful

pub name_key_lawful : Laws same_name_key
name_key_lawful = by_lawful (λ k. k.name) name_lawful

pub slice_key_lawful : Laws same_slice_key
slice_key_lawful = both_lawful (by_lawful (λ k. k.network) network_lawful) (by_lawful (λ k. k.slice) slice_lawful)

pub slice_name_key_lawful : Laws same_slice_name_key
slice_name_key_lawful =
    both_lawful (by_lawful (λ k. k.network) network_lawful) (both_lawful (by_lawful (λ k. k.slice) slice_lawful) (by_lawful (λ k. k.name) name_lawful))

-- sameness of keys by their octets
pub key_lawful : Laws same_key
key_lawful = both_lawful (by_lawful (λ k. k.network) octets_lawful) (both_lawful (by_lawful (λ k. k.slice) octets_lawful) (by_lawful (λ k. k.name) octets_lawful))

laws_as : {K : Type 0} {same other : K → K → Bool} → ((x y : K) → same x y ≡ other x y) → Laws other → Laws same
laws_as e laws = record {
  reflexive = λ x. e x x ∙ laws.reflexive x;
  symmetric = λ x y h. e y x ∙ laws.symmetric x y (sym (e x y) ∙ h);
  transitive = λ x y z h k. e x z ∙ laws.transitive x y z (sym (e x y) ∙ h) (sym (e y z) ∙ k);
}

and_true : (b : Bool) → (b && true) ≡ b
and_true true = refl
and_true false = refl

-- what `==` tests of a name, of a slice and of each kind of key, field by field; of a network it is sameness
abbrev pub equal_names : Name → Name → Bool
equal_names x y = same_fields x.octets y.octets

abbrev pub equal_slices : Slice → Slice → Bool
equal_slices x y = same_fields x.octets y.octets

abbrev pub equal_name_keys : NameKey → NameKey → Bool
equal_name_keys = by (λ k. k.name) equal_names

abbrev pub equal_slice_name_keys : SliceNameKey → SliceNameKey → Bool
equal_slice_name_keys = both (by (λ k. k.network) same_network) (both (by (λ k. k.slice) equal_slices) (by (λ k. k.name) equal_names))

abbrev pub equal_slice_keys : SliceKey → SliceKey → Bool
equal_slice_keys = both (by (λ k. k.network) same_network) (by (λ k. k.slice) equal_slices)

-- it says whether the octets are the same
pub name_equal : (x y : Name) → equal_names x y ≡ same_name x y
name_equal x y = same_by_octets x.octets y.octets

pub slice_equal : (x y : Slice) → equal_slices x y ≡ same_slice x y
slice_equal x y = same_by_octets x.octets y.octets

-- the laws of `==` on names, slices and networks are those of sameness
pub names_lawful : Laws equal_names
names_lawful = laws_as name_equal name_lawful

pub slices_lawful : Laws equal_slices
slices_lawful = laws_as slice_equal slice_lawful

pub networks_lawful : Laws same_network
networks_lawful = network_lawful

-- two networks are equal where their octets are the same
pub network_equal : (x y : Network) → same_network x y ≡ bytes_eq x.octets y.octets
network_equal x y = refl

name_key_equal : (x y : NameKey) → equal_name_keys x y ≡ same_name_key x y
name_key_equal x y = name_equal x.name y.name

slice_name_key_equal : (x y : SliceNameKey) → equal_slice_name_keys x y ≡ same_slice_name_key x y
slice_name_key_equal x y =
    ap (λ b. same_network x.network y.network && (b && equal_names x.name y.name)) (slice_equal x.slice y.slice)
    ∙ ap (λ b. same_network x.network y.network && (same_slice x.slice y.slice && b)) (name_equal x.name y.name)

slice_key_equal : (x y : SliceKey) → equal_slice_keys x y ≡ same_slice_key x y
slice_key_equal x y = ap (λ b. same_network x.network y.network && b) (slice_equal x.slice y.slice)

pub name_key_spelled : (x y : NameKey) → equal_name_keys x y ≡ same_key (name_key_octets x) (name_key_octets y)
name_key_spelled = name_key_equal

pub slice_name_key_spelled : (x y : SliceNameKey) → equal_slice_name_keys x y ≡ same_key (slice_name_key_octets x) (slice_name_key_octets y)
slice_name_key_spelled = slice_name_key_equal

pub slice_key_spelled : (x y : SliceKey) → equal_slice_keys x y ≡ same_key (slice_key_octets x) (slice_key_octets y)
slice_key_spelled x y = slice_key_equal x y ∙ ap (λ b. same_network x.network y.network && b) (sym (and_true (same_slice x.slice y.slice)))

-- and its laws are those of sameness
pub name_keys_lawful : Laws equal_name_keys
name_keys_lawful = laws_as name_key_equal name_key_lawful

pub slice_name_keys_lawful : Laws equal_slice_name_keys
slice_name_keys_lawful = laws_as slice_name_key_equal slice_name_key_lawful

pub slice_keys_lawful : Laws equal_slice_keys
slice_keys_lawful = laws_as slice_key_equal slice_key_lawful
