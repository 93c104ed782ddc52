-- Two strings of octets are equal exactly where they hold the same octets.
use Rattle.std.specs.Prelude.{◌≡◌, ℕ, ◌-◌, Bool, ◌&&◌, Decides, ◌++◌, length, take, replicate, nat_eq}
use Rattle.std.proofs.Common.{sym, ap, ◌∙◌, arith}
use Rattle.std.specs.Cmp.{IsEquivalence, IsPartialEquivalence, decided as octets_decided, partial_equiv_from_equiv}
use Rattle.std.specs.Str.{bytes_eq}
use Rattle.std.proofs.lemmas.Bool.{and_parts, and_from}
use Rattle.std.proofs.lemmas.Bool.Decides.{same_from_decides, Decides-eqb}
use Rattle.std.proofs.lemmas.List.{length-take-le, take-append-drop}
use Rattle.std.proofs.lemmas.Slice.Eq.{bytes_eq-Decides}
use Rattle.octet_string.specs.declared.OctetString.{OctetString}
use Rattle.octet_string.specs.Held.{held}

module _ {N : ℕ} (x y : OctetString N) where
  -- the test of the fields
  abbrev pub same_fields : Bool
  same_fields = nat_eq x.count y.count && bytes_eq x.octets y.octets

  counted : (s : OctetString N) → length (held s) ≡ s.count
  counted s = length-take-le s.count s.octets (let a = s.short in let b = s.full in omega arith)

  filled : (s : OctetString N) → s.octets ≡ held s ++ replicate (N - s.count) 0
  filled s = sym (take-append-drop s.count s.octets) ∙ ap (λ t. held s ++ t) s.unused

  same_count : held x ≡ held y → x.count ≡ y.count
  same_count h = sym (counted x) ∙ ap length h ∙ counted y

  decided : Decides same_fields (held x ≡ held y)
  decided = (
    λ e. let both = and_parts (nat_eq x.count y.count) (bytes_eq x.octets y.octets) e in
        ap (λ n. take n x.octets) ((Decides-eqb x.count y.count).0 both.0) ∙ ap (take y.count) ((bytes_eq-Decides x.octets y.octets).0 both.1),
    λ h. let n = same_count h in
        and_from (nat_eq x.count y.count) (bytes_eq x.octets y.octets) ((Decides-eqb x.count y.count).1 n)
        ((bytes_eq-Decides x.octets y.octets).1 (filled x ∙ ap (λ t. t ++ replicate (N - x.count) 0) h ∙ ap (λ k. held y ++ replicate (N - k) 0) n ∙ sym (filled y))),
  )

  pub same_by_octets : same_fields ≡ bytes_eq (held x) (held y)
  same_by_octets = same_from_decides same_fields (bytes_eq (held x) (held y)) decided (bytes_eq-Decides (held x) (held y))

octets_equal : IsEquivalence bytes_eq
octets_equal = octets_decided bytes_eq bytes_eq-Decides

-- it is an equivalence
pub fields_equal : {N : ℕ} → IsEquivalence (same_fields {N = N})
fields_equal = record {
  refl = λ x. same_by_octets x x ∙ octets_equal.refl (held x);
  symm = λ x y. same_by_octets x y ∙ octets_equal.symm (held x) (held y) ∙ sym (same_by_octets y x);
  congr = λ x y z e.
      same_by_octets x z ∙ octets_equal.congr (held x) (held y) (held z) (sym (same_by_octets x y) ∙ e) ∙ sym (same_by_octets y z);
}

pub fields_alike : {N : ℕ} → IsPartialEquivalence (same_fields {N = N})
fields_alike = partial_equiv_from_equiv fields_equal
