-- From the octets of a lawful record back to the bar.
use Rattle.std.proofs.Common.{◌≡◌, ℕ, ◌+◌, ◌-◌, ◌^◌, ◌<◌, ◌≤◌, true, ◌⊎◌, List, [], length, get_or, Some, Option, sym, refl, ap, ◌∙◌, inl, inr, ⊎_elim, arith}
use Rattle.std.specs.Option.{option_map}
use Rattle.std.proofs.lemmas.List.FromFn.{get_or-map-range_with_len, length-map-range_with_len}
use Rattle.std.proofs.lemmas.List.{length-take-le, nil_from_length}
use Rattle.std.proofs.lemmas.Bool.{and_parts, and_from, cases_eq, eq-eqb, eqb-true, le-leb}
use Rattle.std.proofs.lemmas.Bool.Decides.{nat_tests}
use Rattle.keys.specs.Lengths.{slice_held}
use Rattle.keys.specs.Parts.{name_octets, slice_octets}
use Rattle.keys.specs.declared.name.Name.{Name}
use Rattle.keys.specs.declared.network.Network.{Network}
use Rattle.keys.specs.declared.slice.Slice.{Slice}
use Rattle.bar_record.specs.declared.kept.KeptKey.{KeptKey}
use Rattle.bar_record.specs.declared.kept.KeptKey.TheVariants.{T3396, T3584, T3585}
use Rattle.bar_record.specs.Record.{Kept, kind_number, key_octets, kept_view, seconds_octet, octet_at, written, seconds_kept, key_kept, lawful}
use Rattle.bar_record.specs.Answers.{Stands, key_made}

-- what a name holds is short
name_short : (n : Name) → length (name_octets n) ≤ 100
name_short n = let o = n.octets in let short = o.short in let full = o.full in let long = length-take-le o.count o.octets (omega arith) in omega arith

-- a key that is held is lawful
pub key_lawful : (k : KeptKey) → key_kept (kind_number k) (key_octets k) ≡ true
key_lawful (T3396 k) = le-leb (length (name_octets k.name)) 100 (name_short k.name)
key_lawful (T3584 k) =
    let three = eq-eqb (length k.network.octets) 3 k.network.full in
    let held = k.slice.lawful in
    let short = le-leb (length (name_octets k.name)) 100 (name_short k.name) in
    and_from _ _ three (and_from _ _ held short)
key_lawful (T3585 k) =
    let three = eq-eqb (length k.network.octets) 3 k.network.full in
    let held = k.slice.lawful in
    and_from _ _ three (and_from _ _ held refl)

module _ (v : Kept) (rec : List ℕ) (is : rec ≡ written v) (law : lawful v ≡ true) where
  octet : (i : ℕ) → i < 128 → get_or rec i 0 ≡ octet_at v i
  octet i h = ap (λ xs. get_or xs i 0) is ∙ get_or-map-range_with_len (octet_at v) 0 128 i i 0 h (omega arith)

  pub whole : length rec ≡ 128
  whole = ap length is ∙ length-map-range_with_len (octet_at v) 0 128

  parts : (key_kept v.kind v.key ≡ true) × (seconds_kept v.seconds ≡ true)
  parts = and_parts (key_kept v.kind v.key) (seconds_kept v.seconds) law

  pub kind_is : get_or rec 0 0 ≡ v.kind
  kind_is = octet 0 (omega arith)

  pub slice_length_is : get_or rec 4 0 ≡ length v.key.slice
  slice_length_is = octet 4 (omega arith)

  pub name_length_is : get_or rec 13 0 ≡ length v.key.name
  name_length_is = octet 13 (omega arith)

  -- the lengths of a lawful key
  pub slice_is_held : slice_held (length v.key.slice) ≡ true
  slice_is_held = let k = parts.0 in grind (arith, nat_tests)

  pub slice_short : length v.key.slice ≤ 8
  slice_short = let h = slice_is_held in grind (arith, nat_tests)

  pub name_is_short : length v.key.name ≤ 100
  name_is_short = let k = parts.0 in grind (arith, nat_tests)

  network_short : length v.key.network ≤ 3
  network_short = let k = parts.0 in grind (arith, nat_tests)

  pub network_stands : Stands rec 1 v.key.network
  network_stands j h =
      let short = network_short in
      let back : 1 + j - 1 ≡ j = omega arith in
      let tests : octet_at v (1 + j) ≡ get_or v.key.network (1 + j - 1) 0 = grind (arith, nat_tests) in
      octet (1 + j) (omega arith) ∙ tests ∙ ap (λ k. get_or v.key.network k 0) back

  pub slice_stands : Stands rec 5 v.key.slice
  slice_stands j h =
      let short = slice_short in
      let back : 5 + j - 5 ≡ j = omega arith in
      let tests : octet_at v (5 + j) ≡ get_or v.key.slice (5 + j - 5) 0 = grind (arith, nat_tests) in
      octet (5 + j) (omega arith) ∙ tests ∙ ap (λ k. get_or v.key.slice k 0) back

  pub name_stands : Stands rec 14 v.key.name
  name_stands j h =
      let short = name_is_short in
      let back : 14 + j - 14 ≡ j = omega arith in
      let tests : octet_at v (14 + j) ≡ get_or v.key.name (14 + j - 14) 0 = grind (arith, nat_tests) in
      octet (14 + j) (omega arith) ∙ tests ∙ ap (λ k. get_or v.key.name k 0) back

  pub seconds_fit : v.seconds < 2 ^ 32
  seconds_fit = let k = parts.1 in grind (arith, nat_tests)

  pub seconds_stand : (i : ℕ) → i < 4 → get_or rec (114 + i) 0 ≡ seconds_octet v.seconds i
  seconds_stand i h =
      let back : 114 + i - 114 ≡ i = omega arith in
      let tests : octet_at v (114 + i) ≡ seconds_octet v.seconds (114 + i - 114) = grind (arith, nat_tests) in
      octet (114 + i) (omega arith) ∙ tests ∙ ap (seconds_octet v.seconds) back

  -- a kept bar with these parts
  same_kept : (kind : ℕ) (network slice name : List ℕ) (seconds : ℕ) → kind ≡ v.kind → network ≡ v.key.network → slice ≡ v.key.slice → name ≡ v.key.name → seconds ≡ v.seconds
      → ◌≡◌ {A = Option Kept} (Some (record { kind = kind; key = record { network = network; slice = slice; name = name }; seconds = seconds })) (Some v)
  same_kept kind network slice name seconds ek en es em et = λ i. Some (record { kind = ek i; key = record { network = en i; slice = es i; name = em i }; seconds = et i })

  pub kinds : (v.kind ≡ 1) ⊎ ((v.kind ≡ 2) ⊎ (v.kind ≡ 3))
  kinds =
      let k = parts.0 in
      ⊎_elim (λ h. inl h)
      (λ n. ⊎_elim (λ h. inr (inl h)) (λ m. ⊎_elim (λ h. inr (inr h)) (λ o. absurd (grind (arith, nat_tests))) (cases_eq v.kind 3)) (cases_eq v.kind 2))
      (cases_eq v.kind 1)

  pub kept_as : (n : ℕ) → v.kind ≡ n → key_kept n v.key ≡ true
  kept_as n h = ap (λ j. key_kept j v.key) (sym h) ∙ parts.0

  -- the bar that is made of these parts
  module _ (kind : ℕ) (network : Network) (slice : Slice) (name : Name) (seconds : ℕ) (r : Option KeptKey) (ek : kind ≡ v.kind) (er : r ≡ key_made kind network slice name)
      (en : length v.key.network ≡ 3 → network.octets ≡ v.key.network) (es : slice_octets slice ≡ v.key.slice) (em : name_octets name ≡ v.key.name) (et : seconds ≡ v.seconds) where
    made_as : (n : ℕ) → v.kind ≡ n → r ≡ key_made n network slice name
    made_as n h = er ∙ ap (λ j. key_made j network slice name) (ek ∙ h)

    pub rebuilt : option_map (λ k. kept_view (record { key = k; seconds = seconds })) r ≡ Some v
    rebuilt =
        ⊎_elim
        (λ h.
        let k = and_parts _ _ (kept_as 1 h) in
        let l = and_parts _ _ k.1 in
        ap (option_map (λ q. kept_view (record { key = q; seconds = seconds }))) (made_as 1 h)
        ∙ same_kept 1 [] [] (name_octets name) seconds (sym h) (sym (nil_from_length v.key.network (eqb-true _ 0 k.0))) (sym (nil_from_length v.key.slice (eqb-true _ 0 l.0))) em et)
        (⊎_elim
        (λ h.
        let k = and_parts _ _ (kept_as 2 h) in
        ap (option_map (λ q. kept_view (record { key = q; seconds = seconds }))) (made_as 2 h)
        ∙ same_kept 2 network.octets (slice_octets slice) (name_octets name) seconds (sym h) (en (eqb-true _ 3 k.0)) es em et)
        (λ h.
        let k = and_parts _ _ (kept_as 3 h) in
        let l = and_parts _ _ k.1 in
        ap (option_map (λ q. kept_view (record { key = q; seconds = seconds }))) (made_as 3 h)
        ∙ same_kept 3 network.octets (slice_octets slice) [] seconds (sym h) (en (eqb-true _ 3 k.0)) es (sym (nil_from_length v.key.name (eqb-true _ 0 l.1))) et))
        kinds
