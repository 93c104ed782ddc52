-- The bar that a record tells is the one that was written.
use Rattle.std.proofs.Common.{◌≡◌, ℕ, true, cond, ◌&&◌, eqb, List, [], length, get_or, take, drop, Some, None, Option, sym, ap, ◌∙◌, ⊎_elim, arith}
use Rattle.std.specs.Str.{bytes_eq}
use Rattle.std.specs.Option.{option_map}
use Rattle.std.proofs.lemmas.List.{nil_from_length}
use Rattle.std.proofs.lemmas.Option.{cond_some}
use Rattle.std.proofs.lemmas.Slice.Eq.{bytes_eq-Decides}
use Rattle.std.proofs.lemmas.Bool.{and_parts, and_from, cases_Bool, cond-true, cond-false, eqb-true}
use Rattle.bar_record.specs.declared.kept.KeptBar.{KeptBar}
use Rattle.bar_record.specs.Record.{Kept, kept_view, written, lawful}
use Rattle.bar_record.specs.Reading.{seconds_in, said_in, told}
use Rattle.bar_record.specs.Answers.{ReadExactly}
use Rattle.bar_record.proofs.Standing.{stood}
use Rattle.bar_record.proofs.Rebuilt.{whole, kind_is, slice_length_is, name_length_is, slice_short, name_is_short, network_stands, slice_stands, name_stands, seconds_fit, seconds_stand, kinds, kept_as}

module _ (v : Kept) (rec : List ℕ) (is : rec ≡ written v) (law : lawful v ≡ true) where
  long : length rec ≡ 128
  long = whole v rec is law

  network_of : (kind : ℕ) → kind ≡ v.kind → cond (eqb kind 1) [] (take 3 (drop 1 rec)) ≡ v.key.network
  network_of kind e =
      let full = long in
      ⊎_elim
      (λ h.
      let k = and_parts _ _ (kept_as v rec is law 1 h) in
      ap (λ j. cond (eqb j 1) [] (take 3 (drop 1 rec))) (e ∙ h) ∙ sym (nil_from_length v.key.network (eqb-true _ 0 k.0)))
      (⊎_elim
      (λ h.
      let k = and_parts _ _ (kept_as v rec is law 2 h) in
      ap (λ j. cond (eqb j 1) [] (take 3 (drop 1 rec))) (e ∙ h) ∙ stood rec v.key.network 1 3 (sym (eqb-true _ 3 k.0)) (omega arith) (network_stands v rec is law))
      (λ h.
      let k = and_parts _ _ (kept_as v rec is law 3 h) in
      ap (λ j. cond (eqb j 1) [] (take 3 (drop 1 rec))) (e ∙ h) ∙ stood rec v.key.network 1 3 (sym (eqb-true _ 3 k.0)) (omega arith) (network_stands v rec is law)))
      (kinds v rec is law)

  slice_of : take (get_or rec 4 0) (drop 5 rec) ≡ v.key.slice
  slice_of =
      let full = long in
      let n = slice_length_is v rec is law in
      let short = slice_short v rec is law in
      stood rec v.key.slice 5 (get_or rec 4 0) n (omega arith) (slice_stands v rec is law)

  name_of : take (get_or rec 13 0) (drop 14 rec) ≡ v.key.name
  name_of =
      let full = long in
      let n = name_length_is v rec is law in
      let short = name_is_short v rec is law in
      stood rec v.key.name 14 (get_or rec 13 0) n (omega arith) (name_stands v rec is law)

  seconds_of : seconds_in rec ≡ v.seconds
  seconds_of =
      let fits = seconds_fit v rec is law in
      let a = seconds_stand v rec is law 0 (omega arith) in
      let b = seconds_stand v rec is law 1 (omega arith) in
      let d = seconds_stand v rec is law 2 (omega arith) in
      let e = seconds_stand v rec is law 3 (omega arith) in
      omega arith

  -- the fixed places of a lawful bar's record say the bar
  pub said_back : said_in rec ≡ v
  said_back =
      let ek = kind_is v rec is law in
      let en = network_of (get_or rec 0 0) ek in
      let es = slice_of in
      let em = name_of in
      let et = seconds_of in
      λ i. record { kind = ek i; key = record { network = en i; slice = es i; name = em i }; seconds = et i }

  pub told_written : told rec ≡ Some v
  told_written =
      let back = said_back in
      let ok = and_from _ _ (ap lawful back ∙ law) ((bytes_eq-Decides rec (written (said_in rec))).1 (is ∙ ap written (sym back))) in
      cond-true _ _ _ ok ∙ ap (λ w. Some w) back

-- what is the record of no lawful bar tells none
pub told_none : (xs : List ℕ) → ((v : Kept) → lawful v ≡ true → xs ≡ written v → ⊥) → told xs ≡ None
told_none xs none =
    ⊎_elim
    (λ yes. let p = and_parts _ _ yes in absurd (none (said_in xs) p.0 ((bytes_eq-Decides xs (written (said_in xs))).0 p.1)))
    (λ no. cond-false _ _ _ no)
    (cases_Bool (lawful (said_in xs) && bytes_eq xs (written (said_in xs))))

-- a record that is read exactly if it is lawful gives what it tells
pub told_of : (xs : List ℕ) (r : Option KeptBar) → ReadExactly xs r → option_map kept_view r ≡ told xs
told_of xs (Some b) e = sym (told_written (kept_view b) xs e.1 e.0)
told_of xs None e = sym (told_none xs e)

-- what a record tells is a lawful bar whose record it is
pub told_lawful : (xs : List ℕ) (v : Kept) → told xs ≡ Some v → (lawful v ≡ true) × (xs ≡ written v)
told_lawful xs v e =
    let d = cond_some (lawful (said_in xs) && bytes_eq xs (written (said_in xs))) (said_in xs) v e in
    let p = and_parts _ _ d.0 in
    (ap lawful (sym d.1) ∙ p.0, (bytes_eq-Decides xs (written (said_in xs))).0 p.1 ∙ ap written d.1)
