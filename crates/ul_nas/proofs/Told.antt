-- What octets say, where the tests of a layer are known.
use Rattle.std.proofs.Common.{◌≡◌, ℕ, Bool, true, false, List, get_or, drop, Some, None, Option, sym, ap, ◌∙◌}
use Rattle.std.specs.Option.{option_map}
use Rattle.std.specs.Bool.{then_some}
use Rattle.std.proofs.lemmas.Bool.{cond-true, cond-false}
use Rattle.ul_nas.specs.declared.message.RequestType.{RequestType}
use Rattle.ul_nas.specs.declared.message.UplinkMessage.{UplinkMessage}
use Rattle.ul_nas.specs.Message.{Carried, message, viewed}
use Rattle.ul_nas.specs.Lawful.{lawful}
use Rattle.ul_nas.specs.Reading.{elements_of, type_octet_of, establishing, establishment_of, carried_of, judged, opening, told}

pub established : (i : ℕ) (ys zs : List ℕ) (t : RequestType) (r : Option Carried)
    → establishing i ys ≡ true → zs ≡ drop 5 ys → Some t ≡ type_octet_of (get_or ys 4 0) → r ≡ elements_of (Some t) zs → r ≡ establishment_of i ys
established i ys zs t r fits tail type_is e =
    e ∙ ap (λ o. elements_of o zs) type_is ∙ ap (λ l. elements_of (type_octet_of (get_or ys 4 0)) l) tail ∙ sym (cond-true (establishing i ys) _ _ fits)

pub opened : (xs ys : List ℕ) (o : Option Carried) → opening xs ≡ true → ys ≡ drop 10 xs
    → o ≡ carried_of (get_or xs 7 0) (get_or xs 9 0) (get_or xs 5 0) ys → judged (get_or xs 7 0) (get_or xs 8 0) o ≡ told xs
opened xs ys o fits tail e =
    ap (λ q. judged (get_or xs 7 0) (get_or xs 8 0) q) (e ∙ ap (λ l. carried_of (get_or xs 7 0) (get_or xs 9 0) (get_or xs 5 0) l) tail)
    ∙ sym (cond-true (opening xs) _ _ fits)

module _ (xs ys : List ℕ) (c : Carried) (fits : opening xs ≡ true) (tail : ys ≡ drop 10 xs)
    (e : Some c ≡ carried_of (get_or xs 7 0) (get_or xs 9 0) (get_or xs 5 0) ys) where
  pub unlawful : lawful (message (get_or xs 7 0) (get_or xs 8 0) c) ≡ false → None ≡ told xs
  unlawful h = sym (cond-false (lawful (message (get_or xs 7 0) (get_or xs 8 0) c)) _ _ h) ∙ opened xs ys (Some c) fits tail e

  pub accepted : lawful (message (get_or xs 7 0) (get_or xs 8 0) c) ≡ true → Some (message (get_or xs 7 0) (get_or xs 8 0) c) ≡ told xs
  accepted h = sym (cond-true (lawful (message (get_or xs 7 0) (get_or xs 8 0) c)) _ _ h) ∙ opened xs ys (Some c) fits tail e

  -- what is told of a lawful message, and of no other
  pub told_if_lawful : (m : UplinkMessage) (b : Bool) (r : Option UplinkMessage) → viewed m ≡ message (get_or xs 7 0) (get_or xs 8 0) c
      → b ≡ lawful (viewed m) → r ≡ then_some b m → option_map viewed r ≡ told xs
  told_if_lawful m true r same law is =
      ap (option_map viewed) is ∙ ap (λ v. Some v) same ∙ accepted (sym (law ∙ ap lawful same))
  told_if_lawful m false r same law is =
      ap (option_map viewed) is ∙ unlawful (sym (law ∙ ap lawful same))
