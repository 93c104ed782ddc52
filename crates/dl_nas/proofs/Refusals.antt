-- The law of the walk's refusals: behind whole elements the first octet at fault decides.
use Rattle.std.proofs.Common.{◌≡◌, ℕ, suc, ◌+◌, ◌<◌, List, [], ◌∷◌, ◌++◌, length, get_or, Some, None, sym, refl, ap, ◌∙◌, arith}
use Rattle.std.proofs.lemmas.List.{append_assoc, get_or_append_left, length-append, drop_at}
use Rattle.std.proofs.lemmas.Bool.Decides.{nat_tests}
use Rattle.dl_nas.specs.declared.elements.Found.{Found}
use Rattle.dl_nas.specs.declared.elements.ElementFault.TheVariants.{Cut, ReservedIdentifier, TimerLength}
use Rattle.dl_nas.specs.Elements.{extent, fault_at, noted, nothing, walked}
use Rattle.dl_nas.specs.Format.{Item, identifier, behind, AllLawful, octets_of}
use Rattle.dl_nas.specs.Laws.{WalkRefusesFirstFault}
use Rattle.dl_nas.proofs.Walks.{walked_more, walked_stop}
use Rattle.dl_nas.proofs.Items.{whole, extent_in}

-- whole elements are passed
past : (es : List Item) (ys : List ℕ) (place : ℕ) (f : Found) → AllLawful es
    → (g : Found) × (walked (octets_of es ++ ys) 0 place f ≡ walked ys 0 (place + length (octets_of es)) g)
past [] ys place f w = (f, ap (λ p. walked ys 0 p f) none)
  where
    none : place ≡ place + 0
    none = omega arith
past (e ∷ es) ys place f w =
    let x = identifier e in
    let body = behind e in
    let rest = octets_of es ++ ys in
    let next = place + (1 + length body) in
    let s = whole e w.0 in
    let r = past es ys next (noted f x place (body ++ rest)) w.1 in
    let end : next + length (octets_of es) ≡ place + suc (length (body ++ octets_of es)) = omega (arith, length-append body (octets_of es)) in (
      r.0,
      ap (λ l. walked (x ∷ l) 0 place f) (append_assoc body (octets_of es) ys)
          ∙ walked_more x place (length body) (body ++ rest) f (extent_in x place body rest s.0 s.1)
          ∙ ap (λ l. walked l 0 next (noted f x place (body ++ rest))) (drop_at body rest (length body) refl)
          ∙ r.1
          ∙ ap (λ p. walked ys 0 p r.0) end,
    )

-- the front of an element that is not whole
cut_in : (x place : ℕ) (zs ws : List ℕ) → fault_at x 0 (zs ++ ws) ≡ None → length (zs ++ ws) ≡ extent x (zs ++ ws) → 0 < length ws
    → (fault_at x place zs ≡ None) × (length zs < extent x zs)
cut_in x place zs ws right size more =
    let l = length-append zs ws in
    let a : 0 < length zs → get_or (zs ++ ws) 0 0 ≡ get_or zs 0 0 = get_or_append_left zs ws 0 0 in
    let b : 1 < length zs → get_or (zs ++ ws) 1 0 ≡ get_or zs 1 0 = get_or_append_left zs ws 0 1 in
    (grind (arith, nat_tests), grind (arith, nat_tests))

pub walk_refuses_first_fault : WalkRefusesFirstFault
walk_refuses_first_fault es place w = record {
  reserved = λ x ys h.
      let r = past es (x ∷ ys) place nothing w in
      let p = place + length (octets_of es) in
      r.1 ∙ walked_stop x p ys r.0 (ReservedIdentifier p) (reserved_here x p ys h);
  timer = λ n ys h.
      let r = past es (0x37 ∷ (n ∷ ys)) place nothing w in
      let p = place + length (octets_of es) in
      r.1 ∙ walked_stop 0x37 p (n ∷ ys) r.0 (TimerLength (p + 1)) (timer_here n p ys h);
  cut = λ e zs ws l b more.
      let r = past es (identifier e ∷ zs) place nothing w in
      let p = place + length (octets_of es) in
      let s = whole e l in
      let c = cut_in (identifier e) p zs ws (ap (λ q. fault_at (identifier e) 0 q) (sym b) ∙ s.0) (ap (λ q. length q) (sym b) ∙ s.1 ∙ ap (λ q. extent (identifier e) q) b) more in
      r.1 ∙ walked_stop (identifier e) p zs r.0 (Cut (p + 1 + length zs)) (c.0, c.1, refl);
}
  where
    reserved_here : (x p : ℕ) (ys : List ℕ) → x < 0x10 → fault_at x p ys ≡ Some (ReservedIdentifier p)
    reserved_here x p ys h = grind (arith, nat_tests)

    timer_here : (n p : ℕ) (ys : List ℕ) → (n ≡ 1 → ⊥) → fault_at 0x37 p (n ∷ ys) ≡ Some (TimerLength (p + 1))
    timer_here n p ys h = grind (arith, nat_tests)
