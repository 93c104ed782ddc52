-- A walk that skips: past whole octets it goes on, and past the end the element is cut.
use Rattle.std.proofs.Common.{◌≡◌, ℕ, zero, suc, ◌+◌, ◌-◌, ◌<◌, ◌≤◌, List, [], ◌∷◌, length, get_or, take, drop, Ok, Err, Result, sym, ap, ◌∙◌, arith}
use Rattle.std.proofs.lemmas.Slice.{first_rest}
use Rattle.std.proofs.lemmas.List.{take_rest}
use Rattle.std.specs.List.{between}
use Rattle.dl_nas.specs.declared.elements.Found.{Found}
use Rattle.dl_nas.specs.declared.elements.ElementFault.{ElementFault}
use Rattle.dl_nas.specs.declared.elements.ElementFault.TheVariants.{Cut, ReservedIdentifier, TimerLength}
use Rattle.dl_nas.specs.Elements.{walked, unless, noted, extent, Extent}

at_place : (xs : List ℕ) (k p q : ℕ) (f : Found) → p ≡ q → walked xs k p f ≡ walked xs k q f
at_place xs k p q f e = ap (λ n. walked xs k n f) e

cut_at : (p q : ℕ) → p ≡ q → ◌≡◌ {A = Result Found ElementFault} (Err (Cut p)) (Err (Cut q))
cut_at p q e = ap (λ n. Err (Cut n)) e

pub walked_skip : (xs : List ℕ) (k place : ℕ) (f : Found) → k ≤ length xs → walked xs k place f ≡ walked (drop k xs) 0 (place + k) f
walked_skip [] zero place f h = at_place [] 0 place (place + 0) f (omega arith)
walked_skip [] (suc k) place f h = absurd (omega arith)
walked_skip (x ∷ xs) zero place f h = at_place (x ∷ xs) 0 place (place + 0) f (omega arith)
walked_skip (x ∷ xs) (suc k) place f h =
    walked_skip xs k (place + 1) f (omega arith) ∙ at_place (drop k xs) 0 (place + 1 + k) (place + suc k) f (omega arith)

pub walked_cut : (xs : List ℕ) (k place : ℕ) (f : Found) → length xs < k → walked xs k place f ≡ Err (Cut (place + length xs))
walked_cut [] zero place f h = absurd (omega arith)
walked_cut [] (suc k) place f h = cut_at place (place + 0) (omega arith)
walked_cut (x ∷ xs) zero place f h = absurd (omega arith)
walked_cut (x ∷ xs) (suc k) place f h =
    walked_cut xs k (place + 1) f (omega arith) ∙ cut_at (place + 1 + length xs) (place + suc (length xs)) (omega arith)

-- one element, by what the reader of its extent answers
pub walked_more : (x place n : ℕ) (after : List ℕ) (f : Found) → Extent x place after (Ok n) → walked (x ∷ after) 0 place f ≡ walked (drop n after) 0 (place + (1 + n)) (noted f x place after)
walked_more x place n after f h =
    let W = walked after (extent x after) (place + 1) (noted f x place after) in
    ap (λ o. unless o W) h.0
    ∙ ap (λ k. walked after k (place + 1) (noted f x place after)) (sym h.1)
    ∙ walked_skip after n (place + 1) (noted f x place after) h.2
    ∙ at_place (drop n after) 0 (place + 1 + n) (place + (1 + n)) (noted f x place after) (omega arith)

pub walked_stop : (x place : ℕ) (after : List ℕ) (f : Found) (e : ElementFault) → Extent x place after (Err e) → walked (x ∷ after) 0 place f ≡ Err e
walked_stop x place after f (ReservedIdentifier p) h = ap (λ o. unless o (walked after (extent x after) (place + 1) (noted f x place after))) h
walked_stop x place after f (TimerLength p) h = ap (λ o. unless o (walked after (extent x after) (place + 1) (noted f x place after))) h
walked_stop x place after f (Cut p) h =
    let W = walked after (extent x after) (place + 1) (noted f x place after) in
    ap (λ o. unless o W) h.0
    ∙ walked_cut after (extent x after) (place + 1) (noted f x place after) h.1
    ∙ cut_at (place + 1 + length after) p (sym h.2)

-- the same at `[identifier, after @ ..]`, as the checker reads that pattern
abbrev pub tail_of : List ℕ → List ℕ
tail_of xs = between 1 (length xs) xs

pub turn : (rest : List ℕ) (place n : ℕ) (f g : Found) → 0 < length rest → Extent (get_or rest 0 0) place (tail_of rest) (Ok n)
    → g ≡ noted f (get_or rest 0 0) place (tail_of rest)
    → walked rest 0 place f ≡ walked (take (length (tail_of rest) - n) (drop n (tail_of rest))) 0 (place + (1 + n)) g
turn rest place n f g h k e =
    ap (λ xs. walked xs 0 place f) (first_rest rest 0 h)
    ∙ walked_more (get_or rest 0 0) place n (tail_of rest) f k
    ∙ ap (λ xs. walked xs 0 (place + (1 + n)) (noted f (get_or rest 0 0) place (tail_of rest))) (sym (take_rest (tail_of rest) n))
    ∙ ap (λ y. walked (take (length (tail_of rest) - n) (drop n (tail_of rest))) 0 (place + (1 + n)) y) (sym e)

pub stop : (rest : List ℕ) (place : ℕ) (f : Found) (e : ElementFault) → 0 < length rest → Extent (get_or rest 0 0) place (tail_of rest) (Err e)
    → walked rest 0 place f ≡ Err e
stop rest place f e h k =
    ap (λ xs. walked xs 0 place f) (first_rest rest 0 h) ∙ walked_stop (get_or rest 0 0) place (tail_of rest) f e k
