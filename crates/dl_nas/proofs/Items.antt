-- The law of the walk: it accepts exactly the sequences of whole elements, and finds the first of each.
use Rattle.std.proofs.Common.{◌≡◌, ℕ, zero, suc, ◌+◌, ◌*◌, ◌<◌, ◌≤◌, Bool, true, false, cond, eqb, ltb, leb, List, [], ◌∷◌, ◌++◌, length, get_or, take, drop, is_some, Some, None, Ok, Err, Option, Result, sym, refl, ap, ◌∙◌, ⊎_elim, arith}
use Rattle.std.proofs.lemmas.List.{get_or_append_left, length-append, length-drop, length-take-le, take-append-drop, drop_at, drop-drop}
use Rattle.std.proofs.lemmas.Bool.Decides.{nat_tests}
use Rattle.std.proofs.lemmas.Bool.{true≢false, eqb-true, leb-true, leb-false, ltb-false, cases_Bool, cases_lt, cond-true, cond-false}
use Rattle.dl_nas.specs.declared.elements.Seen.{Seen}
use Rattle.dl_nas.specs.declared.elements.Found.{Found}
use Rattle.dl_nas.specs.declared.elements.ElementFault.{ElementFault}
use Rattle.dl_nas.specs.declared.elements.ElementFault.TheVariants.{Cut}
use Rattle.dl_nas.specs.Elements.{extent, fault_at, first_of, noted, nothing, unless, walked, Extent}
use Rattle.dl_nas.specs.Format.{Item, single, pair, long, short, identifier, behind, value, paired, Lawful, AllLawful, octets_of}
use Rattle.dl_nas.specs.Laws.{first_seen, firsts, WalkFindsFirst}
use Rattle.dl_nas.proofs.Walks.{walked_more, walked_skip, walked_cut}

-- a refusal is no answer, and an answer is one
pub err_ok : {T E : Type 0} (e : E) (x : T) → ◌≡◌ {A = Result T E} (Err e) (Ok x) → ⊥
err_ok e x h = cc

pub ok_same : {T E : Type 0} (x y : T) → ◌≡◌ {A = Result T E} (Ok x) (Ok y) → x ≡ y
ok_same x y h = cc

-- ---- whole elements are accepted
pub whole : (e : Item) → Lawful e → (fault_at (identifier e) 0 (behind e) ≡ None) × (length (behind e) ≡ extent (identifier e) (behind e))
whole (single x) h = (grind (arith, nat_tests), grind (arith, nat_tests))
whole (pair x v) h = (grind (arith, nat_tests), grind (arith, nat_tests))
whole (long x a b c) h = (grind (arith, nat_tests), grind (arith, nat_tests))
whole (short x c) h = (grind (arith, nat_tests), grind (arith, nat_tests))

-- what an element says of itself does not depend on what follows it
pub extent_in : (x place : ℕ) (body rest : List ℕ) → fault_at x 0 body ≡ None → length body ≡ extent x body → Extent x place (body ++ rest) (Ok (length body))
extent_in x place body rest right size =
    let l = length-append body rest in
    let a : 0 < length body → get_or (body ++ rest) 0 0 ≡ get_or body 0 0 = get_or_append_left body rest 0 0 in
    let b : 1 < length body → get_or (body ++ rest) 1 0 ≡ get_or body 1 0 = get_or_append_left body rest 0 1 in
    (grind (arith, nat_tests), grind (arith, nat_tests), omega arith)

value_37 : (e : Item) (rest : List ℕ) → Lawful e → identifier e ≡ 0x37 → get_or (behind e ++ rest) 1 0 ≡ value e
value_37 (single x) rest h i = absurd (omega arith)
value_37 (pair x v) rest h i = absurd (grind (arith, nat_tests))
value_37 (long x a b c) rest h i = absurd (omega arith)
value_37 (short x c) rest h i = get_or_append_left c rest 0 0 (omega (arith, h.3 i))

value_pair : (e : Item) (id : ℕ) (rest : List ℕ) → Lawful e → paired id ≡ true → identifier e ≡ id → get_or (behind e ++ rest) 0 0 ≡ value e
value_pair (single x) id rest h p i = absurd (grind (arith, nat_tests))
value_pair (pair x v) id rest h p i = refl
value_pair (long x a b c) id rest h p i = absurd (grind (arith, nat_tests))
value_pair (short x c) id rest h p i = absurd (true≢false (sym p ∙ ap (λ n. paired n) (sym i) ∙ h.2))

abbrev or_else : Option Seen → Option Seen → Option Seen
or_else None o = o
or_else (Some s) o = Some s

or_else_none : (o : Option Seen) → or_else o None ≡ o
or_else_none None = refl
or_else_none (Some s) = refl

-- what was noted of one element, before the rest
or_else_first : (x id : ℕ) (o : Option Seen) (place m n : ℕ) (r : Option Seen) → (x ≡ id → m ≡ n)
    → or_else (first_of (eqb x id) o (record { octet = m; place = place })) r ≡ or_else o (cond (eqb x id) (Some (record { octet = n; place = place })) r)
or_else_first x id o place m n r e = by (eqb x id) o (λ h. e (eqb-true x id h))
  where
    by : (here : Bool) (o : Option Seen) → (here ≡ true → m ≡ n)
        → or_else (first_of here o (record { octet = m; place = place })) r ≡ or_else o (cond here (Some (record { octet = n; place = place })) r)
    by true None f = ap (λ k. Some (record { octet = k; place = place })) (f refl)
    by false None f = refl
    by true (Some q) f = refl
    by false (Some q) f = refl

finds : (es : List Item) (place : ℕ) (f : Found) → AllLawful es
    → walked (octets_of es) 0 place f ≡ Ok (record { timer = or_else f.timer (first_seen 0x37 es place); cause = or_else f.cause (first_seen 0x58 es place); identity = or_else f.identity (first_seen 0x12 es place) })
finds [] place f w =
    let all : Option Seen → Option Seen → Option Seen → Result Found ElementFault = λ p q r. Ok (record { timer = p; cause = q; identity = r }) in
    sym (ap (λ o. all o (or_else f.cause None) (or_else f.identity None)) (or_else_none f.timer)
    ∙ ap (λ o. all f.timer o (or_else f.identity None)) (or_else_none f.cause)
    ∙ ap (λ o. all f.timer f.cause o) (or_else_none f.identity))
finds (e ∷ es) place f w =
    let x = identifier e in
    let body = behind e in
    let rest = octets_of es in
    let next = place + (1 + length body) in
    let g = noted f x place (body ++ rest) in
    let s = whole e w.0 in
    let t = or_else_first x 0x37 f.timer place (get_or (body ++ rest) 1 0) (value e) (first_seen 0x37 es next) (value_37 e rest w.0) in
    let c = or_else_first x 0x58 f.cause place (get_or (body ++ rest) 0 0) (value e) (first_seen 0x58 es next) (value_pair e 0x58 rest w.0 refl) in
    let i = or_else_first x 0x12 f.identity place (get_or (body ++ rest) 0 0) (value e) (first_seen 0x12 es next) (value_pair e 0x12 rest w.0 refl) in
    let all : Option Seen → Option Seen → Option Seen → Result Found ElementFault = λ p q r. Ok (record { timer = p; cause = q; identity = r }) in
    walked_more x place (length body) (body ++ rest) f (extent_in x place body rest s.0 s.1)
    ∙ ap (λ l. walked l 0 next g) (drop_at body rest (length body) refl)
    ∙ finds es next g w.1
    ∙ ap (λ o. all o (or_else g.cause (first_seen 0x58 es next)) (or_else g.identity (first_seen 0x12 es next))) t
    ∙ ap (λ o. all (or_else f.timer (first_seen 0x37 (e ∷ es) place)) o (or_else g.identity (first_seen 0x12 es next))) c
    ∙ ap (λ o. all (or_else f.timer (first_seen 0x37 (e ∷ es) place)) (or_else f.cause (first_seen 0x58 (e ∷ es) place)) o) i

pub walk_finds : (es : List Item) (place : ℕ) → AllLawful es → walked (octets_of es) 0 place nothing ≡ Ok (firsts es place)
walk_finds es place w = finds es place nothing w

-- ---- what is accepted are whole elements
unless_ok : (o : Option ElementFault) (r : Result Found ElementFault) (g : Found) → unless o r ≡ Ok g → (o ≡ None) × (r ≡ Ok g)
unless_ok None r g h = (refl, h)
unless_ok (Some e) r g h = absurd (err_ok e g h)

none_cond : {A : Type 0} (b : Bool) (a : A) (o : Option A) → cond b (Some a) o ≡ None → (b ≡ false) × (o ≡ None)
none_cond true a o h = absurd (true≢false (ap (λ p. is_some p) h))
none_cond false a o h = (refl, h)

accepted : (x place : ℕ) (xs : List ℕ) (f g : Found) → walked (x ∷ xs) 0 place f ≡ Ok g
    → (fault_at x place xs ≡ None) × (extent x xs ≤ length xs)
    × (walked (drop (extent x xs) xs) 0 (place + 1 + extent x xs) (noted f x place xs) ≡ Ok g)
accepted x place xs f g w =
    let n = extent x xs in
    let u = unless_ok (fault_at x place xs) (walked xs n (place + 1) (noted f x place xs)) g w in
    ⊎_elim
    (λ l. absurd (err_ok (Cut (place + 1 + length xs)) g (sym (walked_cut xs n (place + 1) (noted f x place xs) l) ∙ u.1)))
    (λ l. (u.0, l, sym (walked_skip xs n (place + 1) (noted f x place xs) l) ∙ u.1))
    (cases_lt (length xs) n)

abbrev Begins : ℕ → List ℕ → Type 0
Begins x xs = (e : Item) × Lawful e × (x ≡ identifier e) × (xs ≡ behind e ++ drop (extent x xs) xs)

begins_single : (x : ℕ) (xs : List ℕ) → leb 0x80 x ≡ true → Begins x xs
begins_single x xs p = (single x, leb-true 0x80 x p, refl, ap (λ n. drop n xs) (sym (cond-true (leb 0x80 x) _ _ p)))

begins_pair : (x : ℕ) (xs : List ℕ) → leb 0x80 x ≡ false → paired x ≡ true → extent x xs ≤ length xs → Begins x xs
begins_pair x xs p q l = by xs l (cond-false (leb 0x80 x) _ _ p ∙ cond-true (paired x) _ _ q)
  where
    by : (xs : List ℕ) → extent x xs ≤ length xs → extent x xs ≡ 1 → Begins x xs
    by [] l n = absurd (omega arith)
    by (v ∷ xs) l n = (pair x v, q, refl, ap (λ k. v ∷ drop k (v ∷ xs)) (sym n))

begins_long : (x : ℕ) (xs : List ℕ) → leb 0x80 x ≡ false → paired x ≡ false → leb 0x70 x ≡ true → extent x xs ≤ length xs → Begins x xs
begins_long x xs p q r l = by xs l (cond-false (leb 0x80 x) _ _ p ∙ cond-false (paired x) _ _ q ∙ cond-true (leb 0x70 x) _ _ r)
  where
    by : (xs : List ℕ) → extent x xs ≤ length xs → extent x xs ≡ 2 + (256 * get_or xs 0 0 + get_or xs 1 0) → Begins x xs
    by [] l n = absurd (omega arith)
    by (a ∷ []) l n = absurd (omega arith)
    by (a ∷ (b ∷ xs)) l n =
        let k = 256 * a + b in
        let fits : k ≤ length xs = omega arith in (
          long x a b (take k xs),
          (leb-true 0x70 x r, leb-false 0x80 x p, length-take-le k xs fits),
          refl,
          ap (λ l. a ∷ (b ∷ l)) (sym (take-append-drop k xs)) ∙ ap (λ l. a ∷ (b ∷ (take k xs ++ l))) (drop-drop k 2 (a ∷ (b ∷ xs)) ∙ ap (λ m. drop m (a ∷ (b ∷ xs))) (sym n)),
        )

begins_short : (x place : ℕ) (xs : List ℕ) → fault_at x place xs ≡ None → leb 0x80 x ≡ false → paired x ≡ false → leb 0x70 x ≡ false → extent x xs ≤ length xs → Begins x xs
begins_short x place xs o p q r l = by xs o l (cond-false (leb 0x80 x) _ _ p ∙ cond-false (paired x) _ _ q ∙ cond-false (leb 0x70 x) _ _ r)
  where
    by : (xs : List ℕ) → fault_at x place xs ≡ None → extent x xs ≤ length xs → extent x xs ≡ 1 + get_or xs 0 0 → Begins x xs
    by [] o l n = absurd (omega arith)
    by (k ∷ xs) o l n =
        let fits : k ≤ length xs = omega arith in
        let size = length-take-le k xs fits in
        let one : x ≡ 0x37 → k ≡ 1 = λ e. grind (arith, nat_tests) in (
          short x (take k xs),
          (ltb-false x 0x10 (none_cond (ltb x 0x10) _ _ o).0, leb-false 0x70 x r, q, λ e. size ∙ one e),
          refl,
          ap (λ l. k ∷ l) (sym (take-append-drop k xs)) ∙ ap (λ m. m ∷ (take k xs ++ drop k xs)) (sym size)
              ∙ ap (λ l. length (take k xs) ∷ (take k xs ++ l)) (drop-drop k 1 (k ∷ xs) ∙ ap (λ m. drop m (k ∷ xs)) (sym n)),
        )

begins : (x place : ℕ) (xs : List ℕ) → fault_at x place xs ≡ None → extent x xs ≤ length xs → Begins x xs
begins x place xs o l =
    ⊎_elim (λ p. begins_single x xs p)
    (λ p. ⊎_elim (λ q. begins_pair x xs p q l)
    (λ q. ⊎_elim (λ r. begins_long x xs p q r l) (λ r. begins_short x place xs o p q r l) (cases_Bool (leb 0x70 x)))
    (cases_Bool (paired x)))
    (cases_Bool (leb 0x80 x))

abbrev pub Wholes : List ℕ → Type 0
Wholes xs = (es : List Item) × AllLawful es × (xs ≡ octets_of es)

splits : (n : ℕ) (xs : List ℕ) (place : ℕ) (f g : Found) → length xs ≤ n → walked xs 0 place f ≡ Ok g → Wholes xs
splits n [] place f g h w = ([], tt, refl)
splits zero (x ∷ xs) place f g h w = absurd (omega arith)
splits (suc n) (x ∷ xs) place f g h w =
    let a = accepted x place xs f g w in
    let b = begins x place xs a.0 a.1 in
    let rest = drop (extent x xs) xs in
    let r = splits n rest (place + 1 + extent x xs) (noted f x place xs) g (omega (arith, length-drop (extent x xs) xs)) a.2 in
    (b.0 ∷ r.0, (b.1, r.1), ap (λ i. i ∷ xs) b.2 ∙ ap (λ l. identifier b.0 ∷ l) (b.3 ∙ ap (λ l. behind b.0 ++ l) r.2))

pub walk_finds_first : WalkFindsFirst
walk_finds_first xs place f = (
  λ w. let s = splits (length xs) xs place nothing f (omega arith) w in
      (s.0, s.1, s.2, ok_same f (firsts s.0 place) (sym w ∙ ap (λ l. walked l 0 place nothing) s.2 ∙ walk_finds s.0 place s.1)),
  λ s. ap (λ l. walked l 0 place nothing) s.2 ∙ walk_finds s.0 place s.1 ∙ ap (λ g. Ok g) (sym s.3),
)
