-- Of sixteen PTIs that follow each other one is free, since at most fifteen wait.
use Rattle.std.proofs.Common.{◌≡◌, ℕ, zero, suc, ◌+◌, ◌-◌, ◌<◌, ◌≤◌, Bool, true, false, cond, eqb, ltb, List, [], ◌∷◌, length, Some, None, Option, sym, refl, ap, ◌∙◌, subst, arith}
use Rattle.std.proofs.lemmas.Bool.{cond-true, cond-false}
use Rattle.std.proofs.lemmas.Bool.Decides.{nat_tests}
use Rattle.session.specs.Session.{SessionView, waiting_pti}
use Rattle.sessions.specs.Ptis.{with_pti, waiting_ptis, some_pti, among, is_pti, after, candidates, first_free, next_free}

pub after_pti : (p : ℕ) → is_pti (after p) ≡ true
after_pti p = grind (arith, nat_tests)

candidate_pti : (n p q : ℕ) → among q (candidates n p) ≡ true → is_pti q ≡ true
candidate_pti zero p q h = cc
candidate_pti (suc n) p q h = let ih = candidate_pti n (after p) q in let a = after_pti p in grind (arith, nat_tests)

-- how many steps lead from one PTI to another
abbrev steps : ℕ → ℕ → ℕ
steps p q = cond (ltb p q) (q - p) (q + 254 - p)

one_step : (p q n : ℕ) → is_pti p ≡ true → is_pti q ≡ true → steps (after p) q ≤ n → steps p q ≤ suc n
one_step p q n hp hq h = grind (arith, nat_tests)

next_step : (p : ℕ) → is_pti p ≡ true → steps p (after p) ≡ 1
next_step p h = grind (arith, nat_tests)

near : (n p q : ℕ) → is_pti p ≡ true → among q (candidates n p) ≡ true → steps p q ≤ n
near zero p q l h = cc
near (suc n) p q l h =
    let ih = near n (after p) q (after_pti p) in
    let lq = candidate_pti n (after p) q in
    let one = one_step p q n l in
    let next = next_step p l in
    grind (arith, nat_tests)

round : (p : ℕ) → steps p p ≡ p + 254 - p
round p = grind (arith, nat_tests)

-- a PTI does not come again within 253 steps
fresh : (n p : ℕ) → is_pti p ≡ true → n < 254 → among p (candidates n p) ≡ false
fresh n p l h = let far = near n p p l in let r = round p in grind arith

abbrev without : ℕ → List ℕ → List ℕ
without q [] = []
without q (p ∷ ps) = cond (eqb p q) (without q ps) (p ∷ without q ps)

shorter : (q : ℕ) (ws : List ℕ) → length (without q ws) ≤ length ws
shorter q [] = omega arith
shorter q (w ∷ ws) = let ih = shorter q ws in grind arith

less : (q : ℕ) (ws : List ℕ) → among q ws ≡ true → length (without q ws) < length ws
less q [] h = cc
less q (w ∷ ws) h = let ih = less q ws in let s = shorter q ws in grind (arith, nat_tests)

among_without : (p q : ℕ) (ws : List ℕ) → eqb q p ≡ false → among p (without q ws) ≡ among p ws
among_without p q [] h = refl
among_without p q (w ∷ ws) h = let ih = among_without p q ws h in grind (arith, nat_tests)

first_without : (q : ℕ) (ws ps : List ℕ) → among q ps ≡ false → first_free (without q ws) ps ≡ first_free ws ps
first_without q ws [] h = refl
first_without q ws (p ∷ ps) h = let ih = first_without q ws ps in let a = among_without p q ws in grind arith

-- more PTIs in a row than wait have a free one among them
pub some_free : (n p : ℕ) (ws : List ℕ) → length ws < n → n ≤ 254 → some_pti (first_free ws (candidates n p)) ≡ true
some_free zero p ws h m = absurd (omega arith)
some_free (suc n) p ws h m =
    let q = after p in
    let away = less q ws in
    let ih = λ (e : among q ws ≡ true). some_free n q (without q ws) (let l = less q ws e in omega arith) (omega arith) in
    let same = first_without q ws (candidates n q) (fresh n q (after_pti p) (omega arith)) in
    grind arith

-- the first free one of some is the first of more
pub first_longer : (m n p : ℕ) (ws : List ℕ) → m ≤ n → some_pti (first_free ws (candidates m p)) ≡ true → first_free ws (candidates n p) ≡ first_free ws (candidates m p)
first_longer zero n p ws h e = cc
first_longer (suc m) zero p ws h e = absurd (omega arith)
first_longer (suc m) (suc n) p ws h e = let ih = first_longer m n (after p) ws (omega arith) in grind arith

pub few : (vs : List SessionView) → length (waiting_ptis vs) ≤ length vs
few [] = omega arith
few (v ∷ vs) = more (waiting_pti v) (waiting_ptis vs) (length vs) (few vs)
  where
    more : (o : Option ℕ) (ws : List ℕ) (n : ℕ) → length ws ≤ n → length (with_pti o ws) ≤ suc n
    more None ws n h = omega arith
    more (Some p) ws n h = grind arith

-- the first free one of sixteen
unfoldable pub soon : List ℕ → ℕ → Option ℕ
soon ws last = first_free ws (candidates 16 last)

-- the loop that looks for it: some were passed over, and this one comes next
abbrev pub Seeking : List ℕ → ℕ → ℕ → ℕ → Type 0
Seeking ws last passed p = (is_pti p ≡ true) × (first_free ws (p ∷ candidates (15 - passed) p) ≡ soon ws last)

begun : (ws : List ℕ) (last : ℕ) → Seeking ws last 0 (after last)
unfolding soon
begun ws last = (after_pti last, refl)

pub seek_start : (ws : List ℕ) (last p : ℕ) → p ≡ after last → Seeking ws last 0 p
seek_start ws last p e = subst (Seeking ws last 0) (sym e) (begun ws last)

pub seek_more : (ws : List ℕ) (last i p q : ℕ) → i < 15 → among p ws ≡ true → Seeking ws last i p → q ≡ after p → Seeking ws last (i + 1) q
seek_more ws last i p q h w s e =
    let n : 15 - i ≡ suc (15 - (i + 1)) = omega arith in
    let passed : first_free ws (p ∷ candidates (15 - i) p) ≡ first_free ws (candidates (15 - i) p) = cond-true (among p ws) _ _ w in
    subst (Seeking ws last (i + 1)) (sym e) (after_pti p, sym (ap (λ k. first_free ws (candidates k p)) n) ∙ sym passed ∙ s.1)

soon_some : (vs : List SessionView) (last : ℕ) → length vs ≡ 15 → some_pti (soon (waiting_ptis vs) last) ≡ true
unfolding soon
soon_some vs last h = some_free 16 last (waiting_ptis vs) (let f = few vs in omega arith) (omega arith)

soon_next : (vs : List SessionView) (last : ℕ) → length vs ≡ 15 → next_free vs last ≡ soon (waiting_ptis vs) last
unfolding soon next_free
soon_next vs last h = first_longer 16 254 last (waiting_ptis vs) (omega arith) (soon_some vs last h)

pub seek_found : (vs : List SessionView) (last i p : ℕ) → length vs ≡ 15 → among p (waiting_ptis vs) ≡ false → Seeking (waiting_ptis vs) last i p → Some p ≡ next_free vs last
seek_found vs last i p h w s = sym (cond-false (among p (waiting_ptis vs)) _ _ w) ∙ s.1 ∙ sym (soon_next vs last h)

one_left : (b : Bool) (p : ℕ) → some_pti (cond b None (Some p)) ≡ true → b ≡ false
one_left true p h = sym h
one_left false p h = refl

pub seek_end : (vs : List SessionView) (last i p : ℕ) → length vs ≡ 15 → 15 ≤ i → Seeking (waiting_ptis vs) last i p → among p (waiting_ptis vs) ≡ false
seek_end vs last i p h m s =
    let n : 15 - i ≡ 0 = omega arith in
    one_left (among p (waiting_ptis vs)) p (ap (λ k. some_pti (first_free (waiting_ptis vs) (p ∷ candidates k p))) (sym n) ∙ ap some_pti s.1 ∙ soon_some vs last h)

free_among : (ws ps : List ℕ) (p : ℕ) → first_free ws ps ≡ Some p → among p ps ≡ true
free_among ws [] p e = cc
free_among ws (q ∷ ps) p e = by_first (among q ws) (free_among ws ps p) e
  where
    by_first : (b : Bool) → (first_free ws ps ≡ Some p → among p ps ≡ true) → cond b (first_free ws ps) (Some q) ≡ Some p → among p (q ∷ ps) ≡ true
    by_first true ih h = let a = ih h in grind (arith, nat_tests)
    by_first false ih h = let s : q ≡ p = cc in grind (arith, nat_tests)

-- the next PTI is 1 to 254
pub next_is_pti : (vs : List SessionView) (last p : ℕ) → Some p ≡ next_free vs last → is_pti p ≡ true
unfolding next_free
next_is_pti vs last p e = candidate_pti 254 last p (free_among (waiting_ptis vs) (candidates 254 last) p (sym e))
