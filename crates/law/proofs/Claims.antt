-- The claimed keys: never more than there are places.
use Rattle.std.proofs.Common.{◌≡◌, ℕ, zero, suc, ◌<◌, ◌≤◌, Bool, true, false, cond, not, ◌&&◌, ◌||◌, ltb, List, [], ◌∷◌, ◌++◌, length, get_or, set, replicate, sym, refl, ap, ◌∙◌, ⊎_elim, arith}
use Rattle.std.proofs.lemmas.List.Sums.{count_by-le-length}
use Rattle.std.proofs.lemmas.Bool.{cond_both, and_parts, and_from, or_left, or_right, or_cases, cond-true, lt-ltb}
use Rattle.bars.specs.declared.bar.Bar.{Bar}
use Rattle.bars.specs.Bars.{stands, timer_on, apart}
use Rattle.bars.specs.Claimed.{among, distinct, covered, keys_of, claimed_keys, claimed}
use Rattle.bars.proofs.Distincts.{pigeonhole, distinct_keys, among_standing, among_append}
use Rattle.keys.specs.Octets.{KeyOctets, same_key}
use Rattle.keys.specs.Lawful.{key_lawful as laws}
use Rattle.session.specs.Session.{SessionView, unused}
use Rattle.session.specs.State.{inactive}
use Rattle.sessions.specs.Live.{live, live_keys, with_key}
use Rattle.session.specs.Session.{session_parts}
use Rattle.ul_nas.specs.Message.{emergency}
use Rattle.law.specs.Requests.{Asked}

-- what a session has from its establishment
abbrev pub data_of : SessionView → Asked
data_of v = record { request_type = v.request_type; parts = session_parts v }

-- a session that keeps its data, and does not leave INACTIVE
pub record Shrinks (v v' : SessionView) : Type 0 where
  pub same_data : data_of v' ≡ data_of v
  pub lives : inactive v'.state ≡ false → inactive v.state ≡ false

-- every key of a list is among another's
covers : (xs ys : List KeyOctets) → ((k : KeyOctets) → among k xs ≡ true → among k ys ≡ true) → covered xs ys ≡ true
covers [] ys f = refl
covers (x ∷ xs) ys f =
    and_from _ _ (f x (or_left (same_key x x) (among x xs) (laws.reflexive x)))
    (covers xs ys (λ k e. f k (or_right (same_key k x) (among k xs) e)))

among_claimed : (k : KeyOctets) (bs : List (Bar KeyOctets)) (ks : List KeyOctets) → among k (claimed_keys bs ks) ≡ (stands (timer_on bs k) || among k ks)
among_claimed k bs ks = among_append k (keys_of bs) ks ∙ ap (λ b. b || among k ks) (among_standing k bs)

pub claimed_less : (bs bs' : List (Bar KeyOctets)) (ks ks' : List KeyOctets)
    → ((k : KeyOctets) → stands (timer_on bs' k) ≡ true → (stands (timer_on bs k) || among k ks) ≡ true)
    → ((k : KeyOctets) → among k ks' ≡ true → (stands (timer_on bs k) || among k ks) ≡ true)
    → claimed bs' ks' ≤ claimed bs ks
claimed_less bs bs' ks ks' f g =
    pigeonhole (claimed_keys bs' ks') (claimed_keys bs ks)
    (covers (claimed_keys bs' ks') (claimed_keys bs ks) (λ k e.
    among_claimed k bs ks ∙ ⊎_elim (f k) (g k) (or_cases (stands (timer_on bs' k)) (among k ks') (sym (among_claimed k bs' ks') ∙ e))))

pub among_held : (k : KeyOctets) (bs : List (Bar KeyOctets)) (ks : List KeyOctets) → among k ks ≡ true → among k (claimed_keys bs ks) ≡ true
among_held k bs ks e = among_claimed k bs ks ∙ or_right (stands (timer_on bs k)) (among k ks) e

-- where no session claims a key, the bars alone do
pub claimed_none : (bs : List (Bar KeyOctets)) → apart bs ≡ true → length bs ≡ 32 → claimed bs [] ≤ 32
claimed_none bs h e =
    let less = claimed_less bs bs [] [] (λ k s. or_left (stands (timer_on bs k)) (among k []) s) (λ k s. absurd (let z : ◌≡◌ {A = ℕ} 0 1 = cc in omega arith)) in
    let same : claimed bs [] ≡ distinct (keys_of bs) = ap distinct (mathlib.Core.List.append-nil (keys_of bs)) in
    let d = distinct_keys bs h in
    let c = count_by-le-length (λ b. stands b.timer) bs in
    omega arith

-- the keys of sessions, a key being made of a session's data
module _ (key : SessionView → KeyOctets) (respects : (v v' : SessionView) → data_of v' ≡ data_of v → key v' ≡ key v) where
  among_one : (k : KeyOctets) (b : Bool) (x : KeyOctets) (xs : List KeyOctets) → among k (cond b (x ∷ xs) xs) ≡ ((b && same_key k x) || among k xs)
  among_one k true x xs = refl
  among_one k false x xs = refl

  live_shrinks : (v v' : SessionView) → Shrinks v v' → live v' ≡ true → live v ≡ true
  live_shrinks v v' s e =
      let p = and_parts (not (inactive v'.state)) (not (emergency v'.request_type)) e in
      let i : inactive v.state ≡ false = s.lives (Rattle.std.proofs.lemmas.Bool.not-true _ p.0) in
      let t : v'.request_type ≡ v.request_type = ap (λ a. a.request_type) s.same_data in
      and_from (not (inactive v.state)) (not (emergency v.request_type)) (ap not i) (ap (λ t. not (emergency t)) (sym t) ∙ p.1)

  pub live_less : (vs vs' : List SessionView) → length vs ≡ length vs' → ((n : ℕ) → n < length vs → Shrinks (get_or vs n unused) (get_or vs' n unused))
      → (k : KeyOctets) → among k (live_keys key vs') ≡ true → among k (live_keys key vs) ≡ true
  live_less [] [] e f k h = h
  live_less [] (v' ∷ vs') e f k h = absurd (omega arith)
  live_less (v ∷ vs) [] e f k h = absurd (omega arith)
  live_less (v ∷ vs) (v' ∷ vs') e f k h =
      let s : Shrinks v v' = f 0 (omega arith) in
      let ih = live_less vs vs' (omega arith) (λ n l. f (suc n) (omega arith)) k in
      let old = among_one k (live v) (key v) (live_keys key vs) in
      let new = among_one k (live v') (key v') (live_keys key vs') in
      let same = respects v v' s.same_data in
      old ∙ ⊎_elim
      (λ (x : (live v' && same_key k (key v')) ≡ true).
      let p = and_parts (live v') (same_key k (key v')) x in
      or_left (live v && same_key k (key v)) (among k (live_keys key vs)) (and_from (live v) (same_key k (key v)) (live_shrinks v v' s p.0) (ap (same_key k) (sym same) ∙ p.1)))
      (λ (x : among k (live_keys key vs') ≡ true). or_right (live v && same_key k (key v)) (among k (live_keys key vs)) (ih x))
      (or_cases (live v' && same_key k (key v')) (among k (live_keys key vs')) (sym new ∙ h))

  -- one session that was made another
  pub live_set : (y : SessionView) (vs : List SessionView) (n : ℕ) (k : KeyOctets) → among k (live_keys key (set vs n y)) ≡ true → ((live y && same_key k (key y)) || among k (live_keys key vs)) ≡ true
  live_set y [] n k h = or_right (live y && same_key k (key y)) false h
  live_set y (v ∷ vs) zero k h =
      let new = among_one k (live y) (key y) (live_keys key vs) in
      let old = among_one k (live v) (key v) (live_keys key vs) in
      ap (λ b. (live y && same_key k (key y)) || b) old ∙ (let e = sym new ∙ h in more (live y && same_key k (key y)) (live v && same_key k (key v)) (among k (live_keys key vs)) e)
    where
      more : (p q r : Bool) → (p || r) ≡ true → (p || (q || r)) ≡ true
      more true q r e = refl
      more false true r e = refl
      more false false r e = e
  live_set y (v ∷ vs) (suc n) k h =
      let new = among_one k (live v) (key v) (live_keys key (set vs n y)) in
      let old = among_one k (live v) (key v) (live_keys key vs) in
      ap (λ b. (live y && same_key k (key y)) || b) old
      ∙ more (live y && same_key k (key y)) (live v && same_key k (key v)) (among k (live_keys key (set vs n y))) (among k (live_keys key vs)) (sym new ∙ h) (live_set y vs n k)
    where
      more : (p q r s : Bool) → (q || r) ≡ true → (r ≡ true → (p || s) ≡ true) → (p || (q || s)) ≡ true
      more true q r s e f = refl
      more false true r s e f = refl
      more false false r s e f = f e

  pub live_among : (vs : List SessionView) (n : ℕ) → n < length vs → live (get_or vs n unused) ≡ true → among (key (get_or vs n unused)) (live_keys key vs) ≡ true
  live_among [] n l h = absurd (omega arith)
  live_among (v ∷ vs) zero l h =
      among_one (key v) (live v) (key v) (live_keys key vs) ∙ or_left (live v && same_key (key v) (key v)) (among (key v) (live_keys key vs)) (and_from (live v) (same_key (key v) (key v)) h (laws.reflexive (key v)))
  live_among (v ∷ vs) (suc n) l h =
      among_one (key (get_or vs n unused)) (live v) (key v) (live_keys key vs)
      ∙ or_right (live v && same_key (key (get_or vs n unused)) (key v)) (among (key (get_or vs n unused)) (live_keys key vs)) (live_among vs n (omega arith) h)

  pub live_few : (vs : List SessionView) → length (live_keys key vs) ≤ length vs
  live_few [] = omega arith
  live_few (v ∷ vs) =
      let ih = live_few vs in
      cond_both (live v) (key v ∷ live_keys key vs) (live_keys key vs) (λ ks. length ks ≤ length (v ∷ vs)) (λ _. omega arith) (λ _. omega arith)

  -- with one key more there are at most 32: so there are after that session has it
  pub with_more : (bs : List (Bar KeyOctets)) (vs : List SessionView) (n : ℕ) (y : SessionView) → length vs ≡ 15 → claimed bs (with_key (key y) (live_keys key vs)) ≤ 32 → claimed bs (live_keys key (set vs n y)) ≤ 32
  with_more bs vs n y full few =
      let short : ltb (length (live_keys key vs)) 16 ≡ true = lt-ltb (length (live_keys key vs)) 16 (let l = live_few vs in omega arith) in
      let made : with_key (key y) (live_keys key vs) ≡ live_keys key vs ++ key y ∷ [] = cond-true (ltb (length (live_keys key vs)) 16) _ _ short in
      let less = claimed_less bs bs (live_keys key vs ++ key y ∷ []) (live_keys key (set vs n y))
      (λ k e. or_left (stands (timer_on bs k)) (among k (live_keys key vs ++ key y ∷ [])) e)
      (λ k e. or_right (stands (timer_on bs k)) (among k (live_keys key vs ++ key y ∷ []))
      (among_append k (live_keys key vs) (key y ∷ []) ∙ turned (live y) (same_key k (key y)) (among k (live_keys key vs)) (live_set y vs n k e))) in
      let same = ap (λ ks. claimed bs ks) made in
      omega arith
    where
      turned : (l s a : Bool) → ((l && s) || a) ≡ true → (a || (s || false)) ≡ true
      turned true true true e = refl
      turned true true false e = refl
      turned true false true e = refl
      turned true false false e = e
      turned false s true e = refl
      turned false s false e = absurd (let z : ◌≡◌ {A = ℕ} 0 1 = cc in omega arith)

  pub without_more : (bs : List (Bar KeyOctets)) (vs : List SessionView) (n : ℕ) (y : SessionView) → live y ≡ false → claimed bs (live_keys key vs) ≤ 32 → claimed bs (live_keys key (set vs n y)) ≤ 32
  without_more bs vs n y dead few =
      let less = claimed_less bs bs (live_keys key vs) (live_keys key (set vs n y))
      (λ k e. or_left (stands (timer_on bs k)) (among k (live_keys key vs)) e)
      (λ k e. or_right (stands (timer_on bs k)) (among k (live_keys key vs)) (sym (ap (λ l. (l && same_key k (key y)) || among k (live_keys key vs)) dead) ∙ live_set y vs n k e)) in
      omega arith

pub none_live : (key : SessionView → KeyOctets) → live_keys key (replicate 15 unused) ≡ []
none_live key = refl
