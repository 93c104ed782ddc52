-- The PTIs stay different.
use Rattle.std.proofs.Common.{◌≡◌, ℕ, zero, suc, true, false, not, ◌||◌, eqb, List, [], ◌∷◌, set, Some, None, Option, refl, ap, ◌∙◌, arith}
use Rattle.std.proofs.lemmas.Bool.Decides.{nat_tests}
use Rattle.std.specs.List.{slice_get}
use Rattle.std.specs.Option.{option_map}
use Rattle.session.specs.Session.{SessionView, waiting_pti, established, modified, released}
use Rattle.sessions.specs.Table.{place_of, at_place, put}
use Rattle.sessions.specs.Ptis.{with_pti, waiting_ptis, some_pti, among, candidates, first_free, next_free}
use Rattle.sessions.specs.Laws.{all_differ, not_pending, Differs, StayDifferent}

first_not_among : (p : ℕ) (ws ps : List ℕ) → Some p ≡ first_free ws ps → among p ws ≡ false
first_not_among p ws [] h = cc
first_not_among p ws (q ∷ qs) h = let ih = first_not_among p ws qs in grind (arith, nat_tests)

next_not_among : (vs : List SessionView) (p last : ℕ) → Some p ≡ next_free vs last → among p (waiting_ptis vs) ≡ false
unfolding next_free
next_not_among vs p last h = first_not_among p (waiting_ptis vs) (candidates 254 last) h

-- a PTI that is neither the new one nor one of the others
among_more : (q : ℕ) (o : Option ℕ) (ws ws' : List ℕ) → among q (with_pti o ws) ≡ false → (among q ws ≡ false → among q ws' ≡ false) → among q (with_pti o ws') ≡ false
among_more q None ws ws' h ih = ih h
among_more q (Some r) ws ws' h ih = grind arith

none_here : (q : ℕ) (o : Option ℕ) (ws : List ℕ) → among q (with_pti o ws) ≡ false → among q ws ≡ false
none_here q None ws h = h
none_here q (Some r) ws h = grind arith

module _ (w : SessionView) (p : ℕ) (leaves : waiting_pti w ≡ Some p) where
  among_put : (vs : List SessionView) (n q : ℕ) → eqb q p ≡ false → among q (waiting_ptis vs) ≡ false → among q (waiting_ptis (set vs n w)) ≡ false
  among_put [] n q e h = refl
  among_put (v ∷ vs) zero q e h =
      let rest = none_here q (waiting_pti v) (waiting_ptis vs) h in
      ap (λ o. among q (with_pti o (waiting_ptis vs))) leaves ∙ (let both : (eqb q p || among q (waiting_ptis vs)) ≡ false = grind arith in both)
  among_put (v ∷ vs) (suc n) q e h = among_more q (waiting_pti v) (waiting_ptis vs) (waiting_ptis (set vs n w)) h (among_put vs n q e)

  differ_none : (o : Option ℕ) (ws : List ℕ) → not (some_pti o) ≡ true → among p (with_pti o ws) ≡ false → all_differ (with_pti o ws) ≡ true → all_differ (with_pti (Some p) ws) ≡ true
  differ_none None ws e h d = grind arith
  differ_none (Some q) ws e h d = cc

  differ_more : (o : Option ℕ) (ws ws' : List ℕ) → among p (with_pti o ws) ≡ false → all_differ (with_pti o ws) ≡ true
      → ((q : ℕ) → eqb q p ≡ false → among q ws ≡ false → among q ws' ≡ false) → (among p ws ≡ false → all_differ ws ≡ true → all_differ ws' ≡ true)
      → all_differ (with_pti o ws') ≡ true
  differ_more None ws ws' h d others ih = ih h d
  differ_more (Some q) ws ws' h d others ih = let other = others q in grind (arith, nat_tests)

  differ_put : (vs : List SessionView) (n : ℕ) → not_pending (slice_get vs n) ≡ true → among p (waiting_ptis vs) ≡ false → all_differ (waiting_ptis vs) ≡ true → all_differ (waiting_ptis (set vs n w)) ≡ true
  differ_put [] n e h d = d
  differ_put (v ∷ vs) zero e h d = ap (λ o. all_differ (with_pti o (waiting_ptis vs))) leaves ∙ differ_none (waiting_pti v) (waiting_ptis vs) e h d
  differ_put (v ∷ vs) (suc n) e h d = differ_more (waiting_pti v) (waiting_ptis vs) (waiting_ptis (set vs n w)) h d (among_put vs n) (differ_put vs n e)

differs : (p : ℕ) (leaves : SessionView → SessionView) → ((v : SessionView) → waiting_pti (leaves v) ≡ Some p) → Differs p leaves
differs p leaves out vs i last h e d = at (place_of i) e
  where
    put_there : (n : ℕ) (r : Option SessionView) → not_pending (slice_get vs n) ≡ true → all_differ (waiting_ptis (put vs (Some n) (option_map leaves r))) ≡ true
    put_there n None f = d
    put_there n (Some v) f = differ_put (leaves v) p (out v) vs n f (next_not_among vs p last h) d

    at : (o : Option ℕ) → not_pending (at_place vs o) ≡ true → all_differ (waiting_ptis (put vs o (option_map leaves (at_place vs o)))) ≡ true
    at None f = d
    at (Some n) f = put_there n (slice_get vs n) f

pub stay_different : StayDifferent
stay_different = record {
  establishment = λ t slice name network p. differs p (λ _. established t slice name network p) (λ v. refl);
  modification = λ p. differs p (modified p) (λ v. refl);
  release = λ p. differs p (released p) (λ v. refl);
}
