-- One session of a row is replaced: what that does to the waiting requests, to the claimed keys, and to lawfulness.
use Rattle.std.proofs.Common.{◌≡◌, ℕ, zero, suc, ◌+◌, ◌≤◌, Bool, true, false, cond, ◌&&◌, ◌||◌, leb, List, [], ◌∷◌, set, Some, None, Option, sym, refl, ap, ◌∙◌, arith}
use Rattle.std.proofs.lemmas.Bool.{and_parts, and_from}
use Rattle.std.proofs.lemmas.Bool.Decides.{nat_tests}
use Rattle.std.specs.List.{slice_get}
use Rattle.std.specs.Option.{option_map}
use Rattle.bars.specs.declared.bar.Bar.{Bar}
use Rattle.bars.specs.Claimed.{among, distinct, covered, keys_of, claimed_keys, claimed}
use Rattle.bars.specs.Sizes.{place_count}
use Rattle.bars.proofs.Distincts.{pigeonhole, among_append}
use Rattle.keys.specs.Octets.{KeyOctets, same_key}
use Rattle.keys.specs.Lawful.{key_lawful as laws}
use Rattle.session.specs.Session.{SessionView, waiting_pti}
use Rattle.sessions.specs.Live.{live, live_keys}
use Rattle.sessions.specs.Ptis.{waiting_ptis, is_pending, pending}
use Rattle.sessions.specs.Table.{place_of, at_place, session_of, put, changed}
use Rattle.sessions.proofs.Steps.{length_with}
use Rattle.requests.specs.Sound.{lawful_session, all_lawful}

-- the session of an identity stands at a place, and a change of it is a change at that place
pub record Placed (i : ℕ) (vs : List SessionView) (v : SessionView) : Type 0 where
  pub place : ℕ
  pub there : slice_get vs place ≡ Some v
  pub goes : (rule : SessionView → SessionView) → changed i rule vs ≡ set vs place (rule v)

pub placed : (i : ℕ) (vs : List SessionView) (v : SessionView) → session_of i vs ≡ Some v → Placed i vs v
placed i vs v e = at (place_of i) refl
  where
    at : (o : Option ℕ) → place_of i ≡ o → Placed i vs v
    at None f = absurd (cc (ap (at_place vs) f))
    at (Some n) f =
        let here : slice_get vs n ≡ Some v = sym (ap (at_place vs) f) ∙ e in
        record {
          place = n;
          there = here;
          goes = λ rule. ap (λ o. put vs o (option_map rule (at_place vs o))) f ∙ ap (λ x. put vs (Some n) (option_map rule x)) here;
        }

-- a key among others and one more, if that counts
among_cond : (l : Bool) (q k : KeyOctets) (ks : List KeyOctets) → among q (cond l (k ∷ ks) ks) ≡ (l && same_key q k || among q ks)
among_cond true q k ks = refl
among_cond false q k ks = refl

or_into : (a b c : Bool) → (a || b) ≡ true → (a || (c || b)) ≡ true
or_into a b c h = grind arith

or_step : (a c b b' : Bool) → (c || b') ≡ true → (b' ≡ true → (a || b) ≡ true) → (a || (c || b)) ≡ true
or_step a c b b' h next = grind arith

module _ (v w : SessionView) where
  -- the waiting requests: one fewer if the old session's waited, one more if the new one's does
  pub pending_put : (vs : List SessionView) (n : ℕ) → slice_get vs n ≡ Some v → pending (set vs n w) + cond (is_pending v) 1 0 ≡ pending vs + cond (is_pending w) 1 0
  pending_put [] n e = cc
  pending_put (x ∷ xs) zero e =
      let here : x ≡ v = cc in
      let a = length_with (waiting_pti w) (waiting_ptis xs) in
      let b = length_with (waiting_pti v) (waiting_ptis xs) in
      let same : pending (x ∷ xs) ≡ pending (v ∷ xs) = ap (λ y. pending (y ∷ xs)) here in
      omega arith
  pending_put (x ∷ xs) (suc n) e =
      let ih = pending_put xs n e in
      let a = length_with (waiting_pti x) (waiting_ptis (set xs n w)) in
      let b = length_with (waiting_pti x) (waiting_ptis xs) in
      omega arith

  pub lawful_put : (vs : List SessionView) (n : ℕ) → lawful_session w ≡ true → all_lawful vs ≡ true → all_lawful (set vs n w) ≡ true
  lawful_put [] n h a = refl
  lawful_put (x ∷ xs) zero h a = and_from (lawful_session w) (all_lawful xs) h (and_parts (lawful_session x) (all_lawful xs) a).1
  lawful_put (x ∷ xs) (suc n) h a =
      let k = and_parts (lawful_session x) (all_lawful xs) a in
      and_from (lawful_session x) (all_lawful (set xs n w)) k.0 (lawful_put xs n h k.1)

  pub lawful_at : (vs : List SessionView) (n : ℕ) → slice_get vs n ≡ Some v → all_lawful vs ≡ true → lawful_session v ≡ true
  lawful_at [] n e a = cc
  lawful_at (x ∷ xs) zero e a =
      let here : x ≡ v = cc in
      sym (ap lawful_session here) ∙ (and_parts (lawful_session x) (all_lawful xs) a).0
  lawful_at (x ∷ xs) (suc n) e a = lawful_at xs n e (and_parts (lawful_session x) (all_lawful xs) a).1

  -- a session that keeps its key and stays live, or stays not live, claims what it did
  pub live_same : (key : SessionView → KeyOctets) (vs : List SessionView) (n : ℕ) → slice_get vs n ≡ Some v → live v ≡ live w → key v ≡ key w
      → live_keys key (set vs n w) ≡ live_keys key vs
  live_same key [] n e l k = refl
  live_same key (x ∷ xs) zero e l k =
      let here : x ≡ v = cc in
      ap (λ y. cond (live w) (y ∷ live_keys key xs) (live_keys key xs)) (sym k)
      ∙ ap (λ b. cond b (key v ∷ live_keys key xs) (live_keys key xs)) (sym l)
      ∙ ap (λ y. live_keys key (y ∷ xs)) (sym here)
  live_same key (x ∷ xs) (suc n) e l k =
      let ih = live_same key xs n e l k in
      ap (λ ys. cond (live x) (key x ∷ ys) ys) ih

  -- a key that is claimed afterwards is the new session's, or was claimed before
  pub live_before : (key : SessionView → KeyOctets) (q : KeyOctets) (vs : List SessionView) (n : ℕ) → among q (live_keys key (set vs n w)) ≡ true
      → (live w && same_key q (key w) || among q (live_keys key vs)) ≡ true
  live_before key q [] n h = cc
  live_before key q (x ∷ xs) zero h =
      rw (among_cond (live x) q (key x) (live_keys key xs)) (or_into (live w && same_key q (key w)) (among q (live_keys key xs)) (live x && same_key q (key x)) (sym (among_cond (live w) q (key w) (live_keys key xs)) ∙ h))
  live_before key q (x ∷ xs) (suc n) h =
      rw (among_cond (live x) q (key x) (live_keys key xs))
      (or_step (live w && same_key q (key w)) (live x && same_key q (key x)) (among q (live_keys key xs)) (among q (live_keys key (set xs n w)))
      (sym (among_cond (live x) q (key x) (live_keys key (set xs n w))) ∙ h) (live_before key q xs n))

-- the key of a live session is claimed
pub live_among : (key : SessionView → KeyOctets) (v : SessionView) (vs : List SessionView) (n : ℕ) → slice_get vs n ≡ Some v → live v ≡ true → among (key v) (live_keys key vs) ≡ true
live_among key v [] n e l = cc
live_among key v (x ∷ xs) zero e l =
    let here : x ≡ v = cc in
    let self = laws.reflexive (key v) in
    let known : among (key v) (live_keys key (v ∷ xs)) ≡ true = grind arith in
    ap (λ y. among (key v) (live_keys key (y ∷ xs))) here ∙ known
live_among key v (x ∷ xs) (suc n) e l = let ih = live_among key v xs n e l in grind arith

-- keys that are all among others are no more
covers : (xs ys : List KeyOctets) → ((q : KeyOctets) → among q xs ≡ true → among q ys ≡ true) → covered xs ys ≡ true
covers [] ys h = refl
covers (x ∷ xs) ys h =
    let self = laws.reflexive x in
    let here : among x (x ∷ xs) ≡ true = grind arith in
    and_from (among x ys) (covered xs ys) (h x here) (covers xs ys (λ q a. h q (let more : among q (x ∷ xs) ≡ true = grind arith in more)))

pub no_more : (xs ys : List KeyOctets) → ((q : KeyOctets) → among q xs ≡ true → among q ys ≡ true) → distinct xs ≤ distinct ys
no_more xs ys h = pigeonhole xs ys (covers xs ys h)

-- where every key that is claimed afterwards was claimed before, at most 32 stay claimed
pub fits_still : (bs bs' : List (Bar KeyOctets)) (ks ks' : List KeyOctets) → ((q : KeyOctets) → among q (claimed_keys bs' ks') ≡ true → among q (claimed_keys bs ks) ≡ true)
    → leb (claimed bs ks) place_count ≡ true → leb (claimed bs' ks') place_count ≡ true
fits_still bs bs' ks ks' h few =
    let less = no_more (claimed_keys bs' ks') (claimed_keys bs ks) h in
    grind (arith, nat_tests)

-- the same where only the keys of sessions change
pub fits_with : (bs : List (Bar KeyOctets)) (ks ks' : List KeyOctets) → ((q : KeyOctets) → among q ks' ≡ true → among q ks ≡ true)
    → leb (claimed bs ks) place_count ≡ true → leb (claimed bs ks') place_count ≡ true
fits_with bs ks ks' h few =
    fits_still bs bs ks ks'
    (λ q a.
    let e = among_append q (keys_of bs) ks in
    let e' = among_append q (keys_of bs) ks' in
    let k = h q in
    grind arith)
    few

-- the session at a place after it was replaced
nth_put : (vs : List SessionView) (n : ℕ) (v w : SessionView) → slice_get vs n ≡ Some v → slice_get (set vs n w) n ≡ Some w
nth_put [] n v w e = cc
nth_put (x ∷ xs) zero v w e = refl
nth_put (x ∷ xs) (suc n) v w e = nth_put xs n v w e

-- the session of an identity after a change
pub session_changed : (i : ℕ) (rule : SessionView → SessionView) (vs : List SessionView) (v : SessionView) → session_of i vs ≡ Some v → session_of i (changed i rule vs) ≡ Some (rule v)
session_changed i rule vs v e = at (place_of i) e
  where
    at : (o : Option ℕ) → at_place vs o ≡ Some v → at_place (put vs o (option_map rule (at_place vs o))) o ≡ Some (rule v)
    at None f = cc
    at (Some n) f = ap (λ x. slice_get (put vs (Some n) (option_map rule x)) n) f ∙ nth_put vs n v (rule v) f
