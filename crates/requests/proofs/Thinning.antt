-- A session whose waiting request stays or ends, and whose keys stay: what that does to a row of sessions.
use Rattle.std.proofs.Common.{◌≡◌, ℕ, zero, suc, ◌+◌, Bool, true, false, cond, not, ◌&&◌, ◌||◌, leb, ◌⊎◌, List, [], ◌∷◌, set, Some, None, Option, sym, refl, ap, ◌∙◌, inl, inr, ⊎_elim, arith}
use Rattle.std.proofs.lemmas.Bool.{and_parts, and_from, or_left}
use Rattle.std.specs.List.{slice_get}
use Rattle.bars.specs.declared.bar.Bar.{Bar}
use Rattle.bars.specs.Claimed.{among, keys_of, claimed}
use Rattle.bars.specs.Sizes.{place_count}
use Rattle.bars.proofs.Distincts.{among_append, among_same}
use Rattle.keys.specs.Octets.{KeyOctets, same_key}
use Rattle.session.specs.Session.{SessionView, waiting_pti, name_key_of, slice_name_key_of, slice_key_of}
use Rattle.sessions.specs.Laws.{all_differ}
use Rattle.sessions.specs.Live.{live, live_keys}
use Rattle.sessions.specs.Ptis.{with_pti, waiting_ptis, among as listed, some_pti, is_pending, pending}
use Rattle.sessions.specs.Table.{session_of, changed}
use Rattle.timers.specs.Timers.{TimersView}
use Rattle.requests.specs.Sound.{lawful_waiting, lawful_parts, lawful_session, all_lawful, claims_fit}
use Rattle.requests.proofs.Rows.{placed, pending_put, lawful_put, lawful_at, live_before, live_among, fits_still}
use Rattle.requests.proofs.Leaving.{three}

-- the waiting request stays, or none waits any more; the parts stay; the session becomes no live one
pub record Thinner (v w : SessionView) : Type 0 where
  pub pti : (waiting_pti w ≡ waiting_pti v) ⊎ (waiting_pti w ≡ None)
  pub parts : lawful_parts w.request_type w.slice w.name ≡ lawful_parts v.request_type v.slice v.name
  pub still : live w ≡ true → live v ≡ true
  pub name : name_key_of w ≡ name_key_of v
  pub slice_name : slice_name_key_of w ≡ slice_name_key_of v
  pub slice : slice_key_of w ≡ slice_key_of v

-- the PTIs that wait, with one fewer perhaps

listed_with : (p : ℕ) (o : Option ℕ) (ws ws' : List ℕ) → (listed p ws ≡ false → listed p ws' ≡ false) → listed p (with_pti o ws) ≡ false → listed p (with_pti o ws') ≡ false
listed_with p None ws ws' ih h = ih h
listed_with p (Some q) ws ws' ih h = grind arith

listed_rest : (p : ℕ) (o : Option ℕ) (ws : List ℕ) → listed p (with_pti o ws) ≡ false → listed p ws ≡ false
listed_rest p None ws h = h
listed_rest p (Some q) ws h = grind arith

differ_with : (o : Option ℕ) (ws ws' : List ℕ) → ((p : ℕ) → listed p ws ≡ false → listed p ws' ≡ false) → (all_differ ws ≡ true → all_differ ws' ≡ true) → all_differ (with_pti o ws) ≡ true → all_differ (with_pti o ws') ≡ true
differ_with None ws ws' less ih h = ih h
differ_with (Some q) ws ws' less ih h = let k = less q in grind arith

differ_rest : (o : Option ℕ) (ws : List ℕ) → all_differ (with_pti o ws) ≡ true → all_differ ws ≡ true
differ_rest None ws h = h
differ_rest (Some q) ws h = grind arith

module _ (v w : SessionView) where
  same_ptis : (vs : List SessionView) (n : ℕ) → slice_get vs n ≡ Some v → waiting_pti w ≡ waiting_pti v → waiting_ptis (set vs n w) ≡ waiting_ptis vs
  same_ptis [] n e h = refl
  same_ptis (x ∷ xs) zero e h = let here : x ≡ v = cc in ap (λ o. with_pti o (waiting_ptis xs)) (h ∙ ap waiting_pti (sym here))
  same_ptis (x ∷ xs) (suc n) e h = ap (with_pti (waiting_pti x)) (same_ptis xs n e h)

  listed_less : (p : ℕ) (vs : List SessionView) (n : ℕ) → waiting_pti w ≡ None → listed p (waiting_ptis vs) ≡ false → listed p (waiting_ptis (set vs n w)) ≡ false
  listed_less p [] n e h = h
  listed_less p (x ∷ xs) zero e h = ap (λ o. listed p (with_pti o (waiting_ptis xs))) e ∙ listed_rest p (waiting_pti x) (waiting_ptis xs) h
  listed_less p (x ∷ xs) (suc n) e h = listed_with p (waiting_pti x) (waiting_ptis xs) (waiting_ptis (set xs n w)) (listed_less p xs n e) h

  differ_less : (vs : List SessionView) (n : ℕ) → waiting_pti w ≡ None → all_differ (waiting_ptis vs) ≡ true → all_differ (waiting_ptis (set vs n w)) ≡ true
  differ_less [] n e h = h
  differ_less (x ∷ xs) zero e h = ap (λ o. all_differ (with_pti o (waiting_ptis xs))) e ∙ differ_rest (waiting_pti x) (waiting_ptis xs) h
  differ_less (x ∷ xs) (suc n) e h =
      differ_with (waiting_pti x) (waiting_ptis xs) (waiting_ptis (set xs n w)) (λ p. listed_less p xs n e) (differ_less xs n e) h

-- the keys that sessions claim afterwards were claimed before

pub or_either : (a b : Bool) {C : Type 0} → (a || b) ≡ true → (a ≡ true → C) → (b ≡ true → C) → C
or_either true b h f g = f refl
or_either false b h f g = g h

module _ (vs : List SessionView) (n : ℕ) (v w : SessionView) (there : slice_get vs n ≡ Some v) (still : live w ≡ true → live v ≡ true) where
  session_claims : (key : SessionView → KeyOctets) → key w ≡ key v → (q : KeyOctets) → among q (live_keys key (set vs n w)) ≡ true → among q (live_keys key vs) ≡ true
  session_claims key same q h =
      or_either (live w && same_key q (key w)) (among q (live_keys key vs)) (live_before v w key q vs n h)
      (λ both.
      let p = and_parts (live w) (same_key q (key w)) both in
      among_same q (key v) (live_keys key vs) (ap (same_key q) (sym same) ∙ p.1) ∙ live_among key v vs n there (still p.0))
      (λ before. before)

  -- one kind of timer: its claims still fit
  pub fits_kept : (key : SessionView → KeyOctets) (bs bs' : List (Bar KeyOctets)) → key w ≡ key v
      → ((q : KeyOctets) → among q (keys_of bs') ≡ true → (among q (keys_of bs) || among q (live_keys key vs)) ≡ true)
      → leb (claimed bs (live_keys key vs)) place_count ≡ true → leb (claimed bs' (live_keys key (set vs n w))) place_count ≡ true
  fits_kept key bs bs' same grown few =
      fits_still bs bs' (live_keys key vs) (live_keys key (set vs n w))
      (λ q h.
      among_append q (keys_of bs) (live_keys key vs)
      ∙ or_either (among q (keys_of bs')) (among q (live_keys key (set vs n w))) (sym (among_append q (keys_of bs') (live_keys key (set vs n w))) ∙ h)
      (grown q)
      (λ x. last (among q (keys_of bs)) (among q (live_keys key vs)) (session_claims key same q x)))
      few
    where
      last : (a b : Bool) → b ≡ true → (a || b) ≡ true
      last a b e = grind arith

-- a request that ended waited before and waits no more
ended_count : (e p p' : Bool) → e ≡ (p && not p') → (p' ≡ p) ⊎ (p' ≡ false) → cond e 1 0 + cond p' 1 0 ≡ cond p 1 0
ended_count e p p' h (inl same) = grind arith
ended_count e p p' h (inr none) = grind arith

thins_pending : (v w : SessionView) → (waiting_pti w ≡ waiting_pti v) ⊎ (waiting_pti w ≡ None) → (is_pending w ≡ is_pending v) ⊎ (is_pending w ≡ false)
thins_pending v w (inl e) = inl (ap some_pti e)
thins_pending v w (inr e) = inr (ap some_pti e)

lawful_thin : (v w : SessionView) → lawful_session v ≡ true → (waiting_pti w ≡ waiting_pti v) ⊎ (waiting_pti w ≡ None) → lawful_parts w.request_type w.slice w.name ≡ lawful_parts v.request_type v.slice v.name → lawful_session w ≡ true
lawful_thin v w h (inl e) same =
    let p = and_parts (lawful_waiting (waiting_pti v)) (lawful_parts v.request_type v.slice v.name) h in
    and_from (lawful_waiting (waiting_pti w)) (lawful_parts w.request_type w.slice w.name) (ap lawful_waiting e ∙ p.0) (same ∙ p.1)
lawful_thin v w h (inr e) same =
    let p = and_parts (lawful_waiting (waiting_pti v)) (lawful_parts v.request_type v.slice v.name) h in
    and_from (lawful_waiting (waiting_pti w)) (lawful_parts w.request_type w.slice w.name) (ap lawful_waiting e) (same ∙ p.1)

-- all at once, for the session of an identity
module _ (i : ℕ) (vs : List SessionView) (v : SessionView) (rule : SessionView → SessionView) (is : session_of i vs ≡ Some v) (t : Thinner v (rule v)) where
  pub differ_thinner : all_differ (waiting_ptis vs) ≡ true → all_differ (waiting_ptis (changed i rule vs)) ≡ true
  differ_thinner h =
      let p = placed i vs v is in
      ap (λ x. all_differ (waiting_ptis x)) (p.goes rule)
      ∙ ⊎_elim (λ e. ap all_differ (same_ptis v (rule v) vs p.place p.there e) ∙ h) (λ e. differ_less v (rule v) vs p.place e h) t.pti

  pub lawful_thinner : all_lawful vs ≡ true → all_lawful (changed i rule vs) ≡ true
  lawful_thinner h =
      let p = placed i vs v is in
      ap all_lawful (p.goes rule) ∙ lawful_put v (rule v) vs p.place (lawful_thin v (rule v) (lawful_at v v vs p.place p.there h) t.pti t.parts) h

  -- the bars that stand afterwards stood before, or are on keys that sessions claimed
  pub claims_thinner : (b b' : TimersView)
      → ((q : KeyOctets) → among q (keys_of b'.t3396) ≡ true → (among q (keys_of b.t3396) || among q (live_keys name_key_of vs)) ≡ true)
      → ((q : KeyOctets) → among q (keys_of b'.t3584) ≡ true → (among q (keys_of b.t3584) || among q (live_keys slice_name_key_of vs)) ≡ true)
      → ((q : KeyOctets) → among q (keys_of b'.t3585) ≡ true → (among q (keys_of b.t3585) || among q (live_keys slice_key_of vs)) ≡ true)
      → claims_fit b vs ≡ true → claims_fit b' (changed i rule vs) ≡ true
  claims_thinner b b' f g h c =
      let p = placed i vs v is in
      ap (claims_fit b') (p.goes rule)
      ∙ three _ _ _ _ _ _
      (fits_kept vs p.place v (rule v) p.there t.still name_key_of b.t3396 b'.t3396 t.name f)
      (fits_kept vs p.place v (rule v) p.there t.still slice_name_key_of b.t3584 b'.t3584 t.slice_name g)
      (fits_kept vs p.place v (rule v) p.there t.still slice_key_of b.t3585 b'.t3585 t.slice h)
      c

  -- the same where the timers stay
  pub claims_thinned : (b : TimersView) → claims_fit b vs ≡ true → claims_fit b (changed i rule vs) ≡ true
  claims_thinned b =
      claims_thinner b b (λ q. or_left (among q (keys_of b.t3396)) _) (λ q. or_left (among q (keys_of b.t3584)) _) (λ q. or_left (among q (keys_of b.t3585)) _)

  -- where it is told by e whether a request ended, the count of those that wait goes by it
  pub pending_thinner : (e : Bool) → e ≡ (is_pending v && not (is_pending (rule v))) → pending (changed i rule vs) + cond e 1 0 ≡ pending vs
  pending_thinner e told =
      let p = placed i vs v is in
      let one = pending_put v (rule v) vs p.place p.there in
      let counts = ended_count e (is_pending v) (is_pending (rule v)) told (thins_pending v (rule v) t.pti) in
      let left : pending (changed i rule vs) ≡ pending (set vs p.place (rule v)) = ap pending (p.goes rule) in
      omega arith
