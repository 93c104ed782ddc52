-- A request that leaves keeps what holds between the calls.
use Rattle.std.proofs.Common.{◌≡◌, ℕ, suc, ◌+◌, ◌<◌, ◌≤◌, Bool, true, false, cond, not, ◌&&◌, ◌||◌, ltb, leb, List, [], ◌∷◌, ◌++◌, length, set, Some, None, Option, sym, refl, ap, ◌∙◌, ⊎_elim, arith}
use Rattle.std.proofs.lemmas.Bool.{and_parts, and_from, cases_Bool, lt-ltb}
use Rattle.std.proofs.lemmas.Bool.Decides.{nat_tests}
use Rattle.bars.specs.declared.bar.Bar.{Bar}
use Rattle.bars.specs.Claimed.{among, claimed}
use Rattle.bars.specs.Sizes.{place_count}
use Rattle.bars.proofs.Distincts.{among_append}
use Rattle.keys.specs.Octets.{KeyOctets, same_key}
use Rattle.session.specs.Session.{SessionView, waiting_pti, established, modified, released, name_key_of, slice_name_key_of, slice_key_of}
use Rattle.session.specs.State.{inactive, active}
use Rattle.sessions.specs.Laws.{all_differ, not_pending}
use Rattle.sessions.specs.Live.{live, live_keys, with_key}
use Rattle.sessions.specs.Ptis.{waiting_ptis, is_pending, pending, next_free, is_pti}
use Rattle.sessions.specs.Table.{session_of, changed}
use Rattle.sessions.proofs.Differing.{stay_different}
use Rattle.timers.specs.Timers.{TimersView}
use Rattle.ul_nas.specs.Message.{emergency}
use Rattle.uplink.specs.Waiting.{room}
use Rattle.requests.specs.declared.question.Question.{Question}
use Rattle.requests.specs.Decisions.{let_out_stop, timers_stop, room_stop, or_else, request_keys, keys_stop, establish_on, establish_stop, own_timers_stop, modify_on, modify_stop, release_on, release_stop}
use Rattle.requests.specs.Sound.{lawful_waiting, lawful_parts, lawful_session, all_lawful, claims_fit}
use Rattle.requests.specs.State.{StateView}
use Rattle.requests.specs.Wanted.{WantedView}
use Rattle.requests.proofs.Rows.{placed, pending_put, lawful_put, lawful_at, live_same, live_before, fits_with}

-- a request that is not stopped passed each question
passed_first : (a b : Option Question) → or_else a b ≡ None → a ≡ None
passed_first None b e = refl
passed_first (Some q) b e = cc

passed_second : (a b : Option Question) → or_else a b ≡ None → b ≡ None
passed_second None b e = e
passed_second (Some q) b e = cc

passed_test : (t : Bool) (x : Option Question) (q : Question) → cond t x (Some q) ≡ None → (t ≡ true) × (x ≡ None)
passed_test true x q e = (refl, e)
passed_test false x q e = cc

passed_room : (t : Bool) (q : Question) → cond t None (Some q) ≡ None → t ≡ true
passed_room true q e = refl
passed_room false q e = cc

few_let_out : (s : StateView) (n : ℕ) → let_out_stop s n ≡ None → s.tally.let_out < 1000000000
few_let_out s n e = grind (arith, nat_tests)

few_waiting : (s : StateView) (n : ℕ) → let_out_stop s n ≡ None → room n ≡ true
few_waiting s n e = grind (arith, nat_tests)

-- the session that a request leaves on
pub record Found (o : Option SessionView) (test : SessionView → Bool) (s : StateView) (n : ℕ) : Type 0 where
  pub session : SessionView
  pub is : o ≡ Some session
  pub fits : test session ≡ true
  pub few : s.tally.let_out < 1000000000
  pub fewer : room n ≡ true

pub modify_found : (s : StateView) (o : Option SessionView) (n : ℕ) → modify_on s o n ≡ None → Found o (λ v. active v.state) s n
modify_found s None n e = cc
modify_found s (Some v) n e =
    let p = passed_test (active v.state) (or_else (own_timers_stop s v) (let_out_stop s n)) _ e in
    record { session = v; is = refl; fits = p.0; few = few_let_out s n (passed_second (own_timers_stop s v) (let_out_stop s n) p.1); fewer = few_waiting s n (passed_second (own_timers_stop s v) (let_out_stop s n) p.1) }

pub release_found : (s : StateView) (o : Option SessionView) (n : ℕ) → release_on s o n ≡ None → Found o (λ v. active v.state) s n
release_found s None n e = cc
release_found s (Some v) n e =
    let p = passed_test (active v.state) (let_out_stop s n) _ e in
    record { session = v; is = refl; fits = p.0; few = few_let_out s n p.1; fewer = few_waiting s n p.1 }

pub establish_found : (s : StateView) (o : Option SessionView) (w : WantedView) (n : ℕ) → establish_on s o w n ≡ None
    → Found o (λ v. inactive v.state) s n × (keys_stop s w ≡ None)
establish_found s None w n e = cc
establish_found s (Some v) w n e =
    let p = passed_test (inactive v.state) (or_else (keys_stop s w) (let_out_stop s n)) _ e in
    (record { session = v; is = refl; fits = p.0; few = few_let_out s n (passed_second (keys_stop s w) (let_out_stop s n) p.1); fewer = few_waiting s n (passed_second (keys_stop s w) (let_out_stop s n) p.1) }, passed_first (keys_stop s w) (let_out_stop s n) p.1)

-- a session that is ACTIVE or INACTIVE has no waiting request
active_rests : (v : SessionView) → active v.state ≡ true → is_pending v ≡ false
active_rests v h = grind arith

inactive_rests : (v : SessionView) → inactive v.state ≡ true → is_pending v ≡ false
inactive_rests v h = grind arith

-- what holds of the sessions after a request has left
pub record Left (vs vs' : List SessionView) (t : TimersView) : Type 0 where
  pub differ : all_differ (waiting_ptis vs') ≡ true
  pub lawful : all_lawful vs' ≡ true
  pub claims : claims_fit t vs' ≡ true
  pub more : pending vs' ≡ pending vs + 1

module _ (i : ℕ) (vs : List SessionView) (v : SessionView) (is : session_of i vs ≡ Some v) (rests : is_pending v ≡ false) where
  none_waits : not_pending (session_of i vs) ≡ true
  none_waits = ap not_pending is ∙ ap not rests

  one_more : (rule : SessionView → SessionView) → is_pending (rule v) ≡ true → pending (changed i rule vs) ≡ pending vs + 1
  one_more rule waits =
      let p = placed i vs v is in
      let c = pending_put v (rule v) vs p.place p.there in
      let before : ◌≡◌ {A = ℕ} (cond (is_pending v) 1 0) 0 = ap (λ b. cond b 1 0) rests in
      let now : ◌≡◌ {A = ℕ} (cond (is_pending (rule v)) 1 0) 1 = ap (λ b. cond b 1 0) waits in
      ap pending (p.goes rule) ∙ (let e : pending (set vs p.place (rule v)) ≡ pending vs + 1 = omega arith in e)

  lawful_more : (rule : SessionView → SessionView) → lawful_session (rule v) ≡ true → all_lawful vs ≡ true → all_lawful (changed i rule vs) ≡ true
  lawful_more rule h a = let p = placed i vs v is in ap all_lawful (p.goes rule) ∙ lawful_put v (rule v) vs p.place h a

-- a request of an ACTIVE session leaves its keys as they are
kept_claims : (i : ℕ) (vs : List SessionView) (v : SessionView) (t : TimersView) (rule : SessionView → SessionView) → session_of i vs ≡ Some v
    → live v ≡ live (rule v) → name_key_of v ≡ name_key_of (rule v) → slice_name_key_of v ≡ slice_name_key_of (rule v) → slice_key_of v ≡ slice_key_of (rule v)
    → claims_fit t vs ≡ true → claims_fit t (changed i rule vs) ≡ true
kept_claims i vs v t rule is l a b c h =
    let p = placed i vs v is in
    let ea = live_same v (rule v) name_key_of vs p.place p.there l a in
    let eb = live_same v (rule v) slice_name_key_of vs p.place p.there l b in
    let ec = live_same v (rule v) slice_key_of vs p.place p.there l c in
    ap (claims_fit t) (p.goes rule) ∙ (rw (ea, eb, ec) h)

live_active : (v w : SessionView) → active v.state ≡ true → inactive w.state ≡ false → w.request_type ≡ v.request_type → live v ≡ live w
live_active v w a n e = grind arith

module _ (s : StateView) (i n p : ℕ) (next : Some p ≡ next_free s.sessions s.last_pti) (pti : is_pti p ≡ true)
    (d : all_differ (waiting_ptis s.sessions) ≡ true) (a : all_lawful s.sessions ≡ true) (c : claims_fit s.timers s.sessions ≡ true) where
  same_parts : (v : SessionView) → session_of i s.sessions ≡ Some v → lawful_parts v.request_type v.slice v.name ≡ true
  same_parts v is =
      let q = placed i s.sessions v is in
      (and_parts (lawful_waiting (waiting_pti v)) (lawful_parts v.request_type v.slice v.name) (lawful_at v v s.sessions q.place q.there a)).1

  pub left_modifying : modify_stop s i n ≡ None → Left s.sessions (changed i (modified p) s.sessions) s.timers
  left_modifying e =
      let f = modify_found s (session_of i s.sessions) n e in
      let v = f.session in
      let rests = active_rests v f.fits in
      record {
        differ = stay_different.modification p s.sessions i s.last_pti next (none_waits i s.sessions v f.is rests) d;
        lawful = lawful_more i s.sessions v f.is rests (modified p) (and_from (is_pti p) _ pti (same_parts v f.is)) a;
        claims = kept_claims i s.sessions v s.timers (modified p) f.is (live_active v (modified p v) f.fits refl refl) refl refl refl c;
        more = one_more i s.sessions v f.is rests (modified p) refl;
      }

  pub left_releasing : release_stop s i n ≡ None → Left s.sessions (changed i (released p) s.sessions) s.timers
  left_releasing e =
      let f = release_found s (session_of i s.sessions) n e in
      let v = f.session in
      let rests = active_rests v f.fits in
      record {
        differ = stay_different.release p s.sessions i s.last_pti next (none_waits i s.sessions v f.is rests) d;
        lawful = lawful_more i s.sessions v f.is rests (released p) (and_from (is_pti p) _ pti (same_parts v f.is)) a;
        claims = kept_claims i s.sessions v s.timers (released p) f.is (live_active v (released p v) f.fits refl refl) refl refl refl c;
        more = one_more i s.sessions v f.is rests (released p) refl;
      }

pub modify_few : (s : StateView) (i n : ℕ) → modify_stop s i n ≡ None → s.tally.let_out < 1000000000
modify_few s i n e = (modify_found s (session_of i s.sessions) n e).few

pub release_few : (s : StateView) (i n : ℕ) → release_stop s i n ≡ None → s.tally.let_out < 1000000000
release_few s i n e = (release_found s (session_of i s.sessions) n e).few

pub establish_few : (s : StateView) (i : ℕ) (w : WantedView) (n : ℕ) → establish_stop s i w n ≡ None → s.tally.let_out < 1000000000
establish_few s i w n e = (establish_found s (session_of i s.sessions) w n e).0.few

-- the keys of a session that is established

live_length : (key : SessionView → KeyOctets) (vs : List SessionView) → length (live_keys key vs) ≤ length vs
live_length key [] = omega arith
live_length key (v ∷ vs) = longer (live v) (live_length key vs)
  where
    longer : (l : Bool) → length (live_keys key vs) ≤ length vs → length (cond l (key v ∷ live_keys key vs) (live_keys key vs)) ≤ suc (length vs)
    longer true h = omega arith
    longer false h = omega arith

among_last : (q k : KeyOctets) (ks : List KeyOctets) → length ks ≤ 15 → (same_key q k || among q ks) ≡ true → among q (with_key k ks) ≡ true
among_last q k ks short h =
    let in16 : ltb (length ks) 16 ≡ true = lt-ltb (length ks) 16 (omega arith) in
    ap (λ b. among q (cond b (ks ++ k ∷ []) ks)) in16 ∙ (among_append q ks (k ∷ []) ∙ turned (same_key q k) (among q ks) h)
  where
    turned : (x y : Bool) → (x || y) ≡ true → (y || (x || false)) ≡ true
    turned x y e = grind arith

weaker : (l x y : Bool) → (l && x || y) ≡ true → (x || y) ≡ true
weaker l x y h = grind arith

not_live : (l x y : Bool) → l ≡ false → (l && x || y) ≡ true → y ≡ true
not_live l x y e h = grind arith

module _ (vs : List SessionView) (place : ℕ) (w : SessionView) (key : SessionView → KeyOctets) (bs : List (Bar KeyOctets)) where
  fits_leaving : length vs ≡ 15 → leb (claimed bs (with_key (key w) (live_keys key vs))) place_count ≡ true → leb (claimed bs (live_keys key (set vs place w))) place_count ≡ true
  fits_leaving full few =
      let short = live_length key vs in
      let short' : length (live_keys key vs) ≤ 15 = omega arith in
      fits_with bs (with_key (key w) (live_keys key vs)) (live_keys key (set vs place w))
      (λ q h. among_last q (key w) (live_keys key vs) short' (weaker (live w) (same_key q (key w)) (among q (live_keys key vs)) (live_before w w key q vs place h))) few

  pub fits_quiet : live w ≡ false → leb (claimed bs (live_keys key vs)) place_count ≡ true → leb (claimed bs (live_keys key (set vs place w))) place_count ≡ true
  fits_quiet quiet few =
      fits_with bs (live_keys key vs) (live_keys key (set vs place w))
      (λ q h. not_live (live w) (same_key q (key w)) (among q (live_keys key vs)) quiet (live_before w w key q vs place h)) few

pub three : (a b c a' b' c' : Bool) → (a ≡ true → a' ≡ true) → (b ≡ true → b' ≡ true) → (c ≡ true → c' ≡ true) → (a && (b && c)) ≡ true → (a' && (b' && c')) ≡ true
three a b c a' b' c' f g h e =
    let x = and_parts a (b && c) e in
    let y = and_parts b c x.1 in
    and_from a' (b' && c') (f x.0) (and_from b' c' (g y.0) (h y.1))

-- a session that claims nothing leaves the claims fitting
pub quiet_claims : (vs : List SessionView) (place : ℕ) (w : SessionView) (t : TimersView) → live w ≡ false → claims_fit t vs ≡ true → claims_fit t (set vs place w) ≡ true
quiet_claims vs place w t quiet c =
    three _ _ _ _ _ _
    (fits_quiet vs place w name_key_of t.t3396 quiet)
    (fits_quiet vs place w slice_name_key_of t.t3584 quiet)
    (fits_quiet vs place w slice_key_of t.t3585 quiet) c

emergency_quiet : (v : SessionView) → emergency v.request_type ≡ true → live v ≡ false
emergency_quiet v e = tell (not (inactive v.state)) (emergency v.request_type) e
  where
    tell : (x y : Bool) → y ≡ true → (x && not y) ≡ false
    tell x y h = grind arith

keys_passed : (s : StateView) (w : WantedView) → keys_stop s w ≡ None → emergency w.request_type ≡ false → room_stop s (request_keys s w) ≡ None
keys_passed s w e f = passed_second (timers_stop s (request_keys s w)) (room_stop s (request_keys s w)) (sym (ap (λ b. cond b None (or_else (timers_stop s (request_keys s w)) (room_stop s (request_keys s w)))) f) ∙ e)

module _ (s : StateView) (i n p : ℕ) (w : WantedView) (next : Some p ≡ next_free s.sessions s.last_pti) (pti : is_pti p ≡ true) (full : length s.sessions ≡ 15)
    (parts : lawful_parts w.request_type w.slice w.name ≡ true)
    (d : all_differ (waiting_ptis s.sessions) ≡ true) (a : all_lawful s.sessions ≡ true) (c : claims_fit s.timers s.sessions ≡ true) where
  claims_asking : (place : ℕ) → keys_stop s w ≡ None → claims_fit s.timers (set s.sessions place (established w.request_type w.slice w.name s.network p)) ≡ true
  claims_asking place e =
      let new = established w.request_type w.slice w.name s.network p in
      ⊎_elim
      (λ em. quiet_claims s.sessions place new s.timers (emergency_quiet new em) c)
      (λ no. three _ _ _ _ _ _
      (fits_leaving s.sessions place new name_key_of s.timers.t3396 full)
      (fits_leaving s.sessions place new slice_name_key_of s.timers.t3584 full)
      (fits_leaving s.sessions place new slice_key_of s.timers.t3585 full)
      (passed_room _ _ (keys_passed s w e no)))
      (cases_Bool (emergency w.request_type))

  pub left_establishing : establish_stop s i w n ≡ None
      → Left s.sessions (changed i (λ _. established w.request_type w.slice w.name s.network p) s.sessions) s.timers
  left_establishing e =
      let f = establish_found s (session_of i s.sessions) w n e in
      let v = f.0.session in
      let rests = inactive_rests v f.0.fits in
      let rule : SessionView → SessionView = λ _. established w.request_type w.slice w.name s.network p in
      let at = placed i s.sessions v f.0.is in
      record {
        differ = stay_different.establishment w.request_type w.slice w.name s.network p s.sessions i s.last_pti next (none_waits i s.sessions v f.0.is rests) d;
        lawful = lawful_more i s.sessions v f.0.is rests rule (and_from (is_pti p) _ pti parts) a;
        claims = ap (claims_fit s.timers) (at.goes rule) ∙ claims_asking at.place f.1;
        more = one_more i s.sessions v f.0.is rests rule refl;
      }
