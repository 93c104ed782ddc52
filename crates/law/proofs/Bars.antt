-- The timers of a handset go with the moments of its life.
use Rattle.std.proofs.Common.{◌≡◌, ℕ, ◌+◌, ◌-◌, ◌<◌, ◌≤◌, Bool, true, false, cond, not, ◌&&◌, ◌||◌, eqb, leb, ◌≢◌, List, [], ◌∷◌, ◌++◌, map, length, get_or, set, Some, Option, sym, refl, ap, ◌∙◌, subst, ⊎_elim, arith}
use Rattle.std.specs.Option.{option_map}
use Rattle.std.proofs.lemmas.List.{length-map, get_or-set_same, get_or-set_other, get_or-map}
use Rattle.std.proofs.lemmas.Bool.{cond_both, cases_eq, cases_Bool, eq-eqb, ne_eqb, and_parts, and_from, or_left, or_right, le-leb}
use Rattle.backoff.specs.declared.octet.TimerValue.{TimerValue}
use Rattle.backoff.specs.declared.octet.TimerValue.TheVariants.{Zero}
use Rattle.backoff.specs.declared.timer.BackOffTimer.{BackOffTimer}
use Rattle.backoff.specs.declared.timer.BackOffTimer.TheVariants.{Stopped, Running}
use Rattle.backoff.specs.declared.timer.BackOffTimer.TheVariants as timer
use Rattle.backoff.specs.Timer as timers
use Rattle.bars.specs.declared.bar.Bar.{Bar}
use Rattle.bars.specs.Bars.{stands, timer_on}
use Rattle.bars.specs.Claimed.{among, claimed}
use Rattle.bars.proofs.Distincts.{among_same}
use Rattle.bar_record.specs.Record.{key_kept}
use Rattle.keys.specs.Lengths.{slice_held}
use Rattle.keys.specs.Octets.{KeyOctets, same_key}
use Rattle.requests.specs.Wanted.{WantedView, octets_in}
use Rattle.session.specs.declared.timers.TimerKind.{TimerKind}
use Rattle.session.specs.declared.timers.TimerKind.TheVariants.{T3396, T3584, T3585}
use Rattle.session.specs.declared.timers.TimerRule.{TimerRule}
use Rattle.session.specs.declared.timers.TimerRule.TheVariants.{NoMark, Mark, LiftAll}
use Rattle.session.specs.declared.state.State.{State}
use Rattle.session.specs.declared.state.State.TheVariants.{Inactive, ActivePending, Active, ModificationPending, InactivePending}
use Rattle.session.specs.Session.{SessionView, unused, established}
use Rattle.session.specs.State.{inactive}
use Rattle.session.specs.Time as time
use Rattle.session.specs.Timers.{kind_number}
use Rattle.sessions.specs.Live.{live, live_keys, with_key}
use Rattle.session.specs.Session.{session_parts}
use Rattle.timers.specs.Timers.{TimersView, counted_timers}
use Rattle.timers.specs.Timers as tables
use Rattle.ul_nas.specs.Message.{emergency}
use Rattle.rules.specs.declared.answer.Answer.{Answer}
use Rattle.rules.specs.declared.answer.Answer.TheVariants.{LetOut}
use Rattle.rules.specs.Calls.{establish, time_reading, change_network}
use Rattle.law.specs.Moments.{Moment}
use Rattle.law.specs.Requests.{now, asked_for, asked}
use Rattle.law.specs.Timers.{key_of, Stroke, strokes, stroke}
use Rattle.law.specs.Timers as law
use Rattle.law.proofs.Sessions.{Found}
use Rattle.law.proofs.Requests.{Given}
use Rattle.law.proofs.Strokes.{left_by, left_of, left_later, lawful_value, lawful_rule}
use Rattle.law.proofs.Tables.{table, Sound, sound_counted, timer_counted, sound_set, timer_set, acted, ruled_table, counted_table}
use Rattle.law.proofs.Claims.{data_of, Shrinks, claimed_less, among_held, live_less, live_among, with_more, without_more}

-- the key of a kind that a session has
abbrev pub key_in : TimerKind → SessionView → KeyOctets
key_in kind v = key_of kind (session_parts v)

pub key_respects : (kind : TimerKind) (v v' : SessionView) → data_of v' ≡ data_of v → key_in kind v' ≡ key_in kind v
key_respects kind v v' e = ap (λ a. key_of kind a.parts) e

-- parts of lawful lengths
abbrev pub held : KeyOctets → Bool
held k = eqb (length k.network) 3 && (slice_held (length k.slice) && leb (length k.name) 100)

key_held : (kind : TimerKind) (k : KeyOctets) → held k ≡ true → key_kept (kind_number kind) (key_of kind k) ≡ true
key_held T3396 k h =
    let p = and_parts (eqb (length k.network) 3) (slice_held (length k.slice) && leb (length k.name) 100) h in
    (and_parts (slice_held (length k.slice)) (leb (length k.name) 100) p.1).1
key_held T3584 k h = h
key_held T3585 k h =
    let p = and_parts (eqb (length k.network) 3) (slice_held (length k.slice) && leb (length k.name) 100) h in
    let q = and_parts (slice_held (length k.slice)) (leb (length k.name) 100) p.1 in
    and_from _ _ p.0 (and_from _ _ q.0 refl)

pub record Timed (h : List Moment) (vs : List SessionView) (t : TimersView) (card network : List ℕ) : Type 0 where
  pub network_is : network ≡ (now h).network
  pub network_long : length network ≡ 3
  pub card_is : card ≡ (now h).card
  pub card_long : length card ≡ 8
  pub asked_is : (n : ℕ) → n < 15 → inactive (get_or vs n unused).state ≡ false → asked (n + 1) h ≡ Some (data_of (get_or vs n unused))
  pub parts_held : (n : ℕ) → n < 15 → held (session_parts (get_or vs n unused)) ≡ true
  pub timers_are : (kind : TimerKind) (k : KeyOctets) → timer_on (table kind t) k ≡ left_of (strokes kind k h)
  pub sound : (kind : TimerKind) → Sound kind (table kind t)
  pub room : (kind : TimerKind) → claimed (table kind t) (live_keys (key_in kind) vs) ≤ 32

-- what becomes of the table of one kind
pub record Goes (kind : TimerKind) (bs bs' : List (Bar KeyOctets)) (ks : List KeyOctets) (es : KeyOctets → List Stroke) : Type 0 where
  pub stays_sound : Sound kind bs'
  pub goes : (k : KeyOctets) → timer_on bs' k ≡ left_of (es k)
  pub claims : (k : KeyOctets) → stands (timer_on bs' k) ≡ true → (stands (timer_on bs k) || among k ks) ≡ true

pub shrinks_self : (v : SessionView) → Shrinks v v
shrinks_self v = record { same_data = refl; lives = λ e. e }

pub shrinks_set : (vs : List SessionView) (n : ℕ) (v y : SessionView) → length vs ≡ 15 → n < 15 → get_or vs n unused ≡ v → Shrinks v y → (i : ℕ) → i < 15 → Shrinks (get_or vs i unused) (get_or (set vs n y) i unused)
shrinks_set vs n v y full l there s i j =
    let within : n < length vs = omega arith in
    ⊎_elim
    (λ (e : i ≡ n). subst (λ k. Shrinks (get_or vs k unused) (get_or (set vs n y) k unused)) (sym e)
    (subst (Shrinks (get_or vs n unused)) (sym (get_or-set_same vs n y unused within)) (subst (λ w. Shrinks w y) (sym there) s)))
    (λ (ne : i ≢ n). subst (Shrinks (get_or vs i unused)) (sym (get_or-set_other vs n i y unused ne)) (shrinks_self (get_or vs i unused)))
    (cases_eq i n)

module _ (h : List Moment) (vs : List SessionView) (t : TimersView) (card network : List ℕ) (d : Timed h vs t card network) (full : length vs ≡ 15) where
  -- sessions keep their data, and the tables go by their strokes
  pub shrunk : (m : Moment) → (now (m ∷ h)).network ≡ (now h).network → (now (m ∷ h)).card ≡ (now h).card → ((i : ℕ) → asked i (m ∷ h) ≡ asked i h)
      → (vs' : List SessionView) → length vs' ≡ 15 → ((n : ℕ) → n < 15 → Shrinks (get_or vs n unused) (get_or vs' n unused))
      → (t' : TimersView) → ((kind : TimerKind) → Goes kind (table kind t) (table kind t') (live_keys (key_in kind) vs) (λ k. strokes kind k (m ∷ h)))
      → Timed (m ∷ h) vs' t' card network
  shrunk m network-same card-same asked-same vs' full' shrinks t' goes = record {
    network_is = d.network_is ∙ sym network-same;
    network_long = d.network_long;
    card_is = d.card_is ∙ sym card-same;
    card_long = d.card_long;
    asked_is = λ n l e. asked-same (n + 1) ∙ d.asked_is n l ((shrinks n l).lives e) ∙ ap Some (sym (shrinks n l).same_data);
    parts_held = λ n l. ap (λ a. held a.parts) (shrinks n l).same_data ∙ d.parts_held n l;
    timers_are = λ kind. (goes kind).goes;
    sound = λ kind. (goes kind).stays_sound;
    room = λ kind.
        let less = claimed_less (table kind t) (table kind t') (live_keys (key_in kind) vs) (live_keys (key_in kind) vs') (goes kind).claims
        (λ k e. or_right (stands (timer_on (table kind t) k)) (among k (live_keys (key_in kind) vs))
        (live_less (key_in kind) (key_respects kind) vs vs' (full ∙ sym full') (λ n l. shrinks n (omega arith)) k e)) in
        let r = d.room kind in
        omega arith;
  }

  -- a table that stays
  pub stays : (kind : TimerKind) (es : KeyOctets → List Stroke) → ((k : KeyOctets) → es k ≡ strokes kind k h) → Goes kind (table kind t) (table kind t) (live_keys (key_in kind) vs) es
  stays kind es same = record {
    stays_sound = d.sound kind;
    goes = λ k. d.timers_are kind k ∙ ap left_of (sym (same k));
    claims = λ k e. or_left (stands (timer_on (table kind t) k)) (among k (live_keys (key_in kind) vs)) e;
  }

  -- no stroke on any key
  pub timed_still : (m : Moment) → (now (m ∷ h)).network ≡ (now h).network → (now (m ∷ h)).card ≡ (now h).card → ((i : ℕ) → asked i (m ∷ h) ≡ asked i h)
      → ((kind : TimerKind) (k : KeyOctets) → strokes kind k (m ∷ h) ≡ strokes kind k h)
      → (vs' : List SessionView) → length vs' ≡ 15 → ((n : ℕ) → n < 15 → Shrinks (get_or vs n unused) (get_or vs' n unused)) → Timed (m ∷ h) vs' t card network
  timed_still m network-same card-same asked-same none vs' full' shrinks =
      shrunk m network-same card-same asked-same vs' full' shrinks t (λ kind. stays kind (λ k. strokes kind k (m ∷ h)) (none kind))

  -- time
  stands_before : (n : ℕ) (x : BackOffTimer) → stands (timers.counted n x) ≡ true → stands x ≡ true
  stands_before n Stopped e = e
  stands_before n (Running left) e = refl
  stands_before n timer.Deactivated e = e

  lives_before : (n : ℕ) (s : State) → inactive (time.counted n s) ≡ false → inactive s ≡ false
  lives_before n Inactive e = e
  lives_before n (ActivePending w) e = refl
  lives_before n Active e = e
  lives_before n (ModificationPending w) e = refl
  lives_before n (InactivePending w) e = refl

  pub counted_goes : (kind : TimerKind) (n : ℕ) (es : KeyOctets → List Stroke) → ((k : KeyOctets) → es k ≡ law.passed n ∷ strokes kind k h)
      → Goes kind (table kind t) (table kind (counted_timers n t)) (live_keys (key_in kind) vs) es
  counted_goes kind n es same =
      let on-key : (k : KeyOctets) → timer_on (table kind (counted_timers n t)) k ≡ timers.counted n (timer_on (table kind t) k) = λ k. ap (λ bs. timer_on bs k) (counted_table kind n t) ∙ timer_counted kind n (table kind t) (d.sound kind) k in record {
        stays_sound = subst (Sound kind) (sym (counted_table kind n t)) (sound_counted kind n (table kind t) (d.sound kind));
        goes = λ k. on-key k ∙ ap (timers.counted n) (d.timers_are kind k) ∙ sym (left_later (law.imposed (strokes kind k h)) (law.counted (strokes kind k h)) n) ∙ ap left_of (sym (same k));
        claims = λ k e. or_left (stands (timer_on (table kind t) k)) (among k (live_keys (key_in kind) vs)) (stands_before n (timer_on (table kind t) k) (sym (ap stands (on-key k)) ∙ e));
      }

  pub timed_read : (r last : ℕ) (a : Answer) (w : List (List ℕ)) → last ≡ (now h).reading → Timed (record { call = time_reading r; answer = a; waiting = w } ∷ h) (map (time.counted_session (r - last)) vs) (counted_timers (r - last) t) card network
  timed_read r last a w e =
      shrunk _ refl refl (λ i. refl) (map (time.counted_session (r - last)) vs) (length-map vs (time.counted_session (r - last)) ∙ full)
      (λ n l. let within : n < length vs = omega arith in
      subst (Shrinks (get_or vs n unused)) (sym (get_or-map (time.counted_session (r - last)) vs n unused unused within)) (record { same_data = refl; lives = lives_before (r - last) (get_or vs n unused).state }))
      (counted_timers (r - last) t)
      (λ kind. counted_goes kind (r - last) (λ k. strokes kind k (record { call = time_reading r; answer = a; waiting = w } ∷ h)) (λ k. ap (λ x. law.passed (r - x) ∷ strokes kind k h) (sym e)))

  -- another network
  pub timed_network : (network' : List ℕ) (a : Answer) (w : List (List ℕ)) → length network' ≡ 3 → Timed (record { call = change_network network'; answer = a; waiting = w } ∷ h) vs t card network'
  timed_network network' a w long = record {
    network_is = refl;
    network_long = long;
    card_is = d.card_is;
    card_long = d.card_long;
    asked_is = d.asked_is;
    parts_held = d.parts_held;
    timers_are = d.timers_are;
    sound = d.sound;
    room = d.room;
  }

  -- a message that marks or lifts on the keys of a session that is not INACTIVE
  module _ (n : ℕ) (l : n < 15) (lives : live (get_or vs n unused) ≡ true) (rule : TimerRule) (lawful : lawful_rule rule ≡ true) where
    ruled_cases : (kind : TimerKind) (rule : TimerRule) → lawful_rule rule ≡ true → (P : List Stroke → Type 0) → P [] → ((v : TimerValue) → lawful_value v ≡ true → P (law.set v ∷ [])) → P (law.ruled kind rule)
    ruled_cases kind NoMark e P none some = none
    ruled_cases kind (Mark kind' v) e P none some = cond_both (eqb (kind_number kind') (kind_number kind)) (law.set v ∷ []) [] P (λ _. some v e) (λ _. none)
    ruled_cases kind LiftAll e P none some = some Zero refl

    acted_goes : (kind : TimerKind)
        → Goes kind (table kind t) (acted (law.ruled kind rule) (key_in kind (get_or vs n unused)) (table kind t)) (live_keys (key_in kind) vs)
        (λ k. cond (same_key (key_in kind (get_or vs n unused)) k) (law.ruled kind rule) [] ++ strokes kind k h)
    acted_goes kind =
        let k₀ = key_in kind (get_or vs n unused) in
        let bs = table kind t in
        let ks = live_keys (key_in kind) vs in
        let within : n < length vs = omega arith in
        let here : among k₀ ks ≡ true = live_among (key_in kind) (key_respects kind) vs n within lives in
        let claimed-here = among_held k₀ bs ks here in
        ruled_cases kind rule lawful (λ es. Goes kind bs (acted es k₀ bs) ks (λ k. cond (same_key k₀ k) es [] ++ strokes kind k h))
        (stays kind (λ k. cond (same_key k₀ k) [] [] ++ strokes kind k h) (λ k. cond_both (same_key k₀ k) [] [] (λ es. es ++ strokes kind k h ≡ strokes kind k h) (λ _. refl) (λ _. refl)))
        (λ v e.
        let on-key = timer_set kind k₀ bs (d.sound kind) ks claimed-here (d.room kind) v e in record {
          stays_sound = sound_set kind k₀ bs (d.sound kind) ks claimed-here (d.room kind) v e (key_held kind (session_parts (get_or vs n unused)) (d.parts_held n l));
          goes = λ k. on-key k
              ∙ cond_both (same_key k₀ k) (law.set v ∷ []) [] (λ es. cond (same_key k₀ k) (left_by v 0) (timer_on bs k) ≡ left_of (es ++ strokes kind k h))
              (λ s. ap (λ b. cond b (left_by v 0) (timer_on bs k)) s) (λ s. ap (λ b. cond b (left_by v 0) (timer_on bs k)) s ∙ d.timers_are kind k);
          claims = λ k x. ⊎_elim
              (λ (s : same_key k₀ k ≡ true). or_right (stands (timer_on bs k)) (among k ks) (sym (among_same k₀ k ks s) ∙ here))
              (λ (s : same_key k₀ k ≡ false). or_left (stands (timer_on bs k)) (among k ks) (sym (ap stands (on-key k ∙ ap (λ b. cond b (left_by v 0) (timer_on bs k)) s)) ∙ x))
              (cases_Bool (same_key k₀ k));
        })

    pub ruled_goes : (kind : TimerKind) (es : KeyOctets → List Stroke) → ((k : KeyOctets) → es k ≡ cond (same_key (key_in kind (get_or vs n unused)) k) (law.ruled kind rule) [] ++ strokes kind k h)
        → Goes kind (table kind t) (table kind (tables.ruled rule (session_parts (get_or vs n unused)) t)) (live_keys (key_in kind) vs) es
    ruled_goes kind es same =
        let g = acted_goes kind in
        let made = ruled_table kind rule (session_parts (get_or vs n unused)) t in record {
          stays_sound = subst (Sound kind) (sym made) g.stays_sound;
          goes = λ k. ap (λ bs. timer_on bs k) made ∙ g.goes k ∙ ap left_of (sym (same k));
          claims = λ k x. g.claims k (sym (ap (λ bs. stands (timer_on bs k)) made) ∙ x);
        }

  -- an establishment that is let out
  pub timed_established : (j type : ℕ) (slice name : Option (List ℕ)) (pti : ℕ) (w : List (List ℕ)) (x : WantedView) → Given type slice name x → (v : SessionView) (f : Found vs j v)
      → ((kind : TimerKind) → emergency x.request_type ≡ false → claimed (table kind t) (with_key (key_of kind (record { network = network; slice = x.slice; name = x.name })) (live_keys (key_in kind) vs)) ≤ 32)
      → Timed (record { call = establish j type slice name; answer = LetOut pti; waiting = w } ∷ h) (set vs f.place (established x.request_type x.slice x.name network pti)) t card network
  timed_established j type slice name pti w x g v f fits =
      let y = established x.request_type x.slice x.name network pti in
      let n = f.place in
      let within : n < length vs = let l = f.within in omega arith in
      let asks : asked_for type (now h).network slice name ≡ Some (data_of y) =
      ap (option_map (λ t. record { request_type = t; parts = record { network = (now h).network; slice = octets_in slice; name = octets_in name } })) g.type_is
      ∙ ap (λ z. Some (record { request_type = x.request_type; parts = record { network = z; slice = octets_in slice; name = octets_in name } })) (sym d.network_is)
      ∙ ap (λ z. Some (record { request_type = x.request_type; parts = record { network = network; slice = z; name = octets_in name } })) g.slice_is
      ∙ ap (λ z. Some (record { request_type = x.request_type; parts = record { network = network; slice = x.slice; name = z } })) g.name_is in record {
        network_is = d.network_is;
        network_long = d.network_long;
        card_is = d.card_is;
        card_long = d.card_long;
        asked_is = λ i l e. ⊎_elim
            (λ (q : i ≡ n).
            let here : get_or (set vs n y) i unused ≡ y = ap (λ k. get_or (set vs n y) k unused) q ∙ get_or-set_same vs n y unused within in
            let test : eqb j (i + 1) ≡ true = eq-eqb j (i + 1) (f.identity_is ∙ ap (λ k. k + 1) (sym q)) in
            ap (λ b. cond b (asked_for type (now h).network slice name) (asked (i + 1) h)) test ∙ asks ∙ ap (λ v. Some (data_of v)) (sym here))
            (λ (ne : i ≢ n).
            let here = get_or-set_other vs n i y unused ne in
            let test : eqb j (i + 1) ≡ false = ne_eqb j (i + 1) (λ z. ne (let k = f.identity_is in omega arith)) in
            ap (λ b. cond b (asked_for type (now h).network slice name) (asked (i + 1) h)) test ∙ d.asked_is i l (ap (λ v. inactive v.state) (sym here) ∙ e) ∙ ap (λ v. Some (data_of v)) (sym here))
            (cases_eq i n);
        parts_held = λ i l. ⊎_elim
            (λ (q : i ≡ n).
            let here : get_or (set vs n y) i unused ≡ y = ap (λ k. get_or (set vs n y) k unused) q ∙ get_or-set_same vs n y unused within in
            ap (λ v. held (session_parts v)) here ∙ and_from _ _ (eq-eqb (length network) 3 d.network_long) (and_from _ _ g.slice_held (le-leb (length x.name) 100 g.name_held)))
            (λ (ne : i ≢ n). ap (λ v. held (session_parts v)) (get_or-set_other vs n i y unused ne) ∙ d.parts_held i l)
            (cases_eq i n);
        timers_are = d.timers_are;
        sound = d.sound;
        room = λ kind. ⊎_elim
            (λ (e : emergency x.request_type ≡ true). without_more (key_in kind) (key_respects kind) (table kind t) vs n y (ap not e) (d.room kind))
            (λ (e : emergency x.request_type ≡ false). with_more (key_in kind) (key_respects kind) (table kind t) vs n y full (fits kind e))
            (cases_Bool (emergency x.request_type));
      }
