-- One session of the fifteen: where it stands, and what each call makes of its pending request.
use Rattle.std.proofs.Common.{◌≡◌, ℕ, zero, suc, ◌+◌, ◌-◌, ◌<◌, Bool, true, false, cond, ◌&&◌, ◌||◌, leb, List, [], ◌∷◌, map, length, get_or, set, is_some, Some, None, count_by, Option, sym, refl, ap, ◌∙◌, arith}
use Rattle.std.specs.Option.{option_map}
use Rattle.std.proofs.lemmas.Option.{slice_get-get_or}
use Rattle.std.proofs.lemmas.List.Sums.{sum_by-cons}
use Rattle.std.proofs.lemmas.Bool.{cond_both, leb-true, and_parts}
use Rattle.std.proofs.lemmas.Bool.Decides.{nat_tests}
use Rattle.dl_nas.specs.declared.message.Received.{Received}
use Rattle.session.specs.declared.state.Waiting.{Waiting}
use Rattle.session.specs.declared.state.State.{State}
use Rattle.session.specs.declared.state.State.TheVariants.{Inactive, ActivePending, Active, ModificationPending, InactivePending}
use Rattle.session.specs.declared.transition.Line.{Line}
use Rattle.session.specs.declared.transition.Line.TheVariants.{EstablishmentAccepted, EstablishmentRejected, ModificationRejected, ModificationAccepted, ReleaseRejected, ReleaseAccepted, ModificationCommanded, ReleaseCommanded, RequestOvertaken, EstablishmentReturned, ModificationReturned, ReleaseReturned, NotActive}
use Rattle.session.specs.Laws.{ends}
use Rattle.session.specs.Session.{SessionView, unused}
use Rattle.session.specs.State.{waiting_of, inactive}
use Rattle.session.specs.Time.{expiry, waited, waits_on, counted, counted_expiry, counted_session}
use Rattle.session.specs.Transitions.{applies, lines, first_of, line_of, next_state, line_outcome, state_by, outcome_by}
use Rattle.sessions.specs.Ptis.{with_pti, waiting_ptis, some_pti, is_pending}
use Rattle.sessions.specs.Ptis as ptis
use Rattle.sessions.specs.Table.{place_of, at_place, session_of, put, changed}
use Rattle.rules.specs.Reading.{is_given_up, gives_up, given_up_of}
use Rattle.law.specs.Requests.{Pending, later, how_many}
use Rattle.law.specs.Timers.{completes}

-- the seconds left and the expiries of the pending request of a state
abbrev pub pended : Waiting → Pending
pended w = record { left = w.left; expiries = w.expiries }

abbrev pub waits : State → Option Pending
waits Inactive = None
waits (ActivePending w) = Some (pended w)
waits Active = None
waits (ModificationPending w) = Some (pended w)
waits (InactivePending w) = Some (pended w)

pub pending_waits : (v : SessionView) (s : State) → v.state ≡ s → is_pending v ≡ is_some (waits s)
pending_waits v Inactive e = ap (λ s. some_pti (option_map (λ w. w.pti) (waiting_of s))) e
pending_waits v (ActivePending w) e = ap (λ s. some_pti (option_map (λ w. w.pti) (waiting_of s))) e
pending_waits v Active e = ap (λ s. some_pti (option_map (λ w. w.pti) (waiting_of s))) e
pending_waits v (ModificationPending w) e = ap (λ s. some_pti (option_map (λ w. w.pti) (waiting_of s))) e
pending_waits v (InactivePending w) e = ap (λ s. some_pti (option_map (λ w. w.pti) (waiting_of s))) e

-- where the session of an identity stands
pub record Found (vs : List SessionView) (j : ℕ) (v : SessionView) : Type 0 where
  pub place : ℕ
  pub identity_is : j ≡ place + 1
  pub within : place < 15
  pub there : get_or vs place unused ≡ v
  pub change : (rule : SessionView → SessionView) → changed j rule vs ≡ set vs place (rule v)

some_same : {A : Type 0} {x y : A} → Some x ≡ Some y → x ≡ y
some_same e = cc

none_some : {A : Type 0} {x : A} → None ≡ Some x → ⊥
none_some e = let z : ◌≡◌ {A = ℕ} 0 1 = cc in omega arith

pub found : (vs : List SessionView) (j : ℕ) (v : SessionView) → length vs ≡ 15 → session_of j vs ≡ Some v → Found vs j v
found vs j v full e = at (leb 1 j && leb j 15) refl e
  where
    at : (b : Bool) → (leb 1 j && leb j 15) ≡ b → at_place vs (cond b (Some (j - 1)) None) ≡ Some v → Found vs j v
    at true t f =
        let k = and_parts (leb 1 j) (leb j 15) t in
        let low = leb-true 1 j k.0 in
        let high = leb-true j 15 k.1 in
        let there : get_or vs (j - 1) unused ≡ v = some_same (sym (slice_get-get_or vs (j - 1) unused (omega arith)) ∙ f) in
        let place : place_of j ≡ Some (j - 1) = ap (λ b. cond b (Some (j - 1)) None) t in
        record {
          place = j - 1;
          identity_is = omega arith;
          within = omega arith;
          there = there;
          change = λ rule. ap (λ o. put vs (place_of j) (option_map rule o)) e ∙ ap (λ o. put vs o (Some (rule v))) place;
        }
    at false t f = absurd (none_some f)

-- the pending sessions are counted one by one
pub pending_counted : (vs : List SessionView) → ptis.pending vs ≡ count_by is_pending vs
pending_counted [] = refl
pending_counted (v ∷ vs) =
    let ih = pending_counted vs in
    let c = sum_by-cons (λ w. cond (is_pending w) 1 0) v vs in
    length_with (ptis_of v) (waiting_ptis vs) ∙ ap (λ n. cond (is_pending v) 1 0 + n) ih ∙ sym c
  where
    ptis_of : SessionView → Option ℕ
    ptis_of v = option_map (λ w. w.pti) (waiting_of v.state)

    length_with : (o : Option ℕ) (ws : List ℕ) → length (with_pti o ws) ≡ cond (some_pti o) 1 0 + length ws
    length_with None ws = grind arith
    length_with (Some q) ws = grind arith

pub counted_up : (p : SessionView → Bool) (has : ℕ → Bool) (vs : List SessionView) (i n : ℕ) → length vs ≡ n
    → ((k : ℕ) → k < n → p (get_or vs k unused) ≡ has (i + k)) → how_many has i n ≡ count_by p vs
counted_up p has [] i n e f = ap (how_many has i) (sym e)
counted_up p has (v ∷ vs) i zero e f = absurd (omega arith)
counted_up p has (v ∷ vs) i (suc n) e f =
    let here : p v ≡ has i = f 0 (omega arith) ∙ ap has (let z : i + 0 ≡ i = omega arith in z) in
    let ih = counted_up p has vs (i + 1) n (omega arith) (λ k h. f (suc k) (omega arith) ∙ ap has (let z : i + suc k ≡ i + 1 + k = omega arith in z)) in
    let c = sum_by-cons (λ w. cond (p w) 1 0) v vs in
    ap (λ b. cond b 1 0 + how_many has (i + 1) n) (sym here) ∙ ap (λ m. cond (p v) 1 0 + m) ih ∙ sym c

-- time
waited_later : (n : ℕ) (w : Waiting) → option_map pended (waited n w) ≡ later n (Some (pended w))
waited_later n w = grind (arith, nat_tests)

pub waits_later : (n : ℕ) (s : State) → waits (counted n s) ≡ later n (waits s)
waits_later n Inactive = refl
waits_later n (ActivePending w) = lemma (waited n w) ∙ waited_later n w
  where
    lemma : (o : Option Waiting) → waits (waits_on ActivePending Inactive o) ≡ option_map pended o
    lemma None = refl
    lemma (Some x) = refl
waits_later n Active = refl
waits_later n (ModificationPending w) = lemma (waited n w) ∙ waited_later n w
  where
    lemma : (o : Option Waiting) → waits (waits_on ModificationPending Active o) ≡ option_map pended o
    lemma None = refl
    lemma (Some x) = refl
waits_later n (InactivePending w) = lemma (waited n w) ∙ waited_later n w
  where
    lemma : (o : Option Waiting) → waits (waits_on InactivePending Inactive o) ≡ option_map pended o
    lemma None = refl
    lemma (Some x) = refl

-- a request that is given up waits no more, and any other waits on
given_waited : (n : ℕ) (w : Waiting) → cond (is_given_up (expiry n w)) 1 0 + cond (is_some (later n (Some (pended w)))) 1 0 ≡ 1
given_waited n w = grind (arith, nat_tests)

given_one : (n : ℕ) (s : State) → cond (is_given_up (counted_expiry n s)) 1 0 + cond (is_some (later n (waits s))) 1 0 ≡ cond (is_some (waits s)) 1 0
given_one n Inactive = refl
given_one n (ActivePending w) = given_waited n w
given_one n Active = refl
given_one n (ModificationPending w) = given_waited n w
given_one n (InactivePending w) = given_waited n w

given_counted : (n : ℕ) (v : SessionView) → cond (gives_up n v) 1 0 + cond (is_pending (counted_session n v)) 1 0 ≡ cond (is_pending v) 1 0
given_counted n v =
    let a = pending_waits (counted_session n v) _ refl in
    let b = pending_waits v _ refl in
    let c = ap is_some (waits_later n v.state) in
    let g = given_one n v.state in
    ap (λ b. cond (gives_up n v) 1 0 + cond b 1 0) (a ∙ c) ∙ g ∙ ap (λ b. cond b 1 0) (sym b)

pub given_all : (n : ℕ) (vs : List SessionView) → given_up_of n vs + count_by is_pending (map (counted_session n) vs) ≡ count_by is_pending vs
given_all n [] = refl
given_all n (v ∷ vs) =
    let ih = given_all n vs in
    let a = sum_by-cons (λ w. cond (gives_up n w) 1 0) v vs in
    let b = sum_by-cons (λ w. cond (is_pending w) 1 0) (counted_session n v) (map (counted_session n) vs) in
    let c = sum_by-cons (λ w. cond (is_pending w) 1 0) v vs in
    let g = given_counted n v in
    omega arith

-- the line of a message applies
pub by_line : (ls : List Line) (s : State) (m : Received) (P : Option Line → Type 0) → P None → ((l : Line) → applies l s m ≡ true → P (Some l)) → P (first_of ls s m)
by_line [] s m P none some = none
by_line (l ∷ ls) s m P none some = cond_both (applies l s m) (Some l) (first_of ls s m) P (some l) (λ _. by_line ls s m P none some)

-- a message ends the pending request exactly as it tells
line_waits : (l : Line) (s : State) (m : Received) → applies l s m ≡ true → waits (next_state l s) ≡ cond (ends (line_outcome l).ended) None (waits s)
line_waits EstablishmentAccepted s m h = refl
line_waits EstablishmentRejected s m h = refl
line_waits ModificationRejected s m h = refl
line_waits ModificationAccepted s m h = refl
line_waits ReleaseRejected s m h = refl
line_waits ReleaseAccepted s m h = refl
line_waits ModificationCommanded s m h = refl
line_waits ReleaseCommanded Inactive m h = refl
line_waits ReleaseCommanded (ActivePending w) m h = grind (arith, nat_tests)
line_waits ReleaseCommanded Active m h = refl
line_waits ReleaseCommanded (ModificationPending w) m h = grind (arith, nat_tests)
line_waits ReleaseCommanded (InactivePending w) m h = grind (arith, nat_tests)
line_waits RequestOvertaken s m h = refl
line_waits EstablishmentReturned s m h = refl
line_waits ModificationReturned s m h = refl
line_waits ReleaseReturned s m h = refl
line_waits NotActive s m h = refl

pub message_waits : (s : State) (m : Received) → waits (state_by (line_of s m) s) ≡ cond (ends (outcome_by (line_of s m)).ended) None (waits s)
message_waits s m = by_line lines s m (λ o. waits (state_by o s) ≡ cond (ends (outcome_by o).ended) None (waits s)) refl (λ l h. line_waits l s m h)

-- no line but the last applies to an INACTIVE session
never : (b : Bool) → (b && false) ≡ true → ⊥
never true h = let z : ◌≡◌ {A = ℕ} 0 1 = cc in omega arith
never false h = let z : ◌≡◌ {A = ℕ} 0 1 = cc in omega arith

idle_line : (l : Line) (m : Received) → applies l Inactive m ≡ true → l ≡ NotActive
idle_line EstablishmentAccepted m h = absurd (never _ h)
idle_line EstablishmentRejected m h = absurd (never _ h)
idle_line ModificationRejected m h = absurd (never _ h)
idle_line ModificationAccepted m h = absurd (never _ h)
idle_line ReleaseRejected m h = absurd (never _ h)
idle_line ReleaseAccepted m h = absurd (never _ h)
idle_line ModificationCommanded m h = absurd (never _ h)
idle_line ReleaseCommanded m h = absurd (never _ h)
idle_line RequestOvertaken m h = absurd (never _ h)
idle_line EstablishmentReturned m h = absurd (never _ h)
idle_line ModificationReturned m h = absurd (never _ h)
idle_line ReleaseReturned m h = absurd (never _ h)
idle_line NotActive m h = refl

active_line : (l : Line) (m : Received) → applies l Active m ≡ true → ends (line_outcome l).ended ≡ false
active_line EstablishmentAccepted m h = absurd (never _ h)
active_line EstablishmentRejected m h = absurd (never _ h)
active_line ModificationRejected m h = absurd (never _ h)
active_line ModificationAccepted m h = absurd (never _ h)
active_line ReleaseRejected m h = absurd (never _ h)
active_line ReleaseAccepted m h = absurd (never _ h)
active_line ModificationCommanded m h = refl
active_line ReleaseCommanded m h = refl
active_line RequestOvertaken m h = absurd (never _ h)
active_line EstablishmentReturned m h = absurd (never _ h)
active_line ModificationReturned m h = absurd (never _ h)
active_line ReleaseReturned m h = absurd (never _ h)
active_line NotActive m h = refl

-- only a pending request ends
line_pended : (l : Line) (s : State) (m : Received) → applies l s m ≡ true → ends (line_outcome l).ended ≡ true → is_some (waits s) ≡ true
line_pended l Inactive m h e = sym (ap (λ l. ends (line_outcome l).ended) (idle_line l m h)) ∙ e
line_pended l (ActivePending w) m h e = refl
line_pended l Active m h e = sym (active_line l m h) ∙ e
line_pended l (ModificationPending w) m h e = refl
line_pended l (InactivePending w) m h e = refl

pub message_pended : (s : State) (m : Received) → ends (outcome_by (line_of s m)).ended ≡ true → is_some (waits s) ≡ true
message_pended s m = by_line lines s m (λ o. ends (outcome_by o).ended ≡ true → is_some (waits s) ≡ true) (λ e. absurd (let z : ◌≡◌ {A = ℕ} 0 1 = cc in omega arith)) (λ l h e. line_pended l s m h e)

-- no message leaves INACTIVE, and none takes effect there
pub message_lives : (s : State) (m : Received) → inactive (state_by (line_of s m) s) ≡ false → inactive s ≡ false
message_lives Inactive m = by_line lines Inactive m (λ o. inactive (state_by o Inactive) ≡ false → inactive Inactive ≡ false) (λ e. e) (λ l h e. sym (ap (λ l. inactive (next_state l Inactive)) (idle_line l m h)) ∙ e)
message_lives (ActivePending w) m = λ e. refl
message_lives Active m = λ e. refl
message_lives (ModificationPending w) m = λ e. refl
message_lives (InactivePending w) m = λ e. refl

pub effect_lives : (s : State) (m : Received) → (outcome_by (line_of s m)).took_effect ≡ true → inactive s ≡ false
effect_lives Inactive m = by_line lines Inactive m (λ o. (outcome_by o).took_effect ≡ true → inactive Inactive ≡ false) (λ e. sym e) (λ l h e. sym e ∙ ap (λ l. (line_outcome l).took_effect) (idle_line l m h))
effect_lives (ActivePending w) m = λ e. refl
effect_lives Active m = λ e. refl
effect_lives (ModificationPending w) m = λ e. refl
effect_lives (InactivePending w) m = λ e. refl

-- whether a message took effect is read off what it ended and the reply
pub effect_told : (o : Option Line) → (ends (outcome_by o).ended || completes (outcome_by o).reply) ≡ (outcome_by o).took_effect
effect_told None = refl
effect_told (Some EstablishmentAccepted) = refl
effect_told (Some EstablishmentRejected) = refl
effect_told (Some ModificationRejected) = refl
effect_told (Some ModificationAccepted) = refl
effect_told (Some ReleaseRejected) = refl
effect_told (Some ReleaseAccepted) = refl
effect_told (Some ModificationCommanded) = refl
effect_told (Some ReleaseCommanded) = refl
effect_told (Some RequestOvertaken) = refl
effect_told (Some EstablishmentReturned) = refl
effect_told (Some ModificationReturned) = refl
effect_told (Some ReleaseReturned) = refl
effect_told (Some NotActive) = refl
