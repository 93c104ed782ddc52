-- Seconds taken off one session keep what holds between the calls.
use Rattle.std.proofs.Common.{◌≡◌, ℕ, ◌+◌, ◌-◌, ◌≤◌, Bool, true, false, cond, not, ◌&&◌, ltb, ◌⊎◌, List, Some, None, Option, sym, refl, ap, ◌∙◌, subst, inl, inr, ⊎_elim, arith}
use Rattle.std.proofs.lemmas.Bool.{and_parts}
use Rattle.std.specs.Option.{option_map}
use Rattle.session.specs.declared.outcome.Expiry.{Expiry}
use Rattle.session.specs.declared.outcome.Expiry.TheVariants.{Nothing, Repeat, GiveUp}
use Rattle.session.specs.declared.state.State.{State}
use Rattle.session.specs.declared.state.State.TheVariants.{Inactive, ActivePending, Active, ModificationPending, InactivePending}
use Rattle.session.specs.declared.state.Waiting.{Waiting}
use Rattle.session.specs.Session.{SessionView}
use Rattle.session.specs.State.{inactive, waiting_of}
use Rattle.session.specs.Time.{expiry, waited, waits_on, counted, counted_expiry, counted_session}
use Rattle.sessions.specs.Ptis.{some_pti, is_pending, pending}
use Rattle.rules.specs.Reading.{is_given_up}
use Rattle.ul_nas.specs.Message.{emergency}
use Rattle.requests.specs.declared.state.Tally.{Tally}
use Rattle.requests.specs.State.{StateView}
use Rattle.requests.proofs.Holding.{Holds}
use Rattle.requests.proofs.Thinning.{Thinner, differ_thinner, lawful_thinner, claims_thinned, pending_thinner}
use Rattle.sessions.specs.Acts.{expiry_of}
use Rattle.sessions.specs.Table.{place_of, session_of, put, changed}
use Rattle.readings.specs.Turns.{tally_by, with_turn, expired_on}

-- the PTI of a request, if there is one
abbrev pti_of : Option Waiting → Option ℕ
pti_of o = option_map (λ w. w.pti) o

waited_pti : (seconds : ℕ) (w : Waiting) → (pti_of (waited seconds w) ≡ Some w.pti) ⊎ (pti_of (waited seconds w) ≡ None)
waited_pti seconds w = on (ltb seconds w.left) (ltb w.expiries 4)
  where
    on : (a b : Bool)
        → (pti_of (cond a (Some (record { pti = w.pti; left = w.left - seconds; expiries = w.expiries })) (cond b (Some (record { pti = w.pti; left = 16; expiries = w.expiries + 1 })) None)) ≡ Some w.pti)
        ⊎ (pti_of (cond a (Some (record { pti = w.pti; left = w.left - seconds; expiries = w.expiries })) (cond b (Some (record { pti = w.pti; left = 16; expiries = w.expiries + 1 })) None)) ≡ None)
    on true b = inl refl
    on false true = inl refl
    on false false = inr refl

-- a request waits on in its state, or the state is at rest
waits_pti : (pending : Waiting → State) (rest : State) (o : Option Waiting) → ((w : Waiting) → waiting_of (pending w) ≡ Some w) → waiting_of rest ≡ None → pti_of (waiting_of (waits_on pending rest o)) ≡ pti_of o
waits_pti pending rest (Some w) f g = ap pti_of (f w)
waits_pti pending rest None f g = ap pti_of g

counted_pti : (seconds : ℕ) (s : State) → (pti_of (waiting_of (counted seconds s)) ≡ pti_of (waiting_of s)) ⊎ (pti_of (waiting_of (counted seconds s)) ≡ None)
counted_pti seconds Inactive = inl refl
counted_pti seconds Active = inl refl
counted_pti seconds (ActivePending w) =
    ⊎_elim (λ e. inl (waits_pti ActivePending Inactive (waited seconds w) (λ x. refl) refl ∙ e)) (λ e. inr (waits_pti ActivePending Inactive (waited seconds w) (λ x. refl) refl ∙ e)) (waited_pti seconds w)
counted_pti seconds (ModificationPending w) =
    ⊎_elim (λ e. inl (waits_pti ModificationPending Active (waited seconds w) (λ x. refl) refl ∙ e)) (λ e. inr (waits_pti ModificationPending Active (waited seconds w) (λ x. refl) refl ∙ e)) (waited_pti seconds w)
counted_pti seconds (InactivePending w) =
    ⊎_elim (λ e. inl (waits_pti InactivePending Inactive (waited seconds w) (λ x. refl) refl ∙ e)) (λ e. inr (waits_pti InactivePending Inactive (waited seconds w) (λ x. refl) refl ∙ e)) (waited_pti seconds w)

counted_still : (seconds : ℕ) (s : State) (e : Bool) → (not (inactive (counted seconds s)) && not e) ≡ true → (not (inactive s) && not e) ≡ true
counted_still seconds Inactive e h = h
counted_still seconds Active e h = h
counted_still seconds (ActivePending w) e h = (and_parts (not (inactive (counted seconds (ActivePending w)))) (not e) h).1
counted_still seconds (ModificationPending w) e h = (and_parts (not (inactive (counted seconds (ModificationPending w)))) (not e) h).1
counted_still seconds (InactivePending w) e h = (and_parts (not (inactive (counted seconds (InactivePending w)))) (not e) h).1

pub thinner : (seconds : ℕ) (v : SessionView) → Thinner v (counted_session seconds v)
thinner seconds v = record { pti = counted_pti seconds v.state; parts = refl; still = counted_still seconds v.state (emergency v.request_type); name = refl; slice_name = refl; slice = refl }

-- a request is given up exactly where it waited before and waits no more
given_waited : (seconds : ℕ) (w : Waiting) → is_given_up (expiry seconds w) ≡ not (some_pti (pti_of (waited seconds w)))
given_waited seconds w = on (ltb seconds w.left) (ltb w.expiries 4)
  where
    on : (a b : Bool)
        → is_given_up (cond a Nothing (cond b Repeat GiveUp)) ≡ not (some_pti (pti_of (cond a (Some (record { pti = w.pti; left = w.left - seconds; expiries = w.expiries })) (cond b (Some (record { pti = w.pti; left = 16; expiries = w.expiries + 1 })) None))))
    on true b = refl
    on false true = refl
    on false false = refl

given_state : (seconds : ℕ) (s : State) → is_given_up (counted_expiry seconds s) ≡ (some_pti (pti_of (waiting_of s)) && not (some_pti (pti_of (waiting_of (counted seconds s)))))
given_state seconds Inactive = refl
given_state seconds Active = refl
given_state seconds (ActivePending w) = given_waited seconds w ∙ ap (λ o. not (some_pti o)) (sym (waits_pti ActivePending Inactive (waited seconds w) (λ x. refl) refl))
given_state seconds (ModificationPending w) = given_waited seconds w ∙ ap (λ o. not (some_pti o)) (sym (waits_pti ModificationPending Active (waited seconds w) (λ x. refl) refl))
given_state seconds (InactivePending w) = given_waited seconds w ∙ ap (λ o. not (some_pti o)) (sym (waits_pti InactivePending Inactive (waited seconds w) (λ x. refl) refl))

pub given_told : (seconds : ℕ) (v : SessionView) → is_given_up (counted_expiry seconds v.state) ≡ (is_pending v && not (is_pending (counted_session seconds v)))
given_told seconds v = given_state seconds v.state

-- where an identity has no session, nothing changes
changed_none : (i : ℕ) (rule : SessionView → SessionView) (vs : List SessionView) → session_of i vs ≡ None → changed i rule vs ≡ vs
changed_none i rule vs e = ap (λ o. put vs (place_of i) (option_map rule o)) e ∙ on (place_of i)
  where
    on : (o : Option ℕ) → put vs o None ≡ vs
    on None = refl
    on (Some n) = refl

-- one more given up where e says so
given_sums : (e : Expiry) (t : Tally) (n n' : ℕ) → n' + cond (is_given_up e) 1 0 ≡ n → t.let_out ≡ t.accepted + t.rejected + t.returned + t.overtaken + t.given_up + n
    → (tally_by e t).let_out ≡ (tally_by e t).accepted + (tally_by e t).rejected + (tally_by e t).returned + (tally_by e t).overtaken + (tally_by e t).given_up + n'
given_sums Nothing t n n' c h = omega arith
given_sums Repeat t n n' c h = omega arith
given_sums GiveUp t n n' c h = omega arith

given_few : (e : Expiry) (t : Tally) → t.let_out ≤ 1000000000 → (tally_by e t).let_out ≤ 1000000000
given_few Nothing t h = h
given_few Repeat t h = h
given_few GiveUp t h = h

-- all that holds between the calls goes on holding
expired_at : (i seconds : ℕ) (s : StateView) (o : Option SessionView) → session_of i s.sessions ≡ o → Holds s
    → Holds (with_turn (changed i (counted_session seconds) s.sessions) (tally_by (expiry_of seconds o) s.tally) s)
expired_at i seconds s None is h = subst (λ vs. Holds (with_turn vs s.tally s)) (sym (changed_none i (counted_session seconds) s.sessions is)) h
expired_at i seconds s (Some v) is h =
    let thin = thinner seconds v in
    record {
      differ = differ_thinner i s.sessions v (counted_session seconds) is thin h.differ;
      lawful = lawful_thinner i s.sessions v (counted_session seconds) is thin h.lawful;
      claims = claims_thinned i s.sessions v (counted_session seconds) is thin s.timers h.claims;
      few = given_few (counted_expiry seconds v.state) s.tally h.few;
      sums =
          given_sums (counted_expiry seconds v.state) s.tally (pending s.sessions) (pending (changed i (counted_session seconds) s.sessions))
          (pending_thinner i s.sessions v (counted_session seconds) is thin (is_given_up (counted_expiry seconds v.state)) (given_told seconds v)) h.sums;
    }

pub expired_holds : (i seconds : ℕ) (s : StateView) → Holds s → Holds (expired_on i seconds s)
expired_holds i seconds s h = expired_at i seconds s (session_of i s.sessions) refl h
