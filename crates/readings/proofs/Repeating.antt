-- A repeated message is the one that was sent before.
use Rattle.std.proofs.Common.{◌≡◌, ℕ, ◌+◌, ◌-◌, Bool, true, false, cond, ltb, Some, None, Option, refl, ap, ◌∙◌}
use Rattle.std.specs.Option.{option_map}
use Rattle.session.specs.declared.outcome.Expiry.TheVariants.{Nothing, Repeat, GiveUp}
use Rattle.session.specs.declared.state.State.{State}
use Rattle.session.specs.declared.state.State.TheVariants.{Inactive, ActivePending, Active, ModificationPending, InactivePending}
use Rattle.session.specs.declared.state.Waiting.{Waiting}
use Rattle.session.specs.Messages.{establishment_carried, request_in, pending_message}
use Rattle.session.specs.Session.{SessionView}
use Rattle.session.specs.Time.{expiry, waited, waits_on, counted, counted_expiry, counted_session}
use Rattle.ul_nas.specs.Message.{Message, message, modification_request, release_request}

-- a request that is repeated has 16 seconds again, and one expiry more
repeat_waited : (seconds : ℕ) (w : Waiting) → expiry seconds w ≡ Repeat → waited seconds w ≡ Some (record { pti = w.pti; left = 16; expiries = w.expiries + 1 })
repeat_waited seconds w h = on (ltb seconds w.left) (ltb w.expiries 4) h
  where
    on : (a b : Bool) → cond a Nothing (cond b Repeat GiveUp) ≡ Repeat
        → cond {A = Option Waiting} a (Some (record { pti = w.pti; left = w.left - seconds; expiries = w.expiries })) (cond b (Some (record { pti = w.pti; left = 16; expiries = w.expiries + 1 })) None)
        ≡ Some (record { pti = w.pti; left = 16; expiries = w.expiries + 1 })
    on true b e = cc
    on false true e = refl
    on false false e = cc

pub record Repeated (i seconds : ℕ) (v : SessionView) : Type 0 where
  pub message : Message
  pub before : pending_message i v ≡ Some message
  pub after : pending_message i (counted_session seconds v) ≡ Some message

repeated_in : (i seconds : ℕ) (v : SessionView) (s : State) → counted_expiry seconds s ≡ Repeat
    → (m : Message) × (option_map (λ c. message i c.0 c.1) (request_in s v) ≡ Some m) × (option_map (λ c. message i c.0 c.1) (request_in (counted seconds s) v) ≡ Some m)
repeated_in i seconds v Inactive h = cc
repeated_in i seconds v Active h = cc
repeated_in i seconds v (ActivePending w) h =
    (message i w.pti (establishment_carried v), refl, ap (λ o. option_map (λ c. message i c.0 c.1) (request_in (waits_on ActivePending Inactive o) v)) (repeat_waited seconds w h))
repeated_in i seconds v (ModificationPending w) h =
    (message i w.pti modification_request, refl, ap (λ o. option_map (λ c. message i c.0 c.1) (request_in (waits_on ModificationPending Active o) v)) (repeat_waited seconds w h))
repeated_in i seconds v (InactivePending w) h =
    (message i w.pti release_request, refl, ap (λ o. option_map (λ c. message i c.0 c.1) (request_in (waits_on InactivePending Inactive o) v)) (repeat_waited seconds w h))

carried_on : (i : ℕ) (s t : State) (v : SessionView) → request_in s (record { state = t; request_type = v.request_type; slice = v.slice; name = v.name; network = v.network }) ≡ request_in s v
carried_on i Inactive t v = refl
carried_on i Active t v = refl
carried_on i (ActivePending w) t v = refl
carried_on i (ModificationPending w) t v = refl
carried_on i (InactivePending w) t v = refl

pub repeated_message : (i seconds : ℕ) (v : SessionView) → counted_expiry seconds v.state ≡ Repeat → Repeated i seconds v
repeated_message i seconds v h =
    let r = repeated_in i seconds v v.state h in
    record { message = r.0; before = r.1; after = ap (λ x. option_map (λ c. message i c.0 c.1) x) (carried_on i (counted seconds v.state) (counted seconds v.state) v) ∙ r.2 }
