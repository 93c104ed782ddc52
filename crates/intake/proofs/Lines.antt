-- What the transition table does to one session.
use Rattle.std.proofs.Common.{◌≡◌, Bool, true, false, ◌⊎◌, Some, None, Option, sym, refl, ap, ◌∙◌, inl, inr, arith}
use Rattle.std.proofs.lemmas.Bool.Decides.{nat_tests}
use Rattle.dl_nas.specs.declared.message.Received.{Received}
use Rattle.session.specs.declared.state.State.{State}
use Rattle.session.specs.declared.state.State.TheVariants.{Inactive}
use Rattle.session.specs.declared.transition.Line.{Line}
use Rattle.session.specs.declared.transition.Line.TheVariants.{EstablishmentAccepted, EstablishmentRejected, ModificationRejected, ModificationAccepted, ReleaseRejected, ReleaseAccepted, ModificationCommanded, ReleaseCommanded, RequestOvertaken, EstablishmentReturned, ModificationReturned, ReleaseReturned, NotActive}
use Rattle.session.specs.Laws.{InactiveStays, EndsTold}
use Rattle.session.specs.Session.{SessionView, waiting_pti}
use Rattle.session.specs.State.{inactive, waiting_of}
use Rattle.session.specs.Transitions.{line_of, state_by, outcome_by, taken_in, outcome_of}

-- a line leads to ACTIVE, to INACTIVE, or leaves the state
thins_by : (l : Option Line) (s : State) → (waiting_of (state_by l s) ≡ waiting_of s) ⊎ (waiting_of (state_by l s) ≡ None)
thins_by None s = inl refl
thins_by (Some EstablishmentAccepted) s = inr refl
thins_by (Some EstablishmentRejected) s = inr refl
thins_by (Some ModificationRejected) s = inr refl
thins_by (Some ModificationAccepted) s = inr refl
thins_by (Some ReleaseRejected) s = inr refl
thins_by (Some ReleaseAccepted) s = inr refl
thins_by (Some ModificationCommanded) s = inl refl
thins_by (Some ReleaseCommanded) s = inr refl
thins_by (Some RequestOvertaken) s = inr refl
thins_by (Some EstablishmentReturned) s = inr refl
thins_by (Some ModificationReturned) s = inr refl
thins_by (Some ReleaseReturned) s = inr refl
thins_by (Some NotActive) s = inl refl

-- the waiting request stays or ends
pub thins : (v : SessionView) (m : Received) → (waiting_pti (taken_in v m) ≡ waiting_pti v) ⊎ (waiting_pti (taken_in v m) ≡ None)
thins v m = on (thins_by (line_of v.state m) v.state)
  where
    on : (waiting_of (state_by (line_of v.state m) v.state) ≡ waiting_of v.state) ⊎ (waiting_of (state_by (line_of v.state m) v.state) ≡ None)
        → (waiting_pti (taken_in v m) ≡ waiting_pti v) ⊎ (waiting_pti (taken_in v m) ≡ None)
    on (inl e) = inl (ap (λ o. Rattle.std.specs.Option.option_map (λ w. w.pti) o) e)
    on (inr e) = inr (ap (λ o. Rattle.std.specs.Option.option_map (λ w. w.pti) o) e)

inactive_stays : InactiveStays
inactive_stays m = grind (arith, nat_tests)

inactive_is : (s : State) → inactive s ≡ true → s ≡ Inactive
inactive_is s h = grind arith

-- an INACTIVE session stays so
pub inactive_still : (v : SessionView) (m : Received) → inactive v.state ≡ true → inactive (taken_in v m).state ≡ true
inactive_still v m h = let e = inactive_is v.state h in ap (λ s. inactive (state_by (line_of s m) s)) e ∙ ap inactive (inactive_stays m)

pub ends_told : EndsTold
ends_told s m = grind (arith, nat_tests)

no_effect_inactive : (m : Received) → (outcome_by (line_of Inactive m)).took_effect ≡ false
no_effect_inactive m = grind (arith, nat_tests)

-- a message that took effect met a session that was not INACTIVE
pub effect_active : (v : SessionView) (m : Received) → (outcome_of v m).took_effect ≡ true → inactive v.state ≡ false
effect_active v m h = on (inactive v.state) refl
  where
    on : (b : Bool) → inactive v.state ≡ b → b ≡ false
    on false e = refl
    on true e =
        let none : (outcome_of v m).took_effect ≡ false = ap (λ s. (outcome_by (line_of s m)).took_effect) (inactive_is v.state e) ∙ no_effect_inactive m in
        sym h ∙ none
