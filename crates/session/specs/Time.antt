-- Time: seconds are taken off the 16 of a waiting request; at none left it expires.
use Rattle.std.specs.Prelude.{ℕ, ◌+◌, ◌-◌, cond, Some, None, Option, nat_lt}
use Rattle.session.specs.declared.outcome.Expiry.{Expiry}
use Rattle.session.specs.declared.outcome.Expiry.TheVariants.{Nothing, Repeat, GiveUp}
use Rattle.session.specs.declared.state.Waiting.{Waiting}
use Rattle.session.specs.declared.state.State.{State}
use Rattle.session.specs.declared.state.State.TheVariants.{Inactive, ActivePending, Active, ModificationPending, InactivePending}
use Rattle.session.specs.Session.{SessionView, with_state}

-- a request expires at no seconds left: four times it is repeated, the fifth time it is given up
abbrev pub expiry : ℕ → Waiting → Expiry
expiry seconds w = cond (nat_lt seconds w.left) Nothing (cond (nat_lt w.expiries 4) Repeat GiveUp)

-- the request after some seconds: less is left; expired, it has 16 again and one expiry more; given up, it is none
abbrev pub waited : ℕ → Waiting → Option Waiting
waited seconds w =
    cond (nat_lt seconds w.left) (Some (record { pti = w.pti; left = w.left - seconds; expiries = w.expiries }))
    (cond (nat_lt w.expiries 4) (Some (record { pti = w.pti; left = 16; expiries = w.expiries + 1 })) None)

-- the request waits on in its pending state, or is given up
abbrev pub waits_on : (Waiting → State) → State → Option Waiting → State
waits_on pending given_up_of (Some w) = pending w
waits_on pending given_up_of None = given_up_of

-- an establishment or a release that is given up leaves the session inactive, a modification active
abbrev pub counted : ℕ → State → State
counted seconds Inactive = Inactive
counted seconds (ActivePending w) = waits_on ActivePending Inactive (waited seconds w)
counted seconds Active = Active
counted seconds (ModificationPending w) = waits_on ModificationPending Active (waited seconds w)
counted seconds (InactivePending w) = waits_on InactivePending Inactive (waited seconds w)

-- what becomes of the waiting request, if there is one
abbrev pub counted_expiry : ℕ → State → Expiry
counted_expiry seconds Inactive = Nothing
counted_expiry seconds (ActivePending w) = expiry seconds w
counted_expiry seconds Active = Nothing
counted_expiry seconds (ModificationPending w) = expiry seconds w
counted_expiry seconds (InactivePending w) = expiry seconds w

-- the other data stay
abbrev pub counted_session : ℕ → SessionView → SessionView
counted_session seconds v = with_state (counted seconds v.state) v
