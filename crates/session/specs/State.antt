-- The waiting request of a pending session.
use Rattle.std.specs.Prelude.{ℕ, Bool, true, false, not, ◌&&◌, Some, None, Option, ◌==◌}
use Rattle.session.specs.declared.state.Waiting.{Waiting}
use Rattle.session.specs.declared.state.State.{State}
use Rattle.session.specs.declared.state.State.TheVariants.{Inactive, ActivePending, Active, ModificationPending, InactivePending}

-- a request that leaves now has 16 seconds, and has not expired
abbrev pub new_request : ℕ → Waiting
new_request p = record { pti = p; left = 16; expiries = 0 }

-- the PTI of a message is the waiting one
abbrev pub asked : Waiting → ℕ → Bool
asked w p = p == w.pti

-- the PTI of a message is 0, and that is not the waiting one: the network began by itself
abbrev pub unasked : Waiting → ℕ → Bool
unasked w p = p == 0 && not (p == w.pti)

-- the waiting request, in the three pending states
abbrev pub waiting_of : State → Option Waiting
waiting_of Inactive = None
waiting_of (ActivePending w) = Some w
waiting_of Active = None
waiting_of (ModificationPending w) = Some w
waiting_of (InactivePending w) = Some w

abbrev pub inactive : State → Bool
inactive Inactive = true
inactive (ActivePending w) = false
inactive Active = false
inactive (ModificationPending w) = false
inactive (InactivePending w) = false

abbrev pub active : State → Bool
active Inactive = false
active (ActivePending w) = false
active Active = true
active (ModificationPending w) = false
active (InactivePending w) = false
