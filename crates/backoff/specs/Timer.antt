-- A back-off timer: stopped, running with its seconds left, or deactivated.
use Rattle.std.specs.Prelude.{ℕ, ◌-◌, Bool, true, false, cond, nat_lt}
use Rattle.backoff.specs.declared.octet.TimerValue.{TimerValue}
use Rattle.backoff.specs.declared.octet.TimerValue.TheVariants as value
use Rattle.backoff.specs.declared.timer.BackOffTimer.{BackOffTimer}
use Rattle.backoff.specs.declared.timer.BackOffTimer.TheVariants.{Stopped, Running, Deactivated}

-- what a received octet makes of the timer: zero stops it, seconds start it, deactivated deactivates it
abbrev pub set_to : TimerValue → BackOffTimer
set_to value.Zero = Stopped
set_to (value.Seconds n) = Running n
set_to value.Deactivated = Deactivated

-- the timer after some seconds: a running one loses them, and is stopped when none are left
abbrev pub counted : ℕ → BackOffTimer → BackOffTimer
counted seconds Stopped = Stopped
counted seconds (Running left) = cond (nat_lt seconds left) (Running (left - seconds)) Stopped
counted seconds Deactivated = Deactivated

-- a request may leave only while the timer is stopped
abbrev pub permitting : BackOffTimer → Bool
permitting Stopped = true
permitting (Running left) = false
permitting Deactivated = false

-- a running timer has seconds left
abbrev pub lasting : BackOffTimer → Bool
lasting Stopped = true
lasting (Running left) = nat_lt 0 left
lasting Deactivated = true
