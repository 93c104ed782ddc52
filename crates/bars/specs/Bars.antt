-- A row of bars: what timer is on a key, and that no key has two.
use Rattle.std.specs.Prelude.{ℕ, Bool, true, false, cond, not, ◌&&◌, ◌||◌, List, [], ◌∷◌, map, length, count_by, nat_lt, slice_set}
use Rattle.std.specs.List.{prefix_len}
use Rattle.backoff.specs.declared.timer.BackOffTimer.{BackOffTimer}
use Rattle.backoff.specs.declared.timer.BackOffTimer.TheVariants.{Stopped, Running, Deactivated}
use Rattle.backoff.specs.Timer.{counted}
use Rattle.keys.specs.Octets.{KeyOctets, same_key}
use Rattle.bars.specs.declared.bar.Bar.{Bar}

-- a bar by the octets of its key
abbrev pub bar_octets : {K : Type 0} → (K → KeyOctets) → Bar K → Bar KeyOctets
bar_octets octets b = record { key = octets b.key; timer = b.timer }

-- a row of bars by the octets of their keys
abbrev pub shown : {K : Type 0} → (K → KeyOctets) → List (Bar K) → List (Bar KeyOctets)
shown octets bs = map (bar_octets octets) bs

-- a bar stands while its timer is running or deactivated
abbrev pub stands : BackOffTimer → Bool
stands Stopped = false
stands (Running left) = true
stands Deactivated = true

-- the bar stands, and is on this key
abbrev pub holds : KeyOctets → Bar KeyOctets → Bool
holds k b = stands b.timer && same_key b.key k

-- the timer on a key: stopped where no bar stands on it
abbrev pub timer_on : List (Bar KeyOctets) → KeyOctets → BackOffTimer
timer_on [] k = Stopped
timer_on (b ∷ bs) k = cond (holds k b) b.timer (timer_on bs k)

-- no bar of the row stands on the key
abbrev pub free : KeyOctets → List (Bar KeyOctets) → Bool
free k [] = true
free k (b ∷ bs) = not (holds k b) && free k bs

-- no two standing bars have the same key
abbrev pub apart : List (Bar KeyOctets) → Bool
apart [] = true
apart (b ∷ bs) = (not (stands b.timer) || free b.key bs) && apart bs

-- how many bars stand
abbrev pub standing : List (Bar KeyOctets) → ℕ
standing bs = count_by (λ b. stands b.timer) bs

-- the place for a bar on a key: where one stands on it, or else the first at which none stands
abbrev pub place_for : KeyOctets → List (Bar KeyOctets) → ℕ
place_for k bs =
    cond (nat_lt (prefix_len (λ b. not (holds k b)) bs) (length bs)) (prefix_len (λ b. not (holds k b)) bs) (prefix_len (λ b. stands b.timer) bs)

-- there is such a place
abbrev pub has_place : KeyOctets → List (Bar KeyOctets) → Bool
has_place k bs = nat_lt (place_for k bs) (length bs)

-- a timer is put on a key, in that key's spelling
abbrev pub imposed : KeyOctets → BackOffTimer → List (Bar KeyOctets) → List (Bar KeyOctets)
imposed k t bs = slice_set bs (place_for k bs) (record { key = k; timer = t })

-- a bar whose timer goes by a rule of its key and its timer
abbrev pub retimed : {K : Type 0} → (K → BackOffTimer → BackOffTimer) → Bar K → Bar K
retimed rule b = record { key = b.key; timer = rule b.key b.timer }

-- a timer that is lifted if it is on a key: it is stopped
abbrev pub lifting : KeyOctets → KeyOctets → BackOffTimer → BackOffTimer
lifting k q t = cond (same_key q k) Stopped t

-- a timer that is stopped if it was deactivated
abbrev pub reactivated : BackOffTimer → BackOffTimer
reactivated Stopped = Stopped
reactivated (Running left) = Running left
reactivated Deactivated = Stopped

-- the row after a lifting on a key, after a lifting of all deactivated bars, and after some seconds
abbrev pub lifted : KeyOctets → List (Bar KeyOctets) → List (Bar KeyOctets)
lifted k bs = map (retimed (lifting k)) bs

abbrev pub deactivated_lifted : List (Bar KeyOctets) → List (Bar KeyOctets)
deactivated_lifted bs = map (retimed (λ _ t. reactivated t)) bs

abbrev pub counted_off : ℕ → List (Bar KeyOctets) → List (Bar KeyOctets)
counted_off seconds bs = map (retimed (λ _ t. counted seconds t)) bs
