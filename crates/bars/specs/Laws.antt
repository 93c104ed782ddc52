-- What a change of a table means for the timer on every key. A table is sound while no two standing bars have the same key.
use Rattle.std.specs.Prelude.{◌≡◌, ℕ, ◌≤◌, Bool, true, cond, ◌&&◌, List, length}
use Rattle.backoff.specs.declared.timer.BackOffTimer.{BackOffTimer}
use Rattle.backoff.specs.Timer.{counted}
use Rattle.keys.specs.Octets.{KeyOctets, same_key}
use Rattle.bars.specs.declared.bar.Bar.{Bar}
use Rattle.bars.specs.Bars.{timer_on, apart, lifting, reactivated}
use Rattle.bars.specs.Claimed.{among, claimed_keys, distinct}

-- the table stays sound, and every key's timer goes by a rule
pub record Goes (rule : KeyOctets → BackOffTimer → BackOffTimer) (bs bs' : List (Bar KeyOctets)) : Type 0 where
  pub sound : apart bs' ≡ true
  pub timers : (k : KeyOctets) → timer_on bs' k ≡ rule k (timer_on bs k)

-- lifting on a key stops its timer, and leaves the others
abbrev pub Lifts : KeyOctets → List (Bar KeyOctets) → List (Bar KeyOctets) → Type 0
Lifts k bs bs' = apart bs ≡ true → Goes (lifting k) bs bs'

-- lifting the deactivated bars stops every deactivated timer, and leaves the others
abbrev pub Reactivates : List (Bar KeyOctets) → List (Bar KeyOctets) → Type 0
Reactivates bs bs' = apart bs ≡ true → Goes (λ _ t. reactivated t) bs bs'

-- counting seconds counts them off every timer
abbrev pub Counts : ℕ → List (Bar KeyOctets) → List (Bar KeyOctets) → Type 0
Counts seconds bs bs' = apart bs ≡ true → Goes (λ _ t. counted seconds t) bs bs'

-- imposing puts the timer on its key and leaves the others, where there is a place; and there is one wherever at most
-- as many different keys are claimed as the table has places, and this key is one of them
pub record Imposing (k : KeyOctets) (t : BackOffTimer) (r : Bool) (bs bs' : List (Bar KeyOctets)) : Type 0 where
  pub sound : apart bs' ≡ true
  pub timers : (q : KeyOctets) → timer_on bs' q ≡ cond (r && same_key k q) t (timer_on bs q)
  pub sure : (ks : List KeyOctets) → among k (claimed_keys bs ks) ≡ true → distinct (claimed_keys bs ks) ≤ length bs → r ≡ true

abbrev pub Imposes : KeyOctets → BackOffTimer → Bool → List (Bar KeyOctets) → List (Bar KeyOctets) → Type 0
Imposes k t r bs bs' = apart bs ≡ true → Imposing k t r bs bs'
