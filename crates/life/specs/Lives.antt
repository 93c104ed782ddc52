-- What performing a script gives, and the law that holds of it.
use Rattle.std.specs.Prelude.{◌≡◌, ℕ, ◌<◌, ◌≤◌, List, [], ◌++◌, length, drop, fold}
use Rattle.law.specs.Law.{Law}
use Rattle.law.specs.Moments.{Life, called, life}
use Rattle.rules.specs.declared.answer.Answer.{Answer}
use Rattle.rules.specs.Calls.{Said, Handset}

-- a life that begins with a handset, and goes on by the calls of a script
abbrev pub starting : Handset → Life
starting h = record { moments = []; replies = []; handset = h }

abbrev pub goes_on : Handset → List Said → Life
goes_on h script = fold called (starting h) script

-- the answers of a script in front of those that stood behind
abbrev pub filled : List Answer → ℕ → List Answer → List Answer
filled replies n before = replies ++ drop n before

-- a script was performed from a commissioned handset on: the answers are those that the rules give, in the script's order, those
-- behind them staying; the handset is what the rules give; and at every moment the law holds
pub record Performed (script : List Said) (waiting records : List (List ℕ)) (before after : List Answer) (handset : Handset) : Type 0 where
  pub enough : length script ≤ length before
  pub answers : after ≡ filled (life script waiting records).replies (length script) before
  pub handset_is : handset ≡ (life script waiting records).handset
  pub law : Law waiting (life script waiting records).moments

-- too few answers for the script: nothing was done, uplink and keeper are handed back as they were
pub record Refused {U K : Type 0} (script : List Said) (uplink uplink' : U) (keeper keeper' : K) (before after : List Answer) : Type 0 where
  pub too_few : length before < length script
  pub uplink_is : uplink' ≡ uplink
  pub keeper_is : keeper' ≡ keeper
  pub answers : after ≡ before
