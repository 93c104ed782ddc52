-- The law of a time reading: the sessions have their turns one after the other, and what a turn does depends on the session's own
-- record and on how many messages wait when it comes.
use Rattle.std.specs.Prelude.{◌≡◌, ℕ, ◌+◌, ◌-◌, List, [], ◌∷◌, ◌++◌, map, length, take, Some}
use Rattle.rules.specs.Reading.{repeated_messages, expired}
use Rattle.session.specs.Session.{SessionView}
use Rattle.session.specs.Time.{counted_expiry, counted_session}
use Rattle.uplink.specs.Sizes.{capacity}
use Rattle.readings.specs.Turns.{turn_answer, turn_waiting, sum_of}

-- the messages that wait once some sessions, from identity 1 on, have had their turns
abbrev pub waiting_once : ℕ → List (List ℕ) → List SessionView → List (List ℕ)
waiting_once seconds waiting served = waiting ++ take (capacity - length waiting) (repeated_messages seconds 1 served)

-- the turn of the next session
pub record Turn (seconds : ℕ) (waiting : List (List ℕ)) (served : List SessionView) (v : SessionView) : Type 0 where
  -- its record afterwards is made of its own record alone
  pub session : map (counted_session seconds) (served ++ v ∷ []) ≡ map (counted_session seconds) served ++ counted_session seconds v ∷ []
  -- its message is sent again if its request expired, and there is room for it then
  pub queue : waiting_once seconds waiting (served ++ v ∷ [])
      ≡ turn_waiting (counted_expiry seconds v.state) (length served + 1) (Some v) (waiting_once seconds waiting served)
  -- and the answer counts it as repeated, skipped or given up
  pub answer : expired seconds (served ++ v ∷ []) (length waiting)
      ≡ sum_of (expired seconds served (length waiting)) (turn_answer (counted_expiry seconds v.state) (length (waiting_once seconds waiting served)))

abbrev pub TurnByTurn : Type 0
TurnByTurn = (seconds : ℕ) (waiting : List (List ℕ)) (served : List SessionView) (v : SessionView) → Turn seconds waiting served v
