-- A time reading, session by session: what the turn of one session does.
use Rattle.std.specs.Prelude.{ℕ, ◌+◌, cond, List, map, Option}
use Rattle.uplink.specs.Waiting.{room}
use Rattle.session.specs.declared.outcome.Expiry.{Expiry}
use Rattle.session.specs.declared.outcome.Expiry.TheVariants.{Nothing, Repeat, GiveUp}
use Rattle.session.specs.Session.{SessionView}
use Rattle.session.specs.Time.{counted_session}
use Rattle.sessions.specs.Acts.{expiry_of, message_of}
use Rattle.sessions.specs.Table.{session_of, changed}
use Rattle.timers.specs.Timers.{counted_timers}
use Rattle.requests.specs.declared.state.Tally.{Tally}
use Rattle.requests.specs.Sending.{with_message}
use Rattle.requests.specs.State.{StateView}
use Rattle.rules.specs.declared.answer.Expired.{Expired}
use Rattle.rules.specs.Reading.{tally_given_up, given_up_of}

abbrev pub expired_so : ℕ → ℕ → ℕ → Expired
expired_so repeated skipped given_up_of = record { repeated = repeated; skipped = skipped; given_up = given_up_of }

-- a request given up is counted
abbrev pub tally_by : Expiry → Tally → Tally
tally_by Nothing t = t
tally_by Repeat t = t
tally_by GiveUp t = tally_given_up 1 t

-- the state with other sessions and another tally
abbrev pub with_turn : List SessionView → Tally → StateView → StateView
with_turn sessions tally s = record {
  sessions = sessions;
  timers = s.timers;
  card = s.card;
  network = s.network;
  reading = s.reading;
  last_pti = s.last_pti;
  tally = tally;
}

-- the seconds are taken off the session of an identity
abbrev pub expired_on : ℕ → ℕ → StateView → StateView
expired_on identity seconds s =
    with_turn (changed identity (counted_session seconds) s.sessions) (tally_by (expiry_of seconds (session_of identity s.sessions)) s.tally) s

-- what the turn of a session answers: it is repeated, or skipped if eight messages wait, or given up
abbrev pub turn_answer : Expiry → ℕ → Expired
turn_answer Nothing waiting = expired_so 0 0 0
turn_answer Repeat waiting = cond (room waiting) (expired_so 1 0 0) (expired_so 0 1 0)
turn_answer GiveUp waiting = expired_so 0 0 1

-- the message of a session's request is sent again if it expired, and there is room
abbrev pub turn_waiting : Expiry → ℕ → Option SessionView → List (List ℕ) → List (List ℕ)
turn_waiting Nothing identity v waiting = waiting
turn_waiting Repeat identity v waiting = with_message (message_of identity v) waiting
turn_waiting GiveUp identity v waiting = waiting

-- the sum of two answers
abbrev pub sum_of : Expired → Expired → Expired
sum_of a b = expired_so (a.repeated + b.repeated) (a.skipped + b.skipped) (a.given_up + b.given_up)

-- the seconds are taken off every session
abbrev pub all_expired : ℕ → StateView → StateView
all_expired seconds s = with_turn (map (counted_session seconds) s.sessions) (tally_given_up (given_up_of seconds s.sessions) s.tally) s

-- the seconds are taken off every timer, and the reading is the latest one
abbrev pub timers_counted : ℕ → ℕ → StateView → StateView
timers_counted seconds reading s = record {
  sessions = s.sessions;
  timers = counted_timers seconds s.timers;
  card = s.card;
  network = s.network;
  reading = reading;
  last_pti = s.last_pti;
  tally = s.tally;
}
