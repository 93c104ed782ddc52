-- A time reading: the seconds by which it exceeds the one before are taken off every running timer and every waiting request.
use Rattle.std.specs.Prelude.{ℕ, ◌+◌, ◌-◌, min, Bool, true, false, cond, List, [], ◌∷◌, ◌++◌, map, length, take, Some, None, count_by, Option}
use Rattle.ul_nas.specs.Message.{Message}
use Rattle.ul_nas.specs.Format.{encoding}
use Rattle.uplink.specs.Sizes.{capacity}
use Rattle.session.specs.declared.outcome.Expiry.{Expiry}
use Rattle.session.specs.declared.outcome.Expiry.TheVariants.{Nothing, Repeat, GiveUp}
use Rattle.session.specs.Messages.{pending_message}
use Rattle.session.specs.Session.{SessionView}
use Rattle.session.specs.Time.{counted_expiry, counted_session}
use Rattle.timers.specs.Timers.{counted_timers}
use Rattle.requests.specs.declared.state.Tally.{Tally}
use Rattle.requests.specs.State.{StateView}
use Rattle.rules.specs.declared.answer.Expired.{Expired}

-- the seconds by which a reading exceeds the one before; none if it does not
abbrev pub excess : ℕ → StateView → ℕ
excess reading s = reading - s.reading

abbrev pub is_repeat : Expiry → Bool
is_repeat Nothing = false
is_repeat Repeat = true
is_repeat GiveUp = false

abbrev pub is_given_up : Expiry → Bool
is_given_up Nothing = false
is_given_up Repeat = false
is_given_up GiveUp = true

-- a session's request expires for one of the first four times; for the fifth
abbrev pub repeats : ℕ → SessionView → Bool
repeats seconds v = is_repeat (counted_expiry seconds v.state)

abbrev pub gives_up : ℕ → SessionView → Bool
gives_up seconds v = is_given_up (counted_expiry seconds v.state)

-- the octets of a message, if there is one, before others
abbrev pub encoded_before : Option Message → List (List ℕ) → List (List ℕ)
encoded_before None rest = rest
encoded_before (Some m) rest = encoding m ∷ rest

-- the messages to be repeated, identities rising from the first session's
abbrev pub repeated_messages : ℕ → ℕ → List SessionView → List (List ℕ)
repeated_messages seconds identity [] = []
repeated_messages seconds identity (v ∷ vs) =
    cond (repeats seconds v) (encoded_before (pending_message identity v) (repeated_messages seconds (identity + 1) vs))
    (repeated_messages seconds (identity + 1) vs)

-- how many requests are to be repeated, and how many are given up
abbrev pub due : ℕ → List SessionView → ℕ
due seconds vs = count_by (repeats seconds) vs

abbrev pub given_up_of : ℕ → List SessionView → ℕ
given_up_of seconds vs = count_by (gives_up seconds) vs

-- a repeat is skipped if eight messages wait
abbrev pub sent_of : ℕ → ℕ → ℕ
sent_of due waiting = min due (capacity - waiting)

abbrev pub expired : ℕ → List SessionView → ℕ → Expired
expired seconds vs waiting = record { repeated = sent_of (due seconds vs) waiting; skipped = due seconds vs - sent_of (due seconds vs) waiting; given_up = given_up_of seconds vs }

abbrev pub reading_answer : ℕ → StateView → List (List ℕ) → Expired
reading_answer reading s waiting = expired (excess reading s) s.sessions (length waiting)

abbrev pub tally_given_up : ℕ → Tally → Tally
tally_given_up n t = record { let_out = t.let_out; accepted = t.accepted; rejected = t.rejected; returned = t.returned; overtaken = t.overtaken; given_up = t.given_up + n }

-- the seconds are taken off every timer and every session, each by its own record alone
abbrev pub after_seconds : ℕ → ℕ → StateView → StateView
after_seconds seconds reading s = record {
  sessions = map (counted_session seconds) s.sessions;
  timers = counted_timers seconds s.timers;
  card = s.card;
  network = s.network;
  reading = reading;
  last_pti = s.last_pti;
  tally = tally_given_up (given_up_of seconds s.sessions) s.tally;
}

abbrev pub after_reading : ℕ → StateView → StateView
after_reading reading s = after_seconds (excess reading s) reading s

-- the repeated messages are the newest, as many as there is room for
abbrev pub waiting_after_reading : ℕ → StateView → List (List ℕ) → List (List ℕ)
waiting_after_reading reading s waiting = waiting ++ take (capacity - length waiting) (repeated_messages (excess reading s) 1 s.sessions)
