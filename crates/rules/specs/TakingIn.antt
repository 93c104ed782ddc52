-- Take in: the message is read, the session's state and the message decide together, then a due reply needs room.
use Rattle.std.specs.Prelude.{ℕ, ◌+◌, cond, not, ◌&&◌, List, [], ◌∷◌, ◌++◌, length, is_some, Some, None, Ok, Err, Option, Result}
use Rattle.dl_nas.specs.declared.message.MessageFault.{MessageFault}
use Rattle.dl_nas.specs.declared.message.Received.{Received}
use Rattle.dl_nas.specs.Message.{received}
use Rattle.ul_nas.specs.Format.{encoding}
use Rattle.uplink.specs.Waiting.{room}
use Rattle.session.specs.declared.outcome.Ended.{Ended}
use Rattle.session.specs.declared.outcome.Ended.TheVariants.{Accepted, Rejected, Returned, Overtaken, Nothing}
use Rattle.session.specs.declared.outcome.Outcome.{Outcome}
use Rattle.session.specs.declared.outcome.Reply.{Reply}
use Rattle.session.specs.declared.timers.TimerRule.{TimerRule}
use Rattle.session.specs.declared.timers.TimerRule.TheVariants.{NoMark}
use Rattle.session.specs.Messages.{reply_message}
use Rattle.session.specs.Session.{SessionView}
use Rattle.session.specs.Timers.{timer_rule}
use Rattle.session.specs.Transitions.{taken_in, outcome_of}
use Rattle.sessions.specs.Table.{session_of, changed}
use Rattle.session.specs.Session.{session_parts}
use Rattle.timers.specs.Timers.{TimersView, ruled}
use Rattle.requests.specs.declared.state.Tally.{Tally}
use Rattle.requests.specs.State.{StateView}
use Rattle.rules.specs.declared.answer.TakenIn.{TakenIn}
use Rattle.rules.specs.declared.answer.TakeInRefusal.{TakeInRefusal}
use Rattle.rules.specs.declared.answer.TakeInRefusal.TheVariants as refusal

-- a message that is passed over
abbrev pub passed_over : ℕ → TakenIn
passed_over identity = record { identity = identity; ended = Nothing; rule = NoMark; reply = None }

-- what the message did to its session, what it rules on the timers, and the reply
abbrev pub did : Received → SessionView → Outcome → TakenIn
did m v o = record { identity = m.identity; ended = o.ended; rule = timer_rule v.request_type m o.took_effect; reply = o.reply }

-- 12: if a reply is due, fewer than eight messages wait
abbrev pub unless_full : Option Reply → TakenIn → ℕ → Result TakenIn TakeInRefusal
unless_full reply answer waiting = cond (is_some reply && not (room waiting)) (Err refusal.Waiting) (Ok answer)

-- identities 0 and from 16 up are passed over
abbrev pub taken_on : Option SessionView → Received → ℕ → Result TakenIn TakeInRefusal
taken_on None m waiting = Ok (passed_over m.identity)
taken_on (Some v) m waiting = unless_full (outcome_of v m).reply (did m v (outcome_of v m)) waiting

-- 14 to 18, then the session, then 12
abbrev pub taken : Result Received MessageFault → StateView → ℕ → Result TakenIn TakeInRefusal
taken (Err fault) s waiting = Err (refusal.Message fault)
taken (Ok m) s waiting = taken_on (session_of m.identity s.sessions) m waiting

abbrev pub take_in_answer : List ℕ → StateView → List (List ℕ) → Result TakenIn TakeInRefusal
take_in_answer octets s waiting = taken (received octets) s (length waiting)

-- the tally counts what ended
abbrev pub tally_with : Ended → Tally → Tally
tally_with Accepted t = record { let_out = t.let_out; accepted = t.accepted + 1; rejected = t.rejected; returned = t.returned; overtaken = t.overtaken; given_up = t.given_up }
tally_with Rejected t = record { let_out = t.let_out; accepted = t.accepted; rejected = t.rejected + 1; returned = t.returned; overtaken = t.overtaken; given_up = t.given_up }
tally_with Returned t = record { let_out = t.let_out; accepted = t.accepted; rejected = t.rejected; returned = t.returned + 1; overtaken = t.overtaken; given_up = t.given_up }
tally_with Overtaken t = record { let_out = t.let_out; accepted = t.accepted; rejected = t.rejected; returned = t.returned; overtaken = t.overtaken + 1; given_up = t.given_up }
tally_with Nothing t = t

-- the rule acts on the keys of the message's session
abbrev pub ruled_on : TimerRule → Option SessionView → TimersView → TimersView
ruled_on rule None t = t
ruled_on rule (Some v) t = ruled rule (session_parts v) t

-- the state after a message that was taken in
abbrev pub with_message : Received → TakenIn → StateView → StateView
with_message m a s = record {
  sessions = changed m.identity (λ v. taken_in v m) s.sessions;
  timers = ruled_on a.rule (session_of m.identity s.sessions) s.timers;
  card = s.card;
  network = s.network;
  reading = s.reading;
  last_pti = s.last_pti;
  tally = tally_with a.ended s.tally;
}

-- a refusal of any kind leaves everything alone
abbrev pub after_taken : Result TakenIn TakeInRefusal → Result Received MessageFault → StateView → StateView
after_taken (Err e) message s = s
after_taken (Ok a) (Err fault) s = s
after_taken (Ok a) (Ok m) s = with_message m a s

abbrev pub after_take_in : Result TakenIn TakeInRefusal → List ℕ → StateView → StateView
after_take_in r octets s = after_taken r (received octets) s

-- the reply repeats the received identity and PTI, and is the newest waiting message
abbrev pub replied : Option Reply → Received → List (List ℕ) → List (List ℕ)
replied None m waiting = waiting
replied (Some reply) m waiting = waiting ++ encoding (reply_message reply m.identity m.pti) ∷ []

abbrev pub waiting_after_taken : Result TakenIn TakeInRefusal → Result Received MessageFault → List (List ℕ) → List (List ℕ)
waiting_after_taken (Err e) message waiting = waiting
waiting_after_taken (Ok a) (Err fault) waiting = waiting
waiting_after_taken (Ok a) (Ok m) waiting = replied a.reply m waiting

abbrev pub waiting_after_take_in : Result TakenIn TakeInRefusal → List ℕ → List (List ℕ) → List (List ℕ)
waiting_after_take_in r octets waiting = waiting_after_taken r (received octets) waiting
