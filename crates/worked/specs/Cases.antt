-- Eight worked cases: what the rules give for each.
use Rattle.std.specs.Prelude.{◌≡◌, ℕ, List, [], ◌∷◌, ◌++◌, replicate, Some, None, Ok, Option}
use Rattle.backoff.specs.declared.octet.TimerValue.TheVariants as value
use Rattle.backoff.specs.declared.timer.BackOffTimer.{BackOffTimer}
use Rattle.backoff.specs.declared.timer.BackOffTimer.TheVariants.{Stopped, Running}
use Rattle.backoff.specs.Octet.{reading, shown}
use Rattle.keeper.specs.Records.{blank_records}
use Rattle.law.specs.Moments.{life}
use Rattle.requests.specs.declared.question.Question.TheVariants as question
use Rattle.rules.specs.declared.answer.Answer.{Answer}
use Rattle.rules.specs.declared.answer.Answer.TheVariants.{SwitchedOn, SwitchedOff, LetOut, Stopped, TakenIn, Read, Looked}
use Rattle.rules.specs.Calls.{Said, switch_on, switch_off, establish, take_in, time_reading, look}
use Rattle.session.specs.declared.outcome.Ended.{Ended}
use Rattle.session.specs.declared.outcome.Ended.TheVariants.{Accepted, Nothing}
use Rattle.session.specs.declared.outcome.Reply.{Reply}
use Rattle.session.specs.declared.outcome.Reply.TheVariants.{ReleaseComplete}
use Rattle.session.specs.declared.timers.TimerKind.TheVariants.{T3396}
use Rattle.session.specs.declared.timers.TimerRule.{TimerRule}
use Rattle.session.specs.declared.timers.TimerRule.TheVariants.{NoMark, Mark}

-- a card, a network, a slice and a name
abbrev pub card : List ℕ
card = 0x01 ∷ 0x02 ∷ 0x03 ∷ 0x04 ∷ 0x05 ∷ 0x06 ∷ 0x07 ∷ 0x08 ∷ []

abbrev pub network : List ℕ
network = 0x00 ∷ 0xF1 ∷ 0x10 ∷ []

abbrev pub slice : List ℕ
slice = 0x01 ∷ []

abbrev pub ims : List ℕ
ims = 0x03 ∷ 0x69 ∷ 0x6D ∷ 0x73 ∷ []

-- the beginning of every case: commissioned, and switched on at reading 0
abbrev pub on : Said
on = switch_on card network 0 None

-- an initial request for identity 5
abbrev pub ask : Said
ask = establish 5 1 (Some slice) (Some ims)

-- the network accepts it, with PTI 1
abbrev pub accept : Said
accept = take_in (0x7E ∷ 0x00 ∷ 0x68 ∷ 0x01 ∷ 0x00 ∷ 0x08 ∷ 0x2E ∷ 0x05 ∷ 0x01 ∷ 0xC2 ∷ 0x11 ∷ 0x00 ∷ 0x00 ∷ 0x00 ∷ 0x12 ∷ 0x05 ∷ [])

-- the network releases it by itself, with cause 1A and the timer octet A5
abbrev pub command : Said
command = take_in (0x7E ∷ 0x00 ∷ 0x68 ∷ 0x01 ∷ 0x00 ∷ 0x08 ∷ 0x2E ∷ 0x05 ∷ 0x00 ∷ 0xD3 ∷ 0x1A ∷ 0x37 ∷ 0x01 ∷ 0xA5 ∷ 0x12 ∷ 0x05 ∷ [])

-- the request of identity 5 with PTI 1, as it waits
abbrev pub request : List ℕ
request = 0x7E ∷ 0x00 ∷ 0x67 ∷ 0x01 ∷ 0x00 ∷ 0x06 ∷ 0x2E ∷ 0x05 ∷ 0x01 ∷ 0xC1 ∷ 0xFF ∷ 0xFF ∷ 0x12 ∷ 0x05 ∷ 0x81 ∷ 0x22 ∷ 0x01 ∷ 0x01 ∷ 0x25 ∷ 0x04 ∷ 0x03 ∷ 0x69 ∷ 0x6D ∷ 0x73 ∷ []

-- the reply to the release command
abbrev pub complete : List ℕ
complete = 0x7E ∷ 0x00 ∷ 0x67 ∷ 0x01 ∷ 0x00 ∷ 0x04 ∷ 0x2E ∷ 0x05 ∷ 0x00 ∷ 0xD4 ∷ 0x12 ∷ 0x05 ∷ []

-- the answers, and the waiting messages, of a script
abbrev pub answers : List Said → List Answer
answers script = (life script [] blank_records).replies

abbrev pub queue : List Said → List (List ℕ)
queue script = (life script [] blank_records).handset.waiting

abbrev pub told : Ended → TimerRule → Option Reply → Answer
told ended rule reply = TakenIn (record { identity = 5; ended = ended; rule = rule; reply = reply })

abbrev pub read : ℕ → ℕ → ℕ → Answer
read repeated skipped given_up_of = Read (record { repeated = repeated; skipped = skipped; given_up = given_up_of })

abbrev pub t3396 : BackOffTimer → Answer
t3396 timer = Looked (record { t3396 = timer; t3584 = Stopped; t3585 = Stopped })

-- up to the release of the session by the network
abbrev pub released : List Said
released = on ∷ ask ∷ accept ∷ command ∷ []

abbrev pub released_answers : List Answer
released_answers = SwitchedOn 0 ∷ LetOut 1 ∷ told Accepted NoMark None ∷ told Nothing (Mark T3396 (value.Seconds 300)) (Some ReleaseComplete) ∷ []

pub record WorkedCases : Type 0 where
  -- 1: the timer octet
  pub a5 : reading 0xA5 ≡ value.Seconds 300
  pub a0 : reading 0xA0 ≡ value.Zero
  pub e0 : reading 0xE0 ≡ value.Deactivated
  pub show_62 : shown 62 ≡ Ok 0x7F
  pub show_63 : shown 63 ≡ Ok 0x83
  -- 2: the establishment request of identity 5 as it is sent
  pub request_sent : queue (on ∷ ask ∷ []) ≡ request ∷ []
  -- 3: the release command in ACTIVE, and its reply
  pub command_taken : answers released ≡ released_answers
  pub reply_sent : queue released ≡ request ∷ complete ∷ []
  -- 4: then that name gets 7 at 299 counted seconds, and leaves at 300
  pub waits_300 : answers (released ++ time_reading 299 ∷ ask ∷ time_reading 300 ∷ ask ∷ [])
      ≡ released_answers ++ read 0 0 0 ∷ Stopped question.T3396 ∷ read 0 0 0 ∷ LetOut 2 ∷ []
  -- 5: a name of 101 octets gets 3, and one of 100 passes
  pub long_name : answers (on ∷ establish 5 1 None (Some (replicate 101 0x61)) ∷ establish 5 1 None (Some (replicate 100 0x61)) ∷ []) ≡ SwitchedOn 0 ∷ Stopped question.Name ∷ LetOut 1 ∷ []
  -- 6: 300 seconds left, the same card, 299 seconds off: 1 is left; 300 off: none
  pub off_299 : answers (released ++ switch_off ∷ switch_on card network 0 (Some 299) ∷ look (Some slice) (Some ims) ∷ [])
      ≡ released_answers ++ SwitchedOff (record { since_on = record { let_out = 1; accepted = 1; rejected = 0; returned = 0; overtaken = 0; given_up = 0 }; cut_off = 0 }) ∷ SwitchedOn 1 ∷ t3396 (Running 1) ∷ []
  pub off_300 : answers (released ++ switch_off ∷ switch_on card network 0 (Some 300) ∷ look (Some slice) (Some ims) ∷ [])
      ≡ released_answers ++ SwitchedOff (record { since_on = record { let_out = 1; accepted = 1; rejected = 0; returned = 0; overtaken = 0; given_up = 0 }; cut_off = 0 }) ∷ SwitchedOn 0 ∷ t3396 Stopped ∷ []
  -- 7: reading 50 after 90 counts 0, then 60 counts 10
  pub backwards : answers (released ++ time_reading 90 ∷ look (Some slice) (Some ims) ∷ time_reading 50 ∷ look (Some slice) (Some ims) ∷ time_reading 60 ∷ look (Some slice) (Some ims) ∷ [])
      ≡ released_answers ++ read 0 0 0 ∷ t3396 (Running 210) ∷ read 0 0 0 ∷ t3396 (Running 210) ∷ read 0 0 0 ∷ t3396 (Running 200) ∷ []
  -- 8: five readings 16 apart: four repeats, then given up
  pub five_readings : answers (on ∷ ask ∷ time_reading 16 ∷ time_reading 32 ∷ time_reading 48 ∷ time_reading 64 ∷ time_reading 80 ∷ [])
      ≡ SwitchedOn 0 ∷ LetOut 1 ∷ read 1 0 0 ∷ read 1 0 0 ∷ read 1 0 0 ∷ read 1 0 0 ∷ read 0 0 1 ∷ []
