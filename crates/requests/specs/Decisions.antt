-- Which question stops a request, if one does.
use Rattle.std.specs.Prelude.{ℕ, cond, not, Some, None, Ok, Err, Option, Result, nat_lt}
use Rattle.std.specs.Option.{option_map}
use Rattle.keys.specs.Octets.{KeyOctets}
use Rattle.session.specs.Session.{SessionView, name_key_of, slice_name_key_of, slice_key_of}
use Rattle.sessions.specs.Live.{live_keys, with_key}
use Rattle.session.specs.State.{inactive, active}
use Rattle.sessions.specs.Table.{session_of}
use Rattle.keys.specs.KeyParts.{name_key, slice_name_key, slice_key}
use Rattle.session.specs.Session.{session_parts}
use Rattle.ul_nas.specs.Message.{emergency}
use Rattle.uplink.specs.Waiting.{room}
use Rattle.requests.specs.Wanted.{WantedView}
use Rattle.timers.specs.Timers.{barred_by, room_in}
use Rattle.requests.specs.declared.question.Question.{Question}
use Rattle.requests.specs.declared.question.Question.TheVariants as question
use Rattle.requests.specs.Questions.{timer_question}
use Rattle.requests.specs.State.{StateView}

-- 11: fewer than 1,000,000,000 were let out since switch-on; 12: fewer than eight messages wait
abbrev pub let_out_stop : StateView → ℕ → Option Question
let_out_stop s waiting =
    cond (not (nat_lt s.tally.let_out 1000000000)) (Some question.LetOut)
    (cond (not (room waiting)) (Some question.Waiting) None)

-- 7 to 9: the first timer that is running or deactivated on its key
abbrev pub timers_stop : StateView → KeyOctets → Option Question
timers_stop s k = option_map timer_question (barred_by s.timers k)

-- 10: with the request's keys, at most 32 are claimed of each kind
abbrev pub room_stop : StateView → KeyOctets → Option Question
room_stop s k =
    cond (room_in s.timers
    (with_key (name_key k) (live_keys name_key_of s.sessions))
    (with_key (slice_name_key k) (live_keys slice_name_key_of s.sessions))
    (with_key (slice_key k) (live_keys slice_key_of s.sessions)))
    None (Some question.Claimed)

-- a request that no question stops is admitted
abbrev pub admitted : Option Question → Result (Unit {0}) Question
admitted None = Ok tt
admitted (Some q) = Err q

-- the first of two that stops
abbrev pub or_else : Option Question → Option Question → Option Question
or_else None q = q
or_else (Some p) q = Some p

-- the keys of a request, with the network of this moment
abbrev pub request_keys : StateView → WantedView → KeyOctets
request_keys s w = record { network = s.network; slice = w.slice; name = w.name }

-- 7 to 10, unless the request is an emergency one
abbrev pub keys_stop : StateView → WantedView → Option Question
keys_stop s w = cond (emergency w.request_type) None (or_else (timers_stop s (request_keys s w)) (room_stop s (request_keys s w)))

-- 5 and 6, then the others
abbrev pub establish_on : StateView → Option SessionView → WantedView → ℕ → Option Question
establish_on s None w waiting = Some question.Identity
establish_on s (Some v) w waiting = cond (inactive v.state) (or_else (keys_stop s w) (let_out_stop s waiting)) (Some question.Inactive)

abbrev pub establish_stop : StateView → ℕ → WantedView → ℕ → Option Question
establish_stop s identity w waiting = establish_on s (session_of identity s.sessions) w waiting

-- 7 to 9 on the session's own keys, unless it is an emergency session
abbrev pub own_timers_stop : StateView → SessionView → Option Question
own_timers_stop s v = cond (emergency v.request_type) None (timers_stop s (session_parts v))

-- 5 and 13, then 7 to 9, 11, 12
abbrev pub modify_on : StateView → Option SessionView → ℕ → Option Question
modify_on s None waiting = Some question.Identity
modify_on s (Some v) waiting = cond (active v.state) (or_else (own_timers_stop s v) (let_out_stop s waiting)) (Some question.Active)

abbrev pub modify_stop : StateView → ℕ → ℕ → Option Question
modify_stop s identity waiting = modify_on s (session_of identity s.sessions) waiting

-- 5 and 13, then 11, 12
abbrev pub release_on : StateView → Option SessionView → ℕ → Option Question
release_on s None waiting = Some question.Identity
release_on s (Some v) waiting = cond (active v.state) (let_out_stop s waiting) (Some question.Active)

abbrev pub release_stop : StateView → ℕ → ℕ → Option Question
release_stop s identity waiting = release_on s (session_of identity s.sessions) waiting
