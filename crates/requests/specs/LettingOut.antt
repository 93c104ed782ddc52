-- What a request that leaves makes of the state.
use Rattle.std.specs.Prelude.{ℕ, ◌+◌, List, Some, None, Ok, Err, Option, Result}
use Rattle.session.specs.Session.{SessionView, established, modified, released}
use Rattle.sessions.specs.Ptis.{next_free}
use Rattle.sessions.specs.Table.{changed}
use Rattle.requests.specs.declared.question.Question.{Question}
use Rattle.requests.specs.declared.state.Tally.{Tally}
use Rattle.requests.specs.State.{StateView}
use Rattle.requests.specs.Wanted.{WantedView}

-- one request more was let out
abbrev pub one_more : Tally → Tally
one_more t = record {
  let_out = t.let_out + 1;
  accepted = t.accepted;
  rejected = t.rejected;
  returned = t.returned;
  overtaken = t.overtaken;
  given_up = t.given_up;
}

-- a PTI is given, and one request more was let out
abbrev pub with_pti_given : ℕ → StateView → StateView
with_pti_given pti s = record {
  sessions = s.sessions;
  timers = s.timers;
  card = s.card;
  network = s.network;
  reading = s.reading;
  last_pti = pti;
  tally = one_more s.tally;
}

-- other sessions, and all else as it was
abbrev pub with_sessions : List SessionView → StateView → StateView
with_sessions sessions s = record {
  sessions = sessions;
  timers = s.timers;
  card = s.card;
  network = s.network;
  reading = s.reading;
  last_pti = s.last_pti;
  tally = s.tally;
}

-- the session of an identity changes as the request says, the PTI is the one given last, and one request more was let out
abbrev pub let_out_of : ℕ → (SessionView → SessionView) → ℕ → StateView → StateView
let_out_of identity leaves pti s = with_sessions (changed identity leaves s.sessions) (with_pti_given pti s)

-- an establishment request leaves, with the network of this moment
abbrev pub let_out_establishment : ℕ → WantedView → ℕ → StateView → StateView
let_out_establishment identity w pti s = let_out_of identity (λ _. established w.request_type w.slice w.name s.network pti) pti s

-- a modification request leaves
abbrev pub let_out_modification : ℕ → ℕ → StateView → StateView
let_out_modification identity pti s = let_out_of identity (modified pti) pti s

-- a release request leaves
abbrev pub let_out_release : ℕ → ℕ → StateView → StateView
let_out_release identity pti s = let_out_of identity (released pti) pti s

-- the question that stopped the request, if one did
abbrev pub stopped_by : Result ℕ Question → Option Question
stopped_by (Ok pti) = None
stopped_by (Err q) = Some q

-- the PTI with which the request was let out, if it was
abbrev pub given_pti : Result ℕ Question → Option ℕ
given_pti (Ok pti) = Some pti
given_pti (Err q) = None

-- the next PTI after the one given last that no waiting request has, where no question stops the request
abbrev pub pti_unless : Option Question → StateView → Option ℕ
pti_unless None s = next_free s.sessions s.last_pti
pti_unless (Some q) s = None

-- the next PTI, if there is one
abbrev pub pti_or_zero : Option ℕ → ℕ
pti_or_zero None = 0
pti_or_zero (Some p) = p

-- the next PTI after the one given last that no waiting request has
abbrev pub next_pti : StateView → ℕ
next_pti s = pti_or_zero (next_free s.sessions s.last_pti)

-- a request that no question stops is let out with the next PTI
abbrev pub unless_stopped : Option Question → StateView → Result ℕ Question
unless_stopped None s = Ok (next_pti s)
unless_stopped (Some q) s = Err q

-- a request that leaves changes the state, a stopped one nothing
abbrev pub after_request : Result ℕ Question → (ℕ → StateView → StateView) → StateView → StateView
after_request (Ok pti) leaves s = leaves pti s
after_request (Err q) leaves s = s
