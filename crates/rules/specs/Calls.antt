-- The calls of a life, told by plain values, and what each answers and does. A life begins with a commissioned handset.
use Rattle.std.specs.Prelude.{ℕ, ◌-◌, min, Bool, true, cond, ◌&&◌, List, ◌++◌, length, replicate, Some, None, Ok, Err, Option, Result, ◌==◌}
use Rattle.requests.specs.declared.question.Question.{Question}
use Rattle.keys.specs.Lengths.{name_length, slice_length}
use Rattle.requests.specs.State.{StateView}
use Rattle.requests.specs.Wanted.{lawful_part, octets_in}
use Rattle.uplink.specs.Sizes.{longest_message}
use Rattle.uplink.specs.Waiting.{after_take, place_after}
use Rattle.rules.specs.declared.answer.Answer.{Answer}
use Rattle.rules.specs.declared.answer.Answer.TheVariants.{SwitchedOn, SwitchedOff, LetOut, Stopped, TakenIn, NotTakenIn, Read, NetworkChanged, Taken, Looked, NotAvailable}
use Rattle.rules.specs.declared.answer.TakenIn.{TakenIn as Taking}
use Rattle.rules.specs.declared.answer.TakeInRefusal.{TakeInRefusal}
use Rattle.rules.specs.declared.answer.TakenMessage.{TakenMessage}
use Rattle.requests.specs.State.{network_changed, looked_up}
use Rattle.rules.specs.Power.{switched_on, restored_count, records_after_off, closed_tally, taken_length}
use Rattle.rules.specs.Requests.{establish_answer, after_establish, waiting_after_establish, modify_answer, after_modify, waiting_after_modify, release_answer, after_release, waiting_after_release}
use Rattle.rules.specs.TakingIn.{take_in_answer, after_take_in, waiting_after_take_in}
use Rattle.rules.specs.Reading.{reading_answer, after_reading, waiting_after_reading}

pub data Said : Type 0 where
  -- card, network, first reading, seconds spent switched off if known
  switch_on : List ℕ → List ℕ → ℕ → Option ℕ → Said
  switch_off : Said
  -- identity, request type, slice and name if present
  establish : ℕ → ℕ → Option (List ℕ) → Option (List ℕ) → Said
  modify : ℕ → Said
  release : ℕ → Said
  take_in : List ℕ → Said
  time_reading : ℕ → Said
  change_network : List ℕ → Said
  -- the octets that the network's place has
  network_take : ℕ → Said
  -- no call of a life: the timers on the keys of a slice and a name are looked at
  look : Option (List ℕ) → Option (List ℕ) → Said

-- what a handset is at a moment: what it remembers while switched on, the waiting messages, the kept records
pub record Handset : Type 0 where
  pub state : Option StateView
  pub waiting : List (List ℕ)
  pub records : List (List ℕ)

-- what a call answers, and the handset after it
pub record Step : Type 0 where
  pub answer : Answer
  pub after : Handset

abbrev pub request_told : Result ℕ Question → Answer
request_told (Ok pti) = LetOut pti
request_told (Err q) = Stopped q

abbrev pub taking_told : Result Taking TakeInRefusal → Answer
taking_told (Ok a) = TakenIn a
taking_told (Err e) = NotTakenIn e

-- the network's place has at most as many octets as a message can have; it is zeros before
abbrev pub place_of : ℕ → List ℕ
place_of room = replicate (min room longest_message) 0

-- the octets of the oldest message, where it is taken, and zeros behind them
abbrev pub taken_message : List (List ℕ) → ℕ → TakenMessage
taken_message waiting room = record {
  «length» = taken_length waiting (min room longest_message);
  octets = place_after waiting (place_of room) ++ replicate (longest_message - min room longest_message) 0;
}

-- a call that the present power state does not have
abbrev pub not_available : Handset → Step
not_available h = record { answer = NotAvailable; after = h }

-- the network's take, on or off
abbrev pub take_step : ℕ → Handset → Step
take_step room h = record {
  answer = Taken (taken_message h.waiting room);
  after = record { state = h.state; waiting = after_take h.waiting (place_of room); records = h.records };
}

-- switched off
abbrev pub off_step : Said → Handset → Step
off_step (switch_on card network reading off) h = record {
  answer = SwitchedOn (restored_count card off h.records);
  after = record { state = Some (switched_on card network reading off h.records); waiting = h.waiting; records = h.records };
}
off_step switch_off h = not_available h
off_step (establish identity type slice name) h = not_available h
off_step (modify identity) h = not_available h
off_step (release identity) h = not_available h
off_step (take_in octets) h = not_available h
off_step (time_reading reading) h = not_available h
off_step (change_network network) h = not_available h
off_step (network_take room) h = take_step room h
off_step (look slice name) h = not_available h

-- a request answered so, with the state and the waiting messages after it
abbrev pub request_step : Result ℕ Question → StateView → List (List ℕ) → List (List ℕ) → Step
request_step r s waiting records = record { answer = request_told r; after = record { state = Some s; waiting = waiting; records = records } }

-- switched on
abbrev pub on_step : Said → StateView → Handset → Step
on_step (switch_on card network reading off) s h = not_available h
on_step switch_off s h = record {
  answer = SwitchedOff (closed_tally s);
  after = record { state = None; waiting = h.waiting; records = records_after_off s h.records };
}
on_step (establish identity type slice name) s h =
    request_step (establish_answer identity type slice name s h.waiting)
    (after_establish (establish_answer identity type slice name s h.waiting) identity type slice name s)
    (waiting_after_establish (establish_answer identity type slice name s h.waiting) identity type slice name h.waiting) h.records
on_step (modify identity) s h =
    request_step (modify_answer identity s h.waiting)
    (after_modify (modify_answer identity s h.waiting) identity s)
    (waiting_after_modify (modify_answer identity s h.waiting) identity h.waiting) h.records
on_step (release identity) s h =
    request_step (release_answer identity s h.waiting)
    (after_release (release_answer identity s h.waiting) identity s)
    (waiting_after_release (release_answer identity s h.waiting) identity h.waiting) h.records
on_step (take_in octets) s h = record {
  answer = taking_told (take_in_answer octets s h.waiting);
  after = record {
    state = Some (after_take_in (take_in_answer octets s h.waiting) octets s);
    waiting = waiting_after_take_in (take_in_answer octets s h.waiting) octets h.waiting;
    records = h.records;
  };
}
on_step (time_reading reading) s h = record {
  answer = Read (reading_answer reading s h.waiting);
  after = record { state = Some (after_reading reading s); waiting = waiting_after_reading reading s h.waiting; records = h.records };
}
on_step (change_network network) s h = record {
  answer = NetworkChanged;
  after = record { state = Some (network_changed network s); waiting = h.waiting; records = h.records };
}
on_step (network_take room) s h = take_step room h
on_step (look slice name) s h = record { answer = Looked (looked_up s (octets_in slice) (octets_in name)); after = h }

-- what a call answers and does, by the power state
abbrev pub step_by : Option StateView → Said → Handset → Step
step_by None call h = off_step call h
step_by (Some s) call h = on_step call s h

abbrev pub step : Said → Handset → Step
step call h = step_by h.state call h

-- a card has 8 octets, a network 3; a slice and a name that are looked at are lawful
abbrev pub lawful_call : Said → Bool
lawful_call (switch_on card network reading off) = length card == 8 && length network == 3
lawful_call switch_off = true
lawful_call (establish identity type slice name) = true
lawful_call (modify identity) = true
lawful_call (release identity) = true
lawful_call (take_in octets) = true
lawful_call (time_reading reading) = true
lawful_call (change_network network) = length network == 3
lawful_call (network_take room) = true
lawful_call (look slice name) = lawful_part slice_length slice && lawful_part name_length name

-- what a script's call answers and does: one of another form is not available, as one that the power state does not have
abbrev pub performed : Said → Handset → Step
performed call h = cond (lawful_call call) (step call h) (not_available h)
