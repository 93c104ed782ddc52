-- The requests of a life, read off the list of its moments alone, the newest first.
use Rattle.std.specs.Prelude.{ℕ, zero, suc, ◌+◌, ◌-◌, Bool, true, false, cond, List, [], ◌∷◌, ◌++◌, is_some, Some, None, Option, ◌==◌, nat_le, nat_lt}
use Rattle.std.specs.Option.{option_map}
use Rattle.keys.specs.Octets.{KeyOctets}
use Rattle.requests.specs.Wanted.{octets_in}
use Rattle.session.specs.Laws.{ends}
use Rattle.ul_nas.specs.declared.message.RequestType.{RequestType}
use Rattle.ul_nas.specs.Message.{request_type_of}
use Rattle.rules.specs.declared.answer.Answer.{Answer}
use Rattle.rules.specs.declared.answer.Answer.TheVariants.{SwitchedOn, SwitchedOff, LetOut, Stopped, TakenIn, NotTakenIn, Read, NetworkChanged, Taken, Looked, NotAvailable}
use Rattle.rules.specs.declared.answer.TakenIn.{TakenIn as Taking}
use Rattle.rules.specs.Calls.{Said, switch_on, switch_off, establish, modify, release, take_in, time_reading, change_network, network_take, look}
use Rattle.law.specs.Moments.{Moment}

-- what an answer tells: that a request was let out, what a message did, how many requests were given up
pub record Tells : Type 0 where
  pub out : Bool
  pub message : Option Taking
  pub given_up_of : ℕ

abbrev pub nothing_told : Tells
nothing_told = record { out = false; message = None; given_up_of = 0 }

abbrev pub told_by : Answer → Tells
told_by (SwitchedOn n) = nothing_told
told_by (SwitchedOff t) = nothing_told
told_by (LetOut pti) = record { out = true; message = None; given_up_of = 0 }
told_by (Stopped q) = nothing_told
told_by (TakenIn t) = record { out = false; message = Some t; given_up_of = 0 }
told_by (NotTakenIn e) = nothing_told
told_by (Read e) = record { out = false; message = None; given_up_of = e.given_up }
told_by NetworkChanged = nothing_told
told_by (Taken m) = nothing_told
told_by (Looked t) = nothing_told
told_by NotAvailable = nothing_told

-- whether it is switched on, the last reading, the network, and the card of the last switch-on
pub record Now : Type 0 where
  pub on : Bool
  pub reading : ℕ
  pub network : List ℕ
  pub card : List ℕ

abbrev pub then : Said → Now → Now
then (switch_on card network reading off) n = record { on = true; reading = reading; network = network; card = card }
then switch_off n = record { on = false; reading = n.reading; network = n.network; card = n.card }
then (establish identity type slice name) n = n
then (modify identity) n = n
then (release identity) n = n
then (take_in octets) n = n
then (time_reading reading) n = record { on = n.on; reading = reading; network = n.network; card = n.card }
then (change_network network) n = record { on = n.on; reading = n.reading; network = network; card = n.card }
then (network_take room) n = n
then (look slice name) n = n

abbrev pub now : List Moment → Now
now [] = record { on = false; reading = 0; network = []; card = [] }
now (m ∷ h) = then m.call (now h)

-- what an establishment asked for: its type; the network of its moment, slice and name
pub record Asked : Type 0 where
  pub request_type : RequestType
  pub parts : KeyOctets

abbrev pub asked_for : ℕ → List ℕ → Option (List ℕ) → Option (List ℕ) → Option Asked
asked_for type network slice name =
    option_map (λ t. record { request_type = t; parts = record { network = network; slice = octets_in slice; name = octets_in name } }) (request_type_of type)

abbrev pub asks : ℕ → List ℕ → Answer → Said → Option Asked → Option Asked
asks i network a (switch_on card network' reading off) was = was
asks i network a switch_off was = was
asks i network a (establish identity type slice name) was = cond (told_by a).out (cond (identity == i) (asked_for type network slice name) was) was
asks i network a (modify identity) was = was
asks i network a (release identity) was = was
asks i network a (take_in octets) was = was
asks i network a (time_reading reading) was = was
asks i network a (change_network network') was = was
asks i network a (network_take room) was = was
asks i network a (look slice name) was = was

-- the last establishment that was let out on an identity
abbrev pub asked : ℕ → List Moment → Option Asked
asked i [] = None
asked i (m ∷ h) = asks i (now h).network m.answer m.call (asked i h)

-- what happens to the requests of one identity: the handset is switched on or off and none is pending, one is let out, a
-- message ends one, seconds pass
pub data Event : Type 0 where
  cleared : Event
  sent : Event
  ended : Event
  passed : ℕ → Event

abbrev pub leaving : ℕ → ℕ → Answer → List Event
leaving i identity a = cond (told_by a).out (cond (identity == i) (sent ∷ []) []) []

abbrev pub ending : ℕ → Option Taking → List Event
ending i None = []
ending i (Some t) = cond (ends t.ended) (cond (t.identity == i) (ended ∷ []) []) []

abbrev pub event : ℕ → ℕ → Answer → Said → List Event
event i last a (switch_on card network reading off) = cleared ∷ []
event i last a switch_off = cleared ∷ []
event i last a (establish identity type slice name) = leaving i identity a
event i last a (modify identity) = leaving i identity a
event i last a (release identity) = leaving i identity a
event i last a (take_in octets) = ending i (told_by a).message
event i last a (time_reading reading) = passed (reading - last) ∷ []
event i last a (change_network network) = []
event i last a (network_take room) = []
event i last a (look slice name) = []

-- the events of one identity
abbrev pub of : ℕ → List Moment → List Event
of i [] = []
of i (m ∷ h) = event i (now h).reading m.answer m.call ++ of i h

-- a pending request: the seconds left of its 16, and how often it expired
pub record Pending : Type 0 where
  pub left : ℕ
  pub expiries : ℕ

-- seconds are taken off; at none left it expires once and has 16 again; the fifth expiry gives it up
abbrev pub later : ℕ → Option Pending → Option Pending
later n None = None
later n (Some p) =
    cond (nat_lt n p.left) (Some (record { left = p.left - n; expiries = p.expiries }))
    (cond (nat_lt p.expiries 4) (Some (record { left = 16; expiries = p.expiries + 1 })) None)

-- the pending request of an identity, if there is one
abbrev pub pending : List Event → Option Pending
pending [] = None
pending (cleared ∷ es) = None
pending (sent ∷ es) = Some (record { left = 16; expiries = 0 })
pending (ended ∷ es) = None
pending (passed n ∷ es) = later n (pending es)

-- how many readings at least 16 seconds above the one before have come since the last request left
abbrev pub long_readings : List Event → ℕ
long_readings [] = 0
long_readings (cleared ∷ es) = 0
long_readings (sent ∷ es) = 0
long_readings (ended ∷ es) = long_readings es
long_readings (passed n ∷ es) = cond (nat_le 16 n) 1 0 + long_readings es

-- how many of n identities from one on have something
abbrev pub how_many : (ℕ → Bool) → ℕ → ℕ → ℕ
how_many has i zero = 0
how_many has i (suc n) = cond (has i) 1 0 + how_many has (i + 1) n

-- how many of the identities 1 to 15 have a pending request
abbrev pub waiting : List Moment → ℕ
waiting h = how_many (λ i. is_some (pending (of i h))) 1 15
