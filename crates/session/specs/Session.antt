-- A session told by plain values, and what letting a request out makes of it.
use Rattle.std.specs.Prelude.{ℕ, List, [], ◌∷◌, Option}
use Rattle.std.specs.Option.{option_map}
use Rattle.keys.specs.Octets.{KeyOctets}
use Rattle.keys.specs.Parts.{name_octets, slice_octets}
use Rattle.ul_nas.specs.declared.message.RequestType.{RequestType}
use Rattle.ul_nas.specs.declared.message.RequestType.TheVariants.{Initial}
use Rattle.session.specs.declared.state.State.{State}
use Rattle.session.specs.declared.state.State.TheVariants.{Inactive, ActivePending, ModificationPending, InactivePending}
use Rattle.session.specs.declared.session.Session.{Session}
use Rattle.session.specs.State.{new_request, waiting_of}

-- the state; the request type, slice, name and network of its establishment request, by octets, none where absent
pub record SessionView : Type 0 where
  pub state : State
  pub request_type : RequestType
  pub slice : List ℕ
  pub name : List ℕ
  pub network : List ℕ

abbrev pub session_view : Session → SessionView
session_view s =
    record { state = s.state; request_type = s.request_type; slice = slice_octets s.parts.slice; name = name_octets s.parts.name; network = s.parts.network.octets }

-- a session that was never established
abbrev pub unused : SessionView
unused = record { state = Inactive; request_type = Initial; slice = []; name = []; network = 0 ∷ 0 ∷ 0 ∷ [] }

-- another state, the other data as they are
abbrev pub with_state : State → SessionView → SessionView
with_state s v = record { state = s; request_type = v.request_type; slice = v.slice; name = v.name; network = v.network }

-- an establishment request leaves, and fixes the request type, the slice, the name and the network
abbrev pub established : RequestType → List ℕ → List ℕ → List ℕ → ℕ → SessionView
established t slice name network p = record { state = ActivePending (new_request p); request_type = t; slice = slice; name = name; network = network }

-- the same, from the parts of its keys
abbrev pub established_with : RequestType → KeyOctets → ℕ → SessionView
established_with t k p = established t k.slice k.name k.network p

-- a modification request leaves
abbrev pub modified : ℕ → SessionView → SessionView
modified p = with_state (ModificationPending (new_request p))

-- a release request leaves
abbrev pub released : ℕ → SessionView → SessionView
released p = with_state (InactivePending (new_request p))

-- the PTI of the waiting request
abbrev pub waiting_pti : SessionView → Option ℕ
waiting_pti v = option_map (λ w. w.pti) (waiting_of v.state)

-- the parts of its keys
abbrev pub session_parts : SessionView → KeyOctets
session_parts v = record { network = v.network; slice = v.slice; name = v.name }

-- the T3396 key: the name
abbrev pub name_key_of : SessionView → KeyOctets
name_key_of v = record { network = []; slice = []; name = v.name }

-- the T3584 key: network, slice and name
abbrev pub slice_name_key_of : SessionView → KeyOctets
slice_name_key_of v = record { network = v.network; slice = v.slice; name = v.name }

-- the T3585 key: network and slice
abbrev pub slice_key_of : SessionView → KeyOctets
slice_key_of v = record { network = v.network; slice = v.slice; name = [] }
