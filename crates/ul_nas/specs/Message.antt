-- What an uplink message says, as a value with no references, and the numbers of its parts.
use Rattle.std.specs.Prelude.{ℕ, Bool, true, false, cond, List, Some, None, Option, ◌==◌}
use Rattle.std.specs.Option.{option_map}
use Rattle.ul_nas.specs.declared.message.RequestType.{RequestType}
use Rattle.ul_nas.specs.declared.message.RequestType.TheVariants.{Initial, Existing, InitialEmergency, ExistingEmergency}
use Rattle.ul_nas.specs.declared.message.Content.{Content}
use Rattle.ul_nas.specs.declared.message.Content.TheVariants.{EstablishmentRequest, ModificationRequest, ReleaseRequest, ModificationComplete, ReleaseComplete, Status}
use Rattle.ul_nas.specs.declared.message.UplinkMessage.{UplinkMessage}

-- the session management messages of the handset; an establishment request has a request type, a slice and a name
pub data Carried : Type 0 where
  establishment_request : RequestType → Option (List ℕ) → Option (List ℕ) → Carried
  modification_request : Carried
  release_request : Carried
  modification_complete : Carried
  release_complete : Carried
  status : Carried

-- an uplink message: identity, PTI and what it carries
pub data Message : Type 0 where
  message : ℕ → ℕ → Carried → Message

-- what the program's values say
abbrev pub carried : Content → Carried
carried (EstablishmentRequest e) = establishment_request e.request_type (option_map (λ x. x.now) e.slice) (option_map (λ x. x.now) e.name)
carried ModificationRequest = modification_request
carried ReleaseRequest = release_request
carried ModificationComplete = modification_complete
carried ReleaseComplete = release_complete
carried Status = status

abbrev pub viewed : UplinkMessage → Message
viewed m = message m.identity m.pti (carried m.content)

-- the number of a request type
abbrev pub request_number : RequestType → ℕ
request_number Initial = 1
request_number Existing = 2
request_number InitialEmergency = 3
request_number ExistingEmergency = 4

-- the request type of a number
abbrev pub request_type_of : ℕ → Option RequestType
request_type_of n =
    cond (n == 1) (Some Initial)
    (cond (n == 2) (Some Existing)
    (cond (n == 3) (Some InitialEmergency)
    (cond (n == 4) (Some ExistingEmergency) None)))

abbrev pub emergency : RequestType → Bool
emergency Initial = false
emergency Existing = false
emergency InitialEmergency = true
emergency ExistingEmergency = true

-- the message type octet
abbrev pub message_type_of : Carried → ℕ
message_type_of (establishment_request t s n) = 0xC1
message_type_of modification_request = 0xC9
message_type_of release_request = 0xD1
message_type_of modification_complete = 0xCC
message_type_of release_complete = 0xD4
message_type_of status = 0xD6
