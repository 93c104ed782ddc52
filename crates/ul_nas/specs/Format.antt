-- The written form of an uplink message: UL NAS TRANSPORT (3GPP TS 24.501, 8.2.10) around a session management message (8.3).
use Rattle.std.specs.Prelude.{ℕ, ◌+◌, ◌/◌, ◌%◌, List, [], ◌∷◌, ◌++◌, length, Some, None, Option}
use Rattle.ul_nas.specs.Message.{Carried, establishment_request, modification_request, release_request, modification_complete, release_complete, status, Message, message, message_type_of, request_number}

-- a number in two octets, the high one first
abbrev pub two_octets : ℕ → List ℕ
two_octets n = (n / 256) ∷ (n % 256) ∷ []

-- the fixed part behind the message type: the integrity protection data rates of an establishment request, the cause of a status message
abbrev pub fixed_part : Carried → List ℕ
fixed_part (establishment_request t s n) = 0xFF ∷ 0xFF ∷ []
fixed_part modification_request = []
fixed_part release_request = []
fixed_part modification_complete = []
fixed_part release_complete = []
fixed_part status = 0x2B ∷ []

-- the payload container: 2E, identity, PTI, message type, fixed part
abbrev pub container : ℕ → ℕ → Carried → List ℕ
container i p c = 0x2E ∷ (i ∷ (p ∷ (message_type_of c ∷ fixed_part c)))

-- 7E 00 67 01, the length of the container, the container, 12 and the identity
abbrev pub frame : ℕ → ℕ → Carried → List ℕ
frame i p c = 0x7E ∷ (0x00 ∷ (0x67 ∷ (0x01 ∷ (two_octets (length (container i p c)) ++ (container i p c ++ (0x12 ∷ (i ∷ [])))))))

-- an element: its identifier, its length in one octet, its octets
abbrev pub element : ℕ → List ℕ → List ℕ
element identifier octets = identifier ∷ (length octets ∷ octets)

-- an element that may be absent
abbrev pub optional : ℕ → Option (List ℕ) → List ℕ
optional identifier None = []
optional identifier (Some octets) = element identifier octets

-- what follows the identity: for an establishment request 8T with the request type T, then 22 with the slice and 25 with the name
abbrev pub elements : Carried → List ℕ
elements (establishment_request t s n) = (0x80 + request_number t) ∷ (optional 0x22 s ++ optional 0x25 n)
elements modification_request = []
elements release_request = []
elements modification_complete = []
elements release_complete = []
elements status = []

abbrev pub encoding : Message → List ℕ
encoding (message i p c) = frame i p c ++ elements c
