-- What octets say as an uplink message, layer by layer. Question 19 refuses where the answer is None.
use Rattle.std.specs.Prelude.{ℕ, ◌+◌, ◌-◌, Bool, cond, ◌&&◌, List, length, take, drop, Some, None, Ok, Err, Option, Result, ◌==◌, nat_le, nat_lt, slice_index}
use Rattle.ul_nas.specs.declared.message.RequestType.{RequestType}
use Rattle.ul_nas.specs.declared.message.UplinkMessage.{UplinkMessage}
use Rattle.ul_nas.specs.declared.read.NotWrittenForm.{NotWrittenForm}
use Rattle.ul_nas.specs.Message.{Carried, establishment_request, modification_request, release_request, modification_complete, release_complete, status, Message, message, request_type_of, viewed}
use Rattle.ul_nas.specs.Lawful.{lawful}

-- an element that may be absent, at the front: its octets, and what follows it; None where it is cut short
abbrev pub optional_of : ℕ → List ℕ → Option (Option (List ℕ) × List ℕ)
optional_of identifier xs =
    cond (nat_lt 0 (length xs) && slice_index xs 0 == identifier)
    (cond (nat_le 2 (length xs) && nat_le (2 + slice_index xs 1) (length xs))
    (Some (Some (take (slice_index xs 1) (drop 2 xs)), drop (2 + slice_index xs 1) xs)) None)
    (Some (None, xs))

-- nothing follows the name
abbrev pub named_of : RequestType → Option (List ℕ) → Option (Option (List ℕ) × List ℕ) → Option Carried
named_of t s None = None
named_of t s (Some r) = cond (length r.1 == 0) (Some (establishment_request t s r.0)) None

-- 25 with the name follows the slice
abbrev pub sliced_of : RequestType → Option (Option (List ℕ) × List ℕ) → Option Carried
sliced_of t None = None
sliced_of t (Some r) = named_of t r.0 (optional_of 0x25 r.1)

-- 22 with the slice follows the request type
abbrev pub elements_of : Option RequestType → List ℕ → Option Carried
elements_of None zs = None
elements_of (Some t) zs = sliced_of t (optional_of 0x22 zs)

-- the octet 8T with the request type T
abbrev pub type_octet_of : ℕ → Option RequestType
type_octet_of octet = cond (nat_le 0x80 octet) (request_type_of (octet - 0x80)) None

-- behind the message type of an establishment request: FF FF, 12 and the identity, the request type, elements
abbrev pub establishing : ℕ → List ℕ → Bool
establishing i ys = nat_le 5 (length ys) && (slice_index ys 0 == 0xFF && (slice_index ys 1 == 0xFF && (slice_index ys 2 == 0x12 && slice_index ys 3 == i)))

abbrev pub establishment_of : ℕ → List ℕ → Option Carried
establishment_of i ys = cond (establishing i ys) (elements_of (type_octet_of (slice_index ys 4)) (drop 5 ys)) None

-- behind the message type of a status message: 2B, 12 and the identity
abbrev pub reporting : ℕ → List ℕ → Bool
reporting i ys = length ys == 3 && (slice_index ys 0 == 0x2B && (slice_index ys 1 == 0x12 && slice_index ys 2 == i))

-- behind the message type of the others: 12 and the identity
abbrev pub ending : ℕ → List ℕ → Bool
ending i ys = length ys == 2 && (slice_index ys 0 == 0x12 && slice_index ys 1 == i)

-- the messages whose container is the header only
abbrev pub header_only_of : ℕ → Option Carried
header_only_of octet =
    cond (octet == 0xC9) (Some modification_request)
    (cond (octet == 0xD1) (Some release_request)
    (cond (octet == 0xCC) (Some modification_complete)
    (cond (octet == 0xD4) (Some release_complete) None)))

-- by the message type and the length of the container
abbrev pub carried_of : ℕ → ℕ → ℕ → List ℕ → Option Carried
carried_of i octet size ys =
    cond (octet == 0xC1 && size == 6) (establishment_of i ys)
    (cond (octet == 0xD6 && size == 5) (cond (reporting i ys) (Some status) None)
    (cond (size == 4 && ending i ys) (header_only_of octet) None))

-- only a lawful message is told
abbrev pub judged : ℕ → ℕ → Option Carried → Option Message
judged i p None = None
judged i p (Some c) = cond (lawful (message i p c)) (Some (message i p c)) None

-- 7E 00 67 01, the container's length below 256, 2E; then identity, PTI and message type
abbrev pub opening : List ℕ → Bool
opening xs = nat_le 10 (length xs) && (slice_index xs 0 == 0x7E && (slice_index xs 1 == 0 && (slice_index xs 2 == 0x67 && (slice_index xs 3 == 1 && (slice_index xs 4 == 0 && slice_index xs 6 == 0x2E)))))

abbrev pub told : List ℕ → Option Message
told xs = cond (opening xs) (judged (slice_index xs 7) (slice_index xs 8) (carried_of (slice_index xs 7) (slice_index xs 9) (slice_index xs 5) (drop 10 xs))) None

-- what the reader's answer says
abbrev pub shown : Result UplinkMessage NotWrittenForm → Option Message
shown (Ok m) = Some (viewed m)
shown (Err e) = None

-- the number of the refusal
abbrev pub read_refusal_number : NotWrittenForm → ℕ
read_refusal_number e = 19
