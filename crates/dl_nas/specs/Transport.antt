-- The meaning of the outer layer: 7E 00 68, an octet whose low half is 1, a two-octet length, the payload
-- container of that length, and elements to the end.
use Rattle.std.specs.Prelude.{ℕ, ◌+◌, ◌*◌, ◌%◌, Bool, cond, not, ◌&&◌, List, length, take, drop, Some, None, Ok, Err, Option, Result, ◌==◌, nat_lt, slice_index}
use Rattle.dl_nas.specs.declared.elements.Found.{Found}
use Rattle.dl_nas.specs.declared.elements.ElementFault.{ElementFault}
use Rattle.dl_nas.specs.declared.transport.TransportFault.{TransportFault}
use Rattle.dl_nas.specs.declared.transport.TransportFault.TheVariants.{Element, Cut, Beginning}
use Rattle.dl_nas.specs.Elements.{walked, nothing, element_number, element_place}

-- The octet at i is there, and is not as it should be.
abbrev pub wrong_at : List ℕ → ℕ → Bool → Bool
wrong_at xs i good = nat_lt i (length xs) && not good

-- The first wrong octet of the four of the beginning.
abbrev pub misbegun : List ℕ → Option ℕ
misbegun xs =
    cond (wrong_at xs 0 (slice_index xs 0 == 0x7E)) (Some 0)
    (cond (wrong_at xs 1 (slice_index xs 1 == 0x00)) (Some 1)
    (cond (wrong_at xs 2 (slice_index xs 2 == 0x68)) (Some 2)
    (cond (wrong_at xs 3 (slice_index xs 3 % 16 == 1)) (Some 3) None)))

-- The length that the octets 4 and 5 give.
abbrev pub payload_length : List ℕ → ℕ
payload_length xs = 256 * slice_index xs 4 + slice_index xs 5

-- The place behind the container.
abbrev pub payload_end : List ℕ → ℕ
payload_end xs = 6 + payload_length xs

-- The payload container; its place is 6.
abbrev pub payload_of : List ℕ → List ℕ
payload_of xs = take (payload_length xs) (drop 6 xs)

-- The upper fault carries the lower one whole.
abbrev pub outer_lifted : Result Found ElementFault → Result Found TransportFault
outer_lifted (Ok f) = Ok f
outer_lifted (Err e) = Err (Element e)

-- Behind a beginning with the wrong octet told, or with none.
abbrev pub begun : List ℕ → Option ℕ → Result Found TransportFault
begun xs (Some place) = Err (Beginning place)
begun xs None =
    cond (nat_lt (length xs) 6) (Err (Cut (length xs)))
    (cond (nat_lt (length xs) (payload_end xs)) (Err (Cut (length xs)))
    (outer_lifted (walked (drop (payload_end xs) xs) 0 (payload_end xs) nothing)))

-- The elements that the outer layer says, or what is wrong with it.
abbrev pub outer_of : List ℕ → Result Found TransportFault
outer_of xs = begun xs (misbegun xs)

-- The number of a fault of the outer layer: 14, is the beginning as above? 15, is nothing cut short?
abbrev pub transport_number : TransportFault → ℕ
transport_number (Element e) = element_number e
transport_number (Cut p) = 15
transport_number (Beginning p) = 14

-- The place of a fault of the outer layer.
abbrev pub transport_place : TransportFault → ℕ
transport_place (Element e) = element_place e
transport_place (Cut p) = p
transport_place (Beginning p) = p
