-- The meaning of a payload container: 2E, identity, PTI, type, the type's fixed part, elements. `place` is the
-- place, in the whole message, of its first octet.
use Rattle.std.specs.Prelude.{◌≡◌, ℕ, ◌+◌, ◌*◌, ◌≤◌, cond, not, List, length, drop, Some, None, Ok, Err, Option, Result, ◌==◌, nat_lt, slice_index}
use Rattle.dl_nas.specs.declared.elements.Seen.{Seen}
use Rattle.dl_nas.specs.declared.elements.Found.{Found}
use Rattle.dl_nas.specs.declared.elements.ElementFault.{ElementFault}
use Rattle.dl_nas.specs.declared.content.Content.{Content}
use Rattle.dl_nas.specs.declared.content.Content.TheVariants.{EstablishmentAccept, EstablishmentReject, ModificationReject, ModificationCommand, ReleaseReject, ReleaseCommand, Status, EstablishmentRequest, ModificationRequest, ReleaseRequest}
use Rattle.dl_nas.specs.declared.container.Caused.{Caused}
use Rattle.dl_nas.specs.declared.container.Caused.TheVariants as caused
use Rattle.dl_nas.specs.declared.container.Returned.{Returned}
use Rattle.dl_nas.specs.declared.container.Returned.TheVariants as returned
use Rattle.dl_nas.specs.declared.container.Form.{Form}
use Rattle.dl_nas.specs.declared.container.Form.TheVariants.{Accept, Cause, Command, Request}
use Rattle.dl_nas.specs.declared.container.Inner.{Inner}
use Rattle.dl_nas.specs.declared.container.ContainerFault.{ContainerFault}
use Rattle.dl_nas.specs.declared.container.ContainerFault.TheVariants.{Element, Cut, NotSessionManagement, UnlistedType}
use Rattle.dl_nas.specs.Elements.{walked, nothing, element_number, element_place}

-- The types listed for the network, with the form of their fixed part.
abbrev pub form_of : ℕ → Option Form
form_of t =
    cond (t == 0xC1) (Some (Request returned.Establishment))
    (cond (t == 0xC2) (Some Accept)
    (cond (t == 0xC3) (Some (Cause caused.EstablishmentReject))
    (cond (t == 0xC9) (Some (Request returned.Modification))
    (cond (t == 0xCA) (Some (Cause caused.ModificationReject))
    (cond (t == 0xCB) (Some Command)
    (cond (t == 0xD1) (Some (Request returned.Release))
    (cond (t == 0xD2) (Some (Cause caused.ReleaseReject))
    (cond (t == 0xD3) (Some (Cause caused.ReleaseCommand))
    (cond (t == 0xD6) (Some (Cause caused.Status)) None)))))))))

-- The length of the first block of the fixed part of C2; `ys` is what follows the type.
abbrev pub first_block : List ℕ → ℕ
first_block ys = 256 * slice_index ys 1 + slice_index ys 2

-- How many octets the fixed part takes. C2: one octet, a block with a two-octet length, a block with a one-octet
-- length; a missing length counts as 0, and the sum still passes the end. A returned request is passed over whole.
abbrev pub fixed_size : Form → List ℕ → ℕ
fixed_size Accept ys = 4 + first_block ys + slice_index ys (3 + first_block ys)
fixed_size (Cause c) ys = 1
fixed_size Command ys = 0
fixed_size (Request r) ys = length ys

-- What the reader of a fixed part answers: the rest of the octets and its place.
abbrev pub Passed : Form → List ℕ → ℕ → List ℕ → ℕ → Type 0
Passed k ys place rest at = (rest ≡ drop (fixed_size k ys) ys) × (at ≡ place + fixed_size k ys) × (fixed_size k ys ≤ length ys)

-- The message with a cause octet, by its type.
abbrev pub caused_of : Caused → ℕ → Option ℕ → Content
caused_of caused.EstablishmentReject c t = EstablishmentReject c t
caused_of caused.ModificationReject c t = ModificationReject c t
caused_of caused.ReleaseReject c t = ReleaseReject c t
caused_of caused.ReleaseCommand c t = ReleaseCommand c t
caused_of caused.Status c t = Status c t

-- The handset's own message, sent back.
abbrev pub returned_of : Returned → Content
returned_of returned.Establishment = EstablishmentRequest
returned_of returned.Modification = ModificationRequest
returned_of returned.Release = ReleaseRequest

-- The content, from the form, the fixed part at the front of `ys` and the timer octet of the elements.
abbrev pub content_of : Form → List ℕ → Option ℕ → Content
content_of Accept ys t = EstablishmentAccept t
content_of (Cause c) ys t = caused_of c (slice_index ys 0) t
content_of Command ys t = ModificationCommand t
content_of (Request r) ys t = returned_of r

-- The octet of an element, where the element was seen.
abbrev pub octet_of : Option Seen → Option ℕ
octet_of None = None
octet_of (Some s) = Some s.octet

-- The upper fault carries the lower one whole.
abbrev pub inner_lifted : Result Found ElementFault → (Found → Inner) → Result Inner ContainerFault
inner_lifted (Ok f) k = Ok (k f)
inner_lifted (Err e) k = Err (Element e)

-- What a container says whose elements were read.
abbrev pub inner_of : ℕ → ℕ → Form → List ℕ → Found → Inner
inner_of identity pti k ys f = record { identity = identity; pti = pti; content = content_of k ys (octet_of f.timer) }

-- Behind the header, by the form of the type.
abbrev pub body_of : ℕ → ℕ → Option Form → List ℕ → ℕ → Result Inner ContainerFault
body_of identity pti None ys place = Err (UnlistedType (place + 3))
body_of identity pti (Some k) ys place =
    cond (nat_lt (length ys) (fixed_size k ys)) (Err (Cut (place + 4 + length ys)))
    (inner_lifted (walked (drop (fixed_size k ys) ys) 0 (place + 4 + fixed_size k ys) nothing) (inner_of identity pti k ys))

-- What the container says, or what is wrong with it.
abbrev pub container_of : List ℕ → ℕ → Result Inner ContainerFault
container_of xs place =
    cond (length xs == 0) (Err (Cut place))
    (cond (not (slice_index xs 0 == 0x2E)) (Err (NotSessionManagement place))
    (cond (nat_lt (length xs) 4) (Err (Cut (place + length xs)))
    (body_of (slice_index xs 1) (slice_index xs 2) (form_of (slice_index xs 3)) (drop 4 xs) place)))

-- The number of a container's fault: 15, is nothing cut short? 17, is 2E there, and a type listed for the network?
abbrev pub container_number : ContainerFault → ℕ
container_number (Element e) = element_number e
container_number (Cut p) = 15
container_number (NotSessionManagement p) = 17
container_number (UnlistedType p) = 17

-- The place of a container's fault.
abbrev pub container_place : ContainerFault → ℕ
container_place (Element e) = element_place e
container_place (Cut p) = p
container_place (NotSessionManagement p) = p
container_place (UnlistedType p) = p
