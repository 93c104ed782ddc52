-- Two worked messages, and their octets.
use Rattle.std.specs.Prelude.{ℕ, List, [], ◌∷◌, Some}
use Rattle.ul_nas.specs.declared.message.RequestType.TheVariants.{Initial}
use Rattle.ul_nas.specs.Message.{Message, message, establishment_request, release_complete}

-- an initial request for the session 5: PTI 1, slice 01, name 03 69 6D 73 (ims)
abbrev pub worked_request : Message
worked_request = message 5 1 (establishment_request Initial (Some (0x01 ∷ [])) (Some (0x03 ∷ 0x69 ∷ 0x6D ∷ 0x73 ∷ [])))

abbrev pub worked_request_octets : List ℕ
worked_request_octets =
    0x7E ∷ 0x00 ∷ 0x67 ∷ 0x01 ∷ 0x00 ∷ 0x06 ∷ 0x2E ∷ 0x05 ∷ 0x01 ∷ 0xC1 ∷ 0xFF ∷ 0xFF ∷ 0x12 ∷ 0x05
    ∷ 0x81 ∷ 0x22 ∷ 0x01 ∷ 0x01 ∷ 0x25 ∷ 0x04 ∷ 0x03 ∷ 0x69 ∷ 0x6D ∷ 0x73 ∷ []

-- the completion of a release of the session 5 that the network began: PTI 0
abbrev pub worked_reply : Message
worked_reply = message 5 0 release_complete

abbrev pub worked_reply_octets : List ℕ
worked_reply_octets = 0x7E ∷ 0x00 ∷ 0x67 ∷ 0x01 ∷ 0x00 ∷ 0x04 ∷ 0x2E ∷ 0x05 ∷ 0x00 ∷ 0xD4 ∷ 0x12 ∷ 0x05 ∷ []
