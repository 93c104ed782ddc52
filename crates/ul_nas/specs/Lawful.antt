-- Which uplink messages are lawful: question 19, apart from the form.
use Rattle.std.specs.Prelude.{ℕ, Bool, true, false, not, ◌&&◌, ◌||◌, List, length, Some, None, Option, ◌==◌, nat_le}
use Rattle.ul_nas.specs.Message.{Carried, establishment_request, modification_request, release_request, modification_complete, release_complete, status, Message, message, emergency}

-- a slice (S-NSSAI) has 1, 2, 4, 5 or 8 octets, or is absent
abbrev pub lawful_slice : Option (List ℕ) → Bool
lawful_slice None = true
lawful_slice (Some octets) = length octets == 1 || length octets == 2 || length octets == 4 || length octets == 5 || length octets == 8

-- a name (DNN) has 1 to 100 octets, or is absent
abbrev pub lawful_name : Option (List ℕ) → Bool
lawful_name None = true
lawful_name (Some octets) = nat_le 1 (length octets) && nat_le (length octets) 100

abbrev pub absent : Option (List ℕ) → Bool
absent None = true
absent (Some octets) = false

-- an emergency request has neither slice nor name
abbrev pub lawful_elements : Carried → Bool
lawful_elements (establishment_request t s n) = (lawful_slice s && lawful_name n) && (not (emergency t) || (absent s && absent n))
lawful_elements modification_request = true
lawful_elements release_request = true
lawful_elements modification_complete = true
lawful_elements release_complete = true
lawful_elements status = true

-- a request has a PTI from 1 to 254, a completion one from 0 to 254, a status message any
abbrev pub lawful_pti : Carried → ℕ → Bool
lawful_pti (establishment_request t s n) p = nat_le 1 p && nat_le p 254
lawful_pti modification_request p = nat_le 1 p && nat_le p 254
lawful_pti release_request p = nat_le 1 p && nat_le p 254
lawful_pti modification_complete p = nat_le p 254
lawful_pti release_complete p = nat_le p 254
lawful_pti status p = true

-- the identity is 1 to 15
abbrev pub lawful : Message → Bool
lawful (message i p c) = (nat_le 1 i && nat_le i 15) && (lawful_pti c p && lawful_elements c)
