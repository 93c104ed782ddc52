-- What a message of the network says: its type octet, its 5GSM cause and its timer octet.
use Rattle.std.specs.Prelude.{ℕ, Some, None, Option}
use Rattle.dl_nas.specs.declared.content.Content.{Content}
use Rattle.dl_nas.specs.declared.content.Content.TheVariants.{EstablishmentAccept, EstablishmentReject, ModificationReject, ModificationCommand, ReleaseReject, ReleaseCommand, Status, EstablishmentRequest, ModificationRequest, ReleaseRequest}

-- The type octet.
abbrev pub message_type_of : Content → ℕ
message_type_of EstablishmentRequest = 0xC1
message_type_of (EstablishmentAccept t) = 0xC2
message_type_of (EstablishmentReject c t) = 0xC3
message_type_of ModificationRequest = 0xC9
message_type_of (ModificationReject c t) = 0xCA
message_type_of (ModificationCommand t) = 0xCB
message_type_of ReleaseRequest = 0xD1
message_type_of (ReleaseReject c t) = 0xD2
message_type_of (ReleaseCommand c t) = 0xD3
message_type_of (Status c t) = 0xD6

-- The cause octet of the fixed part, of the types that have one.
abbrev pub cause_of : Content → Option ℕ
cause_of (EstablishmentReject c t) = Some c
cause_of (ModificationReject c t) = Some c
cause_of (ReleaseReject c t) = Some c
cause_of (ReleaseCommand c t) = Some c
cause_of (Status c t) = Some c
cause_of (EstablishmentAccept t) = None
cause_of (ModificationCommand t) = None
cause_of EstablishmentRequest = None
cause_of ModificationRequest = None
cause_of ReleaseRequest = None

-- The element 37 inside the container, of the types whose elements are read.
abbrev pub timer_of : Content → Option ℕ
timer_of (EstablishmentAccept t) = t
timer_of (EstablishmentReject c t) = t
timer_of (ModificationReject c t) = t
timer_of (ModificationCommand t) = t
timer_of (ReleaseReject c t) = t
timer_of (ReleaseCommand c t) = t
timer_of (Status c t) = t
timer_of EstablishmentRequest = None
timer_of ModificationRequest = None
timer_of ReleaseRequest = None
