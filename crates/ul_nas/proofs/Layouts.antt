-- The written form, octet by octet.
use Rattle.std.proofs.Common.{◌≡◌, ℕ, ◌+◌, List, ◌∷◌, ◌++◌, length, refl}
use Rattle.ul_nas.specs.Message.{Carried, establishment_request, modification_request, release_request, modification_complete, release_complete, status, message, message_type_of}
use Rattle.ul_nas.specs.Format.{fixed_part, elements, encoding}

-- what follows the message type
abbrev pub behind : ℕ → Carried → List ℕ
behind i c = fixed_part c ++ (0x12 ∷ (i ∷ elements c))

abbrev pub layout : ℕ → ℕ → Carried → List ℕ
layout i p c =
    0x7E ∷ (0x00 ∷ (0x67 ∷ (0x01 ∷ (0x00 ∷ ((4 + length (fixed_part c)) ∷ (0x2E ∷ (i ∷ (p ∷ (message_type_of c ∷ behind i c)))))))))

pub layout_is : (i p : ℕ) (c : Carried) → encoding (message i p c) ≡ layout i p c
layout_is i p (establishment_request t s n) = refl
layout_is i p modification_request = refl
layout_is i p release_request = refl
layout_is i p modification_complete = refl
layout_is i p release_complete = refl
layout_is i p status = refl
