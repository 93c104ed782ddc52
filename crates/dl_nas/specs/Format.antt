-- The format of a message of the network, in its own words: what a writer of such messages would follow. It does
-- not speak of the reader; Laws says that the reader accepts exactly the messages of this format.
use Rattle.std.specs.Prelude.{◌≡◌, ℕ, ◌+◌, ◌*◌, ◌%◌, ◌<◌, ◌≤◌, Bool, true, false, cond, ◌||◌, List, [], ◌∷◌, ◌++◌, length, Some, None, Option, ◌==◌, slice_index}
use Rattle.dl_nas.specs.declared.content.Content.{Content}
use Rattle.dl_nas.specs.declared.content.Content.TheVariants.{EstablishmentAccept, EstablishmentReject, ModificationReject, ModificationCommand, ReleaseReject, ReleaseCommand, Status, EstablishmentRequest, ModificationRequest, ReleaseRequest}
use Rattle.dl_nas.specs.declared.message.Received.{Received}
use Rattle.dl_nas.specs.Content.{message_type_of}

-- An element: an identifier alone; an identifier and its value; an identifier, two length octets and the content; an
-- identifier, one length octet (the content's length) and the content.
pub data Item : Type 0 where
  single : ℕ → Item
  pair : ℕ → ℕ → Item
  long : ℕ → ℕ → ℕ → List ℕ → Item
  short : ℕ → List ℕ → Item

-- The identifier.
abbrev pub identifier : Item → ℕ
identifier (single x) = x
identifier (pair x v) = x
identifier (long x h l c) = x
identifier (short x c) = x

-- The octets behind the identifier.
abbrev pub behind : Item → List ℕ
behind (single x) = []
behind (pair x v) = v ∷ []
behind (long x h l c) = h ∷ (l ∷ c)
behind (short x c) = length c ∷ c

-- The first octet of the content: the timer octet of 37, the 5GMM cause of 58, the identity of 12. An element of
-- one octet has none, and is not looked for.
abbrev pub value : Item → ℕ
value (single x) = 0
value (pair x v) = v
value (long x h l c) = slice_index c 0
value (short x c) = slice_index c 0

-- The identifiers of elements of two octets in all.
abbrev pub paired : ℕ → Bool
paired x = x == 0x12 || x == 0x56 || x == 0x58 || x == 0x59

-- Which identifiers have which form, with the length that the length octets give, and 37 with the length 1.
abbrev pub Lawful : Item → Type 0
Lawful (single x) = 0x80 ≤ x
Lawful (pair x v) = paired x ≡ true
Lawful (long x h l c) = (0x70 ≤ x) × (x < 0x80) × (length c ≡ 256 * h + l)
Lawful (short x c) = (0x10 ≤ x) × (x < 0x70) × (paired x ≡ false) × (x ≡ 0x37 → length c ≡ 1)

-- Every element of a list is lawful.
abbrev pub AllLawful : List Item → Type 0
AllLawful [] = Unit {0}
AllLawful (e ∷ es) = Lawful e × AllLawful es

-- The octets of a list of elements.
abbrev pub octets_of : List Item → List ℕ
octets_of [] = []
octets_of (e ∷ es) = identifier e ∷ (behind e ++ octets_of es)

-- The first element with an identifier: its value.
abbrev pub first_value : ℕ → List Item → Option ℕ
first_value id [] = None
first_value id (e ∷ es) = cond (identifier e == id) (Some (value e)) (first_value id es)

-- Elements of which the first 37 has the timer octet t, if there is one.
abbrev pub Timed : Option ℕ → List ℕ → Type 0
Timed t ys = (es : List Item) × AllLawful es × (ys ≡ octets_of es) × (t ≡ first_value 0x37 es)

-- A cause octet, and elements.
abbrev pub CausedBy : ℕ → Option ℕ → List ℕ → Type 0
CausedBy c t ys = (rest : List ℕ) × (ys ≡ c ∷ rest) × Timed t rest

-- One octet, a block with a two-octet length, a block with a one-octet length, and elements.
abbrev pub Blocks : Option ℕ → List ℕ → Type 0
Blocks t ys = (m : ℕ) × (h : ℕ) × (l : ℕ) × (first : List ℕ) × (second : List ℕ) × (rest : List ℕ)
    × (ys ≡ m ∷ (h ∷ (l ∷ (first ++ (length second ∷ (second ++ rest)))))) × (length first ≡ 256 * h + l) × Timed t rest

-- What stands behind the type, by the content. Of the handset's own messages that is not looked at.
abbrev pub Says : Content → List ℕ → Type 0
Says (EstablishmentAccept t) ys = Blocks t ys
Says (EstablishmentReject c t) ys = CausedBy c t ys
Says (ModificationReject c t) ys = CausedBy c t ys
Says (ModificationCommand t) ys = Timed t ys
Says (ReleaseReject c t) ys = CausedBy c t ys
Says (ReleaseCommand c t) ys = CausedBy c t ys
Says (Status c t) ys = CausedBy c t ys
Says EstablishmentRequest ys = Unit {0}
Says ModificationRequest ys = Unit {0}
Says ReleaseRequest ys = Unit {0}

-- The octets xs are a message of the network that says r: the beginning, the container's length, the container
-- (2E, identity, PTI, type and what stands behind it), and elements, of which the first 12 has the container's identity.
pub record WellFormed (xs : List ℕ) (r : Received) : Type 0 where
  -- the fourth octet, and the two octets of the container's length
  pub half : ℕ
  pub high : ℕ
  pub low : ℕ
  -- what stands behind the type, and the elements behind the container
  pub body : List ℕ
  pub outer : List Item
  pub octets_are : xs ≡ 0x7E ∷ (0x00 ∷ (0x68 ∷ (half ∷ (high ∷ (low ∷
      ((0x2E ∷ (r.identity ∷ (r.pti ∷ (message_type_of r.content ∷ body)))) ++ octets_of outer))))))
  pub half_is : half % 16 ≡ 1
  pub length_is : 4 + length body ≡ 256 * high + low
  pub lawful : AllLawful outer
  pub says : Says r.content body
  pub identity_is : first_value 0x12 outer ≡ Some r.identity
  pub cause_is : first_value 0x58 outer ≡ r.mm_cause
  pub timer_is : first_value 0x37 outer ≡ r.outer_timer
