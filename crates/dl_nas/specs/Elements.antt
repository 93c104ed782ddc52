-- The meaning of a run of optional elements: a recursion over the octets. `skip` is how many of the octets to
-- come still belong to the element that was begun; at 0 an identifier stands next. `place` is the place, in the
-- whole message, of the first octet of the list.
use Rattle.std.specs.Prelude.{◌≡◌, ℕ, zero, suc, ◌+◌, ◌*◌, ◌<◌, ◌≤◌, Bool, cond, not, ◌&&◌, ◌||◌, List, [], ◌∷◌, length, Some, None, Ok, Err, Option, Result, ◌==◌, nat_le, nat_lt, slice_index}
use Rattle.dl_nas.specs.declared.elements.Seen.{Seen}
use Rattle.dl_nas.specs.declared.elements.Found.{Found}
use Rattle.dl_nas.specs.declared.elements.ElementFault.{ElementFault}
use Rattle.dl_nas.specs.declared.elements.ElementFault.TheVariants.{Cut, ReservedIdentifier, TimerLength}

-- How many octets after the identifier x belong to its element; `after` is what follows the identifier. Where a
-- length octet is missing it counts as 0, and the sum still passes the end, so that the element is cut.
abbrev pub extent : ℕ → List ℕ → ℕ
extent x after =
    cond (nat_le 0x80 x) 0
    (cond (x == 0x12 || x == 0x56 || x == 0x58 || x == 0x59) 1
    (cond (nat_le 0x70 x) (2 + (256 * slice_index after 0 + slice_index after 1))
    (1 + slice_index after 0)))

-- What is wrong with an identifier and its length, before any cut: 00 to 0F, and 37 of another length than 1.
abbrev pub fault_at : ℕ → ℕ → List ℕ → Option ElementFault
fault_at x place after =
    cond (nat_lt x 0x10) (Some (ReservedIdentifier place))
    (cond (x == 0x37 && (nat_lt 0 (length after) && not (slice_index after 0 == 1))) (Some (TimerLength (place + 1))) None)

-- The first of a repeated element counts.
abbrev pub first_of : Bool → Option Seen → Seen → Option Seen
first_of here None s = cond here (Some s) None
first_of here (Some t) s = Some t

-- What is found, with the element x at `place` and what follows its identifier.
abbrev pub noted : Found → ℕ → ℕ → List ℕ → Found
noted f x place after = record {
  timer = first_of (x == 0x37) f.timer (record { octet = slice_index after 1; place = place });
  cause = first_of (x == 0x58) f.cause (record { octet = slice_index after 0; place = place });
  identity = first_of (x == 0x12) f.identity (record { octet = slice_index after 0; place = place });
}

-- No element is found yet.
abbrev pub nothing : Found
nothing = record { timer = None; cause = None; identity = None }

-- An element at fault ends the walk.
abbrev pub unless : Option ElementFault → Result Found ElementFault → Result Found ElementFault
unless None r = r
unless (Some e) r = Err e

-- The walk: octets, skip, place, and what is found so far.
abbrev pub walked : List ℕ → ℕ → ℕ → Found → Result Found ElementFault
walked [] zero place f = Ok f
walked [] (suc k) place f = Err (Cut place)
walked (x ∷ xs) (suc k) place f = walked xs k (place + 1) f
walked (x ∷ xs) zero place f =
    unless (fault_at x place xs) (walked xs (extent x xs) (place + 1) (noted f x place xs))

-- What the reader of one element's extent answers.
abbrev pub Extent : ℕ → ℕ → List ℕ → Result ℕ ElementFault → Type 0
Extent x place after (Ok n) = (fault_at x place after ≡ None) × (n ≡ extent x after) × (n ≤ length after)
Extent x place after (Err (Cut p)) = (fault_at x place after ≡ None) × (length after < extent x after) × (p ≡ place + 1 + length after)
Extent x place after (Err (ReservedIdentifier p)) = fault_at x place after ≡ Some (ReservedIdentifier p)
Extent x place after (Err (TimerLength p)) = fault_at x place after ≡ Some (TimerLength p)

-- The number of an element's fault: 15, is nothing cut short? 16, is no identifier 00 to 0F, and 37 of length 1?
abbrev pub element_number : ElementFault → ℕ
element_number (Cut p) = 15
element_number (ReservedIdentifier p) = 16
element_number (TimerLength p) = 16

-- The place of an element's fault.
abbrev pub element_place : ElementFault → ℕ
element_place (Cut p) = p
element_place (ReservedIdentifier p) = p
element_place (TimerLength p) = p
