-- The laws of the reader, above its meaning.
use Rattle.std.specs.Prelude.{◌≡◌, ℕ, ◌+◌, ◌<◌, cond, List, [], ◌∷◌, ◌++◌, length, Some, None, Ok, Err, Option, Result, ◌==◌, ◌≢◌}
use Rattle.dl_nas.specs.declared.elements.Seen.{Seen}
use Rattle.dl_nas.specs.declared.elements.Found.{Found}
use Rattle.dl_nas.specs.declared.elements.ElementFault.TheVariants.{Cut, ReservedIdentifier, TimerLength}
use Rattle.dl_nas.specs.declared.message.Received.{Received}
use Rattle.dl_nas.specs.declared.message.MessageFault.{MessageFault}
use Rattle.dl_nas.specs.Elements.{nothing, walked}
use Rattle.dl_nas.specs.Format.{Item, identifier, behind, value, Lawful, AllLawful, octets_of, WellFormed}

-- One holds exactly when the other does.
abbrev pub Iff : Type 0 → Type 0 → Type 0
Iff P Q = (P → Q) × (Q → P)

-- The first element with an identifier: its value, and the place of the identifier; `place` is that of the first element.
abbrev pub first_seen : ℕ → List Item → ℕ → Option Seen
first_seen id [] place = None
first_seen id (e ∷ es) place =
    cond (identifier e == id) (Some (record { octet = value e; place = place })) (first_seen id es (place + (1 + length (behind e))))

-- The first of each element that is looked for.
abbrev pub firsts : List Item → ℕ → Found
firsts es place = record { timer = first_seen 0x37 es place; cause = first_seen 0x58 es place; identity = first_seen 0x12 es place }

-- The law of the walk: it accepts exactly the sequences of whole elements, and finds the first of each.
abbrev pub WalkFindsFirst : Type 0
WalkFindsFirst = (xs : List ℕ) (place : ℕ) (f : Found)
    → Iff (walked xs 0 place nothing ≡ Ok f) ((es : List Item) × AllLawful es × (xs ≡ octets_of es) × (f ≡ firsts es place))

-- Behind whole elements the first octet at fault decides, whatever follows it: an identifier 00 to 0F at its place;
-- 37 of another length than 1 at its length octet; an element of which the layer holds only the front zs, one past
-- the layer's last octet.
pub record RefusesBehind (es : List Item) (place : ℕ) : Type 0 where
  pub reserved : (x : ℕ) (ys : List ℕ) → x < 0x10
      → walked (octets_of es ++ (x ∷ ys)) 0 place nothing ≡ Err (ReservedIdentifier (place + length (octets_of es)))
  pub timer : (n : ℕ) (ys : List ℕ) → (n ≢ 1)
      → walked (octets_of es ++ (0x37 ∷ (n ∷ ys))) 0 place nothing ≡ Err (TimerLength (place + length (octets_of es) + 1))
  pub cut : (e : Item) (zs ws : List ℕ) → Lawful e → behind e ≡ zs ++ ws → 0 < length ws
      → walked (octets_of es ++ (identifier e ∷ zs)) 0 place nothing ≡ Err (Cut (place + length (octets_of es) + 1 + length zs))

-- The law of the walk's refusals.
abbrev pub WalkRefusesFirstFault : Type 0
WalkRefusesFirstFault = (es : List Item) (place : ℕ) → AllLawful es → RefusesBehind es place

-- The law of the reader: its answer to xs is Ok exactly for a message of the format, and then it is what that message says.
abbrev pub AcceptsFormat : List ℕ → Result Received MessageFault → Type 0
AcceptsFormat xs answer = (r : Received) → Iff (answer ≡ Ok r) (WellFormed xs r)
