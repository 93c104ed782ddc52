-- What a name and a slice hold, and which octets make one.
use Rattle.std.specs.Prelude.{ℕ, Bool, cond, List, [], length, Some, None, Ok, Err, Option, Result}
use Rattle.octet_string.specs.Held.{held}
use Rattle.keys.specs.declared.name.Name.{Name}
use Rattle.keys.specs.declared.slice.Slice.{Slice}
use Rattle.keys.specs.declared.refusal.PartRefusal.{PartRefusal}

-- the octets of a name; none where it is absent
abbrev pub name_octets : Name → List ℕ
name_octets n = held n.octets

-- the octets of a slice; none where it is absent
abbrev pub slice_octets : Slice → List ℕ
slice_octets s = held s.octets

-- the octets of what was made, or the refusal
abbrev pub made_octets : {A : Type 0} → (A → List ℕ) → Result A PartRefusal → Result (List ℕ) PartRefusal
made_octets octets (Ok x) = Ok (octets x)
made_octets octets (Err refusal) = Err refusal

-- what is made of what was given: nothing makes the absent one, octets of a lawful number make one of these octets
abbrev pub made_of : (ℕ → Bool) → PartRefusal → Option (List ℕ) → Result (List ℕ) PartRefusal
made_of lawful refusal None = Ok []
made_of lawful refusal (Some xs) = cond (lawful (length xs)) (Ok xs) (Err refusal)
