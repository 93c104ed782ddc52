-- What an establishment request asks for, and the questions 1 to 4.
use Rattle.std.specs.Prelude.{ℕ, Bool, true, cond, not, ◌&&◌, ◌||◌, List, [], length, is_some, Some, None, Ok, Err, Option, Result}
use Rattle.keys.specs.Lengths.{name_length, slice_length}
use Rattle.keys.specs.Octets.{KeyOctets}
use Rattle.keys.specs.Parts.{name_octets, slice_octets}
use Rattle.ul_nas.specs.declared.message.RequestType.{RequestType}
use Rattle.ul_nas.specs.Message.{emergency, request_type_of}
use Rattle.requests.specs.declared.question.Question.{Question}
use Rattle.requests.specs.declared.question.Question.TheVariants as question
use Rattle.requests.specs.declared.wanted.Wanted.{Wanted}

-- the request type, and the slice and the name by their octets, none where absent
pub record WantedView : Type 0 where
  pub request_type : RequestType
  pub slice : List ℕ
  pub name : List ℕ

abbrev pub wanted_view : Wanted → WantedView
wanted_view w = record { request_type = w.request_type; slice = slice_octets w.slice; name = name_octets w.name }

-- the keys of a request in a network
abbrev pub keys_in : List ℕ → WantedView → KeyOctets
keys_in network w = record { network = network; slice = w.slice; name = w.name }

abbrev pub told_wanted : Result Wanted Question → Result WantedView Question
told_wanted (Ok w) = Ok (wanted_view w)
told_wanted (Err q) = Err q

-- octets of a lawful number, or absent
abbrev pub lawful_part : (ℕ → Bool) → Option (List ℕ) → Bool
lawful_part lawful None = true
lawful_part lawful (Some xs) = lawful (length xs)

-- the octets that are there
abbrev pub octets_in : Option (List ℕ) → List ℕ
octets_in None = []
octets_in (Some xs) = xs

-- 2: under an emergency type name and slice are absent; 3: the name is lawful; 4: the slice is
abbrev pub wanted_as : Option RequestType → Option (List ℕ) → Option (List ℕ) → Result WantedView Question
wanted_as None slice name = Err question.RequestType
wanted_as (Some t) slice name =
    cond (emergency t && (is_some slice || is_some name)) (Err question.EmergencyParts)
    (cond (not (lawful_part name_length name)) (Err question.Name)
    (cond (not (lawful_part slice_length slice)) (Err question.Slice)
    (Ok (record { request_type = t; slice = octets_in slice; name = octets_in name }))))

-- 1: the type is 1 to 4
abbrev pub wanted_of : ℕ → Option (List ℕ) → Option (List ℕ) → Result WantedView Question
wanted_of type slice name = wanted_as (request_type_of type) slice name
