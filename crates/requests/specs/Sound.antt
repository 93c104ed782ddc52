-- What holds of a switched-on handset between its calls.
use Rattle.std.specs.Prelude.{ℕ, Bool, true, not, ◌&&◌, ◌||◌, List, [], ◌∷◌, length, Some, None, Option, ◌==◌, nat_le}
use Rattle.keys.specs.Lengths.{slice_held}
use Rattle.session.specs.Session.{SessionView, waiting_pti, name_key_of, slice_name_key_of, slice_key_of}
use Rattle.sessions.specs.Live.{live_keys}
use Rattle.sessions.specs.Ptis.{is_pti}
use Rattle.timers.specs.Timers.{TimersView, room_in}
use Rattle.ul_nas.specs.declared.message.RequestType.{RequestType}
use Rattle.ul_nas.specs.Message.{emergency}

-- the slice and the name are absent or have lawful lengths; under an emergency type both are absent
abbrev pub lawful_parts : RequestType → List ℕ → List ℕ → Bool
lawful_parts t slice name = (slice_held (length slice) && nat_le (length name) 100) && (not (emergency t) || (length slice == 0 && length name == 0))

-- the PTI of a waiting request, if one waits, is 1 to 254
abbrev pub lawful_waiting : Option ℕ → Bool
lawful_waiting None = true
lawful_waiting (Some p) = is_pti p

abbrev pub lawful_session : SessionView → Bool
lawful_session v = lawful_waiting (waiting_pti v) && lawful_parts v.request_type v.slice v.name

abbrev pub all_lawful : List SessionView → Bool
all_lawful [] = true
all_lawful (v ∷ vs) = lawful_session v && all_lawful vs

-- at most 32 keys of each kind are claimed, so that a bar can always be imposed on a session's key
abbrev pub claims_fit : TimersView → List SessionView → Bool
claims_fit t vs = room_in t (live_keys name_key_of vs) (live_keys slice_name_key_of vs) (live_keys slice_key_of vs)
