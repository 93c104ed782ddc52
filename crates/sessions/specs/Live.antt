-- The keys that sessions claim.
use Rattle.std.specs.Prelude.{Bool, cond, not, ◌&&◌, List, [], ◌∷◌, ◌++◌, length, take, nat_lt}
use Rattle.keys.specs.Octets.{KeyOctets}
use Rattle.ul_nas.specs.Message.{emergency}
use Rattle.session.specs.State.{inactive}
use Rattle.session.specs.Session.{SessionView}
use Rattle.sessions.specs.declared.live.LiveKeys.{LiveKeys}

-- a session claims its keys while it is not INACTIVE; an emergency session claims none
abbrev pub live : SessionView → Bool
live v = not (inactive v.state) && not (emergency v.request_type)

-- the keys of one kind that sessions claim, in the order of the identities
abbrev pub live_keys : (SessionView → KeyOctets) → List SessionView → List KeyOctets
live_keys key [] = []
live_keys key (v ∷ vs) = cond (live v) (key v ∷ live_keys key vs) (live_keys key vs)

-- the keys of a list that has room for 16
abbrev pub listed : {K : Type 0} → LiveKeys K → List K
listed l = take l.count l.keys

-- one key more, behind the others, where there is room
abbrev pub with_key : {K : Type 0} → K → List K → List K
with_key k ks = cond (nat_lt (length ks) 16) (ks ++ k ∷ []) ks
