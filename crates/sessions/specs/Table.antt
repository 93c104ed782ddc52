-- The table of fifteen sessions, told by the list of what each session tells of itself.
use Rattle.std.specs.Prelude.{ℕ, ◌-◌, cond, ◌&&◌, List, map, Some, None, Option, nat_le, slice_set}
use Rattle.std.specs.Option.{option_map}
use Rattle.std.specs.List.{slice_get}
use Rattle.session.specs.declared.session.Session.{Session}
use Rattle.session.specs.declared.state.State.TheVariants.{Inactive}
use Rattle.session.specs.Session.{SessionView, session_view, with_state}
use Rattle.sessions.specs.declared.table.Sessions.{Sessions}

abbrev pub views : List Session → List SessionView
views = map session_view

abbrev pub sessions_view : Sessions → List SessionView
sessions_view t = views t.records

-- the identities are 1 to 15, and identity i is at place i - 1
abbrev pub place_of : ℕ → Option ℕ
place_of i = cond (nat_le 1 i && nat_le i 15) (Some (i - 1)) None

abbrev pub at_place : List SessionView → Option ℕ → Option SessionView
at_place vs None = None
at_place vs (Some n) = slice_get vs n

-- the session of an identity; none for 0 and from 16 up
abbrev pub session_of : ℕ → List SessionView → Option SessionView
session_of i vs = at_place vs (place_of i)

-- a session put at a place; the others stay
abbrev pub put : List SessionView → Option ℕ → Option SessionView → List SessionView
put vs None v = vs
put vs (Some n) None = vs
put vs (Some n) (Some v) = slice_set vs n v

-- the session of an identity goes by a rule, and the others stay; for 0 and from 16 up all stay
abbrev pub changed : ℕ → (SessionView → SessionView) → List SessionView → List SessionView
changed i rule vs = put vs (place_of i) (option_map rule (session_of i vs))

-- every session is INACTIVE; the other data stay
abbrev pub made_inactive : List SessionView → List SessionView
made_inactive = map (with_state Inactive)
