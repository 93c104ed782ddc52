-- The PTIs of the waiting requests stay different.
use Rattle.std.specs.Prelude.{◌≡◌, ℕ, Bool, true, not, ◌&&◌, List, [], ◌∷◌, Some, None, Option}
use Rattle.ul_nas.specs.declared.message.RequestType.{RequestType}
use Rattle.session.specs.Session.{SessionView, established, modified, released}
use Rattle.sessions.specs.Table.{session_of, changed}
use Rattle.sessions.specs.Ptis.{waiting_ptis, is_pending, among, next_free}

-- all PTIs of a list are different
abbrev pub all_differ : List ℕ → Bool
all_differ [] = true
all_differ (p ∷ ps) = not (among p ps) && all_differ ps

-- no request of the session waits
abbrev pub not_pending : Option SessionView → Bool
not_pending None = true
not_pending (Some v) = not (is_pending v)

-- the PTIs stay different where a request leaves with the next PTI, on a session of which none waits
abbrev pub Differs : ℕ → (SessionView → SessionView) → Type 0
Differs p leaves =
    (vs : List SessionView) (i last : ℕ) → Some p ≡ next_free vs last → not_pending (session_of i vs) ≡ true
    → all_differ (waiting_ptis vs) ≡ true → all_differ (waiting_ptis (changed i leaves vs)) ≡ true

-- so for each of the three requests
pub record StayDifferent : Type 0 where
  pub establishment : (t : RequestType) (slice name network : List ℕ) (p : ℕ) → Differs p (λ _. established t slice name network p)
  pub modification : (p : ℕ) → Differs p (modified p)
  pub release : (p : ℕ) → Differs p (released p)
