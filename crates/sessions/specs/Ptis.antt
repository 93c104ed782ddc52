-- The PTIs of the waiting requests, and the next one to give.
use Rattle.std.specs.Prelude.{ℕ, zero, suc, ◌+◌, Bool, true, false, cond, ◌&&◌, ◌||◌, List, [], ◌∷◌, length, Some, None, Option, ◌==◌, nat_le, nat_lt}
use Rattle.session.specs.Session.{SessionView, waiting_pti}

-- a PTI, if there is one, before others
abbrev pub with_pti : Option ℕ → List ℕ → List ℕ
with_pti None ps = ps
with_pti (Some p) ps = p ∷ ps

-- the PTIs of the waiting requests, in the order of the identities
abbrev pub waiting_ptis : List SessionView → List ℕ
waiting_ptis [] = []
waiting_ptis (v ∷ vs) = with_pti (waiting_pti v) (waiting_ptis vs)

-- there is a PTI
abbrev pub some_pti : Option ℕ → Bool
some_pti None = false
some_pti (Some p) = true

-- a request of the session waits
abbrev pub is_pending : SessionView → Bool
is_pending v = some_pti (waiting_pti v)

-- a PTI is one of a list
abbrev pub among : ℕ → List ℕ → Bool
among p [] = false
among p (q ∷ qs) = p == q || among p qs

-- some waiting request has this PTI
abbrev pub is_waiting : ℕ → List SessionView → Bool
is_waiting p vs = among p (waiting_ptis vs)

-- how many requests wait
abbrev pub pending : List SessionView → ℕ
pending vs = length (waiting_ptis vs)

-- a request has a PTI from 1 to 254
abbrev pub is_pti : ℕ → Bool
is_pti p = nat_le 1 p && nat_le p 254

-- the PTI after another: from 1 to 254 and round; after 0 and after 255 it is 1
abbrev pub after : ℕ → ℕ
after p = cond (nat_lt p 254) (p + 1) 1

-- the n PTIs after another, in order
abbrev pub candidates : ℕ → ℕ → List ℕ
candidates zero last = []
candidates (suc n) last = after last ∷ candidates n (after last)

-- the first of some PTIs that no request has
abbrev pub first_free : List ℕ → List ℕ → Option ℕ
first_free waiting [] = None
first_free waiting (p ∷ ps) = cond (among p waiting) (first_free waiting ps) (Some p)

-- the next PTI after another that no waiting request has, if there is one among all 254
unfoldable pub next_free : List SessionView → ℕ → Option ℕ
next_free vs last = first_free (waiting_ptis vs) (candidates 254 last)
