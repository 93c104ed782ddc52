-- One session more or less of a table.
use Rattle.std.proofs.Common.{◌≡◌, ℕ, ◌+◌, ◌<◌, cond, ◌||◌, List, [], ◌∷◌, ◌++◌, map, length, get_or, take, drop, set, Some, None, Option, sym, refl, ap, count_by, ◌∙◌, arith}
use Rattle.std.proofs.lemmas.List.{length-map, get_or-map, map-set}
use Rattle.std.proofs.lemmas.List.Edits.{map_over_more}
use Rattle.std.proofs.lemmas.Option.{slice_get-get_or}
use Rattle.std.proofs.lemmas.Bool.Decides.{nat_tests}
use Rattle.std.specs.List.{slice_get, list_any}
use Rattle.std.proofs.lemmas.List.Sums.{sum_by-cons}
use Rattle.std.specs.Option.{option_map, unwrap_or}
use Rattle.session.specs.Time.{counted_expiry}
use Rattle.session.specs.declared.outcome.Expiry.TheVariants.{Nothing}
use Rattle.sessions.specs.Acts.{expiry_of}
use Rattle.session.specs.declared.session.Session.{Session}
use Rattle.session.specs.Session.{SessionView, session_view, waiting_pti, with_state}
use Rattle.session.specs.declared.state.State.TheVariants.{Inactive}
use Rattle.sessions.specs.declared.table.Sessions.{Sessions}
use Rattle.sessions.specs.Table.{views, sessions_view, place_of, at_place, session_of, put, changed}
use Rattle.sessions.specs.Ptis.{with_pti, waiting_ptis, some_pti, is_pending, among, is_waiting, pending}

pub among_with : (p : ℕ) (o : Option ℕ) (ws : List ℕ) → among p (with_pti o ws) ≡ (among p (with_pti o []) || among p ws)
among_with p None ws = refl
among_with p (Some q) ws = grind arith

pub length_with : (o : Option ℕ) (ws : List ℕ) → length (with_pti o ws) ≡ cond (some_pti o) 1 0 + length ws
length_with None ws = grind arith
length_with (Some q) ws = grind arith

-- the table has fifteen sessions
pub sessions_full : (t : Sessions) → length (sessions_view t) ≡ 15
sessions_full t = length-map t.records session_view ∙ t.full

-- a session of a row
module _ (xs : List Session) (i : ℕ) (x : Session) (h : i < length xs) (is : x ≡ get_or xs i x) where
  -- the session at a place
  view_at : slice_get (views xs) i ≡ Some (session_view x)
  view_at =
      slice_get-get_or (views xs) i (session_view x) (rw length-map h) ∙ ap (λ y. Some y) (get_or-map session_view xs i x (session_view x) h ∙ ap session_view (sym is))

place_within : (i k : ℕ) → Some i ≡ place_of k → i < 15
place_within i k e = grind (arith, nat_tests)

module _ (xs : List Session) (full : length xs ≡ 15) (i k : ℕ) (e : Some i ≡ place_of k) (x : Session) (is : x ≡ get_or xs i x) where
  within : i < length xs
  within = let h = place_within i k e in omega arith

  session_at : Some (session_view x) ≡ session_of k (views xs)
  session_at = sym (sym (ap (at_place (views xs)) e) ∙ view_at xs i x within is)

  pub session_read : Some (session_view (get_or xs i x)) ≡ session_of k (views xs)
  session_read = ap (λ y. Some (session_view y)) (sym is) ∙ session_at

  -- another session at its place
  pub changed_at : (y : Session) (rule : SessionView → SessionView) → session_view y ≡ rule (session_view (get_or xs i x)) → views (set xs i y) ≡ changed k rule (views xs)
  changed_at y rule r =
      map-set session_view xs i y ∙ ap (set (views xs) i) r
      ∙ ap (λ o. put (views xs) (Some i) (option_map rule o)) session_read
      ∙ ap (λ o. put (views xs) o (option_map rule (session_of k (views xs)))) e

-- what is asked of each session of a row
pub waiting_any : (p : ℕ) (xs : List Session) → list_any (λ s. among p (with_pti (waiting_pti (session_view s)) [])) xs ≡ is_waiting p (views xs)
waiting_any p [] = refl
waiting_any p (x ∷ xs) =
    ap (λ t. among p (with_pti (waiting_pti (session_view x)) []) || t) (waiting_any p xs)
    ∙ sym (among_with p (waiting_pti (session_view x)) (waiting_ptis (views xs)))

pub pending_count : (xs : List Session) → count_by (λ s. is_pending (session_view s)) xs ≡ pending (views xs)
pending_count [] = refl
pending_count (x ∷ xs) =
    sum_by-cons (λ s. cond (is_pending (session_view s)) 1 0) x xs
    ∙ ap (λ n. cond (is_pending (session_view x)) 1 0 + n) (pending_count xs)
    ∙ sym (length_with (waiting_pti (session_view x)) (waiting_ptis (views xs)))

-- the loop that makes a row INACTIVE in place
module _ (xs ys : List Session) (i : ℕ) (inv : views ys ≡ map (with_state Inactive) (take i (views xs)) ++ drop i (views xs)) where
  pub inactive_more : (x y : Session) → i < length xs → i < length ys → x ≡ get_or ys i x → session_view y ≡ with_state Inactive (session_view x)
      → views (set ys i y) ≡ map (with_state Inactive) (take (i + 1) (views xs)) ++ drop (i + 1) (views xs)
  inactive_more x y h k is e =
      map-set session_view ys i y ∙ ap (set (views ys) i) e
      ∙ map_over_more (with_state Inactive) (views xs) (views ys) i (session_view x) (rw length-map h) inv
      (ap session_view is ∙ sym (get_or-map session_view ys i x (session_view x) k))

-- what becomes of the waiting request of a session that is there
pub expiry_told : (seconds : ℕ) (o : Option SessionView) → unwrap_or (option_map (λ v. counted_expiry seconds v.state) o) Nothing ≡ expiry_of seconds o
expiry_told seconds None = refl
expiry_told seconds (Some v) = refl
