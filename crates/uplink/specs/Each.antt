-- What holds of each element of a list holds after one is set, and after a turn.
use Rattle.std.specs.Prelude.{◌≡◌, ℕ, suc, ◌<◌, List, [], ◌∷◌, ◌++◌, length, get_or, take, drop, slice_index_or, slice_set}
use Rattle.std.proofs.Common.{sym, ap, subst, ◌∙◌, ⊎_elim, arith}
use Rattle.std.proofs.lemmas.List.{get_or-set_same, get_or-set_other, get_or_append_left, get_or_push}
use Rattle.std.proofs.lemmas.Bool.{cases_eq, cases_lt}

-- one is set
pub set_each : {X : Type 0} (P : X → Type 0) (xs : List X) (d : X) (i n : ℕ) (x : X) → length xs ≡ n → ((k : ℕ) → k < n → P (slice_index_or xs k d)) → P x → (k : ℕ) → k < n → P (slice_index_or (slice_set xs i x) k d)
set_each P xs d i n x e h p k lt =
    ⊎_elim (λ q. subst P (sym (ap (λ j. get_or (slice_set xs i x) j d) q ∙ get_or-set_same xs i x d (omega arith))) p)
    (λ q. subst P (sym (get_or-set_other xs i k x d q)) (h k lt))
    (cases_eq k i)

-- the first one goes to the end
pub turned_each : {X : Type 0} (P : X → Type 0) (xs ys : List X) (d : X) (n : ℕ) → length xs ≡ n → 0 < n → ys ≡ drop 1 xs ++ take 1 xs → ((k : ℕ) → k < n → P (slice_index_or xs k d)) → (k : ℕ) → k < n → P (slice_index_or ys k d)
turned_each P [] ys d n e pos q h k lt = absurd (omega arith)
turned_each P (x ∷ xs) ys d n e pos q h k lt =
    subst (λ zs. P (slice_index_or zs k d)) (sym q)
    (⊎_elim (λ l. subst P (sym (get_or_append_left xs (x ∷ []) d k l)) (h (suc k) (omega arith)))
    (λ l. let r : length xs ≡ k = omega arith in subst P (sym (get_or_push xs x d k r)) (h 0 pos))
    (cases_lt k (length xs)))
