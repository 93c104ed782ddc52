-- The same calls to two keepers, one after the other.
use Rattle.std.proofs.Common.{◌≡◌, ℕ, ◌≤◌, Bool, true, false, ◌&&◌, List, [], ◌∷◌, take, replicate, sym, refl, ap, ◌∙◌}
use Rattle.std.proofs.lemmas.Slice.Eq.{bytes_eq-Decides}
use Rattle.std.proofs.lemmas.List.{take-replicate}
use Rattle.keeper.specs.Alike.{Asked, after, told_by, alike, after_all, all_alike}

-- what the calls that are left give is what all give
pub record Left (one₀ other₀ : List (List ℕ)) (all : List Asked) (one other : List (List ℕ)) (calls : List Asked) (same : Bool) : Type 0 where
  pub answer : (same && all_alike one other calls) ≡ all_alike one₀ other₀ all
  pub of_one : after_all one calls ≡ after_all one₀ all
  pub of_other : after_all other calls ≡ after_all other₀ all

-- keepers with the same records
same_alike : (records : List (List ℕ)) (calls : List Asked) → all_alike records records calls ≡ true
same_alike records [] = refl
same_alike records (call ∷ calls) =
    let e : alike records records call ≡ true = (bytes_eq-Decides (told_by records call) (told_by records call)).1 refl in
    let r : all_alike (after records call) (after records call) calls ≡ true = same_alike (after records call) calls in
    cc

and_true : (a : Bool) → (a && true) ≡ a
and_true true = refl
and_true false = refl

-- what two keepers that begin with the same records answer and hold at the end
pub left_law : (one₀ other₀ : List (List ℕ)) (all : List Asked) (one other : List (List ℕ)) (same : Bool) → Left one₀ other₀ all one other [] same → one₀ ≡ other₀ → (same ≡ true) × (one ≡ other)
left_law one₀ other₀ all one other same l e = (
  sym (and_true same) ∙ l.answer ∙ ap (λ rs. all_alike rs other₀ all) e ∙ same_alike other₀ all,
  l.of_one ∙ ap (λ rs. after_all rs all) e ∙ sym l.of_other,
)

-- a place of zeros is a part of a longer one
pub zeros : (size n len : ℕ) (xs : List ℕ) → xs ≡ replicate size 0 → n ≡ len → len ≤ size → take n xs ≡ replicate len 0
zeros size n len xs e q le = ap (λ k. take k xs) q ∙ ap (take len) e ∙ take-replicate len size 0 le
