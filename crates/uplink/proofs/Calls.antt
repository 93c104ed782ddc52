-- The same calls to two uplinks, one after the other.
use Rattle.std.proofs.Common.{◌≡◌, ℕ, ◌↔◌, true, Bool, ◌&&◌, List, [], ◌∷◌, refl, sym, subst, ◌∙◌}
use Rattle.std.proofs.lemmas.Bool.{and_parts, and_from}
use Rattle.uplink.specs.declared.alike.UplinkAnswer.{UplinkAnswer}
use Rattle.uplink.specs.declared.alike.UplinkCall.{UplinkCall}
use Rattle.uplink.specs.Asked.{answer_to, waiting_after, waiting_after_all, AnsweredAlike}

-- what the calls that are left give is what all give
pub record Left (one₀ other₀ : List (List ℕ)) (all : List UplinkCall) (one other : List (List ℕ)) (calls : List UplinkCall) (alike : Bool) : Type 0 where
  pub told : (alike ≡ true) × AnsweredAlike one other calls → AnsweredAlike one₀ other₀ all
  pub tells : AnsweredAlike one₀ other₀ all → (alike ≡ true) × AnsweredAlike one other calls
  pub of_one : waiting_after_all one calls ≡ waiting_after_all one₀ all
  pub of_other : waiting_after_all other calls ≡ waiting_after_all other₀ all

pub left_more : (one₀ other₀ : List (List ℕ)) (all : List UplinkCall) (one other one' other' : List (List ℕ)) (call : UplinkCall) (calls : List UplinkCall) (alike same : Bool) (answer answer' : UplinkAnswer)
    → Left one₀ other₀ all one other (call ∷ calls) alike → one' ≡ waiting_after one call → other' ≡ waiting_after other call
    → answer ≡ answer_to one call → answer' ≡ answer_to other call → ((same ≡ true) ↔ (answer ≡ answer')) → Left one₀ other₀ all one' other' calls (alike && same)
left_more one₀ other₀ all one other one' other' call calls alike same answer answer' l e f p q s =
    subst (λ ws. Left one₀ other₀ all ws other' calls (alike && same)) (sym e)
    (subst (λ ws. Left one₀ other₀ all (waiting_after one call) ws calls (alike && same)) (sym f) (record {
      told = λ h. let both = and_parts alike same h.0 in l.told (both.0, (sym p ∙ s.0 both.1 ∙ q, h.1));
      tells = λ h. let t = l.tells h in (and_from alike same t.0 (s.1 (p ∙ t.1.0 ∙ sym q)), t.1.1);
      of_one = l.of_one;
      of_other = l.of_other;
    }))

-- uplinks on which the same messages wait
same_alike : (waiting : List (List ℕ)) (calls : List UplinkCall) → AnsweredAlike waiting waiting calls
same_alike waiting [] = tt
same_alike waiting (call ∷ calls) = (refl, same_alike (waiting_after waiting call) calls)

pub left_law : (one₀ other₀ : List (List ℕ)) (all : List UplinkCall) (one other : List (List ℕ)) (calls : List UplinkCall) (alike : Bool) → Left one₀ other₀ all one other calls alike → one₀ ≡ other₀ → alike ≡ true
left_law one₀ other₀ all one other calls alike l e = (l.tells (subst (λ ws. AnsweredAlike ws other₀ all) (sym e) (same_alike other₀ all))).0
