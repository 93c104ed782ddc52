-- Two questions after each other: the first that stops a request stops it.
use Rattle.std.proofs.Common.{◌≡◌, Some, None, Ok, Err, Option, Result, refl}
use Rattle.requests.specs.declared.question.Question.{Question}
use Rattle.requests.specs.Decisions.{admitted, or_else}

pub stopped_first : (p q : Option Question) (e : Question) → ◌≡◌ {A = Result (Unit {0}) Question} (Err e) (admitted p) → ◌≡◌ {A = Result (Unit {0}) Question} (Err e) (admitted (or_else p q))
stopped_first None q e h = cc
stopped_first (Some p) q e h = h

pub admitted_first : (p q : Option Question) → ◌≡◌ {A = Result (Unit {0}) Question} (Ok tt) (admitted p) → admitted q ≡ admitted (or_else p q)
admitted_first None q h = refl
admitted_first (Some p) q h = cc
