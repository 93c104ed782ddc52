-- The outer layer: the parts that two patterns and a length cut out of a message, and what the message says.
use Rattle.std.proofs.Common.{◌≡◌, ℕ, ◌≤◌, ltb, List, length, drop, None, sym, ap, ◌∙◌, arith}
use Rattle.std.proofs.lemmas.Bool.{le-ltb, cond-false}
use Rattle.dl_nas.specs.Elements.{walked, nothing}
use Rattle.dl_nas.specs.Transport.{misbegun, payload_end, begun, outer_lifted, outer_of}

-- a message whose container is whole
pub around : (m : List ℕ) → misbegun m ≡ None → payload_end m ≤ length m
    → outer_lifted (walked (drop (payload_end m) m) 0 (payload_end m) nothing) ≡ outer_of m
around m starts whole =
    sym (ap (λ o. begun m o) starts
    ∙ cond-false (ltb (length m) 6) _ _ (le-ltb (length m) 6 (omega arith))
    ∙ cond-false (ltb (length m) (payload_end m)) _ _ (le-ltb (length m) (payload_end m) whole))
