-- Reading a word's octets two digits at a time.
use Rattle.std.proofs.Common.{◌≡◌, ℕ, ◌≤◌, List, [], ◌∷◌, ◌++◌, length, get_or, drop, Some, None, Option, sym, refl, ap, ◌∙◌, append_assoc, arith}
use Rattle.script.specs.Hex.{octet_of, octets_of, before}

-- octets already read, in front of those to come
abbrev pub behind : List ℕ → Option (List ℕ) → Option (List ℕ)
behind xs None = None
behind xs (Some ys) = Some (xs ++ ys)

pub two_digits : (word : List ℕ) → 2 ≤ length word → octets_of word ≡ before (octet_of (get_or word 0 0) (get_or word 1 0)) (octets_of (drop 2 word))
two_digits [] h = absurd (omega arith)
two_digits (a ∷ []) h = absurd (omega arith)
two_digits (a ∷ (b ∷ rest)) h = refl

regroup : (found : List ℕ) (o : ℕ) (os : Option (List ℕ)) → behind found (before (Some o) os) ≡ behind (found ++ o ∷ []) os
regroup found o None = refl
regroup found o (Some os) = ap (λ xs. Some xs) (sym (append_assoc found (o ∷ []) os))

-- one octet more is read
pub octet_more : (word rest found more after : List ℕ) (o : ℕ) → 2 ≤ length rest → octets_of word ≡ behind found (octets_of rest)
    → Some o ≡ octet_of (get_or rest 0 0) (get_or rest 1 0) → more ≡ found ++ o ∷ [] → after ≡ drop 2 rest
    → octets_of word ≡ behind more (octets_of after)
octet_more word rest found more after o h inv e m a =
    inv ∙ ap (behind found) (two_digits rest h ∙ ap (λ x. before x (octets_of (drop 2 rest))) (sym e))
    ∙ regroup found o (octets_of (drop 2 rest)) ∙ rw (m, a) refl
