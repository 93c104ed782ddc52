-- Cutting words off a line.
use Rattle.std.proofs.Common.{◌≡◌, ℕ, suc, List, ap}
use Rattle.script.specs.Text.{after_word, after_words}

-- passing some words is passing the first, and then the others
pub one_word : (n k : ℕ) (line : List ℕ) → n ≡ suc k → after_words n line ≡ after_words k (after_word line)
one_word n k line e = ap (λ m. after_words m line) e
