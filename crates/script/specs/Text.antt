-- How a line is cut into words.
use Rattle.std.specs.Prelude.{ℕ, zero, suc, Bool, not, ◌||◌, List, take, drop, ◌==◌}
use Rattle.std.specs.List.{prefix_len}

-- blanks are spaces and tabs, and a word has none
abbrev pub blank : ℕ → Bool
blank octet = octet == 32 || octet == 9

abbrev pub in_word : ℕ → Bool
in_word octet = not (blank octet)

-- a line without the blanks at its front
abbrev pub skipped : List ℕ → List ℕ
skipped line = drop (prefix_len blank line) line

-- the first word of a line, and what follows it
abbrev pub first_word : List ℕ → List ℕ
first_word line = take (prefix_len in_word (skipped line)) (skipped line)

abbrev pub after_word : List ℕ → List ℕ
after_word line = drop (prefix_len in_word (skipped line)) (skipped line)

-- what follows some words
abbrev pub after_words : ℕ → List ℕ → List ℕ
after_words zero line = line
after_words (suc n) line = after_words n (after_word line)

-- the word with a number, counted from 0; none is the empty word
abbrev pub word_at : ℕ → List ℕ → List ℕ
word_at n line = first_word (after_words n line)
