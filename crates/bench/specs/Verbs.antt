-- The calls of the bench, by their first words.
use Rattle.std.specs.Prelude.{ℕ, List, cond, codes, Some, None, Option}
use Rattle.std.specs.Str.{bytes_eq}
use Rattle.bench.specs.declared.command.Verb.{Verb}
use Rattle.bench.specs.declared.command.Verb.TheVariants.{Octet, Seconds, Read, Sent, Record}

-- the call that a word names
abbrev pub verb_named : List ℕ → Option Verb
verb_named word =
    cond (bytes_eq word (codes "octet")) (Some Octet)
    (cond (bytes_eq word (codes "seconds")) (Some Seconds)
    (cond (bytes_eq word (codes "read")) (Some Read)
    (cond (bytes_eq word (codes "sent")) (Some Sent)
    (cond (bytes_eq word (codes "record")) (Some Record) None))))
