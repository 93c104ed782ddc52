use Rattle.std.proofs.Common.{◌≡◌, true, length, ◌+◌, ◌-◌, Some, ap, ◌∙◌, arith}
use Rattle.std.proofs.lemmas.Bool.Decides.{nat_tests}
use Rattle.keys.specs.Lengths.{name_length}
use Rattle.bar_record.proofs.Standing.{stood}
use Rattle.bar_record.proofs.read.name_in.Goals as goal

pub returns-in-1-to-100 : goal.returns-in-1-to-100
returns-in-1-to-100 c = λ xs held len stands.
    let rec = c.args.record.now in
    let same = stood rec xs 14 (14 + c.from.result - 14) (omega arith) (omega arith) stands in
    let lawful : name_length (length xs) ≡ true = grind (arith, nat_tests) in
    c.name_of.ensures (ap (λ ys. name_length (length ys)) same ∙ lawful) ∙ ap (λ ys. Some ys) same
