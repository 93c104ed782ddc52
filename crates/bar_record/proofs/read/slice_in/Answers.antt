use Rattle.std.proofs.Common.{◌≡◌, true, length, ◌+◌, ◌-◌, Some, ap, ◌∙◌, arith}
use Rattle.std.proofs.lemmas.Bool.Decides.{nat_tests}
use Rattle.keys.specs.Lengths.{slice_length}
use Rattle.bar_record.proofs.Standing.{stood}
use Rattle.bar_record.proofs.read.slice_in.Goals as goal

pub returns-in-1-to-8 : goal.returns-in-1-to-8
returns-in-1-to-8 c = λ xs held len stands.
    let rec = c.args.record.now in
    let same = stood rec xs 5 (5 + c.from.result - 5) (omega arith) (omega arith) stands in
    let lawful : slice_length (length xs) ≡ true = grind (arith, nat_tests) in
    c.slice_of.ensures (ap (λ ys. slice_length (length ys)) same ∙ lawful) ∙ ap (λ ys. Some ys) same
