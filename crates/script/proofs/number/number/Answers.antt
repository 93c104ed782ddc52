use Rattle.std.proofs.Common.{◌+◌, drop, sym, ap, ◌∙◌}
use Rattle.script.proofs.Numerals.{onward, step_on, no_number}
use Rattle.script.proofs.number.number.Goals as goal

pub returns-in_err-value : goal.returns-in_err-value
returns-in_err-value c =
    let word = c.args.word.now in
    let i = c.loop-character.character-index in
    c.from_residual.ensures
    ∙ sym (no_number word (c.loop-character.invariant.1 ∙ step_on word i c.loop-character.value c.loop-character-test.true ∙ ap (λ o. onward o (drop (i + 1) word)) (sym c.in_err-value.ensures)))
