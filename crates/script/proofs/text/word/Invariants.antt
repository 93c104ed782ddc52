use Rattle.std.proofs.Common.{◌≡◌, ◌-◌}
use Rattle.script.specs.Text.{after_words}
use Rattle.script.proofs.text.word.Given as goal

abbrev pub invariant-loop-i : goal.invariant-loop-i
invariant-loop-i l = after_words l.number l.initial.line ≡ after_words (l.number - l._i) l.rest
