use Rattle.std.proofs.Common.{◌≡◌, ◌^◌, ◌<◌, drop}
use Rattle.script.specs.Number.{fitting_behind}
use Rattle.script.proofs.number.number.Given as goal

abbrev pub invariant-loop-character : goal.invariant-loop-character
invariant-loop-character l = (l.value < 2 ^ 32) × (fitting_behind 0 l.word ≡ fitting_behind l.value (drop l.character-index l.word))
