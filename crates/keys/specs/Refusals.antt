-- The questions that a name or a slice that is not lawful answers no.
use Rattle.std.specs.Prelude.{ℕ}
use Rattle.keys.specs.declared.refusal.PartRefusal.{PartRefusal}
use Rattle.keys.specs.declared.refusal.PartRefusal.TheVariants.{Name, Slice}

abbrev pub part_question : PartRefusal → ℕ
part_question Name = 3
part_question Slice = 4
