use Rattle.std.proofs.Common.{◌≡◌, ℕ, ◌<◌, length, get_or}
use Rattle.bar_record.specs.Record.{octet_at}
use Rattle.bar_record.specs.Views.{parts_view}
use Rattle.bar_record.proofs.parts.Parts.record.Given as goal

abbrev pub invariant-loop-i : goal.invariant-loop-i
invariant-loop-i l = (length l.octet-items ≡ 128) × ((k : ℕ) → k < l.i → get_or l.octet-items k 0 ≡ octet_at (parts_view l.self) k)
