-- The parts of a kept bar, by their octets.
use Rattle.bar_record.specs.declared.parts.Parts.{Parts}
use Rattle.bar_record.specs.Record.{Kept}

abbrev pub parts_view : Parts → Kept
parts_view p = record { kind = p.kind; key = record { network = p.network.now; slice = p.slice.now; name = p.name.now }; seconds = p.seconds }
