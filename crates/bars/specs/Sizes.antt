-- The size of a table.
use Rattle.std.specs.Prelude.{ℕ}

-- the places of a table: so many bars of one kind may stand
abbrev pub place_count : ℕ
place_count = 32
