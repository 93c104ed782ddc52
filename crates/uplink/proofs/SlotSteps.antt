-- What a take does to the messages of slots.
use Rattle.std.proofs.Common.{◌≡◌, ℕ, drop}
use Rattle.arrayvec.specs.ArrayVec.{ArrayVec}
use Rattle.uplink.specs.Lined.{Short, rest_short}
use Rattle.uplink.specs.Makes.{shown}

-- the messages left are short enough
pub left_short : (slots left : ArrayVec (ArrayVec ℕ)) → shown left ≡ drop 1 (shown slots) → Short (shown slots) → Short (shown left)
left_short slots left e short = rest_short (shown slots) (shown left) e short
