-- The sizes of an uplink.
use Rattle.std.specs.Prelude.{ℕ, ◌+◌, ◌*◌}

-- as many messages may wait
abbrev pub capacity : ℕ
capacity = 8

-- a message has at most so many octets
abbrev pub longest_message : ℕ
longest_message = 128

-- the octets of a message on a line, with its length in two octets, and of a whole line
abbrev pub longest_framed : ℕ
longest_framed = 2 + longest_message

abbrev pub line_length : ℕ
line_length = longest_framed * capacity
