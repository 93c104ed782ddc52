-- How many octets a name and a slice may have.
use Rattle.std.specs.Prelude.{ℕ, Bool, ◌&&◌, ◌||◌, ◌==◌, nat_le}

-- a DNN has 1 to 100 octets
abbrev pub name_length : ℕ → Bool
name_length n = nat_le 1 n && nat_le n 100

-- an S-NSSAI has 1, 2, 4, 5 or 8 octets
abbrev pub slice_length : ℕ → Bool
slice_length n = n == 1 || (n == 2 || (n == 4 || (n == 5 || n == 8)))

-- a slice that is held is absent or has a lawful number of octets
abbrev pub slice_held : ℕ → Bool
slice_held n = n == 0 || slice_length n
