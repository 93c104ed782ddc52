-- The keys that are claimed: those on which a bar stands, and those of sessions.
use Rattle.std.specs.Prelude.{ℕ, ◌+◌, Bool, true, false, cond, ◌&&◌, ◌||◌, List, [], ◌∷◌, ◌++◌}
use Rattle.keys.specs.Octets.{KeyOctets, same_key}
use Rattle.bars.specs.declared.bar.Bar.{Bar}
use Rattle.bars.specs.Bars.{stands}

-- the list has a key that is the same
abbrev pub among : KeyOctets → List KeyOctets → Bool
among k [] = false
among k (x ∷ xs) = same_key k x || among k xs

-- how many different keys a list has: a key counts where no later one is the same
abbrev pub distinct : List KeyOctets → ℕ
distinct [] = 0
distinct (x ∷ xs) = cond (among x xs) 0 1 + distinct xs

-- every key of a list is among another's
abbrev pub covered : List KeyOctets → List KeyOctets → Bool
covered [] ys = true
covered (x ∷ xs) ys = among x ys && covered xs ys

-- the keys on which a bar stands
abbrev pub keys_of : List (Bar KeyOctets) → List KeyOctets
keys_of [] = []
keys_of (b ∷ bs) = cond (stands b.timer) (b.key ∷ keys_of bs) (keys_of bs)

-- the keys that are claimed by bars, or by others that have these keys
abbrev pub claimed_keys : List (Bar KeyOctets) → List KeyOctets → List KeyOctets
claimed_keys bs ks = keys_of bs ++ ks

-- how many different keys are claimed
abbrev pub claimed : List (Bar KeyOctets) → List KeyOctets → ℕ
claimed bs ks = distinct (claimed_keys bs ks)
