-- What an uplink means: the list of waiting messages, oldest first.
use Rattle.std.specs.Prelude.{ℕ, Bool, cond, not, ◌&&◌, List, [], ◌∷◌, ◌++◌, length, drop, Ok, Err, Result, ◌==◌, nat_le, nat_lt, slice_index_or}
use Rattle.uplink.specs.Sizes.{capacity, longest_message}
use Rattle.uplink.specs.declared.refusal.SendRefusal.{SendRefusal}
use Rattle.uplink.specs.declared.refusal.SendRefusal.TheVariants.{Length, Full}
use Rattle.uplink.specs.declared.refusal.TakeRefusal.{TakeRefusal}
use Rattle.uplink.specs.declared.refusal.TakeRefusal.TheVariants.{Empty, Short}

-- a message may be sent if it has octets, and not too many
abbrev pub sendable : ℕ → Bool
sendable n = nat_le 1 n && nat_le n longest_message

-- there is room for one more
abbrev pub room : ℕ → Bool
room waiting = nat_lt waiting capacity

-- what sending a message of n octets answers while some wait
abbrev pub send_answer : ℕ → ℕ → Result (Unit {0}) SendRefusal
send_answer waiting n = cond (sendable n) (cond (room waiting) (Ok tt) (Err Full)) (Err Length)

-- a message sent is the newest; a refusal leaves all as it was
abbrev pub after_send : List (List ℕ) → List ℕ → List (List ℕ)
after_send waiting message = cond (sendable (length message) && room (length waiting)) (waiting ++ message ∷ []) waiting

-- the oldest waiting message
abbrev pub oldest : List (List ℕ) → List ℕ
oldest waiting = slice_index_or waiting 0 []

-- what taking the oldest, of n octets, into a place answers while some wait
abbrev pub take_answer : ℕ → ℕ → ℕ → Result ℕ TakeRefusal
take_answer waiting n place = cond (waiting == 0) (Err Empty) (cond (nat_le n place) (Ok n) (Err Short))

-- the oldest can be taken into a place
abbrev pub takeable : List (List ℕ) → List ℕ → Bool
takeable waiting place = not (length waiting == 0) && nat_le (length (oldest waiting)) (length place)

-- the oldest is gone once it is taken; a refusal leaves all as it was
abbrev pub after_take : List (List ℕ) → List ℕ → List (List ℕ)
after_take waiting place = cond (takeable waiting place) (drop 1 waiting) waiting

-- the place has the oldest at its front, the octets behind it staying; a refusal leaves the place as it was
abbrev pub place_after : List (List ℕ) → List ℕ → List ℕ
place_after waiting place = cond (takeable waiting place) (oldest waiting ++ drop (length (oldest waiting)) place) place
