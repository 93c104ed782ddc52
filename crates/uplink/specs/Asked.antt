-- What a call on an uplink answers and leaves.
use Rattle.std.specs.Prelude.{◌≡◌, ℕ, List, [], ◌∷◌, ◌++◌, length, min, take, drop, replicate}
use Rattle.uplink.specs.Sizes.{longest_message}
use Rattle.uplink.specs.Waiting.{send_answer, after_send, oldest, take_answer, after_take, place_after}
use Rattle.uplink.specs.declared.alike.UplinkCall.{UplinkCall}
use Rattle.uplink.specs.declared.alike.UplinkCall.TheVariants.{Count, Send, Take}
use Rattle.uplink.specs.declared.alike.UplinkAnswer.{UplinkAnswer}
use Rattle.uplink.specs.declared.alike.UplinkAnswer.TheVariants.{Counted, Sent, Taken}

-- a place of some octets, all zeros
abbrev pub zeros : ℕ → List ℕ
zeros octets = replicate octets 0

-- the octets of the place into which a message is taken: 128 at most
abbrev pub place_size : ℕ → ℕ
place_size room = min room longest_message

-- what a call answers while some messages wait; at a taking also the place, with zeros behind it up to 128 octets
abbrev pub answer_to : List (List ℕ) → UplinkCall → UplinkAnswer
answer_to waiting Count = Counted (length waiting)
answer_to waiting (Send message) = Sent (send_answer (length waiting) (length message.now))
answer_to waiting (Take room) =
    Taken (take_answer (length waiting) (length (oldest waiting)) (place_size room))
    (place_after waiting (take (place_size room) (zeros longest_message)) ++ drop (place_size room) (zeros longest_message))

-- which messages wait after a call
abbrev pub waiting_after : List (List ℕ) → UplinkCall → List (List ℕ)
waiting_after waiting Count = waiting
waiting_after waiting (Send message) = after_send waiting message.now
waiting_after waiting (Take room) = after_take waiting (take (place_size room) (zeros longest_message))

-- which messages wait after several calls, the first one first
abbrev pub waiting_after_all : List (List ℕ) → List UplinkCall → List (List ℕ)
waiting_after_all waiting [] = waiting
waiting_after_all waiting (call ∷ calls) = waiting_after_all (waiting_after waiting call) calls

-- two uplinks on which such messages wait answer each of several calls alike
abbrev pub AnsweredAlike : List (List ℕ) → List (List ℕ) → List UplinkCall → Type 0
AnsweredAlike one other [] = Unit {0}
AnsweredAlike one other (call ∷ calls) =
    (answer_to one call ≡ answer_to other call) × AnsweredAlike (waiting_after one call) (waiting_after other call) calls
