-- The place into which the network takes a message, and zeros behind it.
use Rattle.std.proofs.Common.{◌≡◌, ℕ, ◌-◌, min, List, ◌++◌, length, take, drop, replicate, ap, ◌∙◌, arith}
use native.Mathlib.Nat.{min-le_right}
use Rattle.std.proofs.lemmas.List.{take-replicate, drop-replicate, length-replicate}
use Rattle.rules.specs.declared.answer.TakenMessage.{TakenMessage}
use Rattle.rules.specs.Calls.{place_of, taken_message}
use Rattle.rules.specs.Power.{taken_length}
use Rattle.uplink.specs.Waiting.{place_after}

abbrev pub zeros : List ℕ
zeros = replicate 128 0

abbrev message_so : ℕ → List ℕ → TakenMessage
message_so n octets = record { «length» = n; octets = octets }

pub took_so : (room p n : ℕ) (w : List (List ℕ)) (ys : List ℕ) → p ≡ min room 128
    → n ≡ taken_length w (length (take (p - 0) (drop 0 (zeros)))) → ys ≡ place_after w (take (p - 0) (drop 0 (zeros)))
    → message_so n (ys ++ drop (p - 0) (drop 0 (zeros))) ≡ taken_message w room
took_so room p n w ys is a b =
    let less = min-le_right room 128 in
    let from_zero : p - 0 ≡ p = omega arith in
    let place : take (p - 0) (drop 0 (zeros)) ≡ place_of room = ap (λ k. take k (zeros)) (from_zero ∙ is) ∙ take-replicate (min room 128) 128 0 less in
    let rest : drop (p - 0) (drop 0 (zeros)) ≡ replicate (128 - min room 128) 0 = ap (λ k. drop k (zeros)) (from_zero ∙ is) ∙ drop-replicate (min room 128) 128 0 in
    let count : length (place_of room) ≡ min room 128 = length-replicate (min room 128) 0 in
    ap (λ k. message_so k (ys ++ drop (p - 0) (drop 0 (zeros)))) (a ∙ ap (λ x. taken_length w (length x)) place ∙ ap (taken_length w) count)
    ∙ ap (λ x. message_so (taken_length w (min room 128)) (x ++ drop (p - 0) (drop 0 (zeros)))) (b ∙ ap (place_after w) place)
    ∙ ap (λ x. message_so (taken_length w (min room 128)) (place_after w (place_of room) ++ x)) rest
