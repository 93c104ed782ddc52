-- The messages of a line, and what a send and a take do to them.
use Rattle.std.proofs.Common.{◌≡◌, ℕ, ◌+◌, ◌-◌, ◌*◌, ◌/◌, ◌%◌, ◌<◌, ◌≤◌, List, [], ◌∷◌, ◌++◌, length, get_or, take, drop, refl, sym, ap, subst, ◌∙◌, arith}
use Rattle.std.specs.List.{flat_map}
use Rattle.std.specs.Int.{w16, to_be_bytes}
use Rattle.std.proofs.lemmas.List.{length-append, append_assoc, take_at, drop_at, flat_map_more, length_push, length-drop, drop-drop}
use Rattle.std.proofs.Math.Seq.{take-length}
use Rattle.uplink.specs.Lined.{Short, length_parsed, parsed_whole, length_joined, sent_short, rest_short}
use Rattle.uplink.specs.Makes.{framed, parsed, size}
use Rattle.uplink.specs.Sizes.{longest_message, longest_framed}
use Rattle.uplink.specs.Waiting.{oldest}

pub room : (line : List ℕ) (count : ℕ) → line ≡ flat_map framed (parsed line count) → Short (parsed line count) → length line ≤ longest_framed * count
room line count whole short =
    omega (arith, ap length whole, length_joined (parsed line count) short, length_parsed line count)

-- what holds of a line of these messages
abbrev pub Lined : List ℕ → ℕ → List (List ℕ) → Type 0
Lined line count ms = (parsed line count ≡ ms) × (line ≡ flat_map framed (parsed line count)) × Short (parsed line count)

-- what a line of these messages is known by
lined : (line : List ℕ) (count : ℕ) (ms : List (List ℕ)) → line ≡ flat_map framed ms → count ≡ length ms → Short ms → Lined line count ms
lined line count ms w e h =
    let p : parsed line count ≡ ms = parsed_whole line (length line) count ms (take-length line ∙ w) e in
    (p, w ∙ ap (flat_map framed) (sym p), λ k. subst (λ xs. length (get_or xs k []) ≤ longest_message) (sym p) (h k))

-- a length in two octets
two_octets : (n : ℕ) → n ≤ longest_message → to_be_bytes w16 n ≡ n / 256 ∷ n % 256 ∷ []
two_octets n le =
    let h : n / 256 % 256 ≡ n / 256 = omega arith in
    ap (λ k. k ∷ n % 256 ∷ []) h

module _ (line : List ℕ) (count : ℕ) (whole : line ≡ flat_map framed (parsed line count)) (short : Short (parsed line count)) where
  -- one message more
  pub sent : (line' octets m : List ℕ) → length m ≤ longest_message → octets ≡ to_be_bytes w16 (length m) → line' ≡ (line ++ octets) ++ m → Lined line' (count + 1) (parsed line count ++ m ∷ [])
  sent line' octets m le o e =
      let ms : List (List ℕ) = parsed line count in
      let two : octets ≡ length m / 256 ∷ length m % 256 ∷ [] = o ∙ two_octets (length m) le in
      let w : line' ≡ flat_map framed (ms ++ m ∷ []) =
      e ∙ append_assoc line octets m ∙ ap (λ xs. xs ++ (octets ++ m)) whole ∙ ap (λ xs. flat_map framed ms ++ (xs ++ m)) two ∙ flat_map_more framed [] ms m in
      lined line' (count + 1) (ms ++ m ∷ []) w (omega (arith, length_push ms m, length_parsed line count)) (sent_short ms m short le)

-- what a line begins with
first : (ms : List (List ℕ)) → 0 < length ms → (size (flat_map framed ms) ≡ length (oldest ms)) × (take (length (oldest ms)) (drop 2 (flat_map framed ms)) ≡ oldest ms) × (drop (length (oldest ms)) (drop 2 (flat_map framed ms)) ≡ flat_map framed (drop 1 ms)) × (2 + length (oldest ms) ≤ length (flat_map framed ms))
first [] h = absurd (omega arith)
first (m ∷ ms) h =
    (omega arith, take_at m _ _ refl, drop_at m _ _ refl, omega (arith, length-append m (flat_map framed ms)))

module _ (line : List ℕ) (count : ℕ) (whole : line ≡ flat_map framed (parsed line count)) (short : Short (parsed line count)) (some : 0 < count) where
  -- the oldest message lies on the line
  pub first_fits : 2 + length (oldest (parsed line count)) ≤ length line
  first_fits = let f = first (parsed line count) (omega (arith, length_parsed line count)) in omega (arith, ap length whole)

  -- the oldest is gone
  pub taken : (line' : List ℕ) → line' ≡ drop (2 + length (oldest (parsed line count))) line → Lined line' (count - 1) (drop 1 (parsed line count))
  taken line' e =
      let ms : List (List ℕ) = parsed line count in
      let f = first ms (omega (arith, length_parsed line count)) in
      let w : line' ≡ flat_map framed (drop 1 ms) =
      e ∙ sym (drop-drop (length (oldest ms)) 2 line) ∙ ap (λ xs. drop (length (oldest ms)) (drop 2 xs)) whole ∙ f.2 in
      lined line' (count - 1) (drop 1 ms) w (omega (arith, length-drop 1 ms, length_parsed line count)) (rest_short ms (drop 1 ms) refl short)

-- what the calls on a line rest on
pub ruleset line_steps = (length_parsed, room, sent, first_fits, taken)
