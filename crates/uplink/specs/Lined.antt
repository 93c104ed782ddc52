-- The messages of a line.
use Rattle.std.specs.Prelude.{◌≡◌, ℕ, zero, suc, ◌+◌, ◌-◌, ◌*◌, ◌/◌, ◌%◌, ◌<◌, ◌≤◌, List, [], ◌∷◌, ◌++◌, length, take, drop, slice_index_or, slice_set, refl}
use Rattle.std.proofs.Common.{sym, ap, subst, ◌∙◌, arith}
use borrow.Rule.Slice.PartMut.{put_mid}
use Rattle.std.specs.List.{flat_map}
use Rattle.std.proofs.lemmas.List.{length-append, length-set, length-take-le, append_assoc, take-append-drop, take_at, drop_at, drop-drop, get_or-drop, take_more_set, flat_map_more}
use Rattle.std.proofs.lemmas.Slice.{take-put_mid}
use Rattle.uplink.specs.Makes.{framed, size, parsed}
use Rattle.uplink.specs.Sizes.{longest_message, longest_framed}
use Rattle.uplink.specs.Waiting.{oldest}

-- each message is short enough for its length
abbrev pub Short : List (List ℕ) → Type 0
Short ms = (k : ℕ) → length (slice_index_or ms k []) ≤ longest_message

pub length_parsed : (xs : List ℕ) (n : ℕ) → length (parsed xs n) ≡ n
unfolding parsed
length_parsed xs zero = refl
length_parsed xs (suc n) = ap suc (length_parsed (drop (size xs) (drop 2 xs)) n)

-- what is framed is read again
pub parsed_framed : (ms : List (List ℕ)) (rest : List ℕ) → parsed (flat_map framed ms ++ rest) (length ms) ≡ ms
unfolding parsed
parsed_framed [] rest = refl
parsed_framed (m ∷ ms) rest =
    let s : length m ≡ 256 * (length m / 256) + length m % 256 = omega arith in
    let a : (m ++ flat_map framed ms) ++ rest ≡ m ++ (flat_map framed ms ++ rest) = append_assoc m (flat_map framed ms) rest in
    let t : take (256 * (length m / 256) + length m % 256) ((m ++ flat_map framed ms) ++ rest) ≡ m = ap (take _) a ∙ take_at m _ _ s in
    let d : drop (256 * (length m / 256) + length m % 256) ((m ++ flat_map framed ms) ++ rest) ≡ flat_map framed ms ++ rest = ap (drop _) a ∙ drop_at m _ _ s in
    ap (λ h. h ∷ parsed (drop (256 * (length m / 256) + length m % 256) ((m ++ flat_map framed ms) ++ rest)) (length ms)) t ∙ ap (λ r. m ∷ parsed r (length ms)) d ∙ ap (λ r. m ∷ r) (parsed_framed ms rest)

-- what is framed at the front of a line is read from it
pub parsed_whole : (line : List ℕ) (used n : ℕ) (ms : List (List ℕ)) → take used line ≡ flat_map framed ms → n ≡ length ms → parsed line n ≡ ms
parsed_whole line used n ms w e =
    ap (parsed line) e
    ∙ ap (λ xs. parsed xs (length ms)) (sym (take-append-drop used line) ∙ ap (λ xs. xs ++ drop used line) w)
    ∙ parsed_framed ms (drop used line)

-- how long a line is at most
pub length_joined : (ms : List (List ℕ)) → Short ms → length (flat_map framed ms) ≤ longest_framed * length ms
length_joined [] h = omega arith
length_joined (m ∷ ms) h =
    let f = h 0 in
    let r = length_joined ms (λ k. h (suc k)) in
    omega (arith, length-append m (flat_map framed ms))

-- one message more
pub sent : (line : List ℕ) (used k hi lo : ℕ) (ms : List (List ℕ)) (ys m : List ℕ) → take used line ≡ flat_map framed ms → used + 2 + length m ≤ length line → hi ≡ length m / 256 → lo ≡ length m % 256 → ys ≡ m → take (used + 2 + length m) (put_mid (used + 2) k (slice_set (slice_set line used hi) (used + 1) lo) ys) ≡ flat_map framed (ms ++ m ∷ [])
sent line used k hi lo ms ys m w le p q e =
    let l = length-set (slice_set line used hi) (used + 1) lo in
    let l' = length-set line used hi in
    let y : used + 2 + length m ≡ used + 2 + length ys = ap (λ t. used + 2 + length t) (sym e) in
    let two : used + 2 ≡ used + 1 + 1 = omega arith in
    take-put_mid (used + 2) k (slice_set (slice_set line used hi) (used + 1) lo) ys (used + 2 + length m) y (omega arith)
    ∙ ap (λ t. take t (slice_set (slice_set line used hi) (used + 1) lo) ++ ys) two
    ∙ ap (λ t. t ++ ys) (take_more_set (slice_set line used hi) (used + 1) lo (omega arith))
    ∙ ap (λ t. (t ++ lo ∷ []) ++ ys) (take_more_set line used hi (omega arith))
    ∙ append_assoc (take used line ++ hi ∷ []) (lo ∷ []) ys
    ∙ append_assoc (take used line) (hi ∷ []) (lo ∷ ys)
    ∙ (let f : take used line ++ hi ∷ lo ∷ ys ≡ flat_map framed ms ++ framed m = cc in f)
    ∙ flat_map_more framed [] ms m

-- one message more is short enough
pub sent_short : (ms : List (List ℕ)) (m : List ℕ) → Short ms → length m ≤ longest_message → Short (ms ++ m ∷ [])
sent_short [] m h le zero = le
sent_short [] m h le (suc k) = h k
sent_short (x ∷ ms) m h le zero = h 0
sent_short (x ∷ ms) m h le (suc k) = sent_short ms m (λ j. h (suc j)) le k

-- without the oldest the others are short enough
pub rest_short : (ms rest : List (List ℕ)) → rest ≡ drop 1 ms → Short ms → Short rest
rest_short ms rest e h k = rw (e, get_or-drop 1 ms k []) (h (1 + k))

-- what a line begins with
pub first : (line : List ℕ) (used : ℕ) (ms : List (List ℕ)) → take used line ≡ flat_map framed ms → 0 < length ms → (size line ≡ length (oldest ms)) × (take (size line) (drop 2 line) ≡ oldest ms) × (2 + size line ≤ length (flat_map framed ms))
first line used [] w h = absurd (omega arith)
first line used (m ∷ ms) w h =
    let rest : List ℕ = drop used line in
    let whole : line ≡ (framed m ++ flat_map framed ms) ++ rest = sym (take-append-drop used line) ∙ ap (λ xs. xs ++ rest) w in
    let s : size line ≡ length m = ap size whole ∙ omega arith in
    let a : drop 2 line ≡ m ++ (flat_map framed ms ++ rest) = ap (drop 2) whole ∙ append_assoc m (flat_map framed ms) rest in
    (s, ap (take (size line)) a ∙ take_at m _ _ (sym s), omega (arith, length-append m (flat_map framed ms)))

-- the oldest is gone
pub taken : (line turned : List ℕ) (used : ℕ) (ms : List (List ℕ)) → take used line ≡ flat_map framed ms → used ≤ length line → 0 < length ms → turned ≡ drop (2 + size line) line ++ take (2 + size line) line → take (used - (2 + size line)) turned ≡ flat_map framed (drop 1 ms)
taken line turned used [] w le h t = absurd (omega arith)
taken line turned used (m ∷ ms) w le h t =
    let rest : List ℕ = drop used line in
    let whole : line ≡ (framed m ++ flat_map framed ms) ++ rest = sym (take-append-drop used line) ∙ ap (λ xs. xs ++ rest) w in
    let s : size line ≡ length m = ap size whole ∙ omega arith in
    let a : drop 2 line ≡ m ++ (flat_map framed ms ++ rest) = ap (drop 2) whole ∙ append_assoc m (flat_map framed ms) rest in
    let d : drop (2 + size line) line ≡ flat_map framed ms ++ rest =
    sym (drop-drop (size line) 2 line) ∙ ap (drop (size line)) a ∙ drop_at m _ _ (sym s) in
    let u : used ≡ length (framed m ++ flat_map framed ms) = sym (length-take-le used line le) ∙ ap length w in
    let n : length (flat_map framed ms) ≡ used - (2 + size line) = omega (arith, length-append m (flat_map framed ms)) in
    ap (take (used - (2 + size line)))
    (t ∙ ap (λ xs. xs ++ take (2 + size line) line) d ∙ append_assoc (flat_map framed ms) rest (take (2 + size line) line))
    ∙ take_at (flat_map framed ms) _ _ n

-- what a line of these messages is known by
pub lined : (line : List ℕ) (used count : ℕ) (ms : List (List ℕ)) → take used line ≡ flat_map framed ms → count ≡ length ms → used ≤ length line → Short ms → (used ≤ longest_framed * count) × (0 < count → 2 + size line ≤ used) × (take used line ≡ flat_map framed (parsed line count)) × Short (parsed line count)
lined line used count ms w e le h =
    let u : used ≡ length (flat_map framed ms) = sym (length-take-le used line le) ∙ ap length w in
    let p : parsed line count ≡ ms = parsed_whole line used count ms w e in
    let j = length_joined ms h in (
      omega arith,
      λ pos. omega (arith, (first line used ms w (omega arith)).2),
      w ∙ ap (flat_map framed) (sym p),
      λ k. subst (λ xs. length (slice_index_or xs k []) ≤ longest_message) (sym p) (h k),
    )
