-- The turns of the sessions, one after the other.
use Rattle.std.proofs.Common.{◌≡◌, ℕ, suc, ◌+◌, ◌-◌, ◌<◌, ◌≤◌, min, Bool, true, false, cond, leb, List, [], ◌∷◌, ◌++◌, map, length, get_or, take, drop, Some, None, Option, sym, refl, ap, ◌∙◌, subst, ⊎_elim, append_assoc, append-nil, add-zero, arith, length-append, length-take}
use native.Mathlib.Nat.{min-eq_left, min-eq_right}
use Rattle.std.proofs.lemmas.List.{take_more, drop_more, length-take-le, take_all, take-append-le, set_at, map_push, length-map}
use Rattle.std.proofs.lemmas.List.Sums.{sum_by-cons, sum_by_push}
use Rattle.std.proofs.lemmas.Bool.{cases_lt, lt-ltb, le-ltb, le-leb, and_from}
use Rattle.std.specs.List.{slice_get}
use Rattle.std.specs.Option.{option_map}
use Rattle.session.specs.declared.outcome.Expiry.{Expiry}
use Rattle.session.specs.declared.outcome.Expiry.TheVariants.{Nothing, Repeat, GiveUp}
use Rattle.session.specs.Messages.{pending_message}
use Rattle.session.specs.Session.{SessionView, unused}
use Rattle.session.specs.Time.{counted_expiry, counted_session}
use Rattle.sessions.specs.Acts.{expiry_of}
use Rattle.sessions.specs.Table.{place_of, at_place, session_of, put, changed}
use Rattle.requests.specs.declared.state.Tally.{Tally}
use Rattle.requests.specs.Sending.{with_message}
use Rattle.requests.specs.State.{StateView}
use Rattle.rules.specs.declared.answer.Expired.{Expired}
use Rattle.rules.specs.Reading.{is_repeat, is_given_up, repeats, gives_up, encoded_before, repeated_messages, due, given_up_of, sent_of, expired, tally_given_up}
use Rattle.ul_nas.specs.Format.{encoding}
use Rattle.ul_nas.specs.Message.{Message}
use Rattle.uplink.specs.Sizes.{capacity}
use Rattle.uplink.specs.Waiting.{room}
use Rattle.readings.specs.Laws.{waiting_once, TurnByTurn}
use Rattle.readings.specs.Turns.{expired_so, tally_by, with_turn, expired_on, turn_answer, turn_waiting, sum_of}
use Rattle.readings.proofs.Repeating.{repeated_message}

-- the message of one session, if it is to be repeated
abbrev one_message : ℕ → ℕ → SessionView → List (List ℕ)
one_message e i v = cond (repeats e v) (encoded_before (pending_message i v) []) []

before_append : (b : Bool) (o : Option Message) (xs ys : List (List ℕ)) → cond b (encoded_before o (xs ++ ys)) (xs ++ ys) ≡ cond b (encoded_before o xs) xs ++ ys
before_append true None xs ys = refl
before_append true (Some m) xs ys = refl
before_append false o xs ys = refl

messages_more : (e i : ℕ) (done : List SessionView) (v : SessionView) → repeated_messages e i (done ++ v ∷ []) ≡ repeated_messages e i done ++ one_message e (i + length done) v
messages_more e i [] v = let same : i ≡ i + 0 = omega arith in ap (λ j. one_message e j v) same
messages_more e i (x ∷ done) v =
    let ih = messages_more e (i + 1) done v in
    let same : (i + 1) + length done ≡ i + suc (length done) = omega arith in
    ap (λ r. cond (repeats e x) (encoded_before (pending_message i x) r) r) (ih ∙ ap (λ j. repeated_messages e (i + 1) done ++ one_message e j v) same)
    ∙ before_append (repeats e x) (pending_message i x) (repeated_messages e (i + 1) done) (one_message e (i + suc (length done)) v)

-- as many messages as there are requests to repeat
repeat_is : (x : Expiry) → is_repeat x ≡ true → x ≡ Repeat
repeat_is Nothing h = cc
repeat_is Repeat h = refl
repeat_is GiveUp h = cc

messages_count : (e i : ℕ) (vs : List SessionView) → length (repeated_messages e i vs) ≡ due e vs
messages_count e i [] = refl
messages_count e i (v ∷ vs) = on (repeats e v) refl (messages_count e (i + 1) vs) ∙ sym (sum_by-cons (λ x. cond (repeats e x) 1 0) v vs)
  where
    on : (b : Bool) → repeats e v ≡ b → length (repeated_messages e (i + 1) vs) ≡ due e vs
        → length (cond b (encoded_before (pending_message i v) (repeated_messages e (i + 1) vs)) (repeated_messages e (i + 1) vs)) ≡ cond b 1 0 + due e vs
    on true h ih =
        let r = repeated_message i e v (repeat_is (counted_expiry e v.state) h) in
        ap (λ o. length (encoded_before o (repeated_messages e (i + 1) vs))) r.before ∙ (let n : suc (length (repeated_messages e (i + 1) vs)) ≡ 1 + due e vs = omega arith in n)
    on false h ih = ih ∙ (let n : due e vs ≡ 0 + due e vs = omega arith in n)

-- one message more joins the waiting ones where there is room
queue_more : (w r : List (List ℕ)) (x : List ℕ)
    → cond (room (length (w ++ take (capacity - length w) r))) ((w ++ take (capacity - length w) r) ++ x ∷ []) (w ++ take (capacity - length w) r) ≡ w ++ take (capacity - length w) (r ++ x ∷ [])
queue_more w r x =
    let n = capacity - length w in
    let whole = length-append w (take (capacity - length w) r) in
    let part = length-take (capacity - length w) r in
    let long = length-append r (x ∷ []) in
    ⊎_elim
    (λ (h : length r < 8 - length w).
    let least : min (8 - length w) (length r) ≡ length r = min-eq_right (omega arith) in
    let fits : room (length (w ++ take (capacity - length w) r)) ≡ true = lt-ltb _ 8 (omega arith) in
    ap (λ b. cond b ((w ++ take (capacity - length w) r) ++ x ∷ []) (w ++ take (capacity - length w) r)) fits
    ∙ append_assoc w (take (capacity - length w) r) (x ∷ [])
    ∙ ap (λ y. w ++ (y ++ x ∷ [])) (take_all (capacity - length w) r (omega arith))
    ∙ ap (λ y. w ++ y) (sym (take_all (capacity - length w) (r ++ x ∷ []) (omega arith))))
    (λ (h : 8 - length w ≤ length r).
    let least : min (8 - length w) (length r) ≡ 8 - length w = min-eq_left h in
    let full : room (length (w ++ take (capacity - length w) r)) ≡ false = le-ltb _ 8 (omega arith) in
    ap (λ b. cond b ((w ++ take (capacity - length w) r) ++ x ∷ []) (w ++ take (capacity - length w) r)) full
    ∙ ap (λ y. w ++ y) (sym (take-append-le (capacity - length w) r (x ∷ []) h)))
    (cases_lt (length r) (8 - length w))

-- how many wait, while so many repeats were due
waiting_count : (w r : List (List ℕ)) → length (w ++ take (capacity - length w) r) ≡ length w + min (8 - length w) (length r)
waiting_count w r = length-append w (take (capacity - length w) r) ∙ ap (λ n. length w + n) (length-take (capacity - length w) r)

-- the counts of one turn more
counts_more : (d g n waiting : ℕ) (x : Expiry) → waiting ≡ n + min (8 - n) d
    → sum_of (expired_so (sent_of d n) (d - sent_of d n) g) (turn_answer x waiting)
    ≡ expired_so (sent_of (d + cond (is_repeat x) 1 0) n) ((d + cond (is_repeat x) 1 0) - sent_of (d + cond (is_repeat x) 1 0) n) (g + cond (is_given_up x) 1 0)
counts_more d g n waiting Nothing h = same (d + 0) (g + 0) (omega arith) (omega arith)
  where
    same : (d' g' : ℕ) → d' ≡ d → g' ≡ g → expired_so (sent_of d n + 0) ((d - sent_of d n) + 0) (g + 0) ≡ expired_so (sent_of d' n) (d' - sent_of d' n) g'
    same d' g' e f =
        ap (λ k. expired_so k ((d - sent_of d n) + 0) (g + 0)) (add-zero (sent_of d n)) ∙ ap (λ k. expired_so (sent_of d n) k (g + 0)) (add-zero (d - sent_of d n)) ∙ ap (λ k. expired_so (sent_of d n) (d - sent_of d n) k) (add-zero g)
        ∙ ap (λ k. expired_so (sent_of k n) (k - sent_of k n) g) (sym e) ∙ ap (λ k. expired_so (sent_of d' n) (d' - sent_of d' n) k) (sym f)
counts_more d g n waiting GiveUp h = same (d + 0) (omega arith)
  where
    same : (d' : ℕ) → d' ≡ d → expired_so (sent_of d n + 0) ((d - sent_of d n) + 0) (g + 1) ≡ expired_so (sent_of d' n) (d' - sent_of d' n) (g + 1)
    same d' e =
        ap (λ k. expired_so k ((d - sent_of d n) + 0) (g + 1)) (add-zero (sent_of d n)) ∙ ap (λ k. expired_so (sent_of d n) k (g + 1)) (add-zero (d - sent_of d n))
        ∙ ap (λ k. expired_so (sent_of k n) (k - sent_of k n) (g + 1)) (sym e)
counts_more d g n waiting Repeat h =
    ⊎_elim
    (λ (less : d < 8 - n).
    let b : min d (8 - n) ≡ d = min-eq_left (omega arith) in
    let a : min (8 - n) d ≡ d = min-eq_right (omega arith) in
    let c : min (d + 1) (8 - n) ≡ d + 1 = min-eq_left (omega arith) in
    let fits : room waiting ≡ true = lt-ltb waiting 8 (omega arith) in
    ap (λ t. sum_of (expired_so (sent_of d n) (d - sent_of d n) g) (cond t (expired_so 1 0 0) (expired_so 0 1 0))) fits
    ∙ parts (omega arith) (omega arith) (omega arith))
    (λ (full : 8 - n ≤ d).
    let b : min d (8 - n) ≡ 8 - n = min-eq_right full in
    let a : min (8 - n) d ≡ 8 - n = min-eq_left full in
    let c : min (d + 1) (8 - n) ≡ 8 - n = min-eq_right (omega arith) in
    let none : room waiting ≡ false = le-ltb waiting 8 (omega arith) in
    ap (λ t. sum_of (expired_so (sent_of d n) (d - sent_of d n) g) (cond t (expired_so 1 0 0) (expired_so 0 1 0))) none
    ∙ parts (omega arith) (omega arith) (omega arith))
    (cases_lt d (8 - n))
  where
    parts : {a a' b b' c c' : ℕ} → a ≡ a' → b ≡ b' → c ≡ c' → expired_so a b c ≡ expired_so a' b' c'
    parts {a} {a'} {b} {b'} {c} {c'} e f g' = ap (λ k. expired_so k b c) e ∙ ap (λ k. expired_so a' k c) f ∙ ap (λ k. expired_so a' b' k) g'

-- what the turns of some sessions have done: those of the sessions that were served, and the others as they were
pub record Turned (e : ℕ) (s : StateView) (w : List (List ℕ)) (done rest : List SessionView) (s' : StateView) (w' : List (List ℕ)) (a : Expired) : Type 0 where
  pub state : s' ≡ with_turn (map (counted_session e) done ++ rest) (tally_given_up (given_up_of e done) s.tally) s
  pub queue : w' ≡ w ++ take (capacity - length w) (repeated_messages e 1 done)
  pub answer : a ≡ expired e done (length w)

-- the session whose turn it is
module _ (e : ℕ) (done rest : List SessionView) (v : SessionView) (short : length done < 15) where
  place_now : place_of (length done + 1) ≡ Some (length done)
  place_now =
      let low : leb 1 (length done + 1) ≡ true = le-leb 1 (length done + 1) (omega arith) in
      let high : leb (length done + 1) 15 ≡ true = le-leb (length done + 1) 15 (omega arith) in
      let same : (length done + 1) - 1 ≡ length done = omega arith in
      ap (λ b. cond b (Some ((length done + 1) - 1)) None) (and_from (leb 1 (length done + 1)) (leb (length done + 1) 15) low high) ∙ ap (λ n. Some n) same

  nth_at : (xs : List SessionView) → slice_get (map (counted_session e) xs ++ v ∷ rest) (length xs) ≡ Some v
  nth_at [] = refl
  nth_at (x ∷ xs) = nth_at xs

  session_now : session_of (length done + 1) (map (counted_session e) done ++ v ∷ rest) ≡ Some v
  session_now = ap (at_place (map (counted_session e) done ++ v ∷ rest)) place_now ∙ nth_at done

  changed_now : changed (length done + 1) (counted_session e) (map (counted_session e) done ++ v ∷ rest) ≡ map (counted_session e) (done ++ v ∷ []) ++ rest
  changed_now =
      ap (λ o. put (map (counted_session e) done ++ v ∷ rest) o (option_map (counted_session e) (at_place (map (counted_session e) done ++ v ∷ rest) o))) place_now
      ∙ ap (λ o. put (map (counted_session e) done ++ v ∷ rest) (Some (length done)) (option_map (counted_session e) o)) (nth_at done)
      ∙ set_at (map (counted_session e) done) v rest (counted_session e v) (length done) (length-map done (counted_session e))
      ∙ sym (ap (λ x. x ++ rest) (map_push (counted_session e) done v) ∙ append_assoc (map (counted_session e) done) (counted_session e v ∷ []) rest)

-- the tally of one turn more
tally_more : (x : Expiry) (n : ℕ) (t : Tally) → tally_by x (tally_given_up n t) ≡ tally_given_up (n + cond (is_given_up x) 1 0) t
tally_more x n t = on x
  where
    on : (y : Expiry) → tally_by y (tally_given_up n t) ≡ tally_given_up (n + cond (is_given_up y) 1 0) t
    on Nothing = let same : t.given_up + n ≡ t.given_up + (n + 0) = omega arith in ap (λ k. record { let_out = t.let_out; accepted = t.accepted; rejected = t.rejected; returned = t.returned; overtaken = t.overtaken; given_up = k }) same
    on Repeat = let same : t.given_up + n ≡ t.given_up + (n + 0) = omega arith in ap (λ k. record { let_out = t.let_out; accepted = t.accepted; rejected = t.rejected; returned = t.returned; overtaken = t.overtaken; given_up = k }) same
    on GiveUp = let same : (t.given_up + n) + 1 ≡ t.given_up + (n + 1) = omega arith in ap (λ k. record { let_out = t.let_out; accepted = t.accepted; rejected = t.rejected; returned = t.returned; overtaken = t.overtaken; given_up = k }) same

-- the waiting messages of one turn more
queue_turn : (x : Expiry) (i e : ℕ) (v : SessionView) (w r : List (List ℕ)) → counted_expiry e v.state ≡ x
    → turn_waiting x i (Some v) (w ++ take (capacity - length w) r) ≡ w ++ take (capacity - length w) (r ++ cond (is_repeat x) (encoded_before (pending_message i v) []) [])
queue_turn Nothing i e v w r h = ap (λ y. w ++ take (capacity - length w) y) (sym (append-nil r))
queue_turn GiveUp i e v w r h = ap (λ y. w ++ take (capacity - length w) y) (sym (append-nil r))
queue_turn Repeat i e v w r h =
    let m = repeated_message i e v h in
    ap (λ o. with_message o (w ++ take (capacity - length w) r)) m.before ∙ queue_more w r (encoding m.message)
    ∙ ap (λ o. w ++ take (capacity - length w) (r ++ encoded_before o [])) (sym m.before)

module _ (e : ℕ) (s : StateView) (w : List (List ℕ)) (done rest : List SessionView) (v : SessionView) (s' : StateView) (w' : List (List ℕ)) (a : Expired) (short : length done < 15)
    (t : Turned e s w done (v ∷ rest) s' w' a) where
  -- the session whose turn it is, as it is found
  pub found : session_of (length done + 1) s'.sessions ≡ Some v
  found = ap (λ x. session_of (length done + 1) x.sessions) t.state ∙ session_now e done rest v short

  pub expiry_now : expiry_of e (session_of (length done + 1) s'.sessions) ≡ counted_expiry e v.state
  expiry_now = ap (expiry_of e) found

  how_many : length w' ≡ length w + min (8 - length w) (due e done)
  how_many = ap length t.queue ∙ waiting_count w (repeated_messages e 1 done) ∙ ap (λ n. length w + min (8 - length w) n) (messages_count e 1 done)

  pub turned_more : (s'' : StateView) (w'' : List (List ℕ)) (b : Expired)
      → b ≡ turn_answer (expiry_of e (session_of (length done + 1) s'.sessions)) (length w')
      → s'' ≡ expired_on (length done + 1) e s'
      → w'' ≡ turn_waiting (expiry_of e (session_of (length done + 1) s'.sessions)) (length done + 1) (session_of (length done + 1) s'.sessions) w'
      → Turned e s w (done ++ v ∷ []) rest s'' w'' (sum_of a b)
  turned_more s'' w'' b eb es ew =
      let x = counted_expiry e v.state in
      let i = length done + 1 in
      let rep = sum_by_push (λ y. cond (repeats e y) 1 0) done v in
      let giv = sum_by_push (λ y. cond (gives_up e y) 1 0) done v in
      let swap : 1 + length done ≡ length done + 1 = omega arith in
      record {
        state =
            es ∙ ap (λ y. with_turn (changed (length done + 1) (counted_session e) s'.sessions) (tally_by y s'.tally) s') expiry_now
            ∙ ap (λ z. with_turn (changed (length done + 1) (counted_session e) z.sessions) (tally_by (counted_expiry e v.state) z.tally) z) t.state
            ∙ ap (λ y. with_turn y (tally_by (counted_expiry e v.state) (tally_given_up (given_up_of e done) s.tally)) s) (changed_now e done rest v short)
            ∙ ap (λ y. with_turn (map (counted_session e) (done ++ v ∷ []) ++ rest) y s) (tally_more (counted_expiry e v.state) (given_up_of e done) s.tally)
            ∙ ap (λ n. with_turn (map (counted_session e) (done ++ v ∷ []) ++ rest) (tally_given_up n s.tally) s) (sym giv);
        queue =
            ew ∙ ap (λ y. turn_waiting y (length done + 1) (session_of (length done + 1) s'.sessions) w') expiry_now
            ∙ ap (λ o. turn_waiting (counted_expiry e v.state) (length done + 1) o w') found
            ∙ ap (λ y. turn_waiting (counted_expiry e v.state) (length done + 1) (Some v) y) t.queue
            ∙ queue_turn (counted_expiry e v.state) (length done + 1) e v w (repeated_messages e 1 done) refl
            ∙ ap (λ j. w ++ take (capacity - length w) (repeated_messages e 1 done ++ one_message e j v)) (sym swap)
            ∙ ap (λ y. w ++ take (capacity - length w) y) (sym (messages_more e 1 done v));
        answer =
            ap (λ y. sum_of a y) (eb ∙ ap (λ y. turn_answer y (length w')) expiry_now) ∙ ap (λ y. sum_of y (turn_answer (counted_expiry e v.state) (length w'))) t.answer
            ∙ counts_more (due e done) (given_up_of e done) (length w) (length w') (counted_expiry e v.state) how_many
            ∙ ap (λ d. expired_so (sent_of d (length w)) (d - sent_of d (length w)) (given_up_of e done + cond (gives_up e v) 1 0)) (sym rep)
            ∙ ap (λ g. expired_so (sent_of (due e (done ++ v ∷ [])) (length w)) (due e (done ++ v ∷ []) - sent_of (due e (done ++ v ∷ [])) (length w)) g) (sym giv);
      }

-- the same for the first k of the fifteen sessions
pub turn_at : (e k : ℕ) (s : StateView) (w : List (List ℕ)) (s' : StateView) (w' : List (List ℕ)) (a : Expired) (s'' : StateView) (w'' : List (List ℕ)) (b : Expired)
    → length s.sessions ≡ 15 → k < 15 → Turned e s w (take k s.sessions) (drop k s.sessions) s' w' a
    → b ≡ turn_answer (expiry_of e (session_of (k + 1) s'.sessions)) (length w') → s'' ≡ expired_on (k + 1) e s'
    → w'' ≡ turn_waiting (expiry_of e (session_of (k + 1) s'.sessions)) (k + 1) (session_of (k + 1) s'.sessions) w'
    → Turned e s w (take (k + 1) s.sessions) (drop (k + 1) s.sessions) s'' w'' (sum_of a b)
turn_at e k s w s' w' a s'' w'' b full less t eb es ew =
    let vs = s.sessions in
    let within : k < length s.sessions = omega arith in
    let v = get_or s.sessions k unused in
    let count : length (take k s.sessions) ≡ k = length-take-le k s.sessions (omega arith) in
    let short : length (take k s.sessions) < 15 = omega arith in
    let t' = subst (λ x. Turned e s w (take k s.sessions) x s' w' a) (drop_more s.sessions k unused within) t in
    subst (λ x. Turned e s w x (drop (k + 1) s.sessions) s'' w'' (sum_of a b)) (sym (take_more s.sessions k unused within))
    (turned_more e s w (take k s.sessions) (drop (k + 1) s.sessions) (get_or s.sessions k unused) s' w' a short t' s'' w'' b
    (subst (λ j. b ≡ turn_answer (expiry_of e (session_of (j + 1) s'.sessions)) (length w')) (sym count) eb)
    (subst (λ j. s'' ≡ expired_on (j + 1) e s') (sym count) es)
    (subst (λ j. w'' ≡ turn_waiting (expiry_of e (session_of (j + 1) s'.sessions)) (j + 1) (session_of (j + 1) s'.sessions) w') (sym count) ew))

-- the law of the turns
pub turn_by_turn : TurnByTurn
turn_by_turn e w served v =
    let rep = sum_by_push (λ y. cond (repeats e y) 1 0) served v in
    let giv = sum_by_push (λ y. cond (gives_up e y) 1 0) served v in
    let swap : 1 + length served ≡ length served + 1 = omega arith in
    let count : length (waiting_once e w served) ≡ length w + min (8 - length w) (due e served) = waiting_count w (repeated_messages e 1 served) ∙ ap (λ n. length w + min (8 - length w) n) (messages_count e 1 served) in
    record {
      session = map_push (counted_session e) served v;
      queue =
          ap (λ y. w ++ take (capacity - length w) y) (messages_more e 1 served v)
          ∙ ap (λ j. w ++ take (capacity - length w) (repeated_messages e 1 served ++ one_message e j v)) swap
          ∙ sym (queue_turn (counted_expiry e v.state) (length served + 1) e v w (repeated_messages e 1 served) refl);
      answer =
          ap (λ d. expired_so (sent_of d (length w)) (d - sent_of d (length w)) (given_up_of e (served ++ v ∷ []))) rep
          ∙ ap (λ g. expired_so (sent_of (due e served + cond (repeats e v) 1 0) (length w)) ((due e served + cond (repeats e v) 1 0) - sent_of (due e served + cond (repeats e v) 1 0) (length w)) g) giv
          ∙ sym (counts_more (due e served) (given_up_of e served) (length w) (length (waiting_once e w served)) (counted_expiry e v.state) count);
    }
