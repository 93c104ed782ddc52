-- The message of a waiting request is lawful, so it is written and can be sent.
use Rattle.std.proofs.Common.{◌≡◌, ℕ, ◌-◌, ◌≤◌, Bool, true, false, cond, not, ◌&&◌, ◌||◌, eqb, leb, List, [], ◌∷◌, ◌++◌, length, take, drop, Some, None, Ok, Err, Option, Result, sym, refl, ap, ◌∙◌, arith}
use Rattle.std.proofs.lemmas.Bool.{and_parts, and_from}
use Rattle.std.proofs.lemmas.Bool.Decides.{nat_tests}
use Rattle.std.specs.Option.{option_map}
use Rattle.session.specs.declared.state.State.{State}
use Rattle.session.specs.declared.state.State.TheVariants.{Inactive, ActivePending, Active, ModificationPending, InactivePending}
use Rattle.session.specs.declared.messages.PendingRefusal.{PendingRefusal}
use Rattle.session.specs.Messages.{present, request_in, written, pending_answer, pending_buffer}
use Rattle.session.specs.Session.{SessionView, waiting_pti}
use Rattle.session.specs.State.{waiting_of}
use Rattle.sessions.specs.Acts.{message_of}
use Rattle.sessions.specs.Table.{at_place, session_of}
use Rattle.ul_nas.specs.declared.message.RequestType.{RequestType}
use Rattle.ul_nas.specs.Lawful.{lawful_slice, lawful_name, absent, lawful_elements, lawful}
use Rattle.ul_nas.specs.Message.{Message, message, establishment_request, modification_request, release_request, emergency}
use Rattle.ul_nas.specs.Format.{encoding}
use Rattle.ul_nas.proofs.Longest.{longest, accepted}
use Rattle.uplink.specs.Waiting.{sendable, room, after_send}
use Rattle.std.proofs.lemmas.List.{take_at}
use Rattle.requests.specs.Sending.{with_message}
use Rattle.requests.specs.Sound.{lawful_waiting, lawful_parts, all_lawful}
use Rattle.requests.proofs.Rows.{placed, lawful_at}

-- an identity that has a session is 1 to 15
pub identity_lawful : (i : ℕ) (vs : List SessionView) (v : SessionView) → session_of i vs ≡ Some v → (leb 1 i && leb i 15) ≡ true
identity_lawful i vs v e = tell (leb 1 i && leb i 15) e
  where
    tell : (b : Bool) → at_place vs (cond b (Some (i - 1)) None) ≡ Some v → b ≡ true
    tell true h = refl
    tell false h = cc

present_slice : (xs : List ℕ) → (eqb (length xs) 0 || (eqb (length xs) 1 || (eqb (length xs) 2 || (eqb (length xs) 4 || (eqb (length xs) 5 || eqb (length xs) 8))))) ≡ true → lawful_slice (present xs) ≡ true
present_slice [] h = refl
present_slice (x ∷ xs) h = grind (arith, nat_tests)

present_name : (xs : List ℕ) → leb (length xs) 100 ≡ true → lawful_name (present xs) ≡ true
present_name [] h = refl
present_name (x ∷ xs) h = grind (arith, nat_tests)

present_absent : (xs : List ℕ) → absent (present xs) ≡ eqb (length xs) 0
present_absent [] = refl
present_absent (x ∷ xs) = grind (arith, nat_tests)

parts_lawful : (t : RequestType) (slice name : List ℕ) → lawful_parts t slice name ≡ true → lawful_elements (establishment_request t (present slice) (present name)) ≡ true
parts_lawful t slice name h =
    let p = and_parts _ (not (emergency t) || (eqb (length slice) 0 && eqb (length name) 0)) h in
    let q = and_parts _ (leb (length name) 100) p.0 in
    and_from (lawful_slice (present slice) && lawful_name (present name)) _
    (and_from (lawful_slice (present slice)) (lawful_name (present name)) (present_slice slice q.0) (present_name name q.1))
    (rw (present_absent slice, present_absent name) p.1)

lawful_in : (i : ℕ) (v : SessionView) (s : State) (m : Message) → (leb 1 i && leb i 15) ≡ true → lawful_waiting (option_map (λ w. w.pti) (waiting_of s)) ≡ true
    → lawful_parts v.request_type v.slice v.name ≡ true → option_map (λ c. message i c.0 c.1) (request_in s v) ≡ Some m → lawful m ≡ true
lawful_in i v Inactive m a b c e = cc
lawful_in i v Active m a b c e = cc
lawful_in i v (ActivePending w) m a b c e =
    let is : message i w.pti (establishment_request v.request_type (present v.slice) (present v.name)) ≡ m = cc in
    sym (ap lawful is) ∙ and_from (leb 1 i && leb i 15) _ a (and_from (leb 1 w.pti && leb w.pti 254) _ b (parts_lawful v.request_type v.slice v.name c))
lawful_in i v (ModificationPending w) m a b c e =
    let is : message i w.pti modification_request ≡ m = cc in
    sym (ap lawful is) ∙ and_from (leb 1 i && leb i 15) _ a (and_from (leb 1 w.pti && leb w.pti 254) true b refl)
lawful_in i v (InactivePending w) m a b c e =
    let is : message i w.pti release_request ≡ m = cc in
    sym (ap lawful is) ∙ and_from (leb 1 i && leb i 15) _ a (and_from (leb 1 w.pti && leb w.pti 254) true b refl)

pub waiting_lawful : (i : ℕ) (vs : List SessionView) (m : Message) → all_lawful vs ≡ true → message_of i (session_of i vs) ≡ Some m → lawful m ≡ true
waiting_lawful i vs m a e = on (session_of i vs) refl
  where
    on : (o : Option SessionView) → session_of i vs ≡ o → lawful m ≡ true
    on None f = cc (ap (message_of i) f)
    on (Some v) f =
        let p = placed i vs v f in
        let h = and_parts (lawful_waiting (waiting_pti v)) (lawful_parts v.request_type v.slice v.name) (lawful_at v v vs p.place p.there a) in
        lawful_in i v v.state m (identity_lawful i vs v f) h.0 h.1 (sym (ap (message_of i) f) ∙ e)

-- a lawful message is written into 128 octets
written_all : (m : Message) → lawful m ≡ true → pending_answer (Some m) 128 ≡ Ok (length (encoding m))
written_all m h = let short = longest m h in sym (ap written (accepted m 128 (length (encoding m)) h (omega arith) refl))

not_empty : (m : Message) → 1 ≤ length (encoding m)
not_empty (message i p c) = omega arith

pub sends_lawful : (m : Message) → lawful m ≡ true → sendable (length (encoding m)) ≡ true
sends_lawful m h = let short = longest m h in let some = not_empty m in grind (arith, nat_tests)

-- where nothing was written, no request waits
pub not_written : (o : Option Message) (e : PendingRefusal) → ((m : Message) → o ≡ Some m → lawful m ≡ true) → ◌≡◌ {A = Result ℕ PendingRefusal} (Err e) (pending_answer o 128) → o ≡ None
not_written None e good h = refl
not_written (Some m) e good h = let w = written_all m (good m refl) in cc

-- what was written is sent where there is room
pub queued : (o : Option Message) (n : ℕ) (before after octets : List ℕ) (waiting waiting' : List (List ℕ))
    → ((m : Message) → o ≡ Some m → lawful m ≡ true) → ◌≡◌ {A = Result ℕ PendingRefusal} (Ok n) (pending_answer o 128) → after ≡ pending_buffer (Ok n) o before → octets ≡ take n after
    → waiting' ≡ after_send waiting octets → waiting' ≡ with_message o waiting
queued None n before after octets waiting waiting' good a b part ew = cc
queued (Some m) n before after octets waiting waiting' good a b part ew =
    let w = written_all m (good m refl) in
    let len : n ≡ length (encoding m) = cc in
    let is : octets ≡ encoding m = part ∙ ap (take n) b ∙ take_at (encoding m) (drop (length (encoding m)) before) n (sym len) in
    ew ∙ ap (after_send waiting) is ∙ ap (λ b. cond (b && room (length waiting)) (waiting ++ encoding m ∷ []) waiting) (sends_lawful m (good m refl))
