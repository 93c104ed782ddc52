-- A reply that is due is lawful, so it is written and sent.
use Rattle.std.proofs.Common.{◌≡◌, ℕ, Bool, true, false, cond, not, ◌&&◌, leb, List, [], ◌∷◌, ◌++◌, length, take, drop, is_some, Some, None, Ok, Err, Option, Result, sym, refl, ap, ◌∙◌, arith}
use Rattle.std.proofs.lemmas.List.{take_at}
use Rattle.std.proofs.lemmas.Option.{none-some}
use Rattle.std.proofs.lemmas.Bool.{and_parts, and_from}
use Rattle.std.proofs.lemmas.Bool.Decides.{nat_tests}
use Rattle.std.specs.Option.{option_map}
use Rattle.dl_nas.specs.declared.message.Received.{Received}
use Rattle.session.specs.declared.outcome.Reply.{Reply}
use Rattle.session.specs.declared.outcome.Reply.TheVariants.{ModificationComplete, ReleaseComplete, Status}
use Rattle.session.specs.declared.state.State.{State}
use Rattle.session.specs.declared.state.State.TheVariants.{Inactive, ActivePending, Active, ModificationPending, InactivePending}
use Rattle.session.specs.Messages.{reply_carried, reply_message}
use Rattle.session.specs.Session.{SessionView, waiting_pti}
use Rattle.session.specs.State.{waiting_of}
use Rattle.session.specs.Transitions.{line_of, outcome_by, outcome_of}
use Rattle.sessions.specs.Table.{session_of}
use Rattle.ul_nas.specs.declared.write.WriteRefusal.{WriteRefusal}
use Rattle.ul_nas.specs.Format.{encoding}
use Rattle.ul_nas.specs.Lawful.{lawful_pti, lawful_elements, lawful}
use Rattle.ul_nas.specs.Message.{Message}
use Rattle.ul_nas.specs.declared.write.WriteRefusal.TheVariants.{NotLawful, Short}
use Rattle.ul_nas.specs.Writing.{buffer_after, write_answer}
use Rattle.uplink.specs.Waiting.{room, after_send}
use Rattle.requests.specs.Sound.{lawful_waiting, lawful_parts, all_lawful}
use Rattle.requests.proofs.Messages.{identity_lawful, sends_lawful}
use Rattle.requests.proofs.Rows.{placed, lawful_at}
use Rattle.requests.specs.State.{StateView}
use Rattle.rules.specs.declared.answer.TakenIn.{TakenIn}
use Rattle.rules.specs.declared.answer.TakeInRefusal.{TakeInRefusal}
use Rattle.rules.specs.declared.answer.TakeInRefusal.TheVariants.{Waiting}
use Rattle.rules.specs.TakingIn.{passed_over, did, taken_on, taken, replied}
use Rattle.handset.specs.Replies.{with_reply}

-- what is written of a message is all of it, and the message is lawful
written_lawful : (m : Message) (n : ℕ) → ◌≡◌ {A = Result ℕ WriteRefusal} (Ok n) (write_answer m 128) → (lawful m ≡ true) × (n ≡ length (encoding m))
written_lawful m n h = on (lawful m) (leb (length (encoding m)) 128) h
  where
    on : (a b : Bool) → ◌≡◌ {A = Result ℕ WriteRefusal} (Ok n) (cond a (cond b (Ok (length (encoding m))) (Err Short)) (Err NotLawful)) → (a ≡ true) × (n ≡ length (encoding m))
    on true true e = (refl, (let same : n ≡ length (encoding m) = cc in same))
    on true false e = absurd (cc)
    on false b e = absurd (cc)

pub reply_sent : (reply : Reply) (identity pti n : ℕ) (before out octets : List ℕ) (waiting waiting' : List (List ℕ))
    → ◌≡◌ {A = Result ℕ WriteRefusal} (Ok n) (write_answer (reply_message reply identity pti) 128) → out ≡ buffer_after (Ok n) (reply_message reply identity pti) before
    → octets ≡ take n out → waiting' ≡ after_send waiting octets → waiting' ≡ with_reply reply identity pti waiting
reply_sent reply identity pti n before out octets waiting waiting' told buffer part queue =
    let m = reply_message reply identity pti in
    let w = written_lawful (reply_message reply identity pti) n told in
    let is : octets ≡ encoding (reply_message reply identity pti) = part ∙ ap (take n) buffer ∙ take_at (encoding (reply_message reply identity pti)) (drop (length (encoding (reply_message reply identity pti))) before) n (sym w.1) in
    queue ∙ ap (after_send waiting) is
    ∙ ap (λ b. cond (b && room (length waiting)) (waiting ++ encoding (reply_message reply identity pti) ∷ []) waiting) (sends_lawful (reply_message reply identity pti) w.0 ∙ sym w.0)

-- the PTI of a message that gets a reply is one that the reply may have
reply_pti : (s : State) (m : Received) (reply : Reply) → lawful_waiting (option_map (λ w. w.pti) (waiting_of s)) ≡ true → (outcome_by (line_of s m)).reply ≡ Some reply → lawful_pti (reply_carried reply) m.pti ≡ true
reply_pti Inactive m reply h e = grind (arith, nat_tests)
reply_pti (ActivePending w) m reply h e = grind (arith, nat_tests)
reply_pti Active m reply h e = grind (arith, nat_tests)
reply_pti (ModificationPending w) m reply h e = grind (arith, nat_tests)
reply_pti (InactivePending w) m reply h e = grind (arith, nat_tests)

reply_elements : (reply : Reply) → lawful_elements (reply_carried reply) ≡ true
reply_elements ModificationComplete = refl
reply_elements ReleaseComplete = refl
reply_elements Status = refl

pub reply_lawful : (vs : List SessionView) (v : SessionView) (m : Received) (reply : Reply) → all_lawful vs ≡ true → session_of m.identity vs ≡ Some v → (outcome_of v m).reply ≡ Some reply
    → lawful (reply_message reply m.identity m.pti) ≡ true
reply_lawful vs v m reply a is e =
    let p = placed m.identity vs v is in
    let h = and_parts (lawful_waiting (waiting_pti v)) (lawful_parts v.request_type v.slice v.name) (lawful_at v v vs p.place p.there a) in
    and_from (leb 1 m.identity && leb m.identity 15) _ (identity_lawful m.identity vs v is)
    (and_from (lawful_pti (reply_carried reply) m.pti) (lawful_elements (reply_carried reply)) (reply_pti v.state m reply h.0 e) (reply_elements reply))

-- what is known where a message was taken in and a reply is due
pub record Due (s : StateView) (m : Received) (reply : Reply) (waiting : ℕ) : Type 0 where
  pub session : SessionView
  pub is : session_of m.identity s.sessions ≡ Some session
  pub due : (outcome_of session m).reply ≡ Some reply
  pub fits : room waiting ≡ true

pub reply_due : (s : StateView) (m : Received) (waiting : ℕ) (a : TakenIn) (reply : Reply) → ◌≡◌ {A = Result TakenIn TakeInRefusal} (Ok a) (taken (Ok m) s waiting) → a.reply ≡ Some reply → Due s m reply waiting
reply_due s m waiting a reply told due = on (session_of m.identity s.sessions) refl told
  where
    with_room : (v : SessionView) (b : Bool) → (is_some (outcome_of v m).reply && not (room waiting)) ≡ b
        → ◌≡◌ {A = Result TakenIn TakeInRefusal} (Ok a) (cond b (Err Waiting) (Ok (did m v (outcome_of v m)))) → (a ≡ did m v (outcome_of v m)) × (b ≡ false)
    with_room v true e f = absurd (cc)
    with_room v false e f = ((let same : a ≡ did m v (outcome_of v m) = cc in same), refl)

    room_left : (o : Option Reply) (x : Bool) → o ≡ Some reply → (is_some o && not x) ≡ false → x ≡ true
    room_left o true e f = refl
    room_left o false e f = let g : ◌≡◌ {A = Bool} (is_some (Some reply) && not false) false = sym (ap (λ y. is_some y && not false) e) ∙ f in sym g

    on : (o : Option SessionView) → session_of m.identity s.sessions ≡ o → ◌≡◌ {A = Result TakenIn TakeInRefusal} (Ok a) (taken_on o m waiting) → Due s m reply waiting
    on None e f =
        let same : a ≡ passed_over m.identity = cc in
        let none : ◌≡◌ {A = Option Reply} None (Some reply) = sym (ap (λ x. x.reply) same) ∙ due in
        absurd (none-some reply none)
    on (Some v) e f =
        let w = with_room v (is_some (outcome_of v m).reply && not (room waiting)) refl f in
        let reply-is : (outcome_of v m).reply ≡ Some reply = sym (ap (λ x. x.reply) w.0) ∙ due in
        record { session = v; is = e; due = reply-is; fits = room_left (outcome_of v m).reply (room waiting) reply-is w.1 }

-- the reply is the newest waiting message
pub reply_queued : (s : StateView) (m : Received) (reply : Reply) (waiting : List (List ℕ)) → all_lawful s.sessions ≡ true → Due s m reply (length waiting)
    → with_reply reply m.identity m.pti waiting ≡ replied (Some reply) m waiting
reply_queued s m reply waiting a d =
    ap (λ b. cond b (waiting ++ encoding (reply_message reply m.identity m.pti) ∷ []) waiting)
    (and_from (lawful (reply_message reply m.identity m.pti)) (room (length waiting)) (reply_lawful s.sessions d.session m reply a d.is d.due) d.fits)
