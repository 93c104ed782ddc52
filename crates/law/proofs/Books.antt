-- The pending requests and the tally of a handset go with the moments of its life.
use Rattle.std.proofs.Common.{◌≡◌, ℕ, ◌+◌, ◌-◌, ◌<◌, Bool, true, false, cond, eqb, ◌≢◌, List, [], ◌∷◌, ◌++◌, map, length, get_or, set, replicate, is_some, Some, None, count_by, Option, sym, refl, ap, ◌∙◌, subst, ⊎_elim, arith}
use Rattle.std.proofs.lemmas.List.{length-set, length-map, get_or-set_same, get_or-set_other, get_or-map, get_or-replicate}
use Rattle.std.proofs.lemmas.List.Sums.{sum_by-set}
use Rattle.std.proofs.lemmas.Bool.{cases_eq, eq-eqb, ne_eqb}
use Rattle.dl_nas.specs.declared.message.Received.{Received}
use Rattle.session.specs.declared.outcome.Ended.{Ended}
use Rattle.session.specs.declared.outcome.Ended.TheVariants.{Accepted, Rejected, Returned, Overtaken, Nothing}
use Rattle.session.specs.Laws.{ends}
use Rattle.session.specs.Session.{SessionView, unused}
use Rattle.session.specs.Time.{counted_session}
use Rattle.session.specs.Transitions.{outcome_of, taken_in}
use Rattle.sessions.specs.Ptis.{is_pending}
use Rattle.requests.specs.declared.state.Tally.{Tally}
use Rattle.requests.specs.LettingOut.{one_more}
use Rattle.rules.specs.declared.answer.Answer.{Answer}
use Rattle.rules.specs.declared.answer.Answer.TheVariants.{LetOut, TakenIn, Read}
use Rattle.rules.specs.declared.answer.Expired.{Expired}
use Rattle.rules.specs.declared.answer.TakenIn.{TakenIn as Taking}
use Rattle.rules.specs.Calls.{Said, switch_on, take_in, time_reading}
use Rattle.requests.specs.State.{no_tally}
use Rattle.rules.specs.Reading as reading
use Rattle.rules.specs.TakingIn.{tally_with}
use Rattle.law.specs.Moments.{Moment}
use Rattle.law.specs.Requests.{told_by, now, Event, sent, ended, of, later, pending, waiting}
use Rattle.law.specs.Tallies.{more, by_end, by_message, let_out_of, accepted, rejected, returned, overtaken, given_up_of}
use Rattle.law.specs.Law.{Balanced}
use Rattle.law.proofs.Sessions.{waits, pending_waits, Found, counted_up, waits_later, given_all, message_waits, message_pended}

-- the numbers of the tally are those of the answers
pub record Tallied (h : List Moment) (t : Tally) : Type 0 where
  pub out_is : t.let_out ≡ let_out_of h
  pub accepted_is : t.accepted ≡ accepted h
  pub rejected_is : t.rejected ≡ rejected h
  pub returned_is : t.returned ≡ returned h
  pub overtaken_is : t.overtaken ≡ overtaken h
  pub given_up_is : t.given_up ≡ given_up_of h

-- every session's pending request is the list's, and the tally balances
pub record Booked (h : List Moment) (vs : List SessionView) (t : Tally) (last : ℕ) : Type 0 where
  pub lit : (now h).on ≡ true
  pub reading_is : last ≡ (now h).reading
  pub full : length vs ≡ 15
  pub each : (n : ℕ) → n < 15 → waits (get_or vs n unused).state ≡ pending (of (n + 1) h)
  pub tallied : Tallied h t
  pub balance : t.let_out ≡ t.accepted + t.rejected + t.returned + t.overtaken + t.given_up + count_by is_pending vs

pub waiting_is : {h : List Moment} {vs : List SessionView} {t : Tally} {last : ℕ} → Booked h vs t last → waiting h ≡ count_by is_pending vs
waiting_is {h} {vs} {t} {last} b =
    counted_up is_pending (λ i. is_some (pending (of i h))) vs 1 15 b.full
    (λ k l. pending_waits (get_or vs k unused) _ refl ∙ ap is_some (b.each k l) ∙ ap (λ i. is_some (pending (of i h))) (let z : k + 1 ≡ 1 + k = omega arith in z))

pub balanced : {h : List Moment} {vs : List SessionView} {t : Tally} {last : ℕ} → Booked h vs t last → Balanced h
balanced b = let w = waiting_is b in let e = b.balance in let t = b.tallied in omega arith

-- no event: a stopped request, a message that ends nothing, another network, the network's take
module _ (h : List Moment) (vs : List SessionView) (t : Tally) (last : ℕ) (b : Booked h vs t last) (m : Moment) (lit : (now (m ∷ h)).on ≡ (now h).on) (still : (now (m ∷ h)).reading ≡ (now h).reading) where
  pub no_event : ((i : ℕ) → of i (m ∷ h) ≡ of i h) → Tallied (m ∷ h) t → Booked (m ∷ h) vs t last
  no_event same k = record {
    lit = lit ∙ b.lit;
    reading_is = b.reading_is ∙ sym still;
    full = b.full;
    each = λ n l. b.each n l ∙ ap pending (sym (same (n + 1)));
    tallied = k;
    balance = b.balance;
  }

  -- one session has one event
  pub one_event : (e : Event) (n : ℕ) (y : SessionView) (t' : Tally) → n < 15 → ((i : ℕ) → of i (m ∷ h) ≡ cond (eqb (n + 1) i) (e ∷ []) [] ++ of i h)
      → waits y.state ≡ pending (e ∷ of (n + 1) h) → Tallied (m ∷ h) t'
      → t'.let_out + cond (is_pending (get_or vs n unused)) 1 0 + (t.accepted + t.rejected + t.returned + t.overtaken + t.given_up)
      ≡ t'.accepted + t'.rejected + t'.returned + t'.overtaken + t'.given_up + cond (is_pending y) 1 0 + t.let_out
      → Booked (m ∷ h) (set vs n y) t' last
  one_event e n y t' l same here k sums =
      let within : n < length vs = let f = b.full in omega arith in record {
        lit = lit ∙ b.lit;
        reading_is = b.reading_is ∙ sym still;
        full = length-set vs n y ∙ b.full;
        each = λ i j. ⊎_elim
            (λ (q : i ≡ n). subst (λ k. waits (get_or (set vs n y) k unused).state ≡ pending (of (k + 1) (m ∷ h))) (sym q)
            (ap (λ v. waits v.state) (get_or-set_same vs n y unused within) ∙ here ∙ ap pending (sym (same (n + 1) ∙ ap (λ b. cond b (e ∷ []) [] ++ of (n + 1) h) (eq-eqb (n + 1) (n + 1) refl)))))
            (λ (ne : i ≢ n). ap (λ v. waits v.state) (get_or-set_other vs n i y unused ne) ∙ b.each i j
            ∙ ap pending (sym (same (i + 1) ∙ ap (λ b. cond b (e ∷ []) [] ++ of (i + 1) h) (ne_eqb (n + 1) (i + 1) (λ z. ne (omega arith))))))
            (cases_eq i n);
        tallied = k;
        balance = let s = sum_by-set (λ w. cond (is_pending w) 1 0) vs n y unused within in let e = b.balance in omega arith;
      }

  -- a session changes, and its pending request does not
  pub quiet_event : (n : ℕ) (y : SessionView) (t' : Tally) → n < 15 → ((i : ℕ) → of i (m ∷ h) ≡ of i h)
      → waits y.state ≡ waits (get_or vs n unused).state → Tallied (m ∷ h) t' → t' ≡ t → Booked (m ∷ h) (set vs n y) t' last
  quiet_event n y t' l same here k unmoved =
      let within : n < length vs = let f = b.full in omega arith in record {
        lit = lit ∙ b.lit;
        reading_is = b.reading_is ∙ sym still;
        full = length-set vs n y ∙ b.full;
        each = λ i j. ⊎_elim
            (λ (q : i ≡ n). subst (λ k. waits (get_or (set vs n y) k unused).state ≡ pending (of (k + 1) (m ∷ h))) (sym q)
            (ap (λ v. waits v.state) (get_or-set_same vs n y unused within) ∙ here ∙ b.each n l ∙ ap pending (sym (same (n + 1)))))
            (λ (ne : i ≢ n). ap (λ v. waits v.state) (get_or-set_other vs n i y unused ne) ∙ b.each i j ∙ ap pending (sym (same (i + 1))))
            (cases_eq i n);
        tallied = k;
        balance =
            let s = sum_by-set (λ w. cond (is_pending w) 1 0) vs n y unused within in
            let p : is_pending y ≡ is_pending (get_or vs n unused) = pending_waits y _ refl ∙ ap is_some here ∙ sym (pending_waits (get_or vs n unused) _ refl) in
            let q : ◌≡◌ {A = ℕ} (cond (is_pending y) 1 0) (cond (is_pending (get_or vs n unused)) 1 0) = ap (λ b. cond b 1 0) p in
            let e = b.balance in
            subst (λ t. t.let_out ≡ t.accepted + t.rejected + t.returned + t.overtaken + t.given_up + count_by is_pending (set vs n y)) (sym unmoved) (omega arith);
      }

-- the tally, one answer more
module _ (h : List Moment) (t : Tally) (k : Tallied h t) (c : Said) (w : List (List ℕ)) (adds : (n was : ℕ) → more c n was ≡ was + n) where
  pub tallied_out : (pti : ℕ) → Tallied (record { call = c; answer = LetOut pti; waiting = w } ∷ h) (one_more t)
  tallied_out pti = record {
    out_is = let a = adds 1 (let_out_of h) in let e = k.out_is in omega arith;
    accepted_is = let a = adds 0 (accepted h) in let e = k.accepted_is in omega arith;
    rejected_is = let a = adds 0 (rejected h) in let e = k.rejected_is in omega arith;
    returned_is = let a = adds 0 (returned h) in let e = k.returned_is in omega arith;
    overtaken_is = let a = adds 0 (overtaken h) in let e = k.overtaken_is in omega arith;
    given_up_is = let a = adds 0 (given_up_of h) in let e = k.given_up_is in omega arith;
  }

  -- an answer that tells of no request
  pub tallied_none : (a : Answer) → (told_by a).out ≡ false → ((f : Ended → ℕ) → f Nothing ≡ 0 → by_message f (told_by a).message ≡ 0) → (told_by a).given_up_of ≡ 0 → Tallied (record { call = c; answer = a; waiting = w } ∷ h) t
  tallied_none a out message read = record {
    out_is = let n : ◌≡◌ {A = ℕ} (cond (told_by a).out 1 0) 0 = ap (λ b. cond b 1 0) out in let a = adds (cond (told_by a).out 1 0) (let_out_of h) in let e = k.out_is in omega arith;
    accepted_is = let n = message (by_end 1 0 0 0) refl in let a = adds (by_message (by_end 1 0 0 0) (told_by a).message) (accepted h) in let e = k.accepted_is in omega arith;
    rejected_is = let n = message (by_end 0 1 0 0) refl in let a = adds (by_message (by_end 0 1 0 0) (told_by a).message) (rejected h) in let e = k.rejected_is in omega arith;
    returned_is = let n = message (by_end 0 0 1 0) refl in let a = adds (by_message (by_end 0 0 1 0) (told_by a).message) (returned h) in let e = k.returned_is in omega arith;
    overtaken_is = let n = message (by_end 0 0 0 1) refl in let a = adds (by_message (by_end 0 0 0 1) (told_by a).message) (overtaken h) in let e = k.overtaken_is in omega arith;
    given_up_is = let a = adds (told_by a).given_up_of (given_up_of h) in let e = k.given_up_is in omega arith;
  }

  pub tallied_read : (e : Expired) → Tallied (record { call = c; answer = Read e; waiting = w } ∷ h) (reading.tally_given_up e.given_up t)
  tallied_read e = record {
    out_is = let a = adds 0 (let_out_of h) in let e = k.out_is in omega arith;
    accepted_is = let a = adds 0 (accepted h) in let e = k.accepted_is in omega arith;
    rejected_is = let a = adds 0 (rejected h) in let e = k.rejected_is in omega arith;
    returned_is = let a = adds 0 (returned h) in let e = k.returned_is in omega arith;
    overtaken_is = let a = adds 0 (overtaken h) in let e = k.overtaken_is in omega arith;
    given_up_is = let a = adds e.given_up (given_up_of h) in let e = k.given_up_is in omega arith;
  }

  -- a message: what it ended is counted
  tallied_ended : (x : Ended) (t' : Tally) (a : Taking) → a.ended ≡ x
      → t'.let_out ≡ t.let_out → t'.accepted ≡ t.accepted + (by_end 1 0 0 0) x → t'.rejected ≡ t.rejected + (by_end 0 1 0 0) x → t'.returned ≡ t.returned + (by_end 0 0 1 0) x
      → t'.overtaken ≡ t.overtaken + (by_end 0 0 0 1) x → t'.given_up ≡ t.given_up → Tallied (record { call = c; answer = TakenIn a; waiting = w } ∷ h) t'
  tallied_ended x t' a e o p r q v g = record {
    out_is = let a = adds 0 (let_out_of h) in let e = k.out_is in omega arith;
    accepted_is = let n = ap (by_end 1 0 0 0) e in let s = adds ((by_end 1 0 0 0) a.ended) (accepted h) in let e = k.accepted_is in omega arith;
    rejected_is = let n = ap (by_end 0 1 0 0) e in let s = adds ((by_end 0 1 0 0) a.ended) (rejected h) in let e = k.rejected_is in omega arith;
    returned_is = let n = ap (by_end 0 0 1 0) e in let s = adds ((by_end 0 0 1 0) a.ended) (returned h) in let e = k.returned_is in omega arith;
    overtaken_is = let n = ap (by_end 0 0 0 1) e in let s = adds ((by_end 0 0 0 1) a.ended) (overtaken h) in let e = k.overtaken_is in omega arith;
    given_up_is = let a = adds 0 (given_up_of h) in let e = k.given_up_is in omega arith;
  }

  pub tallied_taken : (x : Ended) (a : Taking) → a.ended ≡ x → Tallied (record { call = c; answer = TakenIn a; waiting = w } ∷ h) (tally_with x t)
  tallied_taken Accepted a e = tallied_ended Accepted _ a e refl refl (omega arith) (omega arith) (omega arith) refl
  tallied_taken Rejected a e = tallied_ended Rejected _ a e refl (omega arith) refl (omega arith) (omega arith) refl
  tallied_taken Returned a e = tallied_ended Returned _ a e refl (omega arith) (omega arith) refl (omega arith) refl
  tallied_taken Overtaken a e = tallied_ended Overtaken _ a e refl (omega arith) (omega arith) (omega arith) refl refl
  tallied_taken Nothing a e = tallied_ended Nothing _ a e refl (omega arith) (omega arith) (omega arith) (omega arith) refl

-- how much a message ended
ends_count : (x : Ended) (t : Tally) → (tally_with x t).accepted + (tally_with x t).rejected + (tally_with x t).returned + (tally_with x t).overtaken + (tally_with x t).given_up
    ≡ t.accepted + t.rejected + t.returned + t.overtaken + t.given_up + cond (ends x) 1 0
ends_count Accepted t = omega arith
ends_count Rejected t = omega arith
ends_count Returned t = omega arith
ends_count Overtaken t = omega arith
ends_count Nothing t = omega arith

ends_out : (x : Ended) (t : Tally) → (tally_with x t).let_out ≡ t.let_out
ends_out Accepted t = refl
ends_out Rejected t = refl
ends_out Returned t = refl
ends_out Overtaken t = refl
ends_out Nothing t = refl

-- a request leaves on a session of which none waits
pub booked_out : (h : List Moment) (vs : List SessionView) (t : Tally) (last : ℕ) → Booked h vs t last → (m : Moment) → (now (m ∷ h)).on ≡ (now h).on → (now (m ∷ h)).reading ≡ (now h).reading
    → (j : ℕ) (v : SessionView) (f : Found vs j v) → ((i : ℕ) → of i (m ∷ h) ≡ cond (eqb j i) (sent ∷ []) [] ++ of i h)
    → (y : SessionView) → waits v.state ≡ None → waits y.state ≡ Some (record { left = 16; expiries = 0 })
    → Tallied (m ∷ h) (one_more t) → Booked (m ∷ h) (set vs f.place y) (one_more t) last
booked_out h vs t last b m lit still j v f same y none some k =
    one_event h vs t last b m lit still sent f.place y (one_more t) f.within
    (subst (λ j. (i : ℕ) → of i (m ∷ h) ≡ cond (eqb j i) (sent ∷ []) [] ++ of i h) f.identity_is same) some k
    (let p = pending_waits (get_or vs f.place unused) v.state (ap (λ v. v.state) f.there) ∙ ap is_some none in
    let q = pending_waits y _ refl ∙ ap is_some some in
    let a : ◌≡◌ {A = ℕ} (cond (is_pending (get_or vs f.place unused)) 1 0) 0 = ap (λ b. cond b 1 0) p in
    let c : ◌≡◌ {A = ℕ} (cond (is_pending y) 1 0) 1 = ap (λ b. cond b 1 0) q in
    omega arith)

-- a message ends a request, or none
nothing_ended : (x : Ended) (t : Tally) → ends x ≡ false → tally_with x t ≡ t
nothing_ended Accepted t e = absurd (let z : ◌≡◌ {A = ℕ} 0 1 = cc in omega arith)
nothing_ended Rejected t e = absurd (let z : ◌≡◌ {A = ℕ} 0 1 = cc in omega arith)
nothing_ended Returned t e = absurd (let z : ◌≡◌ {A = ℕ} 0 1 = cc in omega arith)
nothing_ended Overtaken t e = absurd (let z : ◌≡◌ {A = ℕ} 0 1 = cc in omega arith)
nothing_ended Nothing t e = refl

pub booked_taken : (h : List Moment) (vs : List SessionView) (t : Tally) (last : ℕ) → Booked h vs t last → (octets : List ℕ) (w : List (List ℕ)) (r : Received) (a : Taking) (v : SessionView)
    → (f : Found vs r.identity v) → a.identity ≡ r.identity → a.ended ≡ (outcome_of v r).ended
    → Booked (record { call = take_in octets; answer = TakenIn a; waiting = w } ∷ h) (set vs f.place (taken_in v r)) (tally_with a.ended t) last
booked_taken h vs t last b octets w r a v f who what = at (ends a.ended) refl
  where
    told : Tallied (record { call = take_in octets; answer = TakenIn a; waiting = w } ∷ h) (tally_with a.ended t)
    told = tallied_taken h t b.tallied (take_in octets) w (λ n was. refl) a.ended a refl

    after : waits (taken_in v r).state ≡ cond (ends a.ended) None (waits v.state)
    after = message_waits v.state r ∙ ap (λ x. cond (ends x) None (waits v.state)) (sym what)

    at : (x : Bool) → ends a.ended ≡ x → Booked (record { call = take_in octets; answer = TakenIn a; waiting = w } ∷ h) (set vs f.place (taken_in v r)) (tally_with a.ended t) last
    at true e =
        let none : waits (taken_in v r).state ≡ None = after ∙ ap (λ b. cond b None (waits v.state)) e in
        let was = message_pended v.state r (ap ends (sym what) ∙ e) in
        let p : is_pending (get_or vs f.place unused) ≡ true = pending_waits (get_or vs f.place unused) v.state (ap (λ v. v.state) f.there) ∙ was in
        let q : is_pending (taken_in v r) ≡ false = pending_waits (taken_in v r) _ refl ∙ ap is_some none in
        let pn : ◌≡◌ {A = ℕ} (cond (is_pending (get_or vs f.place unused)) 1 0) 1 = ap (λ b. cond b 1 0) p in
        let qn : ◌≡◌ {A = ℕ} (cond (is_pending (taken_in v r)) 1 0) 0 = ap (λ b. cond b 1 0) q in
        let en : ◌≡◌ {A = ℕ} (cond (ends a.ended) 1 0) 1 = ap (λ b. cond b 1 0) e in
        let sums = ends_count a.ended t in
        let out = ends_out a.ended t in
        one_event h vs t last b _ refl refl ended f.place (taken_in v r) (tally_with a.ended t) f.within
        (λ i. ap (λ x. cond x (cond (eqb a.identity i) (ended ∷ []) []) [] ++ of i h) e ∙ ap (λ j. cond (eqb j i) (ended ∷ []) [] ++ of i h) (who ∙ f.identity_is))
        none told (omega arith)
    at false e =
        quiet_event h vs t last b _ refl refl f.place (taken_in v r) (tally_with a.ended t) f.within
        (λ i. ap (λ x. cond x (cond (eqb a.identity i) (ended ∷ []) []) [] ++ of i h) e)
        (after ∙ ap (λ b. cond b None (waits v.state)) e ∙ ap (λ v. waits v.state) (sym f.there)) told (nothing_ended a.ended t e)

-- a reading
pub booked_read : (h : List Moment) (vs : List SessionView) (t : Tally) (last : ℕ) → Booked h vs t last → (r : ℕ) (w : List (List ℕ)) (e : Expired) → e.given_up ≡ reading.given_up_of (r - last) vs
    → Booked (record { call = time_reading r; answer = Read e; waiting = w } ∷ h) (map (counted_session (r - last)) vs) (reading.tally_given_up (reading.given_up_of (r - last) vs) t) r
booked_read h vs t last b r w e told =
    let n = r - last in
    let all = given_all n vs in record {
      lit = b.lit;
      reading_is = refl;
      full = length-map vs (counted_session n) ∙ b.full;
      each = λ k l.
          let within : k < length vs = let f = b.full in omega arith in
          ap (λ v. waits v.state) (get_or-map (counted_session n) vs k unused unused within) ∙ waits_later n (get_or vs k unused).state
          ∙ ap (later n) (b.each k l) ∙ ap (λ x. later (r - x) (pending (of (k + 1) h))) b.reading_is;
      tallied = subst (λ g. Tallied (record { call = time_reading r; answer = Read e; waiting = w } ∷ h) (reading.tally_given_up g t)) told (tallied_read h t b.tallied (time_reading r) w (λ n was. refl) e);
      balance = let x = b.balance in omega arith;
    }

-- switched on: no request is pending, and the tally is zero
none_pending : count_by is_pending (replicate 15 unused) ≡ 0
none_pending = refl

pub booked_fresh : (h : List Moment) (card network : List ℕ) (r : ℕ) (off : Option ℕ) (a : Answer) (w : List (List ℕ))
    → Booked (record { call = switch_on card network r off; answer = a; waiting = w } ∷ h) (replicate 15 unused) no_tally r
booked_fresh h card network r off a w = record {
  lit = refl;
  reading_is = refl;
  full = refl;
  each = λ k l. ap (λ v. waits v.state) (get_or-replicate 15 k unused unused l);
  tallied = record { out_is = refl; accepted_is = refl; rejected_is = refl; returned_is = refl; overtaken_is = refl; given_up_is = refl };
  balance = refl;
}
