-- Taking in a message leads on and keeps the law.
use Rattle.std.proofs.Common.{◌≡◌, ℕ, ◌<◌, ◌≤◌, Bool, true, false, cond, not, ◌&&◌, List, [], ◌∷◌, ◌++◌, length, get_or, set, is_some, Some, None, Ok, Err, Option, Result, sym, refl, ap, ◌∙◌, subst, arith}
use Rattle.std.specs.Option.{option_map}
use Rattle.std.proofs.lemmas.List.{length-append, length-set}
use Rattle.std.proofs.lemmas.Bool.{cond_both}
use Rattle.std.proofs.lemmas.Bool.Decides.{nat_tests}
use Rattle.dl_nas.specs.declared.message.MessageFault.{MessageFault}
use Rattle.dl_nas.specs.declared.message.Received.{Received}
use Rattle.dl_nas.specs.Message.{received}
use Rattle.keys.specs.Octets.{KeyOctets, same_key}
use Rattle.requests.specs.State.{StateView}
use Rattle.session.specs.declared.outcome.Reply.{Reply}
use Rattle.session.specs.declared.timers.TimerKind.{TimerKind}
use Rattle.session.specs.declared.timers.TimerRule.{TimerRule}
use Rattle.session.specs.declared.timers.TimerRule.TheVariants.{NoMark}
use Rattle.session.specs.Session.{SessionView, unused}
use Rattle.session.specs.State.{inactive}
use Rattle.session.specs.Timers.{message_rule}
use Rattle.session.specs.Transitions.{line_of, outcome_of, taken_in}
use Rattle.sessions.specs.Live.{live, live_keys}
use Rattle.sessions.specs.Table.{session_of, place_of, put, changed}
use Rattle.session.specs.Session.{session_parts}
use Rattle.timers.specs.Timers as tables
use Rattle.ul_nas.specs.Message.{emergency}
use Rattle.uplink.specs.Sizes.{capacity}
use Rattle.uplink.specs.Waiting.{room}
use Rattle.rules.specs.declared.answer.Answer.TheVariants.{TakenIn, NotTakenIn}
use Rattle.rules.specs.declared.answer.TakenIn.{TakenIn as Taking}
use Rattle.rules.specs.declared.answer.TakeInRefusal.{TakeInRefusal}
use Rattle.rules.specs.declared.answer.TakeInRefusal.TheVariants as refusal
use Rattle.rules.specs.Calls.{take_in, Step, on_step, taking_told}
use Rattle.rules.specs.TakingIn as taking
use Rattle.law.specs.Moments.{Moment}
use Rattle.law.specs.Requests.{asked}
use Rattle.law.specs.Timers.{strokes}
use Rattle.law.specs.Timers as law
use Rattle.law.proofs.Sessions.{Found, found, message_lives, effect_lives, effect_told}
use Rattle.law.proofs.Books.{Booked, no_event, booked_taken, tallied_none}
use Rattle.law.proofs.Strokes.{rule_lawful}
use Rattle.law.proofs.Tables.{table}
use Rattle.law.proofs.Claims.{data_of, Shrinks}
use Rattle.law.proofs.Bars.{Timed, Goes, key_in, shrinks_self, shrinks_set, shrunk, timed_still, ruled_goes}
use Rattle.law.proofs.Lived.{Lived, Leads, leads, full, nothing_done}

-- 12 was not the question: with a reply due there is room
reply_room : (r : Option Reply) (n : ℕ) → (is_some r && not (room n)) ≡ false → is_some r ≡ true → n < 8
reply_room None n e f = absurd (let z : ◌≡◌ {A = ℕ} 0 1 = cc in omega arith)
reply_room (Some x) n e f = grind (arith, nat_tests)

module _ (before : List (List ℕ)) (h : List Moment) (s : StateView) (q rs : List (List ℕ)) (d : Lived before h (record { state = Some s; waiting = q; records = rs })) (octets : List ℕ) where
  refused : (e : TakeInRefusal) → Leads before h (take_in octets) (record { answer = NotTakenIn e; after = record { state = Some s; waiting = q; records = rs } })
  refused e =
      nothing_done before h s q rs d (take_in octets) (NotTakenIn e) refl (λ f e. refl) refl (λ n. refl) (λ i last. refl) (λ i. refl) (λ kind k. refl) (λ n was. refl) q refl refl d.few tt tt

  module _ (m : Received) (reads : received octets ≡ Ok m) where
    abbrev taken_step : Result Taking TakeInRefusal → Step
    taken_step r = record { answer = taking_told r; after = record { state = Some (taking.after_taken r (Ok m) s); waiting = taking.waiting_after_taken r (Ok m) q; records = rs } }

    unmoved : (vs : List SessionView) (o : Option ℕ) (f : SessionView → SessionView) → put vs o (option_map f None) ≡ vs
    unmoved vs None f = refl
    unmoved vs (Some n) f = refl

    -- no session has the identity
    passed_over : session_of m.identity s.sessions ≡ None → Leads before h (take_in octets) (taken_step (Ok (taking.passed_over m.identity)))
    passed_over none =
        let a = taking.passed_over m.identity in
        let mo : Moment = record { call = take_in octets; answer = TakenIn (taking.passed_over m.identity); waiting = q } in
        let vs-same : changed m.identity (λ v. taken_in v m) s.sessions ≡ s.sessions =
        ap (λ o. put s.sessions (place_of m.identity) (option_map (λ v. taken_in v m) o)) none ∙ unmoved s.sessions (place_of m.identity) (λ v. taken_in v m) in
        let t_same : taking.ruled_on NoMark (session_of m.identity s.sessions) s.timers ≡ s.timers =
        ap (λ o. taking.ruled_on NoMark o s.timers) none in
        leads before h s q rs d (take_in octets) (TakenIn a) (taking.with_message m a s) q refl refl
        (subst (λ vs. Booked (mo ∷ h) vs s.tally s.reading) (sym vs-same)
        (no_event h s.sessions s.tally s.reading d.power.books mo refl refl (λ i. refl)
        (tallied_none h s.tally d.power.books.tallied (take_in octets) q (λ n was. refl) (TakenIn a) refl (λ f e. e) refl)))
        (subst (λ vs. Timed (mo ∷ h) vs (taking.with_message m a s).timers s.card s.network) (sym vs-same)
        (subst (λ t. Timed (mo ∷ h) s.sessions t s.card s.network) (sym t_same)
        (timed_still h s.sessions s.timers s.card s.network d.power.bars (full before h s q rs d) mo refl refl (λ i. refl) (λ kind k. refl) s.sessions (full before h s q rs d)
        (λ n _. shrinks_self (get_or s.sessions n unused)))))
        d.few tt tt

    -- the session of the identity
    module _ (v : SessionView) (f : Found s.sessions m.identity v) (w : List (List ℕ)) where
      abbrev answered : Taking
      answered = taking.did m v (outcome_of v m)

      abbrev moment : Moment
      moment = record { call = take_in octets; answer = TakenIn (taking.did m v (outcome_of v m)); waiting = w }

      abbrev says : TimerRule
      says = message_rule m.content m.mm_cause m.outer_timer

      shrinking : (i : ℕ) → i < 15 → Shrinks (get_or s.sessions i unused) (get_or (set s.sessions f.place (taken_in v m)) i unused)
      shrinking = shrinks_set s.sessions f.place v (taken_in v m) (full before h s q rs d) f.within f.there (record { same_data = refl; lives = message_lives v.state m })

      longer : length (set s.sessions f.place (taken_in v m)) ≡ 15
      longer = length-set s.sessions f.place (taken_in v m) ∙ full before h s q rs d

      its_data : inactive v.state ≡ false → asked m.identity h ≡ Some (data_of v)
      its_data e =
          ap (λ j. asked j h) f.identity_is ∙ d.power.bars.asked_is f.place f.within (ap (λ v. inactive v.state) f.there ∙ e) ∙ ap (λ v. Some (data_of v)) f.there

      marks : (b : Bool) → (outcome_of v m).took_effect ≡ b → (kind : TimerKind) (k : KeyOctets)
          → strokes kind k (moment ∷ h) ≡ cond b (law.ruled_on kind k (law.ruling (received octets)) (asked m.identity h)) [] ++ strokes kind k h
      marks b e kind k = ap (λ b. cond b (law.ruled_on kind k (law.ruling (received octets)) (asked m.identity h)) [] ++ strokes kind k h) (effect_told (line_of v.state m) ∙ e)

      ruled_at : (x : SessionView) → get_or s.sessions f.place unused ≡ x → live x ≡ true → (kind : TimerKind) (es : KeyOctets → List law.Stroke)
          → ((k : KeyOctets) → es k ≡ cond (same_key (key_in kind x) k) (law.ruled kind says) [] ++ strokes kind k h)
          → Goes kind (table kind s.timers) (table kind (tables.ruled says (session_parts x) s.timers)) (live_keys (key_in kind) s.sessions) es
      ruled_at x e =
          subst (λ x. live x ≡ true → (kind : TimerKind) (es : KeyOctets → List law.Stroke) → ((k : KeyOctets) → es k ≡ cond (same_key (key_in kind x) k) (law.ruled kind says) [] ++ strokes kind k h)
          → Goes kind (table kind s.timers) (table kind (tables.ruled says (session_parts x) s.timers)) (live_keys (key_in kind) s.sessions) es) e
          (λ lives kind es same. ruled_goes h s.sessions s.timers s.card s.network d.power.bars (full before h s q rs d) f.place f.within lives says (rule_lawful m.content m.mm_cause m.outer_timer) kind es same)

      timed_by : (b c : Bool) → (outcome_of v m).took_effect ≡ b → emergency v.request_type ≡ c
          → Timed (moment ∷ h) (set s.sessions f.place (taken_in v m)) (tables.ruled (cond (b && not c) says NoMark) (session_parts v) s.timers) s.card s.network
      timed_by false c e g =
          timed_still h s.sessions s.timers s.card s.network d.power.bars (full before h s q rs d) moment refl refl (λ i. refl) (marks false e) (set s.sessions f.place (taken_in v m)) longer shrinking
      timed_by true true e g =
          timed_still h s.sessions s.timers s.card s.network d.power.bars (full before h s q rs d) moment refl refl (λ i. refl)
          (λ kind k. marks true e kind k
          ∙ ap (λ o. law.ruled_on kind k (law.ruling (received octets)) o ++ strokes kind k h) (its_data (effect_lives v.state m e))
          ∙ ap (λ c. cond c [] (cond (same_key (key_in kind v) k) (law.ruled kind (law.ruling (received octets))) []) ++ strokes kind k h) g)
          (set s.sessions f.place (taken_in v m)) longer shrinking
      timed_by true false e g =
          let lives = effect_lives v.state m e in
          shrunk h s.sessions s.timers s.card s.network d.power.bars (full before h s q rs d) moment refl refl (λ i. refl) (set s.sessions f.place (taken_in v m)) longer shrinking
          (tables.ruled says (session_parts v) s.timers)
          (λ kind. ruled_at v f.there (alive_true (inactive v.state) (emergency v.request_type) lives g) kind (λ k. strokes kind k (moment ∷ h))
          (λ k. marks true e kind k
          ∙ ap (λ o. law.ruled_on kind k (law.ruling (received octets)) o ++ strokes kind k h) (its_data lives)
          ∙ ap (λ c. cond c [] (cond (same_key (key_in kind v) k) (law.ruled kind (law.ruling (received octets))) []) ++ strokes kind k h) g
          ∙ ap (λ r. cond (same_key (key_in kind v) k) (law.ruled kind (law.ruling r)) [] ++ strokes kind k h) reads))
        where
          alive_true : (i c : Bool) → i ≡ false → c ≡ false → (not i && not c) ≡ true
          alive_true i c e f = grind (arith, nat_tests)

      taken_leads : session_of m.identity s.sessions ≡ Some v → length w ≤ capacity
          → Leads before h (take_in octets) (record { answer = TakenIn answered; after = record { state = Some (taking.with_message m answered s); waiting = w; records = rs } })
      taken_leads there few =
          leads before h s q rs d (take_in octets) (TakenIn answered) (taking.with_message m answered s) w refl refl
          (subst (λ vs. Booked (moment ∷ h) vs (taking.tally_with answered.ended s.tally) s.reading) (sym (f.change (λ v. taken_in v m)))
          (booked_taken h s.sessions s.tally s.reading d.power.books octets w m answered v f refl refl))
          (subst (λ vs. Timed (moment ∷ h) vs (taking.with_message m answered s).timers s.card s.network) (sym (f.change (λ v. taken_in v m)))
          (subst (λ o. Timed (moment ∷ h) (set s.sessions f.place (taken_in v m)) (taking.ruled_on answered.rule o s.timers) s.card s.network) (sym there)
          (timed_by (outcome_of v m).took_effect (emergency v.request_type) refl refl)))
          few tt tt

    replied_few : (r : Option Reply) → (is_some r ≡ true → length q < 8) → length (taking.replied r m q) ≤ capacity
    replied_few None f = d.few
    replied_few (Some reply) f = let l = f refl in simp length-append (omega arith)

    read_leads : (o : Option SessionView) → session_of m.identity s.sessions ≡ o → Leads before h (take_in octets) (taken_step (taking.taken_on o m (length q)))
    read_leads None e = passed_over e
    read_leads (Some v) e =
        let reply = (outcome_of v m).reply in
        cond_both (is_some reply && not (room (length q))) _ _ (λ r. Leads before h (take_in octets) (taken_step r))
        (λ _. refused refusal.Waiting)
        (λ ok. taken_leads v (found s.sessions m.identity v (full before h s q rs d) e) (taking.replied reply m q) e (replied_few reply (reply_room reply (length q) ok)))

  pub take_in_leads : Leads before h (take_in octets) (on_step (take_in octets) s (record { state = Some s; waiting = q; records = rs }))
  take_in_leads = reading_it (received octets) refl
    where
      reading_it : (r : Result Received MessageFault) → received octets ≡ r
          → Leads before h (take_in octets) (record { answer = taking_told (taking.taken r s (length q)); after = record { state = Some (taking.after_taken (taking.taken r s (length q)) r s); waiting = taking.waiting_after_taken (taking.taken r s (length q)) r q; records = rs } })
      reading_it (Err fault) e = refused (refusal.Message fault)
      reading_it (Ok m) e = read_leads m e (session_of m.identity s.sessions) refl
