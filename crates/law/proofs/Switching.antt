-- Time, another network, the network's take, and switching off and on lead on and keep the law.
use Rattle.std.proofs.Common.{◌≡◌, ℕ, ◌-◌, ◌≤◌, true, false, cond, List, [], ◌∷◌, ◌++◌, length, take, drop, replicate, Some, None, Option, sym, refl, ap, ◌∙◌, subst, ⊎_elim, arith}
use Rattle.std.specs.Str.{bytes_eq}
use Rattle.std.proofs.lemmas.List.{length-append, length-take, length-drop, get_or-replicate}
use Rattle.std.proofs.lemmas.Bool.{cond_both, cases_Bool}
use Rattle.backoff.specs.declared.timer.BackOffTimer.TheVariants as timer
use Rattle.bars.specs.Bars.{timer_on, deactivated_lifted}
use Rattle.kept_set.specs.Loading.{kept_timers, or_none, known_seconds, restored}
use Rattle.keys.specs.Octets.{KeyOctets}
use Rattle.requests.specs.State.{StateView}
use Rattle.session.specs.declared.timers.TimerKind.{TimerKind}
use Rattle.session.specs.Session.{unused}
use Rattle.session.specs.State.{inactive}
use Rattle.session.specs.Session.{session_parts}
use Rattle.timers.specs.Timers.{TimersView}
use Rattle.uplink.specs.Sizes.{capacity}
use Rattle.uplink.specs.Waiting.{takeable, after_take}
use Rattle.rules.specs.declared.answer.Answer.TheVariants.{SwitchedOn, SwitchedOff, Read, NetworkChanged, Taken}
use Rattle.rules.specs.Calls.{switch_on, switch_off, time_reading, change_network, network_take, on_step, off_step, place_of as room_of, taken_message}
use Rattle.rules.specs.Reading as reading
use Rattle.law.specs.Moments.{Moment, waiting_after}
use Rattle.law.specs.Requests.{now}
use Rattle.law.specs.Timers.{strokes}
use Rattle.law.specs.Timers as law
use Rattle.law.specs.Law.{Told}
use Rattle.law.proofs.Sessions.{pending_counted}
use Rattle.law.proofs.Ends.{ends_in_time}
use Rattle.law.proofs.Books.{Booked, balanced, waiting_is, booked_fresh, no_event, booked_read, tallied_none}
use Rattle.law.proofs.Strokes.{left_of, left_later, left_reactivated}
use Rattle.law.proofs.Tables.{table, Sound, sound_counted, timer_counted, counted_table, timer_reactivated, free_sound, free_timer}
use Rattle.law.proofs.Claims.{claimed_none}
use Rattle.law.proofs.Bars.{timed_read, timed_network}
use Rattle.law.proofs.Restoring.{same_card, other_card, same_size}
use Rattle.law.proofs.Lived.{barring_from, sending_from, Lived, Leads, leads, full, nothing_done, not_off}
use Rattle.std.proofs.lemmas.Slice.Eq.{bytes_eq-Decides}
use Rattle.backoff.specs.Timer as counting
use Rattle.rules.specs.Power.{restored_count, records_after_off, closed_tally}

module _ (before : List (List ℕ)) (h : List Moment) (s : StateView) (q rs : List (List ℕ)) (d : Lived before h (record { state = Some s; waiting = q; records = rs })) where
  repeated_few : (ms : List (List ℕ)) → length (q ++ take (capacity - length q) ms) ≤ capacity
  repeated_few ms = let f = d.few in simp (length-append, length-take) (omega arith)

  pub reading_leads : (r : ℕ) → Leads before h (time_reading r) (on_step (time_reading r) s (record { state = Some s; waiting = q; records = rs }))
  reading_leads r =
      let a = reading.reading_answer r s q in
      let q' = reading.waiting_after_reading r s q in
      leads before h s q rs d (time_reading r) (Read a) (reading.after_reading r s) q' refl refl
      (booked_read h s.sessions s.tally s.reading d.power.books r q' a refl)
      (timed_read h s.sessions s.timers s.card s.network d.power.bars (full before h s q rs d) r s.reading (Read a) q' d.power.books.reading_is)
      (repeated_few (reading.repeated_messages (reading.excess r s) 1 s.sessions)) tt tt

  pub network_leads : (network : List ℕ) → length network ≡ 3 → Leads before h (change_network network) (on_step (change_network network) s (record { state = Some s; waiting = q; records = rs }))
  network_leads network long =
      let m : Moment = record { call = change_network network; answer = NetworkChanged; waiting = q } in
      leads before h s q rs d (change_network network) NetworkChanged (Rattle.requests.specs.State.network_changed network s) q refl refl
      (no_event h s.sessions s.tally s.reading d.power.books m refl refl (λ i. refl) (tallied_none h s.tally d.power.books.tallied (change_network network) q (λ n was. refl) NetworkChanged refl (λ f e. refl) refl))
      (timed_network h s.sessions s.timers s.card s.network d.power.bars (full before h s q rs d) network NetworkChanged q long)
      d.few tt tt

  taken_few : (place : List ℕ) → length (after_take q place) ≤ capacity
  taken_few place = cond_both (takeable q place) (drop 1 q) q (λ w. length w ≤ capacity) (λ _. let f = d.few in simp length-drop (omega arith)) (λ _. d.few)

  pub take_leads : (n : ℕ) → Leads before h (network_take n) (on_step (network_take n) s (record { state = Some s; waiting = q; records = rs }))
  take_leads n =
      nothing_done before h s q rs d (network_take n) (Taken (taken_message q n)) refl (λ f e. refl) refl (λ n. refl) (λ i last. refl) (λ i. refl) (λ kind k. refl) (λ n was. refl)
      (after_take q (room_of n)) refl refl (taken_few (room_of n)) tt tt

  -- switch off
  told_tally : Told (closed_tally s) h
  told_tally =
      let k = d.power.books.tallied in
      record {
        let_out_is = k.out_is;
        accepted_is = k.accepted_is;
        rejected_is = k.rejected_is;
        returned_is = k.returned_is;
        overtaken_is = k.overtaken_is;
        given_up_is = k.given_up_is;
        cut_off_is = pending_counted s.sessions ∙ sym (waiting_is d.power.books);
      }

  abbrev off : Moment
  off = record { call = switch_off; answer = SwitchedOff (closed_tally s); waiting = q }

  -- what the list leaves after the switch off
  leaves : (kind : TimerKind) (k : KeyOctets) → timer_on (deactivated_lifted (table kind s.timers)) k ≡ left_of (strokes kind k (off ∷ h))
  leaves kind k =
      timer_reactivated (table kind s.timers) (d.power.bars.sound kind).single k
      ∙ ap Rattle.bars.specs.Bars.reactivated (d.power.bars.timers_are kind k)
      ∙ sym (left_reactivated (law.imposed (strokes kind k h)) (law.counted (strokes kind k h)))

  abbrev Restored : List ℕ → Option TimersView → Type 0
  Restored card o = ((kind : TimerKind) → Sound kind (table kind (or_none o)))
      × ((kind : TimerKind) (k : KeyOctets) → timer_on (table kind (or_none o)) k ≡ cond (bytes_eq card (now h).card) (left_of (strokes kind k (off ∷ h))) timer.Stopped)

  restored_off : (card : List ℕ) → Restored card (kept_timers card (records_after_off s rs))
  restored_off card = ⊎_elim
      (λ (same : bytes_eq card s.card ≡ true).
      let r = same_card s.card s.timers rs d.power.bars.card_long d.many d.power.bars.sound in
      let e : card ≡ s.card = (bytes_eq-Decides card s.card).0 same in
      let gives : kept_timers card (records_after_off s rs) ≡ Some r.0 = ap (λ c. kept_timers c (records_after_off s rs)) e ∙ r.1 in
      let test : bytes_eq card (now h).card ≡ true = ap (bytes_eq card) (sym d.power.bars.card_is) ∙ same in
      subst (Restored card) (sym gives) (r.2, λ kind k. r.3 kind k ∙ leaves kind k ∙ ap (λ b. cond b (left_of (strokes kind k (off ∷ h))) timer.Stopped) (sym test)))
      (λ (other : bytes_eq card s.card ≡ false).
      let gives = other_card s.card s.timers rs d.power.bars.card_long d.many d.power.bars.sound card other in
      let test : bytes_eq card (now h).card ≡ false = ap (bytes_eq card) (sym d.power.bars.card_is) ∙ other in
      subst (Restored card) (sym gives) (free_sound, λ kind k. free_timer kind k ∙ ap (λ b. cond b (left_of (strokes kind k (off ∷ h))) timer.Stopped) (sym test)))
      (cases_Bool (bytes_eq card s.card))

  pub off_leads : Leads before h switch_off (on_step switch_off s (record { state = Some s; waiting = q; records = rs }))
  off_leads =
      let size = same_size s.card s.timers rs d.power.bars.card_long d.many d.power.bars.sound in record {
        there = refl;
        lives = record {
          waiting_is = refl;
          few = d.few;
          many = size;
          power = record { unlit = refl; sound = λ card _. (restored_off card).0; restores = λ card _. (restored_off card).1 };
        };
        law = record {
          barring = barring_from switch_off (SwitchedOff (closed_tally s)) h tt;
          sending = sending_from switch_off (SwitchedOff (closed_tally s)) (waiting_after before h) q tt;
          balanced = λ e. absurd (let z : ◌≡◌ {A = ℕ} 0 1 = cc in omega arith);
          told = λ t e. let same : closed_tally s ≡ t = cc in subst (λ t. Told t h) same told_tally;
          ending = ends_in_time (off ∷ h);
        };
      }

-- switched off
module _ (before : List (List ℕ)) (h : List Moment) (q rs : List (List ℕ)) (d : Lived before h (record { state = None; waiting = q; records = rs })) where
  pub on_leads : (card network : List ℕ) (r : ℕ) (off : Option ℕ) → length card ≡ 8 → length network ≡ 3 → Leads before h (switch_on card network r off) (off_step (switch_on card network r off) (record { state = None; waiting = q; records = rs }))
  on_leads card network r off card_long network_long =
      let a = SwitchedOn (restored_count card off rs) in
      let m : Moment = record { call = switch_on card network r off; answer = SwitchedOn (restored_count card off rs); waiting = q } in
      let n = known_seconds off in
      let t = or_none (kept_timers card rs) in
      let sound = d.power.sound card card_long in
      let book : Booked (m ∷ h) (replicate 15 unused) Rattle.requests.specs.State.no_tally r = booked_fresh h card network r off a q in
      let sound' : (kind : TimerKind) → Sound kind (table kind (restored card off rs)) = λ kind. subst (Sound kind) (sym (counted_table kind n t)) (sound_counted kind n (table kind t) (sound kind)) in
      record {
        there = refl;
        lives = record {
          waiting_is = refl;
          few = d.few;
          many = d.many;
          power = record {
            books = book;
            bars = record {
              network_is = refl;
              network_long = network_long;
              card_is = refl;
              card_long = card_long;
              asked_is = λ k l e. absurd (let x = sym (ap (λ v. Rattle.session.specs.State.inactive v.state) (get_or-replicate 15 k unused unused l)) ∙ e in let z : ◌≡◌ {A = ℕ} 0 1 = cc in omega arith);
              parts_held = λ k l. ap (λ v. Rattle.law.proofs.Bars.held (session_parts v)) (get_or-replicate 15 k unused unused l);
              timers_are = λ kind k.
                  ap (λ bs. timer_on bs k) (counted_table kind n t) ∙ timer_counted kind n (table kind t) (sound kind) k
                  ∙ ap (counting.counted n) (d.power.restores card card_long kind k)
                  ∙ ap (counting.counted n) (cond_both (bytes_eq card (now h).card) [] (law.set Rattle.backoff.specs.declared.octet.TimerValue.TheVariants.Zero ∷ [])
                  (λ es. cond (bytes_eq card (now h).card) (left_of (strokes kind k h)) timer.Stopped ≡ left_of (es ++ strokes kind k h))
                  (λ e. ap (λ b. cond b (left_of (strokes kind k h)) timer.Stopped) e) (λ e. ap (λ b. cond b (left_of (strokes kind k h)) timer.Stopped) e))
                  ∙ sym (left_later (law.imposed (cond (bytes_eq card (now h).card) [] (law.set Rattle.backoff.specs.declared.octet.TimerValue.TheVariants.Zero ∷ []) ++ strokes kind k h))
                  (law.counted (cond (bytes_eq card (now h).card) [] (law.set Rattle.backoff.specs.declared.octet.TimerValue.TheVariants.Zero ∷ []) ++ strokes kind k h)) n);
              sound = sound';
              room = λ kind. claimed_none (table kind (restored card off rs)) (sound' kind).single (sound' kind).full;
            };
          };
        };
        law = record {
          barring = barring_from (switch_on card network r off) a h tt;
          sending = sending_from (switch_on card network r off) a (waiting_after before h) q tt;
          balanced = λ _. balanced book;
          told = λ t e. absurd (not_off a t refl e);
          ending = ends_in_time (m ∷ h);
        };
      }

  dark_few : (place : List ℕ) → length (after_take q place) ≤ capacity
  dark_few place = cond_both (takeable q place) (drop 1 q) q (λ w. length w ≤ capacity) (λ _. let f = d.few in simp length-drop (omega arith)) (λ _. d.few)

  pub dark_take_leads : (n : ℕ) → Leads before h (network_take n) (off_step (network_take n) (record { state = None; waiting = q; records = rs }))
  dark_take_leads n =
      let m : Moment = record { call = network_take n; answer = Taken (taken_message q n); waiting = after_take q (room_of n) } in
      record {
        there = refl;
        lives = record {
          waiting_is = refl;
          few = dark_few (room_of n);
          many = d.many;
          power = record { unlit = d.power.unlit; sound = d.power.sound; restores = d.power.restores };
        };
        law = record {
          barring = barring_from (network_take n) (Taken (taken_message q n)) h tt;
          sending = sending_from (network_take n) (Taken (taken_message q n)) (waiting_after before h) (after_take q (room_of n)) tt;
          balanced = λ e. absurd (let x = sym d.power.unlit ∙ e in let z : ◌≡◌ {A = ℕ} 0 1 = cc in omega arith);
          told = λ t e. absurd (not_off (Taken (taken_message q n)) t refl e);
          ending = ends_in_time (m ∷ h);
        };
      }
