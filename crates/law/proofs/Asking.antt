-- The three requests lead on and keep the law.
use Rattle.std.proofs.Common.{◌≡◌, ℕ, ◌<◌, ◌≤◌, true, false, List, [], ◌∷◌, ◌++◌, length, get_or, set, Some, None, Ok, Err, Option, Result, sym, refl, ap, ◌∙◌, subst, inl, inr, arith}
use Rattle.std.specs.Option.{option_map}
use Rattle.std.proofs.lemmas.List.{length-append, length-set}
use Rattle.requests.specs.declared.question.Question.{Question}
use Rattle.requests.specs.declared.question.Question.TheVariants as question
use Rattle.requests.specs.Decisions.{establish_stop, modify_stop, release_stop}
use Rattle.requests.specs.LettingOut.{after_request, one_more, let_out_establishment, let_out_modification, let_out_release}
use Rattle.requests.specs.State.{StateView}
use Rattle.requests.specs.Wanted.{WantedView, wanted_of}
use Rattle.session.specs.declared.state.State.{State}
use Rattle.session.specs.declared.state.State.TheVariants.{Inactive, ActivePending, Active, ModificationPending, InactivePending}
use Rattle.session.specs.Messages.{present}
use Rattle.session.specs.Session.{SessionView, unused, established, modified, released}
use Rattle.session.specs.State.{inactive, active}
use Rattle.ul_nas.specs.Message.{message, establishment_request, modification_request, release_request, request_type_of}
use Rattle.ul_nas.specs.Format.{encoding}
use Rattle.uplink.specs.Sizes.{capacity}
use Rattle.rules.specs.declared.answer.Answer.TheVariants.{LetOut, Stopped}
use Rattle.rules.specs.Calls.{establish, modify, release, Step, on_step, request_step}
use Rattle.rules.specs.Requests as rules
use Rattle.rules.specs.Requests.{next_pti, unless_stopped, establish_asked, establish_leaves, establish_sends, asked_message}
use Rattle.law.specs.Moments.{Moment}
use Rattle.law.specs.Law.{early}
use Rattle.law.proofs.Sessions.{waits, Found, found}
use Rattle.law.proofs.Books.{Booked, booked_out, tallied_out}
use Rattle.law.proofs.Requests.{Given, given, establish_full, modify_full, release_full, FreeEstablish, free_establish, FreeOther, free_modify, free_release}
use Rattle.law.proofs.Claims.{data_of, Shrinks}
use Rattle.law.proofs.Bars.{Timed, shrinks_set, timed_still, timed_established}
use Rattle.law.proofs.Barring.{told, barring_refused, barring_asked, barring_modify, room_for}
use Rattle.law.proofs.Lived.{BarringOf, Lived, Leads, leads, full, nothing_done}

module _ (before : List (List ℕ)) (h : List Moment) (s : StateView) (q rs : List (List ℕ)) (d : Lived before h (record { state = Some s; waiting = q; records = rs })) where
  stopped_establish : (j type : ℕ) (slice name : Option (List ℕ)) (qn : Question) → BarringOf (establish j type slice name) (Stopped qn) h → (qn ≡ question.Waiting → 8 ≤ length q)
      → Leads before h (establish j type slice name) (record { answer = Stopped qn; after = record { state = Some s; waiting = q; records = rs } })
  stopped_establish j type slice name qn barring full =
      nothing_done before h s q rs d (establish j type slice name) (Stopped qn) refl (λ f e. refl) refl (λ n. refl) (λ i last. refl) (λ i. refl) (λ kind k. refl) (λ n was. refl) q refl refl d.few barring
      (inr (record { stop = qn; answer_is = refl; unmoved = refl; full = λ e. let l = full e in let f = d.few in omega arith }))

  stopped_modify : (j : ℕ) (qn : Question) → BarringOf (modify j) (Stopped qn) h → (qn ≡ question.Waiting → 8 ≤ length q)
      → Leads before h (modify j) (record { answer = Stopped qn; after = record { state = Some s; waiting = q; records = rs } })
  stopped_modify j qn barring full =
      nothing_done before h s q rs d (modify j) (Stopped qn) refl (λ f e. refl) refl (λ n. refl) (λ i last. refl) (λ i. refl) (λ kind k. refl) (λ n was. refl) q refl refl d.few barring
      (inr (record { stop = qn; answer_is = refl; unmoved = refl; full = λ e. let l = full e in let f = d.few in omega arith }))

  stopped_release : (j : ℕ) (qn : Question) → (qn ≡ question.Waiting → 8 ≤ length q)
      → Leads before h (release j) (record { answer = Stopped qn; after = record { state = Some s; waiting = q; records = rs } })
  stopped_release j qn full =
      nothing_done before h s q rs d (release j) (Stopped qn) refl (λ f e. refl) refl (λ n. refl) (λ i last. refl) (λ i. refl) (λ kind k. refl) (λ n was. refl) q refl refl d.few tt
      (inr (record { stop = qn; answer_is = refl; unmoved = refl; full = λ e. let l = full e in let f = d.few in omega arith }))

  one_more_waits : (m : List ℕ) → length q < 8 → length (q ++ m ∷ []) ≤ capacity
  one_more_waits m l = simp length-append (omega arith)

  idle : (v : SessionView) → inactive v.state ≡ true → waits v.state ≡ None
  idle v e = quiet v.state e
    where
      quiet : (s : State) → inactive s ≡ true → waits s ≡ None
      quiet Inactive e = refl
      quiet (ActivePending w) e = absurd (let z : ◌≡◌ {A = ℕ} 0 1 = cc in omega arith)
      quiet Active e = refl
      quiet (ModificationPending w) e = absurd (let z : ◌≡◌ {A = ℕ} 0 1 = cc in omega arith)
      quiet (InactivePending w) e = absurd (let z : ◌≡◌ {A = ℕ} 0 1 = cc in omega arith)

  busy : (v : SessionView) → active v.state ≡ true → (waits v.state ≡ None) × (inactive v.state ≡ false)
  busy v e = quiet v.state e
    where
      quiet : (s : State) → active s ≡ true → (waits s ≡ None) × (inactive s ≡ false)
      quiet Inactive e = absurd (let z : ◌≡◌ {A = ℕ} 0 1 = cc in omega arith)
      quiet (ActivePending w) e = absurd (let z : ◌≡◌ {A = ℕ} 0 1 = cc in omega arith)
      quiet Active e = (refl, refl)
      quiet (ModificationPending w) e = absurd (let z : ◌≡◌ {A = ℕ} 0 1 = cc in omega arith)
      quiet (InactivePending w) e = absurd (let z : ◌≡◌ {A = ℕ} 0 1 = cc in omega arith)

  -- the newest message, as given
  asked_is_given : (j type : ℕ) (slice name : Option (List ℕ)) (w : WantedView) (pti : ℕ) → Given type slice name w → option_map (λ t. message j pti (establishment_request t slice name)) (request_type_of type) ≡ Some (asked_message j w pti)
  asked_is_given j type slice name w pti g =
      ap (option_map (λ t. message j pti (establishment_request t slice name))) g.type_is
      ∙ ap (λ z. Some (message j pti (establishment_request w.request_type z name))) (sym g.slice_present)
      ∙ ap (λ z. Some (message j pti (establishment_request w.request_type (present w.slice) z))) (sym g.name_present)

  -- an establishment that no question stops
  let_out_establish : (j type : ℕ) (slice name : Option (List ℕ)) (w : WantedView) → Given type slice name w → (v : SessionView) → FreeEstablish s j w (length q) v → (pti : ℕ)
      → BarringOf (establish j type slice name) (LetOut pti) h
      → Leads before h (establish j type slice name) (record { answer = LetOut pti; after = record { state = Some (let_out_establishment j w pti s); waiting = q ++ encoding (asked_message j w pti) ∷ []; records = rs } })
  let_out_establish j type slice name w g v free pti barring =
      let f = found s.sessions j v (full before h s q rs d) free.there in
      let q' = q ++ encoding (asked_message j w pti) ∷ [] in
      let change = f.change (λ _. established w.request_type w.slice w.name s.network pti) in
      leads before h s q rs d (establish j type slice name) (LetOut pti) (let_out_establishment j w pti s) q' refl refl
      (subst (λ vs. Booked (record { call = establish j type slice name; answer = LetOut pti; waiting = q' } ∷ h) vs (one_more s.tally) s.reading) (sym change)
      (booked_out h s.sessions s.tally s.reading d.power.books (record { call = establish j type slice name; answer = LetOut pti; waiting = q' }) refl refl j v f (λ i. refl)
      (established w.request_type w.slice w.name s.network pti) (idle v free.rests) refl (tallied_out h s.tally d.power.books.tallied (establish j type slice name) q' (λ n was. refl) pti)))
      (subst (λ vs. Timed (record { call = establish j type slice name; answer = LetOut pti; waiting = q' } ∷ h) vs s.timers s.card s.network) (sym change)
      (timed_established h s.sessions s.timers s.card s.network d.power.bars (full before h s q rs d) j type slice name pti q' w g v f (room_for h s d.power.bars w free.allowed)))
      (one_more_waits (encoding (asked_message j w pti)) free.has_room) barring
      (inl (record { pti = pti; message = asked_message j w pti; answer_is = refl; message_is = asked_is_given j type slice name w pti g; newest = refl }))

  abbrev decided_step : ℕ → WantedView → Option Question → Step
  decided_step j w o = request_step (unless_stopped o s) (after_request (unless_stopped o s) (let_out_establishment j w) s) (rules.sent (unless_stopped o s) (asked_message j w) q) rs

  abbrev asked_step : ℕ → Result WantedView Question → Step
  asked_step j o = request_step (establish_asked o j s q) (after_request (establish_asked o j s q) (establish_leaves o j) s) (establish_sends (establish_asked o j s q) j o q) rs

  establish_decided : (j type : ℕ) (slice name : Option (List ℕ)) (w : WantedView) → Given type slice name w → (o : Option Question) → establish_stop s j w (length q) ≡ o → Leads before h (establish j type slice name) (decided_step j w o)
  establish_decided j type slice name w g o e = decide o e (subst (λ o. BarringOf (establish j type slice name) (told o (next_pti s)) h) e (barring_asked h s d.power.bars j type slice name w (length q) (next_pti s) g))
    where
      decide : (o : Option Question) → establish_stop s j w (length q) ≡ o → BarringOf (establish j type slice name) (told o (next_pti s)) h → Leads before h (establish j type slice name) (decided_step j w o)
      decide None e barring = let free = free_establish s j w (length q) e in let_out_establish j type slice name w g free.0 free.1 (next_pti s) barring
      decide (Some qn) e barring = stopped_establish j type slice name qn barring (λ z. establish_full s j w (length q) (e ∙ ap Some z))

  pub establish_leads : (j type : ℕ) (slice name : Option (List ℕ)) → Leads before h (establish j type slice name) (on_step (establish j type slice name) s (record { state = Some s; waiting = q; records = rs }))
  establish_leads j type slice name = asking (wanted_of type slice name) refl
    where
      asking : (o : Result WantedView Question) → wanted_of type slice name ≡ o → Leads before h (establish j type slice name) (asked_step j o)
      asking (Ok w) e = establish_decided j type slice name w (given type slice name w e) (establish_stop s j w (length q)) refl
      asking (Err qn) e =
          let soon = barring_refused h s d.power.bars type slice name qn e in
          stopped_establish j type slice name qn (λ _ late. absurd (let x = sym soon ∙ late qn refl in let z : ◌≡◌ {A = ℕ} 0 1 = cc in omega arith))
          (λ same. absurd (let x = sym soon ∙ ap early same in let z : ◌≡◌ {A = ℕ} 0 1 = cc in omega arith))

  -- a modification or a release that no question stops
  module _ (j pti : ℕ) (v : SessionView) (free : FreeOther s j (length q) v) where
    moved_data : (y : SessionView) (f : Found s.sessions j v) → data_of y ≡ data_of v → (i : ℕ) → i < 15 → Shrinks (get_or s.sessions i unused) (get_or (set s.sessions f.place y) i unused)
    moved_data y f same = shrinks_set s.sessions f.place v y (full before h s q rs d) f.within f.there (record { same_data = same; lives = λ _. (busy v free.acts).1 })

    let_out_modify : BarringOf (modify j) (LetOut pti) h
        → Leads before h (modify j) (record { answer = LetOut pti; after = record { state = Some (let_out_modification j pti s); waiting = q ++ encoding (message j pti modification_request) ∷ []; records = rs } })
    let_out_modify barring =
        let f = found s.sessions j v (full before h s q rs d) free.there in
        let q' = q ++ encoding (message j pti modification_request) ∷ [] in
        let m : Moment = record { call = modify j; answer = LetOut pti; waiting = q ++ encoding (message j pti modification_request) ∷ [] } in
        let change = f.change (modified pti) in
        leads before h s q rs d (modify j) (LetOut pti) (let_out_modification j pti s) q' refl refl
        (subst (λ vs. Booked (m ∷ h) vs (one_more s.tally) s.reading) (sym change)
        (booked_out h s.sessions s.tally s.reading d.power.books m refl refl j v f (λ i. refl)
        (modified pti v) (busy v free.acts).0 refl (tallied_out h s.tally d.power.books.tallied (modify j) q' (λ n was. refl) pti)))
        (subst (λ vs. Timed (m ∷ h) vs s.timers s.card s.network) (sym change)
        (timed_still h s.sessions s.timers s.card s.network d.power.bars (full before h s q rs d) m refl refl (λ i. refl) (λ kind k. refl)
        (set s.sessions f.place (modified pti v)) (length-set s.sessions f.place (modified pti v) ∙ full before h s q rs d) (moved_data (modified pti v) f refl)))
        (one_more_waits (encoding (message j pti modification_request)) free.has_room) barring
        (inl (record { pti = pti; message = message j pti modification_request; answer_is = refl; message_is = refl; newest = refl }))

    let_out_release_leads : Leads before h (release j) (record { answer = LetOut pti; after = record { state = Some (let_out_release j pti s); waiting = q ++ encoding (message j pti release_request) ∷ []; records = rs } })
    let_out_release_leads =
        let f = found s.sessions j v (full before h s q rs d) free.there in
        let q' = q ++ encoding (message j pti release_request) ∷ [] in
        let m : Moment = record { call = release j; answer = LetOut pti; waiting = q ++ encoding (message j pti release_request) ∷ [] } in
        let change = f.change (released pti) in
        leads before h s q rs d (release j) (LetOut pti) (let_out_release j pti s) q' refl refl
        (subst (λ vs. Booked (m ∷ h) vs (one_more s.tally) s.reading) (sym change)
        (booked_out h s.sessions s.tally s.reading d.power.books m refl refl j v f (λ i. refl)
        (released pti v) (busy v free.acts).0 refl (tallied_out h s.tally d.power.books.tallied (release j) q' (λ n was. refl) pti)))
        (subst (λ vs. Timed (m ∷ h) vs s.timers s.card s.network) (sym change)
        (timed_still h s.sessions s.timers s.card s.network d.power.bars (full before h s q rs d) m refl refl (λ i. refl) (λ kind k. refl)
        (set s.sessions f.place (released pti v)) (length-set s.sessions f.place (released pti v) ∙ full before h s q rs d) (moved_data (released pti v) f refl)))
        (one_more_waits (encoding (message j pti release_request)) free.has_room) tt
        (inl (record { pti = pti; message = message j pti release_request; answer_is = refl; message_is = refl; newest = refl }))

  pub modify_leads : (j : ℕ) → Leads before h (modify j) (on_step (modify j) s (record { state = Some s; waiting = q; records = rs }))
  modify_leads j = decide (modify_stop s j (length q)) refl (λ a e calm reaches. barring_modify h s d.power.bars j (length q) (next_pti s) a (full before h s q rs d) e calm reaches)
    where
      decide : (o : Option Question) → modify_stop s j (length q) ≡ o → BarringOf (modify j) (told o (next_pti s)) h
          → Leads before h (modify j) (request_step (unless_stopped o s) (after_request (unless_stopped o s) (let_out_modification j) s) (rules.sent (unless_stopped o s) (λ pti. message j pti modification_request) q) rs)
      decide None e barring = let free = free_modify s j (length q) e in let_out_modify j (next_pti s) free.0 free.1 barring
      decide (Some qn) e barring = stopped_modify j qn barring (λ z. modify_full s j (length q) (e ∙ ap Some z))

  pub release_leads : (j : ℕ) → Leads before h (release j) (on_step (release j) s (record { state = Some s; waiting = q; records = rs }))
  release_leads j = decide (release_stop s j (length q)) refl
    where
      decide : (o : Option Question) → release_stop s j (length q) ≡ o
          → Leads before h (release j) (request_step (unless_stopped o s) (after_request (unless_stopped o s) (let_out_release j) s) (rules.sent (unless_stopped o s) (λ pti. message j pti release_request) q) rs)
      decide None e = let free = free_release s j (length q) e in let_out_release_leads j (next_pti s) free.0 free.1
      decide (Some qn) e = stopped_release j qn (λ z. release_full s j (length q) (e ∙ ap Some z))
