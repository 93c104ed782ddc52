-- A request is stopped by the first timer that the list leaves on its keys.
use Rattle.std.proofs.Common.{◌≡◌, ℕ, ◌+◌, ◌≤◌, Bool, true, false, cond, not, ◌&&◌, ◌||◌, eqb, ltb, leb, List, length, is_some, Some, None, Err, Option, Result, sym, refl, ap, ◌∙◌, subst, arith}
use Rattle.std.specs.Option.{option_map}
use Rattle.std.proofs.lemmas.Bool.{cond_both, cond-false, leb-true, and_parts}
use Rattle.std.proofs.lemmas.Bool.Decides.{nat_tests}
use Rattle.bars.specs.Bars.{stands, timer_on}
use Rattle.bars.specs.Claimed.{claimed}
use Rattle.keys.specs.Lengths.{name_length, slice_length}
use Rattle.keys.specs.Octets.{KeyOctets}
use Rattle.requests.specs.declared.question.Question.{Question}
use Rattle.requests.specs.declared.question.Question.TheVariants as question
use Rattle.requests.specs.Questions.{question_number, timer_question}
use Rattle.requests.specs.Decisions.{let_out_stop, timers_stop, room_stop, or_else, request_keys, keys_stop, establish_on, establish_stop, own_timers_stop, modify_on, modify_stop}
use Rattle.requests.specs.State.{StateView}
use Rattle.requests.specs.Wanted.{WantedView, lawful_part, octets_in, wanted_as, wanted_of}
use Rattle.session.specs.declared.timers.TimerKind.{TimerKind}
use Rattle.session.specs.declared.timers.TimerKind.TheVariants.{T3396, T3584, T3585}
use Rattle.session.specs.Session.{SessionView}
use Rattle.session.specs.State.{inactive, active}
use Rattle.sessions.specs.Live.{live_keys, with_key}
use Rattle.sessions.specs.Table.{session_of}
use Rattle.session.specs.Session.{session_parts}
use Rattle.timers.specs.Timers.{room_in}
use Rattle.ul_nas.specs.declared.message.RequestType.{RequestType}
use Rattle.ul_nas.specs.Message.{request_type_of, emergency}
use Rattle.rules.specs.declared.answer.Answer.{Answer}
use Rattle.rules.specs.declared.answer.Answer.TheVariants.{LetOut, Stopped}
use Rattle.rules.specs.Calls.{request_told}
use Rattle.rules.specs.Requests.{unless_stopped, next_pti}
use Rattle.law.specs.Moments.{Moment}
use Rattle.law.specs.Requests.{now, Asked, asked}
use Rattle.law.specs.Timers.{key_of, strokes, barred}
use Rattle.law.specs.Timers as law
use Rattle.law.specs.Law.{early, ReachesTimers, StoppedByTimers}
use Rattle.law.proofs.Sessions.{found}
use Rattle.law.proofs.Requests.{Given}
use Rattle.law.proofs.Strokes.{left_stands}
use Rattle.law.proofs.Tables.{table}
use Rattle.law.proofs.Claims.{data_of}
use Rattle.law.proofs.Bars.{Timed, key_in}

-- the answer of a request by the question that stops it
abbrev pub told : Option Question → ℕ → Answer
told None pti = LetOut pti
told (Some q) pti = Stopped q

pub told_is : (o : Option Question) (s : StateView) → request_told (unless_stopped o s) ≡ told o (next_pti s)
told_is None s = refl
told_is (Some q) s = refl

-- a question that is no timer's
abbrev other : Question → Bool
other q = not (eqb (question_number q) 7 || (eqb (question_number q) 8 || eqb (question_number q) 9))

abbrev others : Option Question → Bool
others None = true
others (Some q) = other q

no_timer : (o : Option Question) (pti : ℕ) (k : TimerKind) → others o ≡ true → told o pti ≡ Stopped (timer_question k) → ⊥
no_timer None pti k h e = let z : ◌≡◌ {A = ℕ} 0 1 = cc in omega arith
no_timer (Some q) pti T3396 h e = let s : q ≡ question.T3396 = cc in let x = sym (ap other s) ∙ h in let z : ◌≡◌ {A = ℕ} 0 1 = cc in omega arith
no_timer (Some q) pti T3584 h e = let s : q ≡ question.T3584 = cc in let x = sym (ap other s) ∙ h in let z : ◌≡◌ {A = ℕ} 0 1 = cc in omega arith
no_timer (Some q) pti T3585 h e = let s : q ≡ question.T3585 = cc in let x = sym (ap other s) ∙ h in let z : ◌≡◌ {A = ℕ} 0 1 = cc in omega arith

abbrev first : Bool → Bool → Bool → Option TimerKind
first a b c = cond a (Some T3396) (cond b (Some T3584) (cond c (Some T3585) None))

stopped_by : (parts : KeyOctets) (h : List Moment) (a b c : Bool) → barred T3396 parts h ≡ a → barred T3584 parts h ≡ b → barred T3585 parts h ≡ c
    → (rest : Option Question) → others rest ≡ true → (pti : ℕ) → StoppedByTimers parts (told (or_else (option_map timer_question (first a b c)) rest) pti) h
stopped_by parts h true b c ea eb ec rest o pti = record {
  t3396 = ((λ _. ea), λ _. refl);
  t3584 = ((λ e. absurd (let z : ◌≡◌ {A = ℕ} 0 1 = cc in omega arith)), λ e. absurd (let x = sym ea ∙ e.0 in let z : ◌≡◌ {A = ℕ} 0 1 = cc in omega arith));
  t3585 = ((λ e. absurd (let z : ◌≡◌ {A = ℕ} 0 1 = cc in omega arith)), λ e. absurd (let x = sym ea ∙ e.0 in let z : ◌≡◌ {A = ℕ} 0 1 = cc in omega arith));
}
stopped_by parts h false true c ea eb ec rest o pti = record {
  t3396 = ((λ e. absurd (let z : ◌≡◌ {A = ℕ} 0 1 = cc in omega arith)), λ e. absurd (let x = sym ea ∙ e in let z : ◌≡◌ {A = ℕ} 0 1 = cc in omega arith));
  t3584 = ((λ _. (ea, eb)), λ _. refl);
  t3585 = ((λ e. absurd (let z : ◌≡◌ {A = ℕ} 0 1 = cc in omega arith)), λ e. absurd (let x = sym eb ∙ e.1 in let z : ◌≡◌ {A = ℕ} 0 1 = cc in omega arith));
}
stopped_by parts h false false true ea eb ec rest o pti = record {
  t3396 = ((λ e. absurd (let z : ◌≡◌ {A = ℕ} 0 1 = cc in omega arith)), λ e. absurd (let x = sym ea ∙ e in let z : ◌≡◌ {A = ℕ} 0 1 = cc in omega arith));
  t3584 = ((λ e. absurd (let z : ◌≡◌ {A = ℕ} 0 1 = cc in omega arith)), λ e. absurd (let x = sym eb ∙ e.1 in let z : ◌≡◌ {A = ℕ} 0 1 = cc in omega arith));
  t3585 = ((λ _. (ea, eb, ec)), λ _. refl);
}
stopped_by parts h false false false ea eb ec rest o pti = record {
  t3396 = ((λ e. absurd (no_timer rest pti T3396 o e)), λ e. absurd (let x = sym ea ∙ e in let z : ◌≡◌ {A = ℕ} 0 1 = cc in omega arith));
  t3584 = ((λ e. absurd (no_timer rest pti T3584 o e)), λ e. absurd (let x = sym eb ∙ e.1 in let z : ◌≡◌ {A = ℕ} 0 1 = cc in omega arith));
  t3585 = ((λ e. absurd (no_timer rest pti T3585 o e)), λ e. absurd (let x = sym ec ∙ e.2 in let z : ◌≡◌ {A = ℕ} 0 1 = cc in omega arith));
}

let_out_others : (s : StateView) (n : ℕ) → others (let_out_stop s n) ≡ true
let_out_others s n = cond_both (not (ltb s.tally.let_out 1000000000)) (Some question.LetOut) _ (λ o. others o ≡ true) (λ _. refl)
    (λ _. cond_both (not (Rattle.uplink.specs.Waiting.room n)) (Some question.Waiting) None (λ o. others o ≡ true) (λ _. refl) (λ _. refl))

room_others : (s : StateView) (k : KeyOctets) → others (room_stop s k) ≡ true
room_others s k = cond_both (room_in s.timers _ _ _) None (Some question.Claimed) (λ o. others o ≡ true) (λ _. refl) (λ _. refl)

or_others : (p r : Option Question) → others p ≡ true → others r ≡ true → others (or_else p r) ≡ true
or_others None r h k = k
or_others (Some q) r h k = h

or_assoc : (p q r : Option Question) → or_else (or_else p q) r ≡ or_else p (or_else q r)
or_assoc None q r = refl
or_assoc (Some x) q r = refl

module _ (h : List Moment) (s : StateView) (d : Timed h s.sessions s.timers s.card s.network) where
  barred_is : (kind : TimerKind) (k : KeyOctets) → barred kind k h ≡ stands (timer_on (table kind s.timers) (key_of kind k))
  barred_is kind k = sym (left_stands (law.imposed (strokes kind (key_of kind k) h)) (law.counted (strokes kind (key_of kind k) h))) ∙ ap stands (sym (d.timers_are kind (key_of kind k)))

  timers_stopped : (k : KeyOctets) (rest : Option Question) → others rest ≡ true → (pti : ℕ) → StoppedByTimers k (told (or_else (timers_stop s k) rest) pti) h
  timers_stopped k rest o pti = stopped_by k h _ _ _ (barred_is T3396 k) (barred_is T3584 k) (barred_is T3585 k) rest o pti

  -- establish
  establish_barring : (w : WantedView) (n pti : ℕ) (parts : KeyOctets) → parts ≡ request_keys s w → emergency w.request_type ≡ false → (o : Option SessionView)
      → ReachesTimers (told (establish_on s o w n) pti) → StoppedByTimers parts (told (establish_on s o w n) pti) h
  establish_barring w n pti parts same calm None = λ e. absurd (let x = e question.Identity refl in let z : ◌≡◌ {A = ℕ} 0 1 = cc in omega arith)
  establish_barring w n pti parts same calm (Some v) =
      cond_both (inactive v.state) _ _ (λ o. ReachesTimers (told o pti) → StoppedByTimers parts (told o pti) h)
      (λ _ _.
      let k = request_keys s w in
      let made : or_else (keys_stop s w) (let_out_stop s n) ≡ or_else (timers_stop s k) (or_else (room_stop s k) (let_out_stop s n)) =
      ap (λ o. or_else o (let_out_stop s n)) (cond-false (emergency w.request_type) None (or_else (timers_stop s k) (room_stop s k)) calm) ∙ or_assoc (timers_stop s k) (room_stop s k) (let_out_stop s n) in
      subst (λ p. StoppedByTimers p (told (or_else (keys_stop s w) (let_out_stop s n)) pti) h) (sym same)
      (subst (λ o. StoppedByTimers k (told o pti) h) (sym made) (timers_stopped k (or_else (room_stop s k) (let_out_stop s n)) (or_others (room_stop s k) (let_out_stop s n) (room_others s k) (let_out_others s n)) pti)))
      (λ _ e. absurd (let x = e question.Inactive refl in let z : ◌≡◌ {A = ℕ} 0 1 = cc in omega arith))

  calm_type : (type : ℕ) (t : RequestType) → (eqb type 1 || eqb type 2) ≡ true → request_type_of type ≡ Some t → emergency t ≡ false
  calm_type type t e f = grind (arith, nat_tests)

  wanted_early : (o : Option RequestType) (slice name : Option (List ℕ)) (q : Question) → wanted_as o slice name ≡ Err q → early q ≡ true
  wanted_early None slice name q = λ e. let same : question.RequestType ≡ q = cc in ap early (sym same)
  wanted_early (Some t) slice name q =
      let P : Result WantedView Question → Type 0 = λ r. r ≡ Err q → early q ≡ true in
      cond_both (emergency t && (is_some slice || is_some name)) _ _ P (λ _ e. let same : question.EmergencyParts ≡ q = cc in ap early (sym same))
      (λ _. cond_both (not (lawful_part name_length name)) _ _ P (λ _ e. let same : question.Name ≡ q = cc in ap early (sym same))
      (λ _. cond_both (not (lawful_part slice_length slice)) _ _ P (λ _ e. let same : question.Slice ≡ q = cc in ap early (sym same))
      (λ _ e. absurd (let z : ◌≡◌ {A = ℕ} 0 1 = cc in omega arith))))

  pub barring_refused : (type : ℕ) (slice name : Option (List ℕ)) (q : Question) → wanted_of type slice name ≡ Err q → early q ≡ true
  barring_refused type slice name q e = wanted_early (request_type_of type) slice name q e

  pub barring_asked : (j type : ℕ) (slice name : Option (List ℕ)) (w : WantedView) (n pti : ℕ) → Given type slice name w → (eqb type 1 || eqb type 2) ≡ true → ReachesTimers (told (establish_stop s j w n) pti)
      → StoppedByTimers (record { network = (now h).network; slice = octets_in slice; name = octets_in name }) (told (establish_stop s j w n) pti) h
  barring_asked j type slice name w n pti g e reaches =
      let parts : record { network = (now h).network; slice = octets_in slice; name = octets_in name } ≡ request_keys s w =
      ap (λ z. record { network = z; slice = octets_in slice; name = octets_in name }) (sym d.network_is)
      ∙ ap (λ z. record { network = s.network; slice = z; name = octets_in name }) g.slice_is
      ∙ ap (λ z. record { network = s.network; slice = w.slice; name = z }) g.name_is in
      establish_barring w n pti _ parts (calm_type type w.request_type e g.type_is) (session_of j s.sessions) reaches

  -- modify
  modify_barring : (n pti : ℕ) (a : Asked) → emergency a.request_type ≡ false → (o : Option SessionView) → ((v : SessionView) → o ≡ Some v → active v.state ≡ true → a ≡ data_of v)
      → ReachesTimers (told (modify_on s o n) pti) → StoppedByTimers a.parts (told (modify_on s o n) pti) h
  modify_barring n pti a calm None f = λ e. absurd (let x = e question.Identity refl in let z : ◌≡◌ {A = ℕ} 0 1 = cc in omega arith)
  modify_barring n pti a calm (Some v) f =
      cond_both (active v.state) _ _ (λ o. ReachesTimers (told o pti) → StoppedByTimers a.parts (told o pti) h)
      (λ acts _.
      let same = f v refl acts in
      let made : or_else (own_timers_stop s v) (let_out_stop s n) ≡ or_else (timers_stop s (session_parts v)) (let_out_stop s n) =
      ap (λ o. or_else o (let_out_stop s n)) (cond-false (emergency v.request_type) None (timers_stop s (session_parts v)) (ap (λ a. emergency a.request_type) (sym same) ∙ calm)) in
      subst (λ a. StoppedByTimers a.parts (told (or_else (own_timers_stop s v) (let_out_stop s n)) pti) h) (sym same)
      (subst (λ o. StoppedByTimers (session_parts v) (told o pti) h) (sym made) (timers_stopped (session_parts v) (let_out_stop s n) (let_out_others s n) pti)))
      (λ _ e. absurd (let x = e question.Active refl in let z : ◌≡◌ {A = ℕ} 0 1 = cc in omega arith))

  active_lives : (v : SessionView) → active v.state ≡ true → inactive v.state ≡ false
  active_lives v e = grind (arith, nat_tests)

  pub barring_modify : (j n pti : ℕ) (a : Asked) → length s.sessions ≡ 15 → asked j h ≡ Some a → emergency a.request_type ≡ false
      → ReachesTimers (told (modify_stop s j n) pti) → StoppedByTimers a.parts (told (modify_stop s j n) pti) h
  barring_modify j n pti a full e calm reaches =
      modify_barring n pti a calm (session_of j s.sessions)
      (λ v there acts.
      let f = found s.sessions j v full there in
      let here : asked (f.place + 1) h ≡ Some (data_of v) =
      d.asked_is f.place f.within (ap (λ v. inactive v.state) f.there ∙ active_lives v acts) ∙ ap (λ v. Some (data_of v)) f.there in
      let both : Some a ≡ Some (data_of v) = sym e ∙ ap (λ j. asked j h) f.identity_is ∙ here in
      cc)
      reaches

  -- an establishment that is let out has room for its keys
  or_none_right : (p r : Option Question) → or_else p r ≡ None → r ≡ None
  or_none_right None r e = e
  or_none_right (Some q) r e = absurd (let z : ◌≡◌ {A = ℕ} 0 1 = cc in omega arith)

  abbrev claims : KeyOctets → TimerKind → ℕ
  claims k kind = claimed (table kind s.timers) (with_key (key_of kind k) (live_keys (key_in kind) s.sessions))

  three : (k : KeyOctets) → (leb (claims k T3396) 32 && (leb (claims k T3584) 32 && leb (claims k T3585) 32)) ≡ true → (kind : TimerKind) → claims k kind ≤ 32
  three k e T3396 = leb-true (claims k T3396) 32 (and_parts (leb (claims k T3396) 32) (leb (claims k T3584) 32 && leb (claims k T3585) 32) e).0
  three k e T3584 = leb-true (claims k T3584) 32 (and_parts (leb (claims k T3584) 32) (leb (claims k T3585) 32) (and_parts (leb (claims k T3396) 32) (leb (claims k T3584) 32 && leb (claims k T3585) 32) e).1).0
  three k e T3585 = leb-true (claims k T3585) 32 (and_parts (leb (claims k T3584) 32) (leb (claims k T3585) 32) (and_parts (leb (claims k T3396) 32) (leb (claims k T3584) 32 && leb (claims k T3585) 32) e).1).1

  room_three : (k : KeyOctets) → room_stop s k ≡ None → (kind : TimerKind) → claims k kind ≤ 32
  room_three k =
      cond_both (room_in s.timers _ _ _) None (Some question.Claimed) (λ o. o ≡ None → (kind : TimerKind) → claims k kind ≤ 32)
      (λ fits _ kind. three k fits kind)
      (λ _ e. absurd (let z : ◌≡◌ {A = ℕ} 0 1 = cc in omega arith))

  pub room_for : (w : WantedView) → keys_stop s w ≡ None → (kind : TimerKind) → emergency w.request_type ≡ false
      → claimed (table kind s.timers) (with_key (key_of kind (request_keys s w)) (live_keys (key_in kind) s.sessions)) ≤ 32
  room_for w e kind calm =
      room_three (request_keys s w)
      (or_none_right (timers_stop s (request_keys s w)) (room_stop s (request_keys s w)) (sym (cond-false (emergency w.request_type) None (or_else (timers_stop s (request_keys s w)) (room_stop s (request_keys s w))) calm) ∙ e)) kind
