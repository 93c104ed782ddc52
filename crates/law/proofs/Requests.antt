-- What is known of a request by its answer.
use Rattle.std.proofs.Common.{◌≡◌, ℕ, ◌<◌, ◌≤◌, true, not, ◌&&◌, ◌||◌, List, [], ◌∷◌, length, is_some, Some, None, Ok, Err, Option, Result, refl, subst, arith}
use Rattle.std.specs.Option.{option_map}
use Rattle.std.proofs.lemmas.Bool.{cond_both, not-false}
use Rattle.std.proofs.lemmas.Bool.Decides.{nat_tests}
use Rattle.keys.specs.Lengths.{name_length, slice_length, slice_held}
use Rattle.keys.specs.Octets.{KeyOctets}
use Rattle.requests.specs.declared.question.Question.{Question}
use Rattle.requests.specs.declared.question.Question.TheVariants as question
use Rattle.requests.specs.Decisions.{let_out_stop, timers_stop, room_stop, or_else, request_keys, keys_stop, establish_on, establish_stop, own_timers_stop, modify_on, modify_stop, release_on, release_stop}
use Rattle.requests.specs.State.{StateView}
use Rattle.requests.specs.Wanted.{WantedView, lawful_part, octets_in, wanted_as, wanted_of}
use Rattle.session.specs.declared.timers.TimerKind.{TimerKind}
use Rattle.session.specs.declared.timers.TimerKind.TheVariants as timer
use Rattle.session.specs.Messages.{present}
use Rattle.session.specs.Session.{SessionView}
use Rattle.session.specs.State.{inactive, active}
use Rattle.sessions.specs.Table.{session_of}
use Rattle.timers.specs.Timers.{barred_by}
use Rattle.ul_nas.specs.declared.message.RequestType.{RequestType}
use Rattle.ul_nas.specs.Message.{request_type_of, emergency}

-- what was asked for is what was given
pub record Given (type : ℕ) (slice name : Option (List ℕ)) (w : WantedView) : Type 0 where
  pub type_is : request_type_of type ≡ Some w.request_type
  pub slice_is : octets_in slice ≡ w.slice
  pub name_is : octets_in name ≡ w.name
  pub slice_present : present w.slice ≡ slice
  pub name_present : present w.name ≡ name
  pub slice_held : slice_held (length w.slice) ≡ true
  pub name_held : length w.name ≤ 100

some_same : {A : Type 0} {x y : A} → Some x ≡ Some y → x ≡ y
some_same e = cc

ok_same : {x y : WantedView} → ◌≡◌ {A = Result WantedView Question} (Ok x) (Ok y) → x ≡ y
ok_same {x} {y} e = cc

no_ok : {q : Question} {y : WantedView} → ◌≡◌ {A = Result WantedView Question} (Err q) (Ok y) → ⊥
no_ok e = let z : ◌≡◌ {A = ℕ} 0 1 = cc in omega arith

name_back : (o : Option (List ℕ)) → lawful_part name_length o ≡ true → (present (octets_in o) ≡ o) × (length (octets_in o) ≤ 100)
name_back None h = (refl, omega arith)
name_back (Some []) h = absurd (let z : ◌≡◌ {A = ℕ} 0 1 = cc in omega arith)
name_back (Some (x ∷ xs)) h = (refl, grind (arith, nat_tests))

slice_back : (o : Option (List ℕ)) → lawful_part slice_length o ≡ true → (present (octets_in o) ≡ o) × (slice_held (length (octets_in o)) ≡ true)
slice_back None h = (refl, refl)
slice_back (Some []) h = absurd (let z : ◌≡◌ {A = ℕ} 0 1 = cc in omega arith)
slice_back (Some (x ∷ xs)) h = (refl, grind (arith, nat_tests))

given_as : (type : ℕ) (slice name : Option (List ℕ)) (w : WantedView) (o : Option RequestType) → request_type_of type ≡ o → wanted_as o slice name ≡ Ok w → Given type slice name w
given_as type slice name w None e = λ f. absurd (no_ok f)
given_as type slice name w (Some t) e =
    let P : Result WantedView Question → Type 0 = λ r. r ≡ Ok w → Given type slice name w in
    cond_both (emergency t && (is_some slice || is_some name)) _ _ P (λ _ f. absurd (no_ok f))
    (λ _. cond_both (not (lawful_part name_length name)) _ _ P (λ _ f. absurd (no_ok f))
    (λ n. cond_both (not (lawful_part slice_length slice)) _ _ P (λ _ f. absurd (no_ok f))
    (λ s f.
    let same : record { request_type = t; slice = octets_in slice; name = octets_in name } ≡ w = ok_same f in
    let nb = name_back name (not-false _ n) in
    let sb = slice_back slice (not-false _ s) in
    subst (Given type slice name) same (record {
      type_is = e;
      slice_is = refl;
      name_is = refl;
      slice_present = sb.0;
      name_present = nb.0;
      slice_held = sb.1;
      name_held = nb.1;
    }))))

pub given : (type : ℕ) (slice name : Option (List ℕ)) (w : WantedView) → wanted_of type slice name ≡ Ok w → Given type slice name w
given type slice name w e = given_as type slice name w (request_type_of type) refl e

-- 12 stops only where eight wait
waiting_last : (s : StateView) (n : ℕ) → let_out_stop s n ≡ Some question.Waiting → 8 ≤ n
waiting_last s n e = grind (arith, nat_tests)

timers_other : (o : Option TimerKind) → option_map Rattle.requests.specs.Questions.timer_question o ≡ Some question.Waiting → ⊥
timers_other None e = let z : ◌≡◌ {A = ℕ} 0 1 = cc in omega arith
timers_other (Some timer.T3396) e = let z : ◌≡◌ {A = ℕ} 0 1 = cc in omega arith
timers_other (Some timer.T3584) e = let z : ◌≡◌ {A = ℕ} 0 1 = cc in omega arith
timers_other (Some timer.T3585) e = let z : ◌≡◌ {A = ℕ} 0 1 = cc in omega arith

or_waiting : (p r : Option Question) → or_else p r ≡ Some question.Waiting → (p ≡ Some question.Waiting → ⊥) → r ≡ Some question.Waiting
or_waiting None r e n = e
or_waiting (Some q) r e n = absurd (n e)

or_other : (p r : Option Question) → (p ≡ Some question.Waiting → ⊥) → (r ≡ Some question.Waiting → ⊥) → or_else p r ≡ Some question.Waiting → ⊥
or_other None r n k e = k e
or_other (Some q) r n k e = n e

room_other : (s : StateView) (k : KeyOctets) → room_stop s k ≡ Some question.Waiting → ⊥
room_other s k = cond_both (Rattle.timers.specs.Timers.room_in s.timers _ _ _) None (Some question.Claimed) (λ o. o ≡ Some question.Waiting → ⊥)
    (λ _ e. let z : ◌≡◌ {A = ℕ} 0 1 = cc in omega arith) (λ _ e. let z : ◌≡◌ {A = ℕ} 0 1 = cc in omega arith)

keys_other : (s : StateView) (w : WantedView) → keys_stop s w ≡ Some question.Waiting → ⊥
keys_other s w = cond_both (emergency w.request_type) None _ (λ o. o ≡ Some question.Waiting → ⊥) (λ _ e. let z : ◌≡◌ {A = ℕ} 0 1 = cc in omega arith)
    (λ _ e. or_other (timers_stop s (request_keys s w)) (room_stop s (request_keys s w)) (timers_other (barred_by s.timers (request_keys s w))) (room_other s (request_keys s w)) e)

establish_waiting : (s : StateView) (o : Option SessionView) (w : WantedView) (n : ℕ) → establish_on s o w n ≡ Some question.Waiting → 8 ≤ n
establish_waiting s None w n = λ e. absurd (let z : ◌≡◌ {A = ℕ} 0 1 = cc in omega arith)
establish_waiting s (Some v) w n =
    cond_both (inactive v.state) _ _ (λ o. o ≡ Some question.Waiting → 8 ≤ n)
    (λ _ e. waiting_last s n (or_waiting (keys_stop s w) (let_out_stop s n) e (keys_other s w)))
    (λ _ e. absurd (let z : ◌≡◌ {A = ℕ} 0 1 = cc in omega arith))

own_other : (s : StateView) (v : SessionView) → own_timers_stop s v ≡ Some question.Waiting → ⊥
own_other s v = cond_both (emergency v.request_type) None _ (λ o. o ≡ Some question.Waiting → ⊥) (λ _ e. let z : ◌≡◌ {A = ℕ} 0 1 = cc in omega arith)
    (λ _ e. timers_other (barred_by s.timers (Rattle.session.specs.Session.session_parts v)) e)

modify_waiting : (s : StateView) (o : Option SessionView) (n : ℕ) → modify_on s o n ≡ Some question.Waiting → 8 ≤ n
modify_waiting s None n = λ e. absurd (let z : ◌≡◌ {A = ℕ} 0 1 = cc in omega arith)
modify_waiting s (Some v) n =
    cond_both (active v.state) _ _ (λ o. o ≡ Some question.Waiting → 8 ≤ n)
    (λ _ e. waiting_last s n (or_waiting (own_timers_stop s v) (let_out_stop s n) e (own_other s v)))
    (λ _ e. absurd (let z : ◌≡◌ {A = ℕ} 0 1 = cc in omega arith))

release_waiting : (s : StateView) (o : Option SessionView) (n : ℕ) → release_on s o n ≡ Some question.Waiting → 8 ≤ n
release_waiting s None n = λ e. absurd (let z : ◌≡◌ {A = ℕ} 0 1 = cc in omega arith)
release_waiting s (Some v) n =
    cond_both (active v.state) _ _ (λ o. o ≡ Some question.Waiting → 8 ≤ n)
    (λ _ e. waiting_last s n e)
    (λ _ e. absurd (let z : ◌≡◌ {A = ℕ} 0 1 = cc in omega arith))

pub establish_full : (s : StateView) (j : ℕ) (w : WantedView) (n : ℕ) → establish_stop s j w n ≡ Some question.Waiting → 8 ≤ n
establish_full s j w n e = establish_waiting s (session_of j s.sessions) w n e

pub modify_full : (s : StateView) (j n : ℕ) → modify_stop s j n ≡ Some question.Waiting → 8 ≤ n
modify_full s j n e = modify_waiting s (session_of j s.sessions) n e

pub release_full : (s : StateView) (j n : ℕ) → release_stop s j n ≡ Some question.Waiting → 8 ≤ n
release_full s j n e = release_waiting s (session_of j s.sessions) n e

-- a request that no question stops
pub record FreeEstablish (s : StateView) (j : ℕ) (w : WantedView) (n : ℕ) (v : SessionView) : Type 0 where
  pub there : session_of j s.sessions ≡ Some v
  pub rests : inactive v.state ≡ true
  pub allowed : keys_stop s w ≡ None
  pub has_room : n < 8

let_out_room : (s : StateView) (n : ℕ) → let_out_stop s n ≡ None → n < 8
let_out_room s n e = grind (arith, nat_tests)

or_none : (p r : Option Question) → or_else p r ≡ None → (p ≡ None) × (r ≡ None)
or_none None r e = (refl, e)
or_none (Some q) r e = absurd (let z : ◌≡◌ {A = ℕ} 0 1 = cc in omega arith)

no_none : {q : Question} → Some q ≡ None → ⊥
no_none e = let z : ◌≡◌ {A = ℕ} 0 1 = cc in omega arith

establish_none : (s : StateView) (j : ℕ) (w : WantedView) (n : ℕ) (o : Option SessionView) → session_of j s.sessions ≡ o → establish_on s o w n ≡ None → (v : SessionView) × FreeEstablish s j w n v
establish_none s j w n None f = λ e. absurd (no_none e)
establish_none s j w n (Some v) f =
    cond_both (inactive v.state) _ _ (λ o. o ≡ None → (v : SessionView) × FreeEstablish s j w n v)
    (λ i e. let k = or_none (keys_stop s w) (let_out_stop s n) e in (v, record { there = f; rests = i; allowed = k.0; has_room = let_out_room s n k.1 }))
    (λ _ e. absurd (no_none e))

pub free_establish : (s : StateView) (j : ℕ) (w : WantedView) (n : ℕ) → establish_stop s j w n ≡ None → (v : SessionView) × FreeEstablish s j w n v
free_establish s j w n e = establish_none s j w n (session_of j s.sessions) refl e

pub record FreeOther (s : StateView) (j : ℕ) (n : ℕ) (v : SessionView) : Type 0 where
  pub there : session_of j s.sessions ≡ Some v
  pub acts : active v.state ≡ true
  pub has_room : n < 8

modify_none : (s : StateView) (j n : ℕ) (o : Option SessionView) → session_of j s.sessions ≡ o → modify_on s o n ≡ None → (v : SessionView) × FreeOther s j n v
modify_none s j n None f = λ e. absurd (no_none e)
modify_none s j n (Some v) f =
    cond_both (active v.state) _ _ (λ o. o ≡ None → (v : SessionView) × FreeOther s j n v)
    (λ i e. let k = or_none (own_timers_stop s v) (let_out_stop s n) e in (v, record { there = f; acts = i; has_room = let_out_room s n k.1 }))
    (λ _ e. absurd (no_none e))

release_none : (s : StateView) (j n : ℕ) (o : Option SessionView) → session_of j s.sessions ≡ o → release_on s o n ≡ None → (v : SessionView) × FreeOther s j n v
release_none s j n None f = λ e. absurd (no_none e)
release_none s j n (Some v) f =
    cond_both (active v.state) _ _ (λ o. o ≡ None → (v : SessionView) × FreeOther s j n v)
    (λ i e. (v, record { there = f; acts = i; has_room = let_out_room s n e }))
    (λ _ e. absurd (no_none e))

pub free_modify : (s : StateView) (j n : ℕ) → modify_stop s j n ≡ None → (v : SessionView) × FreeOther s j n v
free_modify s j n e = modify_none s j n (session_of j s.sessions) refl e

pub free_release : (s : StateView) (j n : ℕ) → release_stop s j n ≡ None → (v : SessionView) × FreeOther s j n v
free_release s j n e = release_none s j n (session_of j s.sessions) refl e
