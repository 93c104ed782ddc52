-- A message that is taken in keeps what holds between the calls.
use Rattle.std.proofs.Common.{◌≡◌, ℕ, ◌+◌, Bool, true, false, cond, not, ◌&&◌, ◌||◌, ◌⊎◌, List, Some, None, Option, sym, refl, ap, ◌∙◌, inl, inr, ⊎_elim, arith}
use Rattle.std.proofs.lemmas.Bool.{and_parts, or_left, or_right}
use Rattle.std.specs.Option.{option_map}
use Rattle.backoff.specs.declared.octet.TimerValue.{TimerValue}
use Rattle.backoff.specs.declared.octet.TimerValue.TheVariants as value
use Rattle.backoff.specs.declared.timer.BackOffTimer.{BackOffTimer}
use Rattle.backoff.specs.declared.timer.BackOffTimer.TheVariants.{Stopped, Running, Deactivated}
use Rattle.bars.specs.declared.bar.Bar.{Bar}
use Rattle.bars.specs.Bars.{stands, timer_on, apart, has_place, imposed, lifted}
use Rattle.bars.specs.Claimed.{among, keys_of}
use Rattle.bars.proofs.Changes.{lifts, imposes}
use Rattle.bars.proofs.Distincts.{among_standing, among_same}
use Rattle.keys.specs.Octets.{KeyOctets, same_key}
use Rattle.dl_nas.specs.declared.message.Received.{Received}
use Rattle.requests.specs.declared.state.Tally.{Tally}
use Rattle.requests.specs.Sound.{claims_fit}
use Rattle.requests.proofs.Rows.{placed, live_among}
use Rattle.requests.proofs.Thinning.{Thinner, or_either, claims_thinner, claims_thinned, pending_thinner}
use Rattle.rules.specs.TakingIn.{tally_with}
use Rattle.session.specs.declared.outcome.Ended.{Ended}
use Rattle.session.specs.declared.outcome.Ended.TheVariants.{Accepted, Rejected, Returned, Overtaken, Nothing}
use Rattle.session.specs.declared.state.Waiting.{Waiting}
use Rattle.session.specs.declared.timers.TimerKind.TheVariants.{T3396, T3584, T3585}
use Rattle.session.specs.declared.timers.TimerRule.{TimerRule}
use Rattle.session.specs.declared.timers.TimerRule.TheVariants.{NoMark, Mark, LiftAll}
use Rattle.session.specs.Laws.{ends, some_waits}
use Rattle.session.specs.Session.{SessionView, name_key_of, slice_name_key_of, slice_key_of}
use Rattle.session.specs.State.{inactive, waiting_of}
use Rattle.session.specs.Timers.{message_rule, timer_rule}
use Rattle.session.specs.Transitions.{taken_in, outcome_of}
use Rattle.sessions.specs.Live.{live, live_keys}
use Rattle.sessions.specs.Ptis.{some_pti, is_pending, pending}
use Rattle.sessions.specs.Table.{session_of, changed}
use Rattle.keys.specs.KeyParts.{name_key, slice_name_key, slice_key}
use Rattle.session.specs.Session.{session_parts}
use Rattle.timers.specs.Timers.{TimersView, set_on, ruled}
use Rattle.ul_nas.specs.Message.{emergency}
use Rattle.requests.proofs.Holding.{ended_in}
use Rattle.intake.proofs.Lines.{thins, inactive_still, ends_told, effect_active}

-- a bar that stands afterwards stood before or is on the marked key

stands_marked : (b s : Bool) (t u : BackOffTimer) → stands (cond (b && s) t u) ≡ true → (stands u || s) ≡ true
stands_marked b s t u h = grind arith

stands_lifted : (s : Bool) (u : BackOffTimer) → stands (cond s Stopped u) ≡ true → stands u ≡ true
stands_lifted s u h = grind arith

module _ (k : KeyOctets) (bs : List (Bar KeyOctets)) (h : apart bs ≡ true) where
  grows_imposed : (t : BackOffTimer) (q : KeyOctets) → among q (keys_of (imposed k t bs)) ≡ true → (among q (keys_of bs) || same_key k q) ≡ true
  grows_imposed t q e =
      let law = imposes k t bs h in
      let stood : stands (cond (has_place k bs && same_key k q) t (timer_on bs q)) ≡ true = sym (ap stands (law.timers q)) ∙ (sym (among_standing q (imposed k t bs)) ∙ e) in
      rw (among_standing q bs) (stands_marked (has_place k bs) (same_key k q) t (timer_on bs q) stood)

  grows_lifted : (q : KeyOctets) → among q (keys_of (lifted k bs)) ≡ true → (among q (keys_of bs) || same_key k q) ≡ true
  grows_lifted q e =
      let law = lifts k bs h in
      let stood : stands (cond (same_key q k) Stopped (timer_on bs q)) ≡ true = sym (ap stands (law.timers q)) ∙ (sym (among_standing q (lifted k bs)) ∙ e) in
      rw (among_standing q bs) (or_left (stands (timer_on bs q)) (same_key k q) (stands_lifted (same_key q k) (timer_on bs q) stood))

  grows_set : (x : TimerValue) (q : KeyOctets) → among q (keys_of (set_on x k bs)) ≡ true → (among q (keys_of bs) || same_key k q) ≡ true
  grows_set value.Zero q e = grows_lifted q e
  grows_set (value.Seconds n) q e = grows_imposed (Running n) q e
  grows_set value.Deactivated q e = grows_imposed Deactivated q e

-- what the timers of one kind may have after a message: the bars of before, and one on the session's key
abbrev Grown : KeyOctets → List (Bar KeyOctets) → List (Bar KeyOctets) → Type 0
Grown k bs bs' = (q : KeyOctets) → among q (keys_of bs') ≡ true → (among q (keys_of bs) || same_key k q) ≡ true

grown_still : (k : KeyOctets) (bs : List (Bar KeyOctets)) → Grown k bs bs
grown_still k bs q e = or_left (among q (keys_of bs)) (same_key k q) e

pub record Apart (t : TimersView) : Type 0 where
  pub t3396 : apart t.t3396 ≡ true
  pub t3584 : apart t.t3584 ≡ true
  pub t3585 : apart t.t3585 ≡ true

record GrownAll (k : KeyOctets) (t t' : TimersView) : Type 0 where
  t3396 : Grown (name_key k) t.t3396 t'.t3396
  t3584 : Grown (slice_name_key k) t.t3584 t'.t3584
  t3585 : Grown (slice_key k) t.t3585 t'.t3585

grown_by : (rule : TimerRule) (k : KeyOctets) (t : TimersView) → Apart t → GrownAll k t (ruled rule k t)
grown_by NoMark k t a = record { t3396 = grown_still (name_key k) t.t3396; t3584 = grown_still (slice_name_key k) t.t3584; t3585 = grown_still (slice_key k) t.t3585 }
grown_by (Mark T3396 x) k t a = record { t3396 = grows_set (name_key k) t.t3396 a.t3396 x; t3584 = grown_still (slice_name_key k) t.t3584; t3585 = grown_still (slice_key k) t.t3585 }
grown_by (Mark T3584 x) k t a = record { t3396 = grown_still (name_key k) t.t3396; t3584 = grows_set (slice_name_key k) t.t3584 a.t3584 x; t3585 = grown_still (slice_key k) t.t3585 }
grown_by (Mark T3585 x) k t a = record { t3396 = grown_still (name_key k) t.t3396; t3584 = grown_still (slice_name_key k) t.t3584; t3585 = grows_set (slice_key k) t.t3585 a.t3585 x }
grown_by LiftAll k t a =
    record { t3396 = grows_lifted (name_key k) t.t3396 a.t3396; t3584 = grows_lifted (slice_name_key k) t.t3584 a.t3584; t3585 = grows_lifted (slice_key k) t.t3585 a.t3585 }

-- on a live session's key
grown_live : (k : KeyOctets) (bs bs' : List (Bar KeyOctets)) (ks : List KeyOctets) → among k ks ≡ true → Grown k bs bs' → (q : KeyOctets) → among q (keys_of bs') ≡ true → (among q (keys_of bs) || among q ks) ≡ true
grown_live k bs bs' ks here grown q e =
    or_either (among q (keys_of bs)) (same_key k q) (grown q e)
    (λ a. or_left (among q (keys_of bs)) (among q ks) a)
    (λ s. or_right (among q (keys_of bs)) (among q ks) (sym (among_same k q ks s) ∙ here))

rule_live : (t : Bool) (r : TimerRule) (x y : Bool) → t ≡ (x && not y) → (cond t r NoMark ≡ NoMark) ⊎ ((x ≡ true) × (y ≡ false))
rule_live false r x y e = inl refl
rule_live true r x y e = inr (let p = and_parts x (not y) (sym e) in (p.0, (let q : y ≡ false = grind arith in q)))

live_from : (v : SessionView) → inactive v.state ≡ false → emergency v.request_type ≡ false → live v ≡ true
live_from v a b = both (inactive v.state) (emergency v.request_type) a b
  where
    both : (x y : Bool) → x ≡ false → y ≡ false → (not x && not y) ≡ true
    both x y e f = grind arith

module _ (v : SessionView) (m : Received) where
  still_live : live (taken_in v m) ≡ true → live v ≡ true
  still_live h = on (inactive v.state) refl
    where
      same : (x y z : Bool) → (not x && not y) ≡ true → z ≡ false → (not z && not y) ≡ true
      same x y z e f = grind arith

      never : (x y : Bool) → x ≡ true → (not x && not y) ≡ true → ◌≡◌ {A = ℕ} 0 1
      never x y e f = grind arith

      on : (b : Bool) → inactive v.state ≡ b → live v ≡ true
      on false e = same (inactive (taken_in v m).state) (emergency v.request_type) (inactive v.state) h e
      on true e = absurd (let z = never (inactive (taken_in v m).state) (emergency v.request_type) (inactive_still v m e) h in omega arith)

  pub thinner : Thinner v (taken_in v m)
  thinner = record { pti = thins v m; parts = refl; still = still_live; name = refl; slice_name = refl; slice = refl }

module _ (i : ℕ) (vs : List SessionView) (v : SessionView) (m : Received) (t : TimersView) (is : session_of i vs ≡ Some v) (a : Apart t) (c : claims_fit t vs ≡ true) where
  claims_marked : (rule : TimerRule) → live v ≡ true → claims_fit (ruled rule (session_parts v) t) (changed i (λ x. taken_in x m) vs) ≡ true
  claims_marked rule alive =
      let g = grown_by rule (session_parts v) t a in
      let p = placed i vs v is in
      claims_thinner i vs v (λ x. taken_in x m) is (thinner v m) t (ruled rule (session_parts v) t)
      (grown_live (name_key_of v) t.t3396 (ruled rule (session_parts v) t).t3396 (live_keys name_key_of vs) (live_among name_key_of v vs p.place p.there alive) g.t3396)
      (grown_live (slice_name_key_of v) t.t3584 (ruled rule (session_parts v) t).t3584 (live_keys slice_name_key_of vs) (live_among slice_name_key_of v vs p.place p.there alive) g.t3584)
      (grown_live (slice_key_of v) t.t3585 (ruled rule (session_parts v) t).t3585 (live_keys slice_key_of vs) (live_among slice_key_of v vs p.place p.there alive) g.t3585)
      c

  pub claims_taken : claims_fit (ruled (timer_rule v.request_type m (outcome_of v m).took_effect) (session_parts v) t) (changed i (λ x. taken_in x m) vs) ≡ true
  claims_taken =
      ⊎_elim
      (λ none. ap (λ r. claims_fit (ruled r (session_parts v) t) (changed i (λ x. taken_in x m) vs)) none ∙ claims_thinned i vs v (λ x. taken_in x m) is (thinner v m) t c)
      (λ both. claims_marked (timer_rule v.request_type m (outcome_of v m).took_effect) (live_from v (effect_active v m both.0) both.1))
      (rule_live ((outcome_of v m).took_effect && not (emergency v.request_type)) (message_rule m.content m.mm_cause m.outer_timer) (outcome_of v m).took_effect (emergency v.request_type) refl)

-- the tally

total_with : (e : Ended) (t : Tally) → ended_in (tally_with e t) ≡ ended_in t + cond (ends e) 1 0
total_with Accepted t = omega arith
total_with Rejected t = omega arith
total_with Returned t = omega arith
total_with Overtaken t = omega arith
total_with Nothing t = omega arith

pub out_with : (e : Ended) (t : Tally) → (tally_with e t).let_out ≡ t.let_out
out_with Accepted t = refl
out_with Rejected t = refl
out_with Returned t = refl
out_with Overtaken t = refl
out_with Nothing t = refl

waits_pti : (o : Option Waiting) → some_waits o ≡ some_pti (option_map (λ w. w.pti) o)
waits_pti None = refl
waits_pti (Some w) = refl

pub sums_taken : (i : ℕ) (vs : List SessionView) (v : SessionView) (m : Received) (tally : Tally) → session_of i vs ≡ Some v → tally.let_out ≡ ended_in tally + pending vs
    → (tally_with (outcome_of v m).ended tally).let_out ≡ ended_in (tally_with (outcome_of v m).ended tally) + pending (changed i (λ x. taken_in x m) vs)
sums_taken i vs v m tally is h =
    let e = (outcome_of v m).ended in
    let told : ends e ≡ (is_pending v && not (is_pending (taken_in v m))) = ends_told v.state m ∙ ap (λ b. b && not (some_waits (waiting_of (taken_in v m).state))) (waits_pti (waiting_of v.state)) ∙ ap (λ b. is_pending v && not b) (waits_pti (waiting_of (taken_in v m).state)) in
    let counts = pending_thinner i vs v (λ x. taken_in x m) is (thinner v m) (ends e) told in
    let sum = total_with e tally in
    out_with e tally ∙ (let all : tally.let_out ≡ ended_in (tally_with e tally) + pending (changed i (λ x. taken_in x m) vs) = omega arith in all)
