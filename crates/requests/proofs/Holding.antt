-- What holds between the calls goes on holding when a request is let out or stopped.
use Rattle.std.proofs.Common.{◌≡◌, ℕ, ◌+◌, ◌<◌, ◌≤◌, true, length, Some, None, Ok, Err, Option, Result, sym, ap, ◌∙◌, subst, arith}
use Rattle.session.specs.Session.{SessionView}
use Rattle.sessions.specs.Laws.{all_differ}
use Rattle.sessions.specs.Ptis.{waiting_ptis, pending, next_free}
use Rattle.sessions.specs.Table.{changed}
use Rattle.sessions.proofs.Free.{next_is_pti}
use Rattle.requests.specs.declared.question.Question.{Question}
use Rattle.requests.specs.declared.state.Tally.{Tally}
use Rattle.requests.specs.Decisions.{establish_stop, modify_stop, release_stop}
use Rattle.requests.specs.LettingOut.{let_out_of, let_out_establishment, let_out_modification, let_out_release, stopped_by, given_pti, pti_unless, after_request}
use Rattle.requests.specs.Sound.{lawful_parts, all_lawful, claims_fit}
use Rattle.requests.specs.declared.sound.SoundState.{SoundState}
use Rattle.requests.specs.SoundViews.{sound_view}
use Rattle.requests.specs.State.{StateView}
use Rattle.requests.specs.Wanted.{WantedView}
use Rattle.requests.proofs.Leaving.{Left, left_establishing, left_modifying, left_releasing, establish_few, modify_few, release_few}

-- how many requests have ended
abbrev pub ended_in : Tally → ℕ
ended_in t = t.accepted + t.rejected + t.returned + t.overtaken + t.given_up

-- all that holds between the calls, of plain values
pub record Holds (s : StateView) : Type 0 where
  pub differ : all_differ (waiting_ptis s.sessions) ≡ true
  pub lawful : all_lawful s.sessions ≡ true
  pub claims : claims_fit s.timers s.sessions ≡ true
  pub few : s.tally.let_out ≤ 1000000000
  pub sums : s.tally.let_out ≡ ended_in s.tally + pending s.sessions

-- a stopped request changes nothing, and one that is let out leaves with the next PTI
pub holds_asked : (r : Result ℕ Question) (stop : Option Question) (leaves : ℕ → StateView → StateView) (s s' : StateView)
    → stopped_by r ≡ stop → given_pti r ≡ pti_unless stop s → s' ≡ after_request r leaves s → Holds s
    → ((p : ℕ) → stop ≡ None → Some p ≡ next_free s.sessions s.last_pti → Holds (leaves p s)) → Holds s'
holds_asked (Ok p) stop leaves s s' a b e h left = subst Holds (sym e) (left p (sym a) (b ∙ ap (λ o. pti_unless o s) (sym a)))
holds_asked (Err q) stop leaves s s' a b e h left = subst Holds (sym e) h

-- between the calls all of it holds
pub held : (s : SoundState) → Holds (sound_view s)
held s = record { differ = s.differ; lawful = s.lawful; claims = s.claims; few = s.few; sums = s.sums }

module _ (s : StateView) (i n : ℕ) (h : Holds s) where
  -- a request that has left is one more that was let out
  holds_left : (rule : SessionView → SessionView) (p : ℕ) → Left s.sessions (changed i rule s.sessions) s.timers → s.tally.let_out < 1000000000 → Holds (let_out_of i rule p s)
  holds_left rule p l few =
      let more = l.more in
      let sums = h.sums in
      record { differ = l.differ; lawful = l.lawful; claims = l.claims; few = omega arith; sums = omega arith }

  pub holds_establishing : (w : WantedView) → lawful_parts w.request_type w.slice w.name ≡ true → length s.sessions ≡ 15
      → (p : ℕ) → establish_stop s i w n ≡ None → Some p ≡ next_free s.sessions s.last_pti → Holds (let_out_establishment i w p s)
  holds_establishing w parts full p e next =
      holds_left _ p (left_establishing s i n p w next (next_is_pti s.sessions s.last_pti p next) full parts h.differ h.lawful h.claims e) (establish_few s i w n e)

  pub holds_modifying : (p : ℕ) → modify_stop s i n ≡ None → Some p ≡ next_free s.sessions s.last_pti → Holds (let_out_modification i p s)
  holds_modifying p e next = holds_left _ p (left_modifying s i n p next (next_is_pti s.sessions s.last_pti p next) h.differ h.lawful h.claims e) (modify_few s i n e)

  pub holds_releasing : (p : ℕ) → release_stop s i n ≡ None → Some p ≡ next_free s.sessions s.last_pti → Holds (let_out_release i p s)
  holds_releasing p e next = holds_left _ p (left_releasing s i n p next (next_is_pti s.sessions s.last_pti p next) h.differ h.lawful h.claims e) (release_few s i n e)
