-- The message of a request that was let out is the newest waiting one.
use Rattle.std.proofs.Common.{◌≡◌, ℕ, true, cond, List, [], ◌∷◌, ◌++◌, length, Some, None, Ok, Option, Result, refl, ap, ◌∙◌}
use Rattle.session.specs.Session.{SessionView, established}
use Rattle.sessions.specs.Acts.{message_of}
use Rattle.sessions.specs.Table.{session_of}
use Rattle.ul_nas.specs.Format.{encoding}
use Rattle.ul_nas.specs.Message.{Message}
use Rattle.uplink.specs.Waiting.{room}
use Rattle.requests.specs.Decisions.{establish_stop}
use Rattle.requests.specs.Sending.{waiting_message, with_message}
use Rattle.requests.specs.State.{StateView}
use Rattle.requests.specs.Wanted.{WantedView}
use Rattle.requests.specs.LettingOut.{let_out_of, let_out_establishment}
use Rattle.requests.proofs.Rows.{session_changed}
use Rattle.requests.proofs.Leaving.{establish_found}
use Rattle.requests.specs.declared.question.Question.{Question}
use Rattle.rules.specs.Requests.{unless_stopped, asked_message}

-- the newest message
newest : (i : ℕ) (rule : SessionView → SessionView) (pti : ℕ) (s : StateView) (waiting : List (List ℕ)) (v : SessionView) (m : Message) → session_of i s.sessions ≡ Some v
    → message_of i (Some (rule v)) ≡ Some m → room (length waiting) ≡ true → with_message (waiting_message i (let_out_of i rule pti s)) waiting ≡ waiting ++ encoding m ∷ []
newest i rule pti s waiting v m e f r =
    ap (λ o. with_message (message_of i o) waiting) (session_changed i rule s.sessions v e)
    ∙ ap (λ o. with_message o waiting) f ∙ ap (λ b. cond b (waiting ++ encoding m ∷ []) waiting) r

module _ (s : StateView) (i pti : ℕ) (waiting : List (List ℕ)) where
  pub sent_establishing : (w : WantedView) → establish_stop s i w (length waiting) ≡ None
      → with_message (waiting_message i (let_out_establishment i w pti s)) waiting ≡ waiting ++ encoding (asked_message i w pti) ∷ []
  sent_establishing w e =
      let f = (establish_found s (session_of i s.sessions) w (length waiting) e).0 in
      newest i (λ _. established w.request_type w.slice w.name s.network pti) pti s waiting f.session (asked_message i w pti) f.is refl f.fewer

-- a request that was let out was not stopped
pub not_stopped : (o : Option Question) (s : StateView) (pti : ℕ) → ◌≡◌ {A = Result ℕ Question} (Ok pti) (unless_stopped o s) → o ≡ None
not_stopped None s pti e = refl
not_stopped (Some q) s pti e = cc
