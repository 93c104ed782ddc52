-- The three requests: the questions in their order, then letting out.
use Rattle.std.specs.Prelude.{ℕ, List, [], ◌∷◌, ◌++◌, length, Ok, Err, Option, Result}
use Rattle.ul_nas.specs.Message.{Message, message, establishment_request, modification_request, release_request}
use Rattle.ul_nas.specs.Format.{encoding}
use Rattle.session.specs.Messages.{present}
use Rattle.requests.specs.declared.question.Question.{Question}
use Rattle.requests.specs.State.{StateView}
use Rattle.requests.specs.Wanted.{WantedView, wanted_of}
use Rattle.requests.specs.Decisions.{establish_stop, modify_stop, release_stop}
pub use Rattle.requests.specs.LettingOut.{next_pti, unless_stopped}
use Rattle.requests.specs.LettingOut.{let_out_establishment, let_out_modification, let_out_release, after_request}

-- the message of a request that is let out is the newest waiting one; a stopped request sends nothing
abbrev pub sent : Result ℕ Question → (ℕ → Message) → List (List ℕ) → List (List ℕ)
sent (Ok pti) asks waiting = waiting ++ encoding (asks pti) ∷ []
sent (Err q) asks waiting = waiting

-- Establish: 1 to 4, then 5 to 12 for what is asked for

abbrev pub establish_asked : Result WantedView Question → ℕ → StateView → List (List ℕ) → Result ℕ Question
establish_asked (Err q) identity s waiting = Err q
establish_asked (Ok w) identity s waiting = unless_stopped (establish_stop s identity w (length waiting)) s

abbrev pub establish_answer : ℕ → ℕ → Option (List ℕ) → Option (List ℕ) → StateView → List (List ℕ) → Result ℕ Question
establish_answer identity type slice name s waiting = establish_asked (wanted_of type slice name) identity s waiting

-- what is asked for is only looked at where the request is let out
abbrev pub establish_leaves : Result WantedView Question → ℕ → ℕ → StateView → StateView
establish_leaves (Err q) identity pti s = s
establish_leaves (Ok w) identity pti s = let_out_establishment identity w pti s

abbrev pub after_establish : Result ℕ Question → ℕ → ℕ → Option (List ℕ) → Option (List ℕ) → StateView → StateView
after_establish r identity type slice name s = after_request r (establish_leaves (wanted_of type slice name) identity) s

-- C1 with what was asked for
abbrev pub asked_message : ℕ → WantedView → ℕ → Message
asked_message identity w pti = message identity pti (establishment_request w.request_type (present w.slice) (present w.name))

abbrev pub establish_sends : Result ℕ Question → ℕ → Result WantedView Question → List (List ℕ) → List (List ℕ)
establish_sends r identity (Err q) waiting = waiting
establish_sends r identity (Ok w) waiting = sent r (asked_message identity w) waiting

abbrev pub waiting_after_establish : Result ℕ Question → ℕ → ℕ → Option (List ℕ) → Option (List ℕ) → List (List ℕ) → List (List ℕ)
waiting_after_establish r identity type slice name waiting = establish_sends r identity (wanted_of type slice name) waiting

-- Modify: C9

abbrev pub modify_answer : ℕ → StateView → List (List ℕ) → Result ℕ Question
modify_answer identity s waiting = unless_stopped (modify_stop s identity (length waiting)) s

abbrev pub after_modify : Result ℕ Question → ℕ → StateView → StateView
after_modify r identity s = after_request r (let_out_modification identity) s

abbrev pub waiting_after_modify : Result ℕ Question → ℕ → List (List ℕ) → List (List ℕ)
waiting_after_modify r identity waiting = sent r (λ pti. message identity pti modification_request) waiting

-- Release: D1

abbrev pub release_answer : ℕ → StateView → List (List ℕ) → Result ℕ Question
release_answer identity s waiting = unless_stopped (release_stop s identity (length waiting)) s

abbrev pub after_release : Result ℕ Question → ℕ → StateView → StateView
after_release r identity s = after_request r (let_out_release identity) s

abbrev pub waiting_after_release : Result ℕ Question → ℕ → List (List ℕ) → List (List ℕ)
waiting_after_release r identity waiting = sent r (λ pti. message identity pti release_request) waiting
