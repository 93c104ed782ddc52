-- A sound state and what is asked for lawfully, told by plain values.
use Rattle.std.specs.Prelude.{Ok, Err, Result}
use Rattle.requests.specs.declared.question.Question.{Question}
use Rattle.requests.specs.declared.lawful.LawfulWanted.{LawfulWanted}
use Rattle.requests.specs.declared.sound.SoundState.{SoundState}
use Rattle.requests.specs.State.{StateView, state_view}
use Rattle.requests.specs.Wanted.{WantedView, wanted_view}

abbrev pub sound_view : SoundState → StateView
sound_view s = state_view s.plain

abbrev pub lawful_view : LawfulWanted → WantedView
lawful_view w = wanted_view w.plain

abbrev pub told_lawful : Result LawfulWanted Question → Result WantedView Question
told_lawful (Ok w) = Ok (lawful_view w)
told_lawful (Err q) = Err q
