-- The questions, by their numbers.
use Rattle.std.specs.Prelude.{ℕ}
use Rattle.keys.specs.declared.refusal.PartRefusal.{PartRefusal}
use Rattle.keys.specs.declared.refusal.PartRefusal.TheVariants as part
use Rattle.session.specs.declared.timers.TimerKind.{TimerKind}
use Rattle.session.specs.declared.timers.TimerKind.TheVariants as timer
use Rattle.requests.specs.declared.question.Question.{Question}
use Rattle.requests.specs.declared.question.Question.TheVariants.{RequestType, EmergencyParts, Name, Slice, Identity, Inactive, T3396, T3584, T3585, Claimed, LetOut, Waiting, Active}

abbrev pub question_number : Question → ℕ
question_number RequestType = 1
question_number EmergencyParts = 2
question_number Name = 3
question_number Slice = 4
question_number Identity = 5
question_number Inactive = 6
question_number T3396 = 7
question_number T3584 = 8
question_number T3585 = 9
question_number Claimed = 10
question_number LetOut = 11
question_number Waiting = 12
question_number Active = 13

-- the question of each timer
abbrev pub timer_question : TimerKind → Question
timer_question timer.T3396 = T3396
timer_question timer.T3584 = T3584
timer_question timer.T3585 = T3585

-- the question of each part
abbrev pub part_stop : PartRefusal → Question
part_stop part.Name = Name
part_stop part.Slice = Slice
