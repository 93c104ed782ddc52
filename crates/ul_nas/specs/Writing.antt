-- What writing answers, and what the buffer holds afterwards.
use Rattle.std.specs.Prelude.{ℕ, cond, List, ◌++◌, length, drop, Some, None, Ok, Err, Option, Result, nat_le}
use Rattle.ul_nas.specs.declared.write.WriteRefusal.{WriteRefusal}
use Rattle.ul_nas.specs.declared.write.WriteRefusal.TheVariants.{NotLawful, Short}
use Rattle.ul_nas.specs.Message.{Message}
use Rattle.ul_nas.specs.Lawful.{lawful}
use Rattle.ul_nas.specs.Format.{encoding}

-- a buffer with octets at its front, the others as they were before
abbrev pub over : List ℕ → List ℕ → List ℕ
over octets before = octets ++ drop (length octets) before

-- an unlawful message is refused first, then a buffer that is too short
abbrev pub write_answer : Message → ℕ → Result ℕ WriteRefusal
write_answer m room = cond (lawful m) (cond (nat_le (length (encoding m)) room) (Ok (length (encoding m))) (Err Short)) (Err NotLawful)

-- a refusal leaves the buffer as it was
abbrev pub buffer_after : Result ℕ WriteRefusal → Message → List ℕ → List ℕ
buffer_after (Ok n) m before = over (encoding m) before
buffer_after (Err e) m before = before

-- a message that is not lawful is one that question 19 would refuse; a short buffer has no question
abbrev pub refusal_number : WriteRefusal → Option ℕ
refusal_number NotLawful = Some 19
refusal_number Short = None
