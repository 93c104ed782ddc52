-- The laws that tie writing and reading together.
use Rattle.std.specs.Prelude.{◌≡◌, ℕ, ◌≤◌, true, List, length, take, Some, Ok, Err, Result, ◌≢◌}
use Rattle.ul_nas.specs.declared.message.UplinkMessage.{UplinkMessage}
use Rattle.ul_nas.specs.declared.read.NotWrittenForm.{NotWrittenForm}
use Rattle.ul_nas.specs.declared.write.WriteRefusal.{WriteRefusal}
use Rattle.ul_nas.specs.Message.{Message, viewed}
use Rattle.ul_nas.specs.Lawful.{lawful}
use Rattle.ul_nas.specs.Format.{encoding}
use Rattle.ul_nas.specs.Reading.{told}

-- the round trip: a lawful message is told by its written form
abbrev pub RoundTrip : Type 0
RoundTrip = (m : Message) → lawful m ≡ true → told (encoding m) ≡ Some m

-- 19 is exact: octets that tell a message are the written form of that message, and it is lawful
abbrev pub Exact : Type 0
Exact = (xs : List ℕ) (m : Message) → told xs ≡ Some m → (lawful m ≡ true) × (xs ≡ encoding m)

-- an answer of the reader is exact: what is accepted is the written form of the lawful message that is told,
-- and what is refused is the written form of no lawful message
abbrev pub ReadExactly : List ℕ → Result UplinkMessage NotWrittenForm → Type 0
ReadExactly xs (Ok m) = (lawful (viewed m) ≡ true) × (xs ≡ encoding (viewed m))
ReadExactly xs (Err e) = (m : Message) → lawful m ≡ true → xs ≢ encoding m

-- no lawful message has more octets than this
abbrev pub LongestIs : ℕ → Type 0
LongestIs n = (m : Message) → lawful m ≡ true → length (encoding m) ≤ n

-- what was written at the front of the buffer tells the message, and is no longer than the longest one
abbrev pub ReadsBack : Result ℕ WriteRefusal → Message → List ℕ → Type 0
ReadsBack (Ok n) m after = (told (take n after) ≡ Some m) × (n ≤ 127)
ReadsBack (Err e) m after = Unit {0}
