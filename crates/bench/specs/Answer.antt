-- What the bench answers about timer octets, and the words of each answer.
use Rattle.std.specs.Prelude.{ℕ, List, [], ◌∷◌, ◌++◌, Ok, Err, codes, decimal, Result}
use Rattle.backoff.specs.declared.octet.TimerValue.{TimerValue}
use Rattle.backoff.specs.declared.octet.TimerValue.TheVariants as value
use Rattle.backoff.specs.declared.octet.ShowRefusal.{ShowRefusal}
use Rattle.script.specs.Hex.{capitals}
use Rattle.bench.specs.declared.answer.Answer.{Answer}
use Rattle.bench.specs.declared.answer.Answer.TheVariants.{Starts, Stops, Deactivates, Shown, NotUnderstood}

-- what a received timer octet does
abbrev pub does : TimerValue → Answer
does value.Zero = Stops
does (value.Seconds n) = Starts n
does value.Deactivated = Deactivates

-- the octet that shows some seconds, if one does
abbrev pub shows : Result ℕ ShowRefusal → Answer
shows (Ok octet) = Shown octet
shows (Err refusal) = NotUnderstood

-- the words of an answer
abbrev pub words_of : Answer → List ℕ
words_of (Starts n) = codes "starts the timer at " ++ (decimal n ++ codes " s")
words_of Stops = codes "stops the timer"
words_of Deactivates = codes "deactivates the timer"
words_of (Shown octet) = codes "shown " ++ capitals (octet ∷ [])
words_of NotUnderstood = codes "not understood"
