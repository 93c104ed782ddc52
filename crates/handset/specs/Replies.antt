-- A reply that is sent: it is lawful, and there is room.
use Rattle.std.specs.Prelude.{ℕ, cond, ◌&&◌, List, [], ◌∷◌, ◌++◌, length}
use Rattle.session.specs.declared.outcome.Reply.{Reply}
use Rattle.session.specs.Messages.{reply_message}
use Rattle.ul_nas.specs.Format.{encoding}
use Rattle.ul_nas.specs.Lawful.{lawful}
use Rattle.uplink.specs.Waiting.{room}

abbrev pub with_reply : Reply → ℕ → ℕ → List (List ℕ) → List (List ℕ)
with_reply reply identity pti waiting =
    cond (lawful (reply_message reply identity pti) && room (length waiting)) (waiting ++ encoding (reply_message reply identity pti) ∷ []) waiting
