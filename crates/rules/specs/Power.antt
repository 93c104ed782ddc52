-- Commission, switch on, switch off, change network, and the network's take.
use Rattle.std.specs.Prelude.{ℕ, cond, not, ◌&&◌, List, length, replicate, Option, ◌==◌, nat_le, slice_set}
use Rattle.kept_set.specs.Loading.{restored, standing_in}
use Rattle.kept_set.specs.Storing.{stored}
use Rattle.kept_set.specs.Trailer.{trailer_number}
use Rattle.session.specs.Session.{unused}
use Rattle.sessions.specs.Ptis.{pending}
use Rattle.uplink.specs.Waiting.{oldest}
use Rattle.requests.specs.State.{StateView, no_tally}
use Rattle.rules.specs.declared.answer.ClosedTally.{ClosedTally}

-- the trailer is zeros; the other records stay
abbrev pub commissioned : List (List ℕ) → List (List ℕ)
commissioned records = slice_set records trailer_number (replicate 128 0)

-- every session is INACTIVE, no PTI was given, the tally is zero; the timers are the restored ones
abbrev pub switched_on : List ℕ → List ℕ → ℕ → Option ℕ → List (List ℕ) → StateView
switched_on card network reading off records = record {
  sessions = replicate 15 unused;
  timers = restored card off records;
  card = card;
  network = network;
  reading = reading;
  last_pti = 0;
  tally = no_tally;
}

-- how many bars were restored
abbrev pub restored_count : List ℕ → Option ℕ → List (List ℕ) → ℕ
restored_count card off records = standing_in (restored card off records)

-- the running bars are kept, and the trailer points back to them
abbrev pub records_after_off : StateView → List (List ℕ) → List (List ℕ)
records_after_off s records = stored s.card s.timers records

-- the tally since switch-on; the requests still pending are cut off
abbrev pub closed_tally : StateView → ClosedTally
closed_tally s = record { since_on = s.tally; cut_off = pending s.sessions }

-- the length of the oldest message, or 0 where none waits or the place is too short
abbrev pub taken_length : List (List ℕ) → ℕ → ℕ
taken_length waiting place = cond (not (length waiting == 0) && nat_le (length (oldest waiting)) place) (length (oldest waiting)) 0
