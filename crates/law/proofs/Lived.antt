-- How a handset goes with the moments of its life, and that every call while it is switched on leads on and keeps the law.
use Rattle.std.proofs.Common.{◌≡◌, ℕ, ◌+◌, ◌≤◌, Bool, true, false, cond, ◌||◌, eqb, ◌⊎◌, List, [], ◌∷◌, ◌++◌, length, get_or, Some, None, Option, sym, refl, ap, ◌∙◌, subst, arith}
use Rattle.std.specs.Option.{option_map}
use Rattle.std.specs.Str.{bytes_eq}
use Rattle.backoff.specs.declared.timer.BackOffTimer.TheVariants as timer
use Rattle.bars.specs.Bars.{timer_on}
use Rattle.kept_set.specs.Loading.{kept_timers, or_none}
use Rattle.keys.specs.Octets.{KeyOctets}
use Rattle.requests.specs.State.{StateView}
use Rattle.requests.specs.Wanted.{octets_in}
use Rattle.session.specs.declared.outcome.Ended.{Ended}
use Rattle.session.specs.declared.outcome.Ended.TheVariants.{Nothing}
use Rattle.session.specs.declared.timers.TimerKind.{TimerKind}
use Rattle.session.specs.Session.{unused}
use Rattle.ul_nas.specs.Message.{message, establishment_request, modification_request, release_request, request_type_of, emergency}
use Rattle.uplink.specs.Sizes.{capacity}
use Rattle.rules.specs.declared.answer.Answer.{Answer}
use Rattle.rules.specs.declared.answer.Answer.TheVariants.{SwitchedOn, SwitchedOff, LetOut, Stopped, TakenIn, NotTakenIn, Read, NetworkChanged, Taken, Looked, NotAvailable}
use Rattle.rules.specs.declared.answer.ClosedTally.{ClosedTally}
use Rattle.rules.specs.Calls.{Said, switch_on, switch_off, establish, modify, release, take_in, time_reading, change_network, network_take, look, Handset, Step}
use Rattle.law.specs.Moments.{Moment, available, waiting_after, moment_of}
use Rattle.law.specs.Requests.{told_by, Now, then, now, Asked, asks, asked, event, of}
use Rattle.law.specs.Tallies.{more, by_message}
use Rattle.law.specs.Timers.{stroke, strokes}
use Rattle.law.specs.Law.{ReachesTimers, StoppedByTimers, Barring, Left, Held, Sending, Kept}
use Rattle.law.proofs.Ends.{ends_in_time}
use Rattle.law.proofs.Books.{Booked, balanced, no_event, tallied_none}
use Rattle.law.proofs.Strokes.{left_of}
use Rattle.law.proofs.Tables.{table, Sound}
use Rattle.law.proofs.Bars.{Timed, shrinks_self, timed_still}

-- switched on: what the handset remembers goes with the moments
pub record Alive (h : List Moment) (s : StateView) : Type 0 where
  pub books : Booked h s.sessions s.tally s.reading
  pub bars : Timed h s.sessions s.timers s.card s.network

-- switched off: what is restored under a card is what the list leaves under that of the last switch off, and nothing under another
pub record Dark (h : List Moment) (records : List (List ℕ)) : Type 0 where
  pub unlit : (now h).on ≡ false
  pub sound : (card : List ℕ) → length card ≡ 8 → (kind : TimerKind) → Sound kind (table kind (or_none (kept_timers card records)))
  pub restores : (card : List ℕ) → length card ≡ 8 → (kind : TimerKind) (k : KeyOctets)
      → timer_on (table kind (or_none (kept_timers card records))) k ≡ cond (bytes_eq card (now h).card) (left_of (strokes kind k h)) timer.Stopped

abbrev pub Powered : List Moment → Option StateView → List (List ℕ) → Type 0
Powered h None records = Dark h records
Powered h (Some s) records = Alive h s

-- the life so far, from messages waiting at its beginning on, and the handset
pub record Lived (before : List (List ℕ)) (h : List Moment) (x : Handset) : Type 0 where
  pub waiting_is : x.waiting ≡ waiting_after before h
  pub few : length x.waiting ≤ capacity
  pub many : length x.records ≡ 97
  pub power : Powered h x.state x.records

-- a call leads on, and the law is kept at its moment
pub record Leads (before : List (List ℕ)) (h : List Moment) (c : Said) (s : Step) : Type 0 where
  pub there : available s.answer ≡ true
  pub lives : Lived before (moment_of c s ∷ h) s.after
  pub law : Kept (waiting_after before h) (moment_of c s) h

abbrev pub is_off : Answer → Bool
is_off (SwitchedOn n) = false
is_off (SwitchedOff t) = true
is_off (LetOut pti) = false
is_off (Stopped q) = false
is_off (TakenIn t) = false
is_off (NotTakenIn e) = false
is_off (Read e) = false
is_off NetworkChanged = false
is_off (Taken m) = false
is_off (Looked t) = false
is_off NotAvailable = false

pub not_off : (a : Answer) (t : ClosedTally) → is_off a ≡ false → a ≡ SwitchedOff t → ⊥
not_off a t e f = let x = sym e ∙ ap is_off f in let z : ◌≡◌ {A = ℕ} 0 1 = cc in omega arith

-- the law of a moment by its call
abbrev pub BarringOf : Said → Answer → List Moment → Type 0
BarringOf (switch_on card network reading off) a h = Unit {0}
BarringOf switch_off a h = Unit {0}
BarringOf (establish identity type slice name) a h =
    (eqb type 1 || eqb type 2) ≡ true → ReachesTimers a → StoppedByTimers (record { network = (now h).network; slice = octets_in slice; name = octets_in name }) a h
BarringOf (modify identity) a h = (e : Asked) → asked identity h ≡ Some e → emergency e.request_type ≡ false → ReachesTimers a → StoppedByTimers e.parts a h
BarringOf (release identity) a h = Unit {0}
BarringOf (take_in octets) a h = Unit {0}
BarringOf (time_reading reading) a h = Unit {0}
BarringOf (change_network network) a h = Unit {0}
BarringOf (network_take n) a h = Unit {0}
BarringOf (look slice name) a h = Unit {0}

pub barring_from : (c : Said) (a : Answer) (h : List Moment) → BarringOf c a h → Barring c a h
barring_from c a h b = record {
  establishments = λ identity type slice name e. subst (λ c. BarringOf c a h) e b;
  modifications = λ identity x e. subst (λ c. BarringOf c a h) e b x;
}

abbrev pub SendingOf : Said → Answer → List (List ℕ) → List (List ℕ) → Type 0
SendingOf (switch_on card network reading off) a q q' = Unit {0}
SendingOf switch_off a q q' = Unit {0}
SendingOf (establish identity type slice name) a q q' = Left (λ pti. option_map (λ t. message identity pti (establishment_request t slice name)) (request_type_of type)) a q q' ⊎ Held a q q'
SendingOf (modify identity) a q q' = Left (λ pti. Some (message identity pti modification_request)) a q q' ⊎ Held a q q'
SendingOf (release identity) a q q' = Left (λ pti. Some (message identity pti release_request)) a q q' ⊎ Held a q q'
SendingOf (take_in octets) a q q' = Unit {0}
SendingOf (time_reading reading) a q q' = Unit {0}
SendingOf (change_network network) a q q' = Unit {0}
SendingOf (network_take n) a q q' = Unit {0}
SendingOf (look slice name) a q q' = Unit {0}

pub sending_from : (c : Said) (a : Answer) (q q' : List (List ℕ)) → SendingOf c a q q' → Sending c a q q'
sending_from c a q q' b = record {
  establishments = λ identity type slice name e. subst (λ c. SendingOf c a q q') e b;
  modifications = λ identity e. subst (λ c. SendingOf c a q q') e b;
  releases = λ identity e. subst (λ c. SendingOf c a q q') e b;
}

module _ (before : List (List ℕ)) (h : List Moment) (s : StateView) (q rs : List (List ℕ)) (d : Lived before h (record { state = Some s; waiting = q; records = rs })) where
  -- from the parts of the relation to a step that leads on
  pub leads : (c : Said) (a : Answer) (s' : StateView) (q' : List (List ℕ)) → available a ≡ true → is_off a ≡ false
      → Booked (record { call = c; answer = a; waiting = q' } ∷ h) s'.sessions s'.tally s'.reading
      → Timed (record { call = c; answer = a; waiting = q' } ∷ h) s'.sessions s'.timers s'.card s'.network
      → length q' ≤ capacity → BarringOf c a h → SendingOf c a q q'
      → Leads before h c (record { answer = a; after = record { state = Some s'; waiting = q'; records = rs } })
  leads c a s' q' there off b t few barring sending = record {
    there = there;
    lives = record { waiting_is = refl; few = few; many = d.many; power = record { books = b; bars = t } };
    law = subst (λ z. Kept z (record { call = c; answer = a; waiting = q' }) h) d.waiting_is (record {
      barring = barring_from c a h barring;
      sending = sending_from c a q q' sending;
      balanced = λ _. balanced b;
      told = λ t e. absurd (not_off a t off e);
      ending = ends_in_time (record { call = c; answer = a; waiting = q' } ∷ h);
    });
  }

  pub full : length s.sessions ≡ 15
  full = d.power.books.full

  -- a call that does nothing but to what waits
  module _ (c : Said) (a : Answer) (out : (told_by a).out ≡ false) (message : (f : Ended → ℕ) → f Nothing ≡ 0 → by_message f (told_by a).message ≡ 0) (read : (told_by a).given_up_of ≡ 0) (same : (n : Now) → then c n ≡ n)
      (events : (i last : ℕ) → event i last a c ≡ []) (asking : (i : ℕ) → asks i (now h).network a c (asked i h) ≡ asked i h) (marks : (kind : TimerKind) (k : KeyOctets) → stroke kind k h a c ≡ []) where
    pub nothing_done : (adds : (n was : ℕ) → more c n was ≡ was + n) (q' : List (List ℕ)) → available a ≡ true → is_off a ≡ false → length q' ≤ capacity → BarringOf c a h → SendingOf c a q q'
        → Leads before h c (record { answer = a; after = record { state = Some s; waiting = q'; records = rs } })
    nothing_done adds q' there off few barring sending =
        leads c a s q' there off
        (no_event h s.sessions s.tally s.reading d.power.books (record { call = c; answer = a; waiting = q' }) (ap (λ n. n.on) (same (now h))) (ap (λ n. n.reading) (same (now h)))
        (λ i. ap (λ es. es ++ of i h) (events i (now h).reading)) (tallied_none h s.tally d.power.books.tallied c q' adds a out message read))
        (timed_still h s.sessions s.timers s.card s.network d.power.bars full (record { call = c; answer = a; waiting = q' }) (ap (λ n. n.network) (same (now h))) (ap (λ n. n.card) (same (now h))) asking
        (λ kind k. ap (λ es. es ++ strokes kind k h) (marks kind k)) s.sessions full (λ n _. shrinks_self (get_or s.sessions n unused)))
        few barring sending
