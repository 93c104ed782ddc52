-- A lawful kept set: which bars are restored, and when none is.
use Rattle.std.specs.Prelude.{◌≡◌, ℕ, ◌+◌, ◌≤◌, Bool, true, false, cond, not, ◌&&◌, ◌||◌, List, [], ◌∷◌, map, length, Some, None, ◌==◌}
use Rattle.backoff.specs.declared.timer.BackOffTimer.{BackOffTimer}
use Rattle.backoff.specs.declared.timer.BackOffTimer.TheVariants.{Stopped, Running}
use Rattle.bars.specs.Bars.{timer_on}
use Rattle.bars.specs.Sizes.{place_count}
use Rattle.keys.specs.Octets.{KeyOctets, same_key}
use Rattle.bar_record.specs.Record.{Kept, written, lawful}
use Rattle.timers.specs.Timers.{TimersView}
use Rattle.timers.specs.Kept.{standing_in}
use Rattle.kept_set.specs.Trailer.{trailer_number, trailer_card, trailer_count, last_records}
use Rattle.kept_set.specs.Loading.{kept_timers}

-- every bar is lawful
abbrev pub all_lawful : List Kept → Bool
all_lawful [] = true
all_lawful (v ∷ vs) = lawful v && all_lawful vs

-- a bar of the list is of the same kind and on the same key
abbrev pub kept_among : Kept → List Kept → Bool
kept_among v [] = false
kept_among v (w ∷ ws) = v.kind == w.kind && same_key v.key w.key || kept_among v ws

-- no key has two bars of a kind
abbrev pub no_key_twice : List Kept → Bool
no_key_twice [] = true
no_key_twice (v ∷ vs) = not (kept_among v vs) && no_key_twice vs

-- how many bars are of a kind
abbrev pub of_kind : ℕ → List Kept → ℕ
of_kind kind [] = 0
of_kind kind (v ∷ vs) = cond (v.kind == kind) 1 0 + of_kind kind vs

-- the timer of a kind on a key, by the bars of a list
abbrev pub timer_kept : ℕ → List Kept → KeyOctets → BackOffTimer
timer_kept kind [] k = Stopped
timer_kept kind (v ∷ vs) k = cond (v.kind == kind && same_key v.key k) (Running v.seconds) (timer_kept kind vs k)

-- the records keep some bars for a card: the trailer has this card and their number, at most 96; each record before it is
-- that of a lawful bar; at most 32 are of a kind, and no key has two of a kind
pub record LawfulSet (card : List ℕ) (records : List (List ℕ)) (bars : List Kept) : Type 0 where
  pub owner : card ≡ trailer_card records
  pub few : trailer_count records ≤ trailer_number
  pub kept : last_records (trailer_count records) records ≡ map written bars
  pub lawful : all_lawful bars ≡ true
  pub room : (kind : ℕ) → of_kind kind bars ≤ place_count
  pub once : no_key_twice bars ≡ true

-- the timers that are restored of some bars: each runs with its seconds, and every other is stopped
pub record RestoredSet (bars : List Kept) (t : TimersView) : Type 0 where
  pub t3396 : (k : KeyOctets) → timer_on t.t3396 k ≡ timer_kept 1 bars k
  pub t3584 : (k : KeyOctets) → timer_on t.t3584 k ≡ timer_kept 2 bars k
  pub t3585 : (k : KeyOctets) → timer_on t.t3585 k ≡ timer_kept 3 bars k
  pub count : standing_in t ≡ length bars

-- a lawful set is restored, and nothing else is
pub record RestoresExactly (card : List ℕ) (records : List (List ℕ)) : Type 0 where
  pub lawful : (bars : List Kept) → LawfulSet card records bars → (t : TimersView) × (kept_timers card records ≡ Some t) × RestoredSet bars t
  pub only : (t : TimersView) → kept_timers card records ≡ Some t → (bars : List Kept) × LawfulSet card records bars
  pub otherwise : ((bars : List Kept) → LawfulSet card records bars → ⊥) → kept_timers card records ≡ None

-- this of every card and every list of records
abbrev pub EverySetRestoresExactly : Type 0
EverySetRestoresExactly = (card : List ℕ) (records : List (List ℕ)) → RestoresExactly card records
