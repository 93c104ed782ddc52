-- The three tables of a handset's timers, told by the octets of their keys.
use Rattle.std.specs.Prelude.{ℕ, Bool, cond, ◌&&◌, List, [], ◌∷◌, replicate, Some, None, Option, nat_le}
use Rattle.backoff.specs.declared.octet.TimerValue.{TimerValue}
use Rattle.backoff.specs.declared.octet.TimerValue.TheVariants as value
use Rattle.backoff.specs.declared.timer.BackOffTimer.TheVariants.{Stopped, Running, Deactivated}
use Rattle.bars.specs.declared.bar.Bar.{Bar}
use Rattle.bars.specs.Bars.{shown, stands, timer_on, imposed, lifted, deactivated_lifted, counted_off}
use Rattle.bars.specs.Sizes.{place_count}
use Rattle.bars.specs.Claimed.{claimed}
use Rattle.keys.specs.Octets.{KeyOctets}
use Rattle.keys.specs.Sames.{name_key_octets, slice_name_key_octets, slice_key_octets}
use Rattle.session.specs.declared.timers.TimerKind.{TimerKind}
use Rattle.session.specs.declared.timers.TimerKind.TheVariants.{T3396, T3584, T3585}
use Rattle.session.specs.declared.timers.TimerRule.{TimerRule}
use Rattle.session.specs.declared.timers.TimerRule.TheVariants.{NoMark, Mark, LiftAll}
use Rattle.timers.specs.declared.timers.Timers.{Timers}
use Rattle.timers.specs.declared.timers.methods.TimersOn.{TimersOn}
use Rattle.keys.specs.KeyParts.{name_key, slice_name_key, slice_key}

pub record TimersView : Type 0 where
  pub t3396 : List (Bar KeyOctets)
  pub t3584 : List (Bar KeyOctets)
  pub t3585 : List (Bar KeyOctets)

abbrev pub timers_view : Timers → TimersView
timers_view t = record { t3396 = shown name_key_octets t.t3396.places; t3584 = shown slice_name_key_octets t.t3584.places; t3585 = shown slice_key_octets t.t3585.places }

-- a table of free places
abbrev pub free_places : KeyOctets → List (Bar KeyOctets)
free_places k = replicate place_count (record { key = k; timer = Stopped })

abbrev pub no_parts : KeyOctets
no_parts = record { network = 0 ∷ 0 ∷ 0 ∷ []; slice = []; name = [] }

-- all timers are stopped
abbrev pub no_timers : TimersView
no_timers = record { t3396 = free_places (name_key no_parts); t3584 = free_places (slice_name_key no_parts); t3585 = free_places (slice_key no_parts) }

-- the three timers on the keys of some parts
abbrev pub timers_on : TimersView → KeyOctets → TimersOn
timers_on v k = record { t3396 = timer_on v.t3396 (name_key k); t3584 = timer_on v.t3584 (slice_name_key k); t3585 = timer_on v.t3585 (slice_key k) }

-- the first of T3396, T3584 and T3585 that stands on its key
abbrev pub barred_by : TimersView → KeyOctets → Option TimerKind
barred_by v k =
    cond (stands (timer_on v.t3396 (name_key k))) (Some T3396)
    (cond (stands (timer_on v.t3584 (slice_name_key k))) (Some T3584)
    (cond (stands (timer_on v.t3585 (slice_key k))) (Some T3585) None))

-- after some seconds
abbrev pub counted_timers : ℕ → TimersView → TimersView
counted_timers s v = record { t3396 = counted_off s v.t3396; t3584 = counted_off s v.t3584; t3585 = counted_off s v.t3585 }

-- the deactivated bars are lifted
abbrev pub activated_timers : TimersView → TimersView
activated_timers v = record { t3396 = deactivated_lifted v.t3396; t3584 = deactivated_lifted v.t3584; t3585 = deactivated_lifted v.t3585 }

-- what a timer octet does to the timer on a key: zero lifts it, seconds and deactivation are imposed
abbrev pub set_on : TimerValue → KeyOctets → List (Bar KeyOctets) → List (Bar KeyOctets)
set_on value.Zero k bs = lifted k bs
set_on (value.Seconds n) k bs = imposed k (Running n) bs
set_on value.Deactivated k bs = imposed k Deactivated bs

-- a mark on the key of one kind
abbrev pub marked : TimerKind → TimerValue → KeyOctets → TimersView → TimersView
marked T3396 v k t = record { t3396 = set_on v (name_key k) t.t3396; t3584 = t.t3584; t3585 = t.t3585 }
marked T3584 v k t = record { t3396 = t.t3396; t3584 = set_on v (slice_name_key k) t.t3584; t3585 = t.t3585 }
marked T3585 v k t = record { t3396 = t.t3396; t3584 = t.t3584; t3585 = set_on v (slice_key k) t.t3585 }

-- what a message that took effect does to the timers on its session's keys
abbrev pub ruled : TimerRule → KeyOctets → TimersView → TimersView
ruled NoMark k t = t
ruled (Mark kind v) k t = marked kind v k t
ruled LiftAll k t = record { t3396 = lifted (name_key k) t.t3396; t3584 = lifted (slice_name_key k) t.t3584; t3585 = lifted (slice_key k) t.t3585 }

-- at most 32 different keys of each kind are claimed, by bars or by others that have these keys
abbrev pub room_in : TimersView → List KeyOctets → List KeyOctets → List KeyOctets → Bool
room_in v names slice_names slices =
    nat_le (claimed v.t3396 names) place_count && (nat_le (claimed v.t3584 slice_names) place_count && nat_le (claimed v.t3585 slices) place_count)
