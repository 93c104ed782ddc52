-- What is kept at the places of the three tables.
use Rattle.std.proofs.Common.{◌≡◌, ℕ, zero, suc, List, [], ◌∷◌, length, Some, None, Option, refl, ap, ◌∙◌}
use Rattle.std.specs.List.{slice_get}
use Rattle.std.proofs.lemmas.List.{length-map}
use Rattle.keys.specs.Octets.{KeyOctets}
use Rattle.bars.specs.declared.bar.Bar.{Bar}
use Rattle.bars.specs.Sizes.{place_count}
use Rattle.bars.specs.Bars.{bar_octets}
use Rattle.keys.specs.Sames.{name_key_octets, slice_name_key_octets, slice_key_octets}
use Rattle.timers.specs.declared.timers.Timers.{Timers}
use Rattle.timers.specs.Timers.{timers_view}
use Rattle.timers.specs.Kept.{kept_bar, kept_at}

-- each table has 32 places
pub names_full : (t : Timers) → length (timers_view t).t3396 ≡ place_count
names_full t = length-map t.t3396.places (bar_octets name_key_octets) ∙ t.t3396.full

pub slice_names_full : (t : Timers) → length (timers_view t).t3584 ≡ place_count
slice_names_full t = length-map t.t3584.places (bar_octets slice_name_key_octets) ∙ t.t3584.full

pub slices_full : (t : Timers) → length (timers_view t).t3585 ≡ place_count
slices_full t = length-map t.t3585.places (bar_octets slice_key_octets) ∙ t.t3585.full

-- what is kept at a place is what is kept of the bar there
pub at_bar : (kind : ℕ) (bs : List (Bar KeyOctets)) (place : ℕ) (b : Bar KeyOctets) → ◌≡◌ {A = Option (Bar KeyOctets)} (Some b) (slice_get bs place) → kept_at kind bs place ≡ kept_bar kind b
at_bar kind [] place b e = cc
at_bar kind (x ∷ xs) zero b e = let same : x ≡ b = cc in ap (kept_bar kind) same
at_bar kind (x ∷ xs) (suc i) b e = at_bar kind xs i b e

pub at_none : (kind : ℕ) (bs : List (Bar KeyOctets)) (place : ℕ) → ◌≡◌ {A = Option (Bar KeyOctets)} None (slice_get bs place) → kept_at kind bs place ≡ None
at_none kind [] place e = refl
at_none kind (x ∷ xs) zero e = cc
at_none kind (x ∷ xs) (suc i) e = at_none kind xs i e
