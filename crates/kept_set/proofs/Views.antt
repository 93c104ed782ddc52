-- The tables of the timers of a handset are full.
use Rattle.timers.specs.declared.timers.Timers.{Timers}
use Rattle.timers.specs.Timers.{timers_view}
use Rattle.timers.proofs.Places.{names_full, slice_names_full, slices_full}
use Rattle.kept_set.specs.Laws.{FullTimers}

pub view_full : (t : Timers) → FullTimers (timers_view t)
view_full t = record { t3396 = names_full t; t3584 = slice_names_full t; t3585 = slices_full t }
