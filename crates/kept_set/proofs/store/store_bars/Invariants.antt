use Rattle.timers.specs.Timers.{timers_view}
use Rattle.timers.specs.Kept.{kept_places}
use Rattle.kept_set.proofs.Stores.{Put}
use Rattle.kept_set.proofs.store.store_bars.Given as goal

abbrev pub invariant-loop-place : goal.invariant-loop-place
invariant-loop-place g l = Put (g.K.Keeper.records l.initial.keeper) (kept_places (timers_view l.timers)) l.place l.first (g.K.Keeper.records l.keeper)
