use Rattle.std.proofs.Common.{◌≡◌, ◌-◌, take, drop}
use Rattle.timers.specs.Timers.{timers_view, no_timers}
use Rattle.kept_set.specs.Trailer.{trailer_number, last_records}
use Rattle.kept_set.specs.Loading.{loaded}
use Rattle.kept_set.proofs.load.load_last.Given as goal

abbrev pub invariant-loop-number : goal.invariant-loop-number
invariant-loop-number g l =
    let records = g.K.Keeper.records l.keeper in
    loaded (take (trailer_number - l.number) (drop l.number records)) (timers_view l.timers) ≡ loaded (last_records l.n records) no_timers
