use Rattle.std.proofs.Common.{◌≡◌, length, ap, ◌∙◌, arith}
use Rattle.timers.specs.declared.timers.Timers.{Timers}
use Rattle.timers.specs.Timers.{timers_view}
use Rattle.timers.specs.Kept.{kept_places}
use Rattle.timers.proofs.Places.{names_full, slice_names_full, slices_full}
use Rattle.kept_set.specs.Trailer.{trailer_number}
use Rattle.kept_set.specs.Storing.{kept_bars, number_before, put_before}
use Rattle.kept_set.proofs.Stores.{kept_present, places_count, put_none, put_more, put_room, put_end}
use Rattle.kept_set.proofs.store.store_bars.Goals as goal

full : (t : Timers) → length (kept_places (timers_view t)) ≡ trailer_number
full t = places_count (timers_view t) (names_full t) (slice_names_full t) (slices_full t)

pub loop-place-init : goal.loop-place-init
loop-place-init g c =
    let t = c.args.timers.now in
    let size = full t in
    put_none (g.K.Keeper.records c.args.keeper.now) (kept_places (timers_view t)) 96 (omega arith)

pub put_before-first-requires-clause-first : goal.put_before-first-requires-clause-first
put_before-first-requires-clause-first g c =
    let t = c.args.timers.now in
    let old = g.K.Keeper.records c.args.keeper.now in
    let count = g.met.K.Keeper.count c.args.keeper.now in
    let inv = c.loop-place.invariant in
    let n = inv.count in
    put_room old (kept_places (timers_view t)) (full t) (omega arith) c.loop-place.place c.loop-place.first (g.K.Keeper.records c.loop-place.keeper) (omega arith) (omega arith) inv c.running_at.result c.running_at.ensures

pub loop-place-preserved : goal.loop-place-preserved
loop-place-preserved g c =
    let t = c.args.timers.now in
    let old = g.K.Keeper.records c.args.keeper.now in
    let count = g.met.K.Keeper.count c.args.keeper.now in
    let e = c.put_before-first.ensures in
    let there = c.running_at.ensures in
    put_more old (kept_places (timers_view t)) (full t) (omega arith) c.loop-place.place c.loop-place.first (g.K.Keeper.records c.loop-place.keeper) (omega arith) (omega arith) c.loop-place.invariant
    c.put_before-first.result (g.K.Keeper.records c.put_before-first.new.keeper)
    (e.answer ∙ ap (λ o. number_before o c.loop-place.first) there)
    (e.records ∙ ap (λ o. put_before o c.loop-place.first (g.K.Keeper.records c.loop-place.keeper)) there)

pub returns : goal.returns
returns g c =
    let t = c.args.timers.now in
    let p = put_end (g.K.Keeper.records c.args.keeper.now) (kept_places (timers_view t)) c.loop-place.place c.loop-place.first (g.K.Keeper.records c.loop-place.keeper) (kept_bars (timers_view t)) (omega arith) (kept_present (timers_view t)) c.loop-place.invariant in
    record { first = p.0; records = p.1 }
