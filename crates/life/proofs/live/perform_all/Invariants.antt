use Rattle.std.proofs.Common.{◌≡◌, map, take}
use Rattle.life.specs.Lives.{goes_on, filled}
use Rattle.life.specs.Said.{said, power_view}
use Rattle.life.proofs.live.perform_all.Given as goal

-- the calls so far were performed
abbrev pub invariant-loop-i : goal.invariant-loop-i
invariant-loop-i g l =
    (l.answers ≡ filled (goes_on (power_view g.U.Uplink.waiting g.K.Keeper.records l.initial.power) (map said (take l.i l.script))).replies l.i l.initial.answers)
    × (power_view g.U.Uplink.waiting g.K.Keeper.records l.power ≡ (goes_on (power_view g.U.Uplink.waiting g.K.Keeper.records l.initial.power) (map said (take l.i l.script))).handset)
