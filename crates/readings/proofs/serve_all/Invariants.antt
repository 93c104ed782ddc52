use Rattle.std.proofs.Common.{take, drop}
use Rattle.requests.specs.SoundViews.{sound_view}
use Rattle.readings.proofs.Serving.{Turned}
use Rattle.readings.proofs.serve_all.Given as goal

-- the sessions served so far have had their turns
abbrev pub invariant-loop-place : goal.invariant-loop-place
invariant-loop-place g l =
    Turned l.seconds (sound_view l.initial.state) (g.U.Uplink.waiting l.initial.uplink) (take l.place (sound_view l.initial.state).sessions) (drop l.place (sound_view l.initial.state).sessions)
    (sound_view l.state) (g.U.Uplink.waiting l.uplink) l.answer
