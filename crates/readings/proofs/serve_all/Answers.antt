use Rattle.std.proofs.Common.{◌+◌, ◌<◌, take, drop, sym, subst, arith}
use Rattle.requests.specs.SoundViews.{sound_view}
use Rattle.sessions.proofs.Steps.{sessions_full}
use Rattle.readings.proofs.Serving.{Turned, turn_at}
use Rattle.readings.proofs.serve_all.Goals as goal

pub loop-place-preserved : goal.loop-place-preserved
loop-place-preserved g c =
    let state = c.args.state.now in
    let s = sound_view state in
    let w = g.U.Uplink.waiting c.args.uplink.now in
    let full = sessions_full state.plain.sessions in
    let less : c.loop-place.place < 15 = omega arith in
    subst (Turned c.args.seconds s w (take (c.loop-place.place + 1) s.sessions) (drop (c.loop-place.place + 1) s.sessions) (sound_view c.serve-turn.new.state) (g.U.Uplink.waiting c.serve-turn.new.uplink))
    (sym c.sum_of-answer.ensures)
    (turn_at c.args.seconds c.loop-place.place s w (sound_view c.loop-place.state) (g.U.Uplink.waiting c.loop-place.uplink) c.loop-place.answer
    (sound_view c.serve-turn.new.state) (g.U.Uplink.waiting c.serve-turn.new.uplink) c.serve-turn.result full less c.loop-place.invariant
    c.serve-turn.ensures.answer c.serve-turn.ensures.state c.serve-turn.ensures.queue)
