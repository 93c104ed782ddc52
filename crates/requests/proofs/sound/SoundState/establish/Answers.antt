use Rattle.sessions.proofs.Steps.{sessions_full}
use Rattle.requests.specs.Decisions.{establish_stop}
use Rattle.requests.specs.LettingOut.{let_out_establishment}
use Rattle.requests.specs.SoundViews.{sound_view, lawful_view}
use Rattle.requests.specs.State.{state_view}
use Rattle.requests.proofs.Holding.{held, holds_asked, holds_establishing}
use Rattle.requests.proofs.sound.SoundState.establish.Goals as goal

pub invariant_of-self : goal.invariant_of-self
invariant_of-self c =
    let self = c.args.self.now in
    let s = sound_view self in
    let i = c.args.identity in
    let n = c.args.waiting in
    let w = lawful_view c.args.wanted.now in
    let e = c.establish.ensures in
    let left = holds_establishing s i n (held self) w c.args.wanted.now.lawful (sessions_full self.plain.sessions) in
    let after = holds_asked c.establish.result (establish_stop s i w n) (let_out_establishment i w) s (state_view c.establish.new.self) e.stop e.pti e.state (held self) left in
    record { differ = after.differ; lawful = after.lawful; claims = after.claims; few = after.few; sums = after.sums }
