use Rattle.requests.specs.Decisions.{modify_stop}
use Rattle.requests.specs.LettingOut.{let_out_modification}
use Rattle.requests.specs.SoundViews.{sound_view}
use Rattle.requests.specs.State.{state_view}
use Rattle.requests.proofs.Holding.{held, holds_asked, holds_modifying}
use Rattle.requests.proofs.sound.SoundState.modify.Goals as goal

pub invariant_of-self : goal.invariant_of-self
invariant_of-self c =
    let self = c.args.self.now in
    let s = sound_view self in
    let i = c.args.identity in
    let n = c.args.waiting in
    let e = c.modify.ensures in
    let after = holds_asked c.modify.result (modify_stop s i n) (let_out_modification i) s (state_view c.modify.new.self) e.stop e.pti e.state (held self) (holds_modifying s i n (held self)) in
    record { differ = after.differ; lawful = after.lawful; claims = after.claims; few = after.few; sums = after.sums }
