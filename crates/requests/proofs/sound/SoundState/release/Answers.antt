use Rattle.requests.specs.Decisions.{release_stop}
use Rattle.requests.specs.LettingOut.{let_out_release}
use Rattle.requests.specs.SoundViews.{sound_view}
use Rattle.requests.specs.State.{state_view}
use Rattle.requests.proofs.Holding.{held, holds_asked, holds_releasing}
use Rattle.requests.proofs.sound.SoundState.release.Goals as goal

pub invariant_of-self : goal.invariant_of-self
invariant_of-self c =
    let self = c.args.self.now in
    let s = sound_view self in
    let i = c.args.identity in
    let n = c.args.waiting in
    let e = c.release.ensures in
    let after = holds_asked c.release.result (release_stop s i n) (let_out_release i) s (state_view c.release.new.self) e.stop e.pti e.state (held self) (holds_releasing s i n (held self)) in
    record { differ = after.differ; lawful = after.lawful; claims = after.claims; few = after.few; sums = after.sums }
