use Rattle.std.proofs.Common.{◌≡◌, ap, ◌∙◌, sym, subst}
use Rattle.requests.specs.State.{StateView}
use Rattle.requests.specs.SoundViews.{sound_view}
use Rattle.requests.proofs.Holding.{Holds, held}
use Rattle.sessions.specs.Table.{sessions_view}
use Rattle.readings.specs.Turns.{tally_by, with_turn, expired_on}
use Rattle.readings.proofs.Expiring.{expired_holds}
use Rattle.readings.proofs.expire.Goals as goal

pub invariant_of-state : goal.invariant_of-state
invariant_of-state c =
    let state = c.args.state.now in
    let s = sound_view state in
    let sessions = c.count-expiry.ensures.after in
    let tally = c.tally_by-state.ensures ∙ ap (λ e. tally_by e s.tally) c.count-expiry.ensures.answer in
    let after : ◌≡◌ {A = StateView} (with_turn (sessions_view c.count-expiry.new.self) c.tally_by-state.result s) (expired_on c.args.identity c.args.seconds s) =
    λ j. with_turn (sessions j) (tally j) s in
    let h = subst Holds (sym after) (expired_holds c.args.identity c.args.seconds s (held state)) in
    record { differ = h.differ; lawful = h.lawful; claims = h.claims; few = h.few; sums = h.sums }
