use Rattle.std.proofs.Common.{Some, refl, sym, ap, ◌∙◌}
use Rattle.std.specs.Option.{option_map}
use Rattle.sessions.proofs.Steps.{session_read, changed_at}
use Rattle.sessions.proofs.table.Sessions.act.Goals as goal

pub returns : goal.returns
returns g c =
    let t = c.args.self.now in
    let place = sym c.in_ok-place.was ∙ c.place_of.ensures in
    let there = c.index-self-place in
    record {
      answer = λ tell told.
          ap (λ r. Some r) (told _ _ _ (record { shown = _; shows = refl; left = _; met = c.act-answer.ensures; leaves = refl }))
          ∙ ap (option_map tell) (session_read t.records t.full c.in_ok-place.place c.args.identity place there.result there.is);
      after = λ rule goes.
          changed_at t.records t.full c.in_ok-place.place c.args.identity place there.result there.is c.act-answer.new.arg2 rule
          (goes _ _ _ (record { shown = _; shows = refl; left = _; met = c.act-answer.ensures; leaves = refl }));
    }
