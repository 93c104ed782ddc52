use Rattle.std.proofs.Common.{◌∙◌}
use Rattle.bars.proofs.Distincts.{among_any}
use Rattle.bars.proofs.claimed.is_among.Goals as goal

pub returns : goal.returns
returns g c =
    let octets = g.K.Key.octets in
    let key = c.args.key.now in
    c.contains.ensures.value ∙ among_any octets (octets key) (λ x. g.K.PartialEq.eq x key) (λ x. g.met.K.Key.spelled x key) c.args.keys.now
