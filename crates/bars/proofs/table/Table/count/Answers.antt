use Rattle.std.proofs.Common.{rules}
use Rattle.backoff.specs.Timer.{counted}
use Rattle.bars.specs.Laws.{Counts}
use Rattle.bars.proofs.Changes.{counts}
use Rattle.bars.proofs.Tables.{still_full, still_apart, gone}
use Rattle.bars.proofs.table.Table.count.Goals as goal

pub invariant_of-self : goal.invariant_of-self
invariant_of-self g c =
    let seconds = c.args.seconds in
    let self = c.args.self.now in
    let e = c.retime.ensures (λ _ t. counted seconds t) (λ b t k. search rules) in
    record {
      full = still_full _ self.places c.retime.new.bars e self.full;
      apart = still_apart g.K.Key.octets (λ _ t. counted seconds t) self.places c.retime.new.bars e (counts seconds _ self.apart);
    }

pub returns : goal.returns
returns g c =
    let octets = g.K.Key.octets in
    let seconds = c.args.seconds in
    let e = c.retime.ensures (λ _ t. counted seconds t) (λ b t k. search rules) in
    let p = gone octets (λ _ t. counted seconds t) (Counts seconds) (counts seconds) c.args.self.now.places c.retime.new.bars e in
    record { after = p.0; law = p.1 }
