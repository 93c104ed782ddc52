use Rattle.std.proofs.Common.{rules}
use Rattle.bars.specs.Bars.{lifting}
use Rattle.bars.specs.Laws.{Lifts}
use Rattle.bars.proofs.Changes.{lifts}
use Rattle.bars.proofs.Tables.{still_full, still_apart, gone}
use Rattle.bars.proofs.table.Table.lift.Goals as goal

pub invariant_of-self : goal.invariant_of-self
invariant_of-self g c =
    let self = c.args.self.now in
    let key = g.K.Key.octets c.args.key.now in
    let e = c.retime.ensures (λ k t. lifting key (g.K.Key.octets k) t) (λ b t k. search rules) in
    record {
      full = still_full _ self.places c.retime.new.bars e self.full;
      apart = still_apart g.K.Key.octets (lifting key) self.places c.retime.new.bars e (lifts key _ self.apart);
    }

pub returns : goal.returns
returns g c =
    let key = g.K.Key.octets c.args.key.now in
    let e = c.retime.ensures (λ k t. lifting key (g.K.Key.octets k) t) (λ b t k. search rules) in
    let p = gone g.K.Key.octets (lifting key) (Lifts key) (lifts key) c.args.self.now.places c.retime.new.bars e in
    record { after = p.0; law = p.1 }
