use Rattle.std.proofs.Common.{rules}
use Rattle.bars.specs.Bars.{reactivated}
use Rattle.bars.specs.Laws.{Reactivates}
use Rattle.bars.proofs.Changes.{reactivates}
use Rattle.bars.proofs.Tables.{still_full, still_apart, gone}
use Rattle.bars.proofs.table.Table.lift_deactivated.Goals as goal

pub invariant_of-self : goal.invariant_of-self
invariant_of-self g c =
    let self = c.args.self.now in
    let e = c.retime.ensures (λ _ t. reactivated t) (λ b t k. search rules) in
    record {
      full = still_full _ self.places c.retime.new.bars e self.full;
      apart = still_apart g.K.Key.octets (λ _ t. reactivated t) self.places c.retime.new.bars e (reactivates _ self.apart);
    }

pub returns : goal.returns
returns g c =
    let e = c.retime.ensures (λ _ t. reactivated t) (λ b t k. search rules) in
    let p = gone g.K.Key.octets (λ _ t. reactivated t) Reactivates reactivates c.args.self.now.places c.retime.new.bars e in
    record { after = p.0; law = p.1 }
