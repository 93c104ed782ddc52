use Rattle.std.proofs.Common.{sym, ap, ◌∙◌, subst}
use Rattle.bars.specs.Bars.{shown, apart, has_place}
use Rattle.bars.specs.Laws.{Imposes}
use Rattle.bars.proofs.Changes.{imposes}
use Rattle.bars.proofs.table.Table.impose.Goals as goal

pub invariant_of-self : goal.invariant_of-self
invariant_of-self g c =
    let self = c.args.self.now in
    let p = c.impose_in.ensures in
    record {
      full = p.len ∙ self.full;
      apart = ap apart p.after ∙ (imposes (g.K.Key.octets c.args.key) c.args.timer (shown g.K.Key.octets self.places) self.apart).sound;
    }

pub returns-clause-law : goal.returns-clause-law
returns-clause-law g c =
    let octets = g.K.Key.octets in
    let k = octets c.args.key in
    let t = c.args.timer in
    let bs = shown octets c.args.self.now.places in
    let p = c.impose_in.ensures in
    subst (λ r. Imposes k t r bs (shown octets c.impose_in.new.bars)) (sym p.answer) (subst (Imposes k t (has_place k bs) bs) (sym p.after) (imposes k t bs))
