use Rattle.std.proofs.Common.{◌≡◌, ℕ, ◌<◌, List, [], length, get_or, set, arith, rules}
use Rattle.std.proofs.lemmas.Grind.{elements}
use Rattle.keeper.specs.Sizes.{record_count, record_length}
use Rattle.keeper.proofs.flat_image.FlatImageKeeper.write.Goals as goal

-- each record has its length still
sized : (records : List (List ℕ)) (n : ℕ) (new : List ℕ) → n < length records → length new ≡ record_length
    → ((k : ℕ) → k < record_count → length (get_or records k []) ≡ record_length)
    → (k : ℕ) → k < record_count → length (get_or (set records n new) k []) ≡ record_length
sized records n new within long old k lt = grind (arith, elements)

pub invariant_of-self-clause-sizes : goal.invariant_of-self-clause-sizes
invariant_of-self-clause-sizes c =
    let within : c.args.number < record_count = search rules in
    sized c.args.self.now.records c.from.result c.unwrap.result (omega arith) (omega arith) c.args.self.now.sizes
