use Rattle.std.proofs.Common.{[], ap, length}
use Rattle.std.proofs.lemmas.List.{get_or-replicate}
use Rattle.keeper.specs.Sizes.{record_count}
use Rattle.keeper.proofs.flat_image.FlatImage.new.Goals as goal

pub invariant_of-result-clause-sizes : goal.invariant_of-result-clause-sizes
invariant_of-result-clause-sizes c = λ k lt. ap length (get_or-replicate record_count k _ [] lt)
