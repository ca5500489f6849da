use Rattle.axe_algebra.specs.Bridge.{field_of}
use Rattle.axe_algebra.proofs.ReducedBases.{zero_at_pivots_is_zero}
use Rattle.axe_algebra.proofs.reduced_bases.zero_at_pivots_is_zero.Goals as goal

pub returns : goal.returns
returns c K = zero_at_pivots_is_zero (field_of K)
