use Rattle.axe_algebra.specs.Bridge.{field_of}
use Rattle.axe_polynomial_algebra.proofs.Cofactors.{divides_trans}
use Rattle.axe_polynomial_algebra.proofs.division.divides_is_transitive.Goals as goal

pub returns : goal.returns
returns c K = divides_trans (field_of K)
