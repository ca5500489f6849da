use Rattle.axe_algebra.specs.Bridge.{field_of}
use Rattle.axe_polynomial_algebra.proofs.Cofactors.{cofactor_is_monic}
use Rattle.axe_polynomial_algebra.proofs.division.cofactor_is_monic.Goals as goal

pub returns : goal.returns
returns c K = cofactor_is_monic (field_of K)
