use Rattle.axe_algebra.specs.Bridge.{field_of}
use Rattle.axe_polynomial_algebra.proofs.VectorRows.{value_commutes}
use Rattle.axe_polynomial_algebra.proofs.values.value_commutes.Goals as goal

pub returns : goal.returns
returns c K = value_commutes (field_of K)
