use Rattle.axe_algebra.specs.Bridge.{field_of}
use Rattle.axe_algebra.proofs.Matching.{standard_matrices_of_unit, unit_is_null_vector}
use Rattle.axe_algebra.proofs.standard.standard_matrices_of_unit_vector.Goals as goal

pub returns-clause-standard : goal.returns-clause-standard
returns-clause-standard c K = standard_matrices_of_unit (field_of K)

pub returns-clause-null : goal.returns-clause-null
returns-clause-null c K = unit_is_null_vector (field_of K)
