use Rattle.axe_algebra.specs.Bridge.{field_of}
use Rattle.axe_algebra.proofs.StandardBases.{standard_dimension_is_unique, standard_matrices_are_unique}
use Rattle.axe_algebra.proofs.standard.vector_has_one_family_of_standard_matrices.Goals as goal

pub returns-clause-dimension : goal.returns-clause-dimension
returns-clause-dimension c K = standard_dimension_is_unique (field_of K)

pub returns-clause-matrices : goal.returns-clause-matrices
returns-clause-matrices c K = standard_matrices_are_unique (field_of K)
