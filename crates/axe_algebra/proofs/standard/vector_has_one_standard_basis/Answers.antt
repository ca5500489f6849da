use Rattle.axe_algebra.specs.Bridge.{field_of}
use Rattle.axe_algebra.proofs.StandardExistence.{standard_basis_exists}
use Rattle.axe_algebra.proofs.StandardBases.{standard_basis_size_is_unique, standard_basis_is_unique}
use Rattle.axe_algebra.proofs.standard.vector_has_one_standard_basis.Goals as goal

pub returns-clause-some : goal.returns-clause-some
returns-clause-some c K = standard_basis_exists (field_of K)

pub returns-clause-size : goal.returns-clause-size
returns-clause-size c K = standard_basis_size_is_unique (field_of K)

pub returns-clause-rows : goal.returns-clause-rows
returns-clause-rows c K = standard_basis_is_unique (field_of K)
