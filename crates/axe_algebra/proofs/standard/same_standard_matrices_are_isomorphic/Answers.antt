use Rattle.axe_algebra.specs.Bridge.{field_of}
use Rattle.axe_algebra.proofs.Isomorphisms.{isomorphic_of_standard_matrices, isomorphism_of_bases}
use Rattle.axe_algebra.proofs.standard.same_standard_matrices_are_isomorphic.Goals as goal

pub returns-clause-isomorphic : goal.returns-clause-isomorphic
returns-clause-isomorphic c K = isomorphic_of_standard_matrices (field_of K)

pub returns-clause-by_bases : goal.returns-clause-by_bases
returns-clause-by_bases c K = isomorphism_of_bases (field_of K)
