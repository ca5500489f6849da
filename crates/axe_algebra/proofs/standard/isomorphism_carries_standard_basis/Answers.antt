use Rattle.axe_algebra.specs.Bridge.{field_of}
use Rattle.axe_algebra.proofs.StandardImages.{isomorphism_carries_standard_basis, isomorphism_keeps_standard_matrices}
use Rattle.axe_algebra.proofs.standard.isomorphism_carries_standard_basis.Goals as goal

pub returns-clause-basis : goal.returns-clause-basis
returns-clause-basis c K = isomorphism_carries_standard_basis (field_of K)

pub returns-clause-matrices : goal.returns-clause-matrices
returns-clause-matrices c K = isomorphism_keeps_standard_matrices (field_of K)
