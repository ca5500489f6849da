use Rattle.axe_algebra.specs.Bridge.{field_of}
use Rattle.axe_algebra.proofs.Isomorphisms.{standard_basis_is_isomorphism}
use Rattle.axe_algebra.proofs.standard.standard_basis_is_isomorphism.Goals as goal

pub returns : goal.returns
returns c K = standard_basis_is_isomorphism (field_of K)
