use Rattle.axe_algebra.specs.Bridge.{field_of}
use Rattle.axe_algebra.proofs.NullSpaces.{null_space_basis}
use Rattle.axe_algebra.proofs.norton.null_space_has_a_basis.Goals as goal

pub returns : goal.returns
returns c K = null_space_basis (field_of K)
