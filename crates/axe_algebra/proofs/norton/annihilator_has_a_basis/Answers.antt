use Rattle.axe_algebra.specs.Bridge.{field_of}
use Rattle.axe_algebra.proofs.NullSpaces.{annihilator_basis}
use Rattle.axe_algebra.proofs.norton.annihilator_has_a_basis.Goals as goal

pub returns : goal.returns
returns c K = annihilator_basis (field_of K)
