use Rattle.axe_spin.proofs.StandardImages.{isomorphism_carries_matrix}
use Rattle.axe_spin.proofs.laws.isomorphism_carries_standard_basis.Goals as goal

pub returns : goal.returns
returns c = isomorphism_carries_matrix
