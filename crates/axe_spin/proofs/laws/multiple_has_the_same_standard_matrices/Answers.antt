use Rattle.axe_spin.proofs.StandardImages.{multiple_has_same_matrices}
use Rattle.axe_spin.proofs.laws.multiple_has_the_same_standard_matrices.Goals as goal

pub returns : goal.returns
returns c = multiple_has_same_matrices
