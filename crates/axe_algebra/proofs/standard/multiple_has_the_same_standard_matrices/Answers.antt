use Rattle.axe_algebra.specs.Bridge.{field_of}
use Rattle.axe_algebra.proofs.StandardImages.{multiple_keeps_standard_matrices}
use Rattle.axe_algebra.proofs.standard.multiple_has_the_same_standard_matrices.Goals as goal

pub returns : goal.returns
returns c K = multiple_keeps_standard_matrices (field_of K)
