use Rattle.axe_algebra.specs.Bridge.{field_of}
use Rattle.axe_algebra.proofs.Annihilators.{null_of_transpose_is_orthogonal}
use Rattle.axe_algebra.proofs.norton.null_vector_of_transpose_is_orthogonal.Goals as goal

pub returns : goal.returns
returns c K = null_of_transpose_is_orthogonal (field_of K)
