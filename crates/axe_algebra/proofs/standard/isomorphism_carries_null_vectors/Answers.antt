use Rattle.axe_algebra.specs.Bridge.{field_of}
use Rattle.axe_algebra.proofs.StandardImages.{isomorphism_carries_null_vectors}
use Rattle.axe_algebra.proofs.standard.isomorphism_carries_null_vectors.Goals as goal

pub returns : goal.returns
returns c K = isomorphism_carries_null_vectors (field_of K)
