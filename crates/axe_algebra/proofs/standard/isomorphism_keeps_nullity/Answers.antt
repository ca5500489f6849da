use Rattle.axe_algebra.specs.Bridge.{field_of}
use Rattle.axe_algebra.proofs.Matching.{isomorphism_keeps_nonzero, isomorphism_keeps_nullity}
use Rattle.axe_algebra.proofs.standard.isomorphism_keeps_nullity.Goals as goal

pub returns-clause-nonzero : goal.returns-clause-nonzero
returns-clause-nonzero c K = isomorphism_keeps_nonzero (field_of K)

pub returns-clause-nullity : goal.returns-clause-nullity
returns-clause-nullity c K = isomorphism_keeps_nullity (field_of K)
