use Rattle.axe_algebra.specs.Bridge.{field_of}
use Rattle.axe_algebra.proofs.ReducedBases.{reduced_basis_exists}
use Rattle.axe_algebra.proofs.reduced_bases.every_span_has_a_reduced_basis.Goals as goal

pub returns : goal.returns
returns c K = reduced_basis_exists (field_of K)
