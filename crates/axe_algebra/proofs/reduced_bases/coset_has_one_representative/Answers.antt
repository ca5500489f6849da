use Rattle.axe_algebra.specs.Bridge.{field_of}
use Rattle.axe_algebra.proofs.ReducedBases.{representative, representative_is_unique}
use Rattle.axe_algebra.proofs.reduced_bases.coset_has_one_representative.Goals as goal

pub returns-clause-some : goal.returns-clause-some
returns-clause-some c K = representative (field_of K)

pub returns-clause-only : goal.returns-clause-only
returns-clause-only c K = representative_is_unique (field_of K)
