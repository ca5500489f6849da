use Rattle.axe_algebra.specs.Bridge.{field_of}
use Rattle.axe_algebra.proofs.ReducedBases.{reduced_size_is_unique, reduced_is_unique}
use Rattle.axe_algebra.proofs.reduced_bases.reduced_basis_is_unique.Goals as goal

pub returns-clause-size : goal.returns-clause-size
returns-clause-size c K = reduced_size_is_unique (field_of K)

pub returns-clause-rows : goal.returns-clause-rows
returns-clause-rows c K = reduced_is_unique (field_of K)
