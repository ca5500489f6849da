use Rattle.axe_word.proofs.ReducedNullSpaces.{reduced_if_answered}
use Rattle.axe_memory_tests.proofs.points.basis_of.Goals as goal

pub returns : goal.returns
returns c = reduced_if_answered _ _ c.null_space.result c.null_space.ensures.basis
