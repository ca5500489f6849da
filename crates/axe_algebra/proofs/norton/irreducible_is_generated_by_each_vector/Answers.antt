use Rattle.axe_algebra.specs.Bridge.{field_of}
use Rattle.axe_algebra.proofs.Duality.{nonzero_vector_generates, transposed_is_irreducible}
use Rattle.axe_algebra.proofs.norton.irreducible_is_generated_by_each_vector.Goals as goal

pub returns-clause-vectors : goal.returns-clause-vectors
returns-clause-vectors c K = nonzero_vector_generates (field_of K)

pub returns-clause-transposes : goal.returns-clause-transposes
returns-clause-transposes c K = transposed_is_irreducible (field_of K)
