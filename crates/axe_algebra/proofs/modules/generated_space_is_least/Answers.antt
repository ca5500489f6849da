use Rattle.axe_algebra.specs.Bridge.{field_of}
use Rattle.axe_algebra.proofs.Generated.{generated_is_invariant, row_in_generated, generated_within, spans_generated_exactly}
use Rattle.axe_algebra.proofs.modules.generated_space_is_least.Goals as goal

pub returns-clause-invariant : goal.returns-clause-invariant
returns-clause-invariant c K = generated_is_invariant (field_of K)

pub returns-clause-rows : goal.returns-clause-rows
returns-clause-rows c K = row_in_generated (field_of K)

pub returns-clause-least : goal.returns-clause-least
returns-clause-least c K = generated_within (field_of K)

pub returns-clause-spans : goal.returns-clause-spans
returns-clause-spans c K = spans_generated_exactly (field_of K)
