use Rattle.axe_algebra.specs.Bridge.{field_of}
use Rattle.axe_algebra.proofs.Annihilators.{annihilator_rows_are_invariant}
use Rattle.axe_algebra.proofs.Duality.{annihilator_of_transposed_span}
use Rattle.axe_algebra.proofs.norton.annihilator_is_invariant.Goals as goal

pub returns-clause-transposes : goal.returns-clause-transposes
returns-clause-transposes c K = annihilator_rows_are_invariant (field_of K)

pub returns-clause-back : goal.returns-clause-back
returns-clause-back c K = annihilator_of_transposed_span (field_of K)
