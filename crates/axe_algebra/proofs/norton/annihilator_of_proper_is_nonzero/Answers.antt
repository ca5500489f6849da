use Rattle.axe_algebra.specs.Bridge.{field_of}
use Rattle.axe_algebra.proofs.Annihilators.{annihilator_rows_are_nonzero, annihilator_rows_are_proper}
use Rattle.axe_algebra.proofs.norton.annihilator_of_proper_is_nonzero.Goals as goal

pub returns-clause-nonzero : goal.returns-clause-nonzero
returns-clause-nonzero c K = annihilator_rows_are_nonzero (field_of K)

pub returns-clause-proper : goal.returns-clause-proper
returns-clause-proper c K = annihilator_rows_are_proper (field_of K)
