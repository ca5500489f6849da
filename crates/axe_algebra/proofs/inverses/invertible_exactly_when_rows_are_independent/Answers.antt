use Rattle.axe_algebra.specs.Bridge.{field_of}
use Rattle.axe_algebra.proofs.SquareMatrices.{rows_criterion}
use Rattle.axe_algebra.proofs.inverses.invertible_exactly_when_rows_are_independent.Goals as goal

pub returns : goal.returns
returns c K = rows_criterion (field_of K)
