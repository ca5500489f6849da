use Rattle.axe_algebra.specs.Bridge.{field_of}
use Rattle.axe_algebra.proofs.Elimination.{eliminate}
use Rattle.axe_algebra.proofs.spans.rows_are_dependent_or_few.Goals as goal

pub returns : goal.returns
returns c K = eliminate (field_of K)
