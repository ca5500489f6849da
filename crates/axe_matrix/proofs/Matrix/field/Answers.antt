use Rattle.std.proofs.Common.{rules}
use Rattle.axe_matrix.proofs.Matrix.field.Goals as goal

pub returns-clause-order : goal.returns-clause-order
returns-clause-order c = search rules
