use Rattle.std.proofs.Common.{rules}
use Rattle.axe_matrix.proofs.Matrix.with_capacity.Goals as goal

pub returns-clause-no_rows : goal.returns-clause-no_rows
returns-clause-no_rows c = search rules
