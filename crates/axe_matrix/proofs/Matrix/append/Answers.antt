use Rattle.std.proofs.Common.{rules}
use Rattle.axe_matrix.proofs.Matrix.append.Goals as goal

pub returns-clause-appended : goal.returns-clause-appended
returns-clause-appended c = search rules

pub returns-clause-unchanged : goal.returns-clause-unchanged
returns-clause-unchanged c = search rules
