use Rattle.std.proofs.Common.{rules}
use Rattle.axe_row.proofs.scaling.rotate.Goals as goal

pub returns-then-with_squares : goal.returns-then-with_squares
returns-then-with_squares c = search rules

pub returns-else-with_squares : goal.returns-else-with_squares
returns-else-with_squares c = search rules
