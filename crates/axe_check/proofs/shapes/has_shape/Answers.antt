use Rattle.std.proofs.Common.{rules}
use Rattle.axe_check.proofs.shapes.has_shape.Goals as goal

pub returns-then-matrices-gens : goal.returns-then-matrices-gens
returns-then-matrices-gens c = search rules
