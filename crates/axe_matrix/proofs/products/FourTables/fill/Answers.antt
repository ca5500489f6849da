use Rattle.std.proofs.Common.{rules}
use Rattle.axe_matrix.proofs.products.FourTables.fill.Goals as goal

pub returns-clause-combine : goal.returns-clause-combine
returns-clause-combine c = search rules
