use Rattle.axe_algebra.specs.Bridge.{field_of}
use Rattle.axe_polynomial_algebra.proofs.VectorRows.{irreducible_gives_independent_rows}
use Rattle.axe_polynomial_algebra.proofs.rule.irreducible_gives_independent_rows.Goals as goal

pub returns : goal.returns
returns c K = irreducible_gives_independent_rows (field_of K)
