use Rattle.axe_poly.specs.Tables.{AreFactorsAmong}
use Rattle.axe_poly.proofs.irreducibles.Irreducibles.factors_of_degree.Given as goal

abbrev pub invariant-loop-index : goal.invariant-loop-index
invariant-loop-index l = AreFactorsAmong l.self l.poly l.degree l.index l.factors.items
