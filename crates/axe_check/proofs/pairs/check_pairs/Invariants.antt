use Rattle.axe_check.specs.Steps.{AreApartTo}
use Rattle.axe_check.proofs.pairs.check_pairs.Given as goal

abbrev pub invariant-loop-first : goal.invariant-loop-first
invariant-loop-first l = AreApartTo l.factors l.first
