use Rattle.axe_echelon.proofs.InverseLaws.{HasFirstRows}
use Rattle.axe_memory_tests.proofs.values.assert_independent.Given as goal

abbrev pub invariant-loop-index : goal.invariant-loop-index
invariant-loop-index g l = HasFirstRows l.matrix l.index l.span
