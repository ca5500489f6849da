use Rattle.axe_call_tests.proofs.SubspaceShapes.{HasShapeOf}
use Rattle.axe_call_tests.proofs.echelons.subspace_of.Given as goal

abbrev pub invariant-loop-index : goal.invariant-loop-index
invariant-loop-index l = HasShapeOf l.rows l.space
