use Rattle.axe_spin.proofs.ModuleLaws.{AreGenerators}
use Rattle.axe_spin.proofs.module.Module.new.Given as goal

abbrev pub invariant-loop-matrix : goal.invariant-loop-matrix
invariant-loop-matrix l = AreGenerators l.field l.dim l.matrix-items l.matrix-index
