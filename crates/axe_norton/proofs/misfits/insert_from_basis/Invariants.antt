use Rattle.axe_norton.specs.Misfits.{AreNullRows}
use Rattle.axe_norton.proofs.misfits.insert_from_basis.Given as goal

abbrev pub invariant-loop-place : goal.invariant-loop-place
invariant-loop-place l = AreNullRows l.matrix l.poly l.found
