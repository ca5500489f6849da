use Rattle.axe_norton.specs.NullRows.{AreFirstPowers}
use Rattle.axe_norton.proofs.null_rows.powers.Given as goal

abbrev pub invariant-loop-place : goal.invariant-loop-place
invariant-loop-place l = AreFirstPowers l.matrix l.fn.vector.entries l.place l.rows
