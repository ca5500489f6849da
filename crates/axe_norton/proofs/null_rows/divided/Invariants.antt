use Rattle.std.proofs.Common.{◌+◌}
use Rattle.axe_polynomial_algebra.specs.PolynomialsOfLists.{degree_of}
use Rattle.axe_norton.specs.Misfits.{IsRowLike}
use Rattle.axe_norton.proofs.null_rows.divided.Given as goal

abbrev pub invariant-loop-place : goal.invariant-loop-place
invariant-loop-place l = IsRowLike l.multiple.order (degree_of l.multiple.coefficients + 1) l.rest
