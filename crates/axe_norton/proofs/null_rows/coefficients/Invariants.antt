use Rattle.std.proofs.Common.{◌+◌}
use Rattle.axe_polynomial_algebra.specs.PolynomialsOfLists.{degree_of}
use Rattle.axe_norton.specs.Misfits.{IsRowLike}
use Rattle.axe_norton.proofs.null_rows.coefficients.Given as goal

abbrev pub invariant-loop-exponent : goal.invariant-loop-exponent
invariant-loop-exponent l = IsRowLike l.poly.order (degree_of l.poly.coefficients + 1) l.row
