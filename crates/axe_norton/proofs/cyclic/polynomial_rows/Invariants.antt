use Rattle.std.proofs.Common.{◌≤◌, ◌-◌, length}
use Rattle.axe_polynomial_algebra.specs.PolynomialsOfLists.{degree_of}
use Rattle.axe_norton.specs.ValueSpaces.{ArePolynomialRows}
use Rattle.axe_norton.proofs.cyclic.polynomial_rows.Given as goal

abbrev pub invariant-loop-start : goal.invariant-loop-start
invariant-loop-start l = record {
  rows : ArePolynomialRows l.basis l.poly l.start l.rows;
  within : l.start ≤ length l.basis.rows - degree_of l.poly.coefficients;
}
