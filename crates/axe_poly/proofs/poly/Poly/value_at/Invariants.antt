use Rattle.std.proofs.Common.{drop}
use Rattle.axe_matrix.specs.Matrices.{IsMatrix}
use Rattle.axe_poly.specs.Polys.{IsValueAt}
use Rattle.axe_poly.proofs.poly.Poly.value_at.Given as goal

abbrev pub invariant-loop-exponent : goal.invariant-loop-exponent
invariant-loop-exponent l = record {
  value : IsValueAt (drop l.exponent l.self.coefficients) l.matrix l.value;
  well_formed : IsMatrix l.value;
}
