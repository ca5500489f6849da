use Rattle.std.proofs.Common.{◌≡◌}
use Rattle.axe_poly.specs.Polys.{AreFactors}
use Rattle.axe_poly.proofs.factors.factors_up_to.Given as goal

abbrev pub invariant-loop-found : goal.invariant-loop-found
invariant-loop-found l = record {
  field : l.irreducibles.order ≡ l.poly.order;
  degree : l.irreducibles.degree ≡ l.found;
  factors : AreFactors l.poly l.found l.factors.items;
}
