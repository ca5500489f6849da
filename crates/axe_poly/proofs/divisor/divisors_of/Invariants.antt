use Rattle.std.proofs.Common.{◌≡◌, ◌++◌}
use Rattle.std.specs.Vec.Iter.{into_iter_items}
use Rattle.axe_poly.proofs.divisor.divisors_of.Given as goal

abbrev pub invariant-loop-poly : goal.invariant-loop-poly
invariant-loop-poly l = record {
  items : l.yielded ++ into_iter_items l.poly-iterator ≡ l.fn.polynomials.items;
  made : l.divisors.items ≡ l.yielded;
}
