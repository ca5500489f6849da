use Rattle.std.proofs.Common.{◌≤◌, sym}
use Rattle.axe_field.specs.NumberFields.{number_field}
use Rattle.axe_polynomial_algebra.specs.PolynomialsOfLists.{degree_of, IsMonicOver}
use Rattle.axe_poly.specs.Lanes.{AreMultiples}
use Rattle.axe_poly.specs.Limits.{greatest_degree}
use Rattle.axe_poly.proofs.DivisorLaws.{said_of}
use Rattle.axe_poly.proofs.divisor.Divisor.new.Goals as goal

pub multiples-multiples-requires-clause-monic : goal.multiples-multiples-requires-clause-monic
multiples-multiples-requires-clause-monic c =
    said_of (λ o f. IsMonicOver (number_field o) f) c.args.lanes.now c.args.poly.order c.coefficients.result.now
    c.args.poly.coefficients c.requires.field c.coefficients.ensures.list c.coefficients.ensures.well_formed

pub multiples-multiples-requires-clause-degree : goal.multiples-multiples-requires-clause-degree
multiples-multiples-requires-clause-degree c =
    said_of (λ o f. degree_of f ≤ greatest_degree o) c.args.lanes.now c.args.poly.order c.coefficients.result.now
    c.args.poly.coefficients c.requires.field c.coefficients.ensures.list c.requires.degree

pub invariant_of-result : goal.invariant_of-result
invariant_of-result c = record {
  multiples_are = said_of (λ o f. AreMultiples o f c.multiples-multiples.result) c.args.poly.order c.args.lanes.now
      c.args.poly.coefficients c.coefficients.result.now (sym c.requires.field) (sym c.coefficients.ensures.list)
      c.multiples-multiples.ensures;
  bounded = c.requires.degree;
}
