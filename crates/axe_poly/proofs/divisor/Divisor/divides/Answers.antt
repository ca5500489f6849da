use Rattle.std.proofs.Common.{◌≤◌, ap, sym, ◌∙◌}
use Rattle.axe_field.specs.NumberFields.{number_field}
use Rattle.axe_polynomial_algebra.specs.PolynomialsOfLists.{degree_of, IsMonicOver}
use Rattle.axe_poly.specs.Lanes.{AreMultiples}
use Rattle.axe_poly.specs.Limits.{greatest_degree}
use Rattle.axe_poly.specs.Polys.{PolyValue}
use Rattle.axe_poly.proofs.DivisorLaws.{said_of}
use Rattle.axe_poly.proofs.PolyLaws.{divides_tells}
use Rattle.axe_poly.proofs.divisor.Divisor.divides.Goals as goal

pub divides-requires-clause-multiples : goal.divides-requires-clause-multiples
divides-requires-clause-multiples c =
    let p = c.self.inside.poly in
    said_of (λ o f. AreMultiples o f c.self.inside.multiples) c.args.lanes.now p.order c.coefficients.result.now
    p.coefficients (c.requires.field ∙ ap (λ (q : PolyValue). q.order) (sym c.self.view_is))
    c.coefficients.ensures.list c.self.invariant.multiples_are

pub divides-requires-clause-monic : goal.divides-requires-clause-monic
divides-requires-clause-monic c =
    let p = c.self.inside.poly in
    said_of (λ o f. IsMonicOver (number_field o) f) c.args.lanes.now p.order c.coefficients.result.now
    p.coefficients (c.requires.field ∙ ap (λ (q : PolyValue). q.order) (sym c.self.view_is))
    c.coefficients.ensures.list c.coefficients.ensures.well_formed

pub divides-requires-clause-degree : goal.divides-requires-clause-degree
divides-requires-clause-degree c =
    let p = c.self.inside.poly in
    said_of (λ o f. degree_of f ≤ greatest_degree o) c.args.lanes.now p.order c.coefficients.result.now
    p.coefficients (c.requires.field ∙ ap (λ (q : PolyValue). q.order) (sym c.self.view_is))
    c.coefficients.ensures.list c.self.invariant.bounded

pub returns : goal.returns
returns c =
    divides_tells c.args.lanes.now c.args.self.now.order c.coefficients.result.now c.args.self.now.coefficients
    c.args.dividend.now c.divides.result c.requires.field
    (c.coefficients.ensures.list ∙ ap (λ (q : PolyValue). q.coefficients) c.self.view_is) c.divides.ensures
