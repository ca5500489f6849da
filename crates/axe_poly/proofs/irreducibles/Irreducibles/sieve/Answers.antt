use Rattle.std.proofs.Common.{◌≡◌, ◌+◌, ◌^◌, false, [], replicate, get_or, sym, ◌∙◌, ap, arith}
use Rattle.axe_field.proofs.NumberFields.{number_field-order}
use Rattle.axe_polynomial_algebra.specs.PolynomialsOfLists.{degree_of}
use Rattle.axe_poly.specs.Polys.{PolyValue}
use Rattle.axe_poly.proofs.SieveLaws.{first_none, first_more, first_all}
use Rattle.axe_poly.proofs.irreducibles.Irreducibles.sieve.Goals as goal

pub loop-index-init : goal.loop-index-init
loop-index-init c =
    let t = c.args.self.now in
    first_none t c.args.marks.now
    (c.requires.none
    ∙ ap (λ q. replicate (q ^ (t.degree + 1)) false) (sym (number_field-order t.order)))

pub loop-index-preserved : goal.loop-index-preserved
loop-index-preserved c =
    let t = c.args.self.now in
    first_more t c.loop-index.index (c.degree-degree.result + 1) c.lanes.result.now c.coefficients.result.now
    c.loop-index.marks c.mark_multiples.new.marks c.lanes.ensures.order (ap (λ n. n + 1) c.degree-degree.ensures.value)
    (c.coefficients.ensures.list ∙ ap (λ (p : PolyValue). p.coefficients) c.polynomial-divisor.ensures.value)
    c.mark_multiples.ensures c.loop-index.invariant

pub returns-then-degree : goal.returns-then-degree
returns-then-degree c =
    let t = c.args.self.now in
    let degree : c.degree.result ≡ degree_of (get_or t.polynomials c.loop-index.index []) =
    c.degree.ensures.value ∙ ap (λ (p : PolyValue). degree_of p.coefficients) c.polynomial-divisor.ensures.value in
    first_all t c.loop-index.index c.loop-index.marks c.count-index-end.ensures.well_formed
    (omega (arith, c.loop-index-test.true, c.count-index-end.ensures.count))
    (λ _. omega (arith, degree, c.if-degree.true, c.degree-degree.ensures.value)) c.loop-index.invariant

pub returns : goal.returns
returns c =
    let t = c.args.self.now in
    first_all t c.loop-index.index c.loop-index.marks c.count-index-end.ensures.well_formed
    (omega (arith, c.loop-index.auto.index-end, c.count-index-end.ensures.count))
    (λ more. absurd (omega (arith, more, c.loop-index-test.false, c.count-index-end.ensures.count)))
    c.loop-index.invariant
