use Rattle.std.proofs.Common.{ℕ, List, [], get_or, ap, sym, ◌∙◌}
use Rattle.std.specs.List.{All}
use Rattle.std.proofs.lemmas.Bool.{false≢true}
use Rattle.axe_field.specs.NumberFields.{number_field}
use Rattle.axe_field.specs.Order.{IsElement}
use Rattle.axe_polynomial_algebra.specs.PolynomialsOfLists.{degree_of, Divides}
use Rattle.axe_poly.specs.Polys.{PolyValue}
use Rattle.axe_poly.proofs.DivisorLaws.{said_of}
use Rattle.axe_poly.proofs.PolyLaws.{below_are_elements, divides_tells}
use Rattle.axe_poly.proofs.FactorLaws.{among_more, among_other_degree, among_no_divisor}
use Rattle.axe_poly.proofs.irreducibles.Irreducibles.take_factor.Goals as goal
use mathlib.Core.Path.{subst}

pub divides-requires-clause-field : goal.divides-requires-clause-field
divides-requires-clause-field c =
    c.lanes.ensures.order ∙ sym (ap (λ (p : PolyValue). p.order) c.divisor-divisor.ensures.value)

pub divides-requires-clause-elements : goal.divides-requires-clause-elements
divides-requires-clause-elements c =
    let f = c.args.poly.now in
    said_of (λ o xs. All (IsElement o) xs) c.divisor-divisor.result.now.order f.order c.coefficients.result.now
    f.coefficients (ap (λ (p : PolyValue). p.order) c.divisor-divisor.ensures.value ∙ sym c.requires.field)
    c.coefficients.ensures.list (below_are_elements f.order f.coefficients c.coefficients.ensures.well_formed.elements)

pub returns-then-degree : goal.returns-then-degree
returns-then-degree c =
    among_other_degree c.args.self.now c.args.poly.now c.args.degree c.count.ensures.well_formed c.requires.field
    c.args.index c.args.factors.now.items c.requires.index
    (λ same. c.if-degree.true
    (c.degree.ensures.value
    ∙ ap (λ (p : PolyValue). degree_of p.coefficients) (c.poly.ensures.value ∙ c.divisor-divisor.ensures.value)
    ∙ same)) c.requires.taken

pub returns-in_ok-push : goal.returns-in_ok-push
returns-in_ok-push c =
    let t = c.args.self.now in
    let f = c.args.poly.now in
    let p = c.divisor-divisor.result.now in
    let value = c.divisor-divisor.ensures.value in
    let tells = divides_tells p.order t.order p.coefficients (get_or t.polynomials c.args.index [])
    c.coefficients.result.now c.divides.result (ap (λ (p : PolyValue). p.order) value)
    (ap (λ (p : PolyValue). p.coefficients) value) c.divides.ensures in
    among_more t f c.args.degree c.count.ensures.well_formed c.requires.field c.args.index c.args.factors.now.items
    c.push.new.self.items c.in_ok-factor.factor c.requires.index
    (sym (c.degree.ensures.value ∙ ap (λ (p : PolyValue). degree_of p.coefficients) (c.poly.ensures.value ∙ value))
    ∙ c.if-degree.false)
    (subst (λ (xs : List ℕ). Divides (number_field t.order)
    (get_or t.polynomials c.args.index []) xs) c.coefficients.ensures.list (tells.0 c.if-divides.true))
    (c.in_ok-factor.ensures.copied ∙ c.poly-then-divides.ensures.value ∙ value) c.in_ok-push.ensures.items
    c.requires.taken

pub returns-else-divides : goal.returns-else-divides
returns-else-divides c =
    let t = c.args.self.now in
    let f = c.args.poly.now in
    let p = c.divisor-divisor.result.now in
    let value = c.divisor-divisor.ensures.value in
    let tells = divides_tells p.order t.order p.coefficients (get_or t.polynomials c.args.index [])
    c.coefficients.result.now c.divides.result (ap (λ (p : PolyValue). p.order) value)
    (ap (λ (p : PolyValue). p.coefficients) value) c.divides.ensures in
    among_no_divisor t f c.args.degree c.count.ensures.well_formed c.requires.field c.args.index
    c.args.factors.now.items c.requires.index
    (λ divides. false≢true (sym c.if-divides.false ∙ tells.1
    (subst (λ (xs : List ℕ). Divides (number_field t.order) (get_or t.polynomials c.args.index []) xs)
    (sym c.coefficients.ensures.list) divides)))
    c.requires.taken
