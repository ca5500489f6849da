use Rattle.std.proofs.Common.{sym, subst}
use Rattle.std.specs.Prelude.{List, All}
use Rattle.axe_polynomial_algebra.specs.PolynomialsOfLists.{Divides}
use Rattle.axe_field.specs.NumberFields.{number_field}
use Rattle.axe_poly.specs.Polys.{PolyValue}
use Rattle.axe_norton.proofs.FactorLaws.{divide_here, fitting_told}
use Rattle.axe_norton.proofs.factors.fitting_of_degree.Goals as goal

pub first_that_fits-requires-clause-divisors : goal.first_that_fits-requires-clause-divisors
first_that_fits-requires-clause-divisors c =
    subst (λ (ps : List PolyValue). All (λ p. Divides (number_field c.args.matrix.now.order) p.coefficients c.args.first.now.minimal.coefficients) ps)
    (sym c.deref.ensures.value)
    (divide_here c.args.matrix.now c.args.first.now.minimal c.requires.first.minimal.field c.args.degree c.in_ok-factors.factors.items c.in_ok-factors.ensures)

pub returns-clause-found : goal.returns-clause-found
returns-clause-found c =
    fitting_told c.args.matrix.now c.args.first.now.minimal c.requires.first.minimal.field c.args.degree c.in_ok-factors.factors.items c.in_ok-factors.ensures
    c.deref.result.now c.first_that_fits.result c.deref.ensures.value c.first_that_fits.ensures.found
