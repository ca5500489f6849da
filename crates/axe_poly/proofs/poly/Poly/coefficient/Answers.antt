use Rattle.std.proofs.Common.{ℕ, List, get_or, sym}
use Rattle.axe_field.specs.Order.{IsElement}
use Rattle.axe_poly.proofs.PolyLaws.{below_are_elements}
use Rattle.axe_poly.proofs.poly.Poly.coefficient.Goals as goal
use mathlib.Core.Path.{subst}

pub returns-clause-element : goal.returns-clause-element
returns-clause-element c =
    subst (λ (xs : List ℕ). IsElement c.args.self.now.order (get_or xs c.args.exponent 0))
    (sym c.coefficients.ensures.list)
    (below_are_elements c.args.self.now.order c.args.self.now.coefficients c.coefficients.ensures.well_formed.elements
    c.args.exponent 0 c.requires)
