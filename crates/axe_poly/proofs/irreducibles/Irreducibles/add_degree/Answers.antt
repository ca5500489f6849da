use Rattle.std.proofs.Common.{◌+◌, ◌*◌, ◌^◌, ◌<◌, sym}
use Rattle.axe_poly.specs.Limits.{greatest_degree}
use Rattle.axe_field.specs.Order.{order_number}
use Rattle.axe_poly.specs.Tables.{IrreduciblesValue, AreFoundBelow}
use Rattle.axe_poly.proofs.FoundLaws.{tabled_more}
use Rattle.axe_poly.proofs.irreducibles.Irreducibles.add_degree.Goals as goal
use mathlib.Core.Path.{subst}

pub invariant_of-self-2 : goal.invariant_of-self-2
invariant_of-self-2 c =
    tabled_more c.self.inside.lanes c.self.inside.degree c.self.inside.polynomials.items c.in_ok-found.found.items
    c.append.new.self.items c.self.invariant
    (subst (λ (t : IrreduciblesValue). AreFoundBelow t
    (2 * order_number t.order ^ (t.degree + 1)) c.in_ok-found.found.items)
    (sym c.self.view_is) c.in_ok-found.ensures)
    (subst (λ (t : IrreduciblesValue). t.degree < greatest_degree t.order) (sym c.self.view_is) c.requires)
    c.in_ok-append.ensures.items

pub returns-clause-well_formed : goal.returns-clause-well_formed
returns-clause-well_formed c =
    (tabled_more c.self.inside.lanes c.self.inside.degree c.self.inside.polynomials.items c.in_ok-found.found.items
    c.append.new.self.items c.self.invariant
    (subst (λ (t : IrreduciblesValue). AreFoundBelow t
    (2 * order_number t.order ^ (t.degree + 1)) c.in_ok-found.found.items)
    (sym c.self.view_is) c.in_ok-found.ensures)
    (subst (λ (t : IrreduciblesValue). t.degree < greatest_degree t.order) (sym c.self.view_is) c.requires)
    c.in_ok-append.ensures.items).irreducibles
