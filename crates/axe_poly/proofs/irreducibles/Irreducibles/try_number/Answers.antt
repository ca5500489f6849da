use Rattle.std.proofs.Common.{List, ℕ, refl, sym, subst, ◌∙◌}
use Rattle.axe_field.specs.NumberFields.{number_field}
use Rattle.axe_polynomial_algebra.specs.PolynomialsOfLists.{IsMonicOver, IsIrreduciblePolynomial}
use Rattle.axe_poly.specs.Polys.{poly_with}
use Rattle.axe_poly.proofs.FoundLaws.{candidate_is, candidate_monic, found_more, found_same}
use Rattle.axe_poly.proofs.SieveLaws.{has_mark, marked_is_reducible, unmarked_is_irreducible}
use Rattle.axe_poly.proofs.irreducibles.Irreducibles.try_number.Goals as goal
use mathlib.Core.Path.{ap₂}

pub overflow_sub-number : goal.overflow_sub-number
overflow_sub-number c =
    (has_mark c.args.self.now c.args.number c.args.reducible.now c.requires.marks c.requires.from c.requires.to).0

pub bounds-reducible-number : goal.bounds-reducible-number
bounds-reducible-number c =
    (has_mark c.args.self.now c.args.number c.args.reducible.now c.requires.marks c.requires.from c.requires.to).1

pub from_monic-requires : goal.from_monic-requires
from_monic-requires c =
    subst (λ o. IsMonicOver (number_field o) c.in_ok-coefficients.coefficients.items) (sym c.field.ensures.order)
    (subst (λ (f : List ℕ). IsMonicOver (number_field c.args.self.now.order) f) (sym c.in_ok-coefficients.ensures)
    (candidate_monic c.args.self.now c.args.number c.as_slice.result.now
    (candidate_is c.args.self.now c.args.number c.args.candidate.now c.set_number.new.self c.as_slice.result.now
    c.requires.candidate_field c.requires.candidate_long
    c.set_number.ensures.digits c.as_slice.ensures.list) c.requires.from c.requires.to))

pub returns-then-reducible-number-clause-found : goal.returns-then-reducible-number-clause-found
returns-then-reducible-number-clause-found c =
    found_same c.args.self.now c.args.number _ refl c.requires.from c.requires.to c.args.found.now.items
    (marked_is_reducible c.args.self.now c.args.number c.args.reducible.now c.requires.marks c.requires.from
    c.requires.to c.if-reducible-number.true) c.requires.found

pub returns-clause-found : goal.returns-clause-found
returns-clause-found c =
    let is = candidate_is c.args.self.now c.args.number c.args.candidate.now c.set_number.new.self
    c.as_slice.result.now c.requires.candidate_field c.requires.candidate_long
    c.set_number.ensures.digits c.as_slice.ensures.list in
    found_more c.args.self.now c.args.number c.as_slice.result.now is c.requires.from c.requires.to
    c.args.found.now.items c.from_monic.result c.push.new.self.items
    (subst (λ (f : List ℕ). IsIrreduciblePolynomial (number_field c.args.self.now.order) f) (sym is)
    (unmarked_is_irreducible c.args.self.now c.args.number c.args.reducible.now c.requires.marks c.requires.from
    c.requires.to c.if-reducible-number.false))
    c.requires.found
    (c.from_monic.ensures ∙ ap₂ poly_with c.field.ensures.order c.in_ok-coefficients.ensures)
    c.in_ok-push.ensures.items
