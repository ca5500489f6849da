use Rattle.std.proofs.Common.{rules, sym, ap, ◌∙◌}
use Rattle.axe_field.specs.Order.{prime_of}
use Rattle.axe_row.specs.HigherPlanes.{linear_of, quadratic_of}
use Rattle.axe_row.proofs.KeptPlanes.{kept_planes, kept_view}
use Rattle.axe_row.proofs.RowPlanes.{length_of_row}
use Rattle.axe_row.proofs.PlaneDots.{linear_long, quadratic_long, row_dot, high_part}
use Rattle.axe_row.proofs.Row.dot_by_planes.Goals as goal

pub dot_with_digits-constant-requires-clause-fits : goal.dot_with_digits-constant-requires-clause-fits
dot_with_digits-constant-requires-clause-fits c =
    λ some. sym (c.requires.fits ∙ length_of_row _ c.self.inside.constant (linear_of c.self.inside.field c.self.inside.higher) (quadratic_of c.self.inside.field c.self.inside.higher) _ c.self.view_is)

pub dot_with_digits-linear-requires-clause-fits : goal.dot_with_digits-linear-requires-clause-fits
dot_with_digits-linear-requires-clause-fits c =
    linear_long _ c.self.inside.constant c.deref.result.now.linear c.deref.result.now.quadratic _ c.args.other.now (kept_planes _ _ _ _ c.self.invariant _ _ _ c.in-Some.is c.deref.ensures c.deref.ensures) (kept_view _ c.self.inside.constant _ _ _ _ _ c.self.view_is c.in-Some.is c.deref.ensures c.deref.ensures) c.requires.fits

pub dot_with_digits-quadratic-requires-clause-fits : goal.dot_with_digits-quadratic-requires-clause-fits
dot_with_digits-quadratic-requires-clause-fits c =
    quadratic_long _ c.self.inside.constant c.deref.result.now.linear c.deref-2.result.now.quadratic _ c.args.other.now (kept_planes _ _ _ _ c.self.invariant _ _ _ c.in-Some.is c.deref.ensures c.deref-2.ensures) (kept_view _ c.self.inside.constant _ _ _ _ _ c.self.view_is c.in-Some.is c.deref.ensures c.deref-2.ensures) c.requires.fits

pub returns-clause-value : goal.returns-clause-value
returns-clause-value c =
    let orders = c.field-field.ensures.order ∙ c.requires.field in
    high_part _ _ _ _ _ _ _ _ _ _ orders c.add.ensures.value c.mul-2.ensures.value c.add-high.ensures.value c.mul.ensures.value
    ∙ row_dot _ _ _ _ _ c.self.inside.constant c.deref.result.now.linear c.deref-2.result.now.quadratic _ _ (kept_planes _ _ _ _ c.self.invariant _ _ _ c.in-Some.is c.deref.ensures c.deref-2.ensures) (kept_view _ c.self.inside.constant _ _ _ _ _ c.self.view_is c.in-Some.is c.deref.ensures c.deref-2.ensures)
    c.requires.degree c.requires.field c.field-field.ensures.well_formed (c.prime-x.ensures ∙ ap prime_of orders)
    c.dot_with_digits-constant.ensures.value c.dot_with_digits-linear.ensures.value c.dot_with_digits-quadratic.ensures.value

pub mul-requires-clause-left : goal.mul-requires-clause-left
mul-requires-clause-left c = search rules

pub mul-requires-clause-right : goal.mul-requires-clause-right
mul-requires-clause-right c = search rules

pub add-high-requires-clause-left : goal.add-high-requires-clause-left
add-high-requires-clause-left c = search rules

pub add-high-requires-clause-right : goal.add-high-requires-clause-right
add-high-requires-clause-right c = search rules

pub mul-requires-2-clause-left : goal.mul-requires-2-clause-left
mul-requires-2-clause-left c = search rules

pub mul-requires-2-clause-right : goal.mul-requires-2-clause-right
mul-requires-2-clause-right c = search rules

pub add-requires-clause-left : goal.add-requires-clause-left
add-requires-clause-left c = search rules

pub add-requires-clause-right : goal.add-requires-clause-right
add-requires-clause-right c = search rules

pub returns-clause-element : goal.returns-clause-element
returns-clause-element c = search rules
