use Rattle.std.proofs.Common.{◌∙◌}
use Rattle.axe_row.proofs.KeptPlanes.{kept_planes, kept_view, linear_is_empty, quadratic_is_empty}
use Rattle.axe_row.proofs.PlaneDots.{constant_fits, linear_fits, quadratic_fits, linear_part, quadratic_part, digits_by_row, digits_by_plane, digits_element}
use Rattle.axe_row.proofs.Row.dot_with_digits.Goals as goal

pub dot_or_zero-constant-requires-clause-fits : goal.dot_or_zero-constant-requires-clause-fits
dot_or_zero-constant-requires-clause-fits c =
    constant_fits _ _ _ _ _ _ _ (record { planes = c.self.invariant.planes; view_is = c.self.view_is; plane = c.requires.plane; fits = c.requires.fits })

pub returns-in_default-clause-value : goal.returns-in_default-clause-value
returns-in_default-clause-value c =
    digits_by_plane _ _ _ _ _ _ _ _ (record { planes = c.self.invariant.planes; view_is = c.self.view_is; plane = c.requires.plane; fits = c.requires.fits })
    (linear_is_empty _ _ _ _ c.self.invariant c.in_default.is) (quadratic_is_empty _ _ _ _ c.self.invariant c.in_default.is)
    c.dot_or_zero-constant.ensures

pub returns-in_default-clause-element : goal.returns-in_default-clause-element
returns-in_default-clause-element c =
    digits_element _ _ _ _ _ _ _ _
    (record { planes = c.self.invariant.planes; view_is = c.self.view_is; plane = c.requires.plane; fits = c.requires.fits })
    (returns-in_default-clause-value c)

pub dot_or_zero-linear-requires-clause-fits : goal.dot_or_zero-linear-requires-clause-fits
dot_or_zero-linear-requires-clause-fits c =
    linear_fits _ _ _ _ _ _ _ (record { planes = (kept_planes _ _ _ _ c.self.invariant _ _ _ c.in-Some.is c.deref.ensures c.deref.ensures); view_is = (kept_view _ c.self.inside.constant _ _ _ _ _ c.self.view_is c.in-Some.is c.deref.ensures c.deref.ensures); plane = c.requires.plane; fits = c.requires.fits })

pub dot_or_zero-quadratic-requires-clause-fits : goal.dot_or_zero-quadratic-requires-clause-fits
dot_or_zero-quadratic-requires-clause-fits c =
    quadratic_fits _ _ _ _ _ _ _ (record { planes = (kept_planes _ _ _ _ c.self.invariant _ _ _ c.in-Some.is c.deref.ensures c.deref-2.ensures); view_is = (kept_view _ c.self.inside.constant _ _ _ _ _ c.self.view_is c.in-Some.is c.deref.ensures c.deref-2.ensures); plane = c.requires.plane; fits = c.requires.fits })

pub element-requires-clause-linear : goal.element-requires-clause-linear
element-requires-clause-linear c =
    linear_part _ _ _ _ _ _ _ _ (record { planes = (kept_planes _ _ _ _ c.self.invariant _ _ _ c.in-Some.is c.deref.ensures c.deref-2.ensures); view_is = (kept_view _ c.self.inside.constant _ _ _ _ _ c.self.view_is c.in-Some.is c.deref.ensures c.deref-2.ensures); plane = c.requires.plane; fits = c.requires.fits })
    c.dot_or_zero-linear.ensures

pub element-requires-clause-quadratic : goal.element-requires-clause-quadratic
element-requires-clause-quadratic c =
    quadratic_part _ _ _ _ _ _ _ _ (record { planes = (kept_planes _ _ _ _ c.self.invariant _ _ _ c.in-Some.is c.deref.ensures c.deref-2.ensures); view_is = (kept_view _ c.self.inside.constant _ _ _ _ _ c.self.view_is c.in-Some.is c.deref.ensures c.deref-2.ensures); plane = c.requires.plane; fits = c.requires.fits })
    c.dot_or_zero-quadratic.ensures

pub returns-clause-value : goal.returns-clause-value
returns-clause-value c =
    c.element.ensures
    ∙ digits_by_row _ _ _ _ _ _ _ _ _ _
    (record { planes = (kept_planes _ _ _ _ c.self.invariant _ _ _ c.in-Some.is c.deref.ensures c.deref-2.ensures); view_is = (kept_view _ c.self.inside.constant _ _ _ _ _ c.self.view_is c.in-Some.is c.deref.ensures c.deref-2.ensures); plane = c.requires.plane; fits = c.requires.fits })
    c.dot_or_zero-constant.ensures c.dot_or_zero-linear.ensures c.dot_or_zero-quadratic.ensures

pub returns-clause-element : goal.returns-clause-element
returns-clause-element c =
    digits_element _ _ _ _ _ _ _ _
    (record { planes = (kept_planes _ _ _ _ c.self.invariant _ _ _ c.in-Some.is c.deref.ensures c.deref-2.ensures); view_is = (kept_view _ c.self.inside.constant _ _ _ _ _ c.self.view_is c.in-Some.is c.deref.ensures c.deref-2.ensures); plane = c.requires.plane; fits = c.requires.fits })
    (returns-clause-value c)
