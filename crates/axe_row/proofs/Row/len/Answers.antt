use Rattle.std.proofs.Common.{length, subst, sym, ap, ◌∙◌}
use Rattle.axe_plane.specs.Planes.{digits_of}
use Rattle.axe_row.specs.HigherPlanes.{linear_of, quadratic_of}
use Rattle.axe_row.specs.Rows.{RowValue, IsRow}
use Rattle.axe_row.proofs.RowPlanes.{IsRow-of_planes, length-entries}
use Rattle.axe_row.proofs.Row.len.Goals as goal

pub returns-clause-count : goal.returns-clause-count
returns-clause-count c =
    c.len.ensures ∙ sym (length-entries c.self.inside.field (digits_of c.self.inside.constant) (digits_of (linear_of c.self.inside.field c.self.inside.higher)) (digits_of (quadratic_of c.self.inside.field c.self.inside.higher)))
    ∙ ap (λ (r : RowValue). length r.entries) c.self.view_is

pub returns-clause-well_formed : goal.returns-clause-well_formed
returns-clause-well_formed c = subst IsRow c.self.view_is (IsRow-of_planes _ _ _ _ _ c.self.invariant.planes)
