use Rattle.std.proofs.Common.{ap, ◌∙◌}
use Rattle.axe_plane.specs.Planes.{digits_of}
use Rattle.axe_plane.specs.declared.Plane.{Plane}
use Rattle.axe_row.proofs.KeptPlanes.{alone_row, kept_planes, kept_view}
use Rattle.axe_row.proofs.MadePlanes.{made, answers_made, copied_planes, copied_row}
use Rattle.axe_row.proofs.Row.copy.Goals as goal

pub returns-in_default-clause-copied : goal.returns-in_default-clause-copied
returns-in_default-clause-copied c =
    c.of_plane.ensures.entries
    ∙ ap (λ (x : Plane). record { order = c.self.inside.field; entries = digits_of x }) c.in_ok-constant.ensures
    ∙ alone_row _ _ _ _ c.self.invariant c.self.view_is c.in_default.is

pub of_planes-requires-clause-planes : goal.of_planes-requires-clause-planes
of_planes-requires-clause-planes c =
    made _ _ _ _ _ c.copy-linear.ensures c.copy-quadratic.ensures
    (λ l q el eq. copied_planes _ _ _ _ _ _ _ _ (kept_planes _ _ _ _ c.self.invariant _ _ _ c.in-Some.is c.deref.ensures c.deref-2.ensures) c.in_ok-constant.ensures el eq)

pub returns-clause-copied : goal.returns-clause-copied
returns-clause-copied c =
    answers_made _ _ _ _ _ _ _ c.copy-linear.ensures c.copy-quadratic.ensures c.of_planes.ensures.entries
    (λ l q el eq. copied_row _ _ _ _ _ _ _ _ (kept_view _ c.self.inside.constant _ _ _ _ _ c.self.view_is c.in-Some.is c.deref.ensures c.deref-2.ensures) c.in_ok-constant.ensures el eq)
