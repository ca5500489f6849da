use Rattle.std.proofs.Common.{List, ℕ, ap, sym, ◌∙◌}
use Rattle.axe_row.proofs.ElementPlanes.{planes_of_elements, row_of_elements, prime_elements, prime_plane_of_elements}
use Rattle.axe_row.proofs.MadePlanes.{made, answers_made}
use Rattle.axe_row.proofs.RowPlanes.{with_length}
use Rattle.axe_row.proofs.Row.from_elements.Goals as goal

pub of_plane-requires-clause-plane : goal.of_plane-requires-clause-plane
of_plane-requires-clause-plane c = prime_plane_of_elements _ _ _ c.requires c.in_ok-constant.ensures

pub returns-then-degree-eq1-clause-copied : goal.returns-then-degree-eq1-clause-copied
returns-then-degree-eq1-clause-copied c =
    c.of_plane.ensures.entries
    ∙ ap (λ (x : List ℕ). record { order = c.args.field; entries = x })
    (c.in_ok-constant.ensures.digits_are ∙ prime_elements _ _ (sym c.degree.ensures ∙ c.if-degree-eq1.true) c.requires)

pub of_planes-requires-clause-planes : goal.of_planes-requires-clause-planes
of_planes-requires-clause-planes c =
    made _ _ _ _ _ c.plane_of-linear.ensures c.plane_of-quadratic.ensures (λ l q hl hq.
    with_length _ _ _ _ _ (planes_of_elements _ _ _ _ _ c.requires c.in_ok-constant.ensures hl hq))

pub returns-clause-copied : goal.returns-clause-copied
returns-clause-copied c =
    answers_made _ _ _ _ _ _ _ c.plane_of-linear.ensures c.plane_of-quadratic.ensures c.of_planes.ensures.entries (λ l q hl hq.
    row_of_elements _ _ _ _ _ c.requires c.in_ok-constant.ensures hl hq)
