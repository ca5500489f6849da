use Rattle.std.proofs.Common.{rules, refl, sym, ◌∙◌, arith}
use Rattle.std.proofs.lemmas.Grind.{common_steps}
use Rattle.axe_row.proofs.KeptPlanes.{linear_is_there}
use Rattle.axe_row.proofs.MadePlanes.{made, answers_made}
use Rattle.axe_row.proofs.RowLaws.{same_row}
use Rattle.axe_row.proofs.RowPlanes.{with_length, zero_planes, zero_plane_along, zero_entries}
use Rattle.axe_row.proofs.Row.zero.Goals as goal

pub of_planes-requires-clause-planes : goal.of_planes-requires-clause-planes
of_planes-requires-clause-planes c =
    made _ _ _ _ _ c.zero-linear.ensures c.zero-quadratic.ensures (λ l q hl hq.
    with_length _ _ _ _ _ (zero_planes c.args.field c.args.len _ _ _
    (zero_plane_along _ _ _ _ _ c.prime-prime.ensures refl c.in_ok-constant.ensures)
    (zero_plane_along _ _ _ _ _ c.prime-prime.ensures (sym (linear_is_there _ _ (λ one. c.if-degree-eq1.false (c.degree.ensures ∙ one)))) hl)
    (zero_plane_along _ _ _ _ _ c.prime-prime.ensures c.digits_in_plane.ensures hq)))

pub returns-clause-zeros : goal.returns-clause-zeros
returns-clause-zeros c =
    answers_made _ _ _ _ _ _ _ c.zero-linear.ensures c.zero-quadratic.ensures c.of_planes.ensures.entries (λ l q hl hq.
    same_row _ _ refl (zero_entries c.args.field c.args.len _ _ _ _ _ c.in_ok-constant.ensures.digits_are hl.digits_are hq.digits_are))

pub of_plane-requires-clause-prime : goal.of_plane-requires-clause-prime
of_plane-requires-clause-prime c = search rules

pub of_plane-requires-clause-plane : goal.of_plane-requires-clause-plane
of_plane-requires-clause-plane c = grind (arith, common_steps)

pub returns-then-degree-eq1-clause-zeros : goal.returns-then-degree-eq1-clause-zeros
returns-then-degree-eq1-clause-zeros c = search rules

pub returns-then-degree-eq1-clause-well_formed : goal.returns-then-degree-eq1-clause-well_formed
returns-then-degree-eq1-clause-well_formed c = search rules

pub returns-clause-well_formed : goal.returns-clause-well_formed
returns-clause-well_formed c = search rules
