use Rattle.axe_echelon.proofs.Exits.{answers_more, value_if_answered}
use Rattle.axe_echelon.proofs.InverseLaws.{matrix_over}
use Rattle.axe_echelon.proofs.Transposes.{orthogonal_to_rows, null_space_of_transpose}
use Rattle.axe_echelon.proofs.null_spaces.orthogonal_space.Goals as goal

pub returns-clause-basis : goal.returns-clause-basis
returns-clause-basis c =
    answers_more c.orthogonal_to.result _ _ c.orthogonal_to.ensures.basis (λ basis orthogonal.
    null_space_of_transpose c.args.rows.now c.in_ok-mirrored_matrix.field-0 basis c.in_ok-space.space
    (matrix_over c.args.rows.now c.in_ok-mirrored_matrix.ensures.well_formed) c.in_ok-mirrored_matrix.ensures.mirrored c.in_ok-space.ensures orthogonal)

pub returns-clause-orthogonal : goal.returns-clause-orthogonal
returns-clause-orthogonal c =
    value_if_answered c.orthogonal_to.result _ (answers_more c.orthogonal_to.result _ _ c.orthogonal_to.ensures.basis (λ basis orthogonal.
    orthogonal_to_rows c.args.rows.now c.in_ok-mirrored_matrix.field-0 basis c.in_ok-space.space
    (matrix_over c.args.rows.now c.in_ok-mirrored_matrix.ensures.well_formed) c.in_ok-mirrored_matrix.ensures.mirrored c.in_ok-space.ensures orthogonal))
