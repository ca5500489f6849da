use Rattle.std.proofs.Common.{◌≢◌, length, sym, ◌∙◌, arith}
use Rattle.axe_matrix.proofs.OnlyZeros.{all_rows_of_zeros}
use Rattle.axe_matrix.proofs.TransposeLaws.{transpose_refusal-none}
use Rattle.axe_echelon.specs.Echelons.{null_space_refusal}
use Rattle.axe_echelon.specs.NullPoints.{IsNullPoints}
use Rattle.axe_echelon.proofs.Exits.{answers_early, answers_more, no_memory}
use Rattle.axe_echelon.proofs.NullSpacePoints.{null_points_by_columns}
use Rattle.axe_echelon.proofs.first_points.null_points.Goals as goal

pub mirrored_columns-requires : goal.mirrored_columns-requires
mirrored_columns-requires c = omega (arith, c.rows.ensures.count, c.if-rows-eq0.false)

pub points_of_zeros-requires-clause-some_row : goal.points_of_zeros-requires-clause-some_row
points_of_zeros-requires-clause-some_row c = omega (arith, c.rows.ensures.count, c.if-rows-eq0.false)

pub points_of_zeros-requires-clause-zeros : goal.points_of_zeros-requires-clause-zeros
points_of_zeros-requires-clause-zeros c = all_rows_of_zeros c.args.matrix.now.rows (sym c.has_only_zeros.ensures ∙ c.if-has_only_zeros.true)

pub returns : goal.returns
returns c =
    let some : length c.args.matrix.now.rows ≢ 0 = omega (arith, c.rows.ensures.count, c.if-rows-eq0.false) in
    answers_early (null_space_refusal c.args.matrix.now) (IsNullPoints c.args.matrix.now c.args.most) c.points_orthogonal_to.result
    (transpose_refusal-none c.args.matrix.now some)
    (answers_more c.points_orthogonal_to.result _ _ c.points_orthogonal_to.ensures
    (null_points_by_columns c.args.matrix.now c.in_ok-mirrored_columns.field-0 c.in_ok-space.space c.args.most c.rows.ensures.well_formed
    (omega (arith, some)) c.in_ok-mirrored_columns.ensures c.in_ok-space.ensures))

pub returns-then-has_only_zeros : goal.returns-then-has_only_zeros
returns-then-has_only_zeros c =
    let some : length c.args.matrix.now.rows ≢ 0 = omega (arith, c.rows.ensures.count, c.if-rows-eq0.false) in
    answers_early (null_space_refusal c.args.matrix.now) (IsNullPoints c.args.matrix.now c.args.most) c.points_of_zeros.result
    (transpose_refusal-none c.args.matrix.now some) c.points_of_zeros.ensures

pub returns-in_err-mirrored_columns : goal.returns-in_err-mirrored_columns
returns-in_err-mirrored_columns c =
    let some : length c.args.matrix.now.rows ≢ 0 = omega (arith, c.rows.ensures.count, c.if-rows-eq0.false) in
    answers_early (null_space_refusal c.args.matrix.now) (IsNullPoints c.args.matrix.now c.args.most) c.from_residual.result
    (transpose_refusal-none c.args.matrix.now some)
    (no_memory _ c.from_residual.result _ c.from_residual.ensures.1 c.in_err-mirrored_columns.ensures)

pub returns-in_err-space : goal.returns-in_err-space
returns-in_err-space c =
    let some : length c.args.matrix.now.rows ≢ 0 = omega (arith, c.rows.ensures.count, c.if-rows-eq0.false) in
    answers_early (null_space_refusal c.args.matrix.now) (IsNullPoints c.args.matrix.now c.args.most) c.from_residual-in_err-space.result
    (transpose_refusal-none c.args.matrix.now some)
    (no_memory _ c.from_residual-in_err-space.result _ c.from_residual-in_err-space.ensures.1 c.in_err-space.ensures)
