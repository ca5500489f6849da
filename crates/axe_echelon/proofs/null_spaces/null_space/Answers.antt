use Rattle.std.proofs.Common.{◌≡◌, ◌≢◌, length, sym, ◌∙◌, arith}
use Rattle.std.proofs.lemmas.Result.{IfOk-from_err}
use Rattle.axe_matrix.proofs.OnlyZeros.{all_rows_of_zeros}
use Rattle.axe_matrix.proofs.TransposeLaws.{transpose_refusal-none}
use Rattle.axe_echelon.specs.Echelons.{null_space_refusal, IsNullSpaceMatrix}
use Rattle.axe_echelon.proofs.Exits.{answers_early, answers_more, no_memory, value_if_answered}
use Rattle.axe_echelon.proofs.Transposes.{null_space_by_columns}
use Rattle.axe_echelon.proofs.ZeroMatrices.{identity_is_null_space}
use Rattle.axe_echelon.proofs.null_spaces.null_space.Goals as goal

pub mirrored_columns-requires : goal.mirrored_columns-requires
mirrored_columns-requires c = omega (arith, c.rows.ensures.count, c.if-rows-eq0.false)

pub returns-clause-basis : goal.returns-clause-basis
returns-clause-basis c =
    let some : length c.args.matrix.now.rows ≢ 0 = omega (arith, c.rows.ensures.count, c.if-rows-eq0.false) in
    answers_early (null_space_refusal c.args.matrix.now) (IsNullSpaceMatrix c.args.matrix.now) c.orthogonal_to.result
    (transpose_refusal-none c.args.matrix.now some)
    (answers_more c.orthogonal_to.result _ _ c.orthogonal_to.ensures.basis (λ basis orthogonal.
    null_space_by_columns c.args.matrix.now c.in_ok-mirrored_columns.field-0 basis c.in_ok-space.space c.rows.ensures.well_formed
    c.in_ok-mirrored_columns.ensures c.in_ok-space.ensures orthogonal))

pub returns-clause-well_formed : goal.returns-clause-well_formed
returns-clause-well_formed c = value_if_answered c.orthogonal_to.result _ c.orthogonal_to.ensures.well_formed

pub returns-then-has_only_zeros-clause-basis : goal.returns-then-has_only_zeros-clause-basis
returns-then-has_only_zeros-clause-basis c =
    let count : c.rows.result ≡ length c.args.matrix.now.rows = c.rows.ensures.count in
    let some : length c.args.matrix.now.rows ≢ 0 = omega (arith, count, c.if-rows-eq0.false) in
    answers_early (null_space_refusal c.args.matrix.now) (IsNullSpaceMatrix c.args.matrix.now) c.identity.result
    (transpose_refusal-none c.args.matrix.now some)
    (answers_more c.identity.result _ _ c.identity.ensures.identity (λ basis is.
    identity_is_null_space c.args.matrix.now basis _ _ (omega (arith, some)) (omega (arith, c.rows.ensures.well_formed.rows_fit))
    (all_rows_of_zeros c.args.matrix.now.rows (sym c.has_only_zeros.ensures ∙ c.if-has_only_zeros.true)) c.field.ensures.order c.rows-then-has_only_zeros.ensures.count is))

pub identity-requires-clause-some_row : goal.identity-requires-clause-some_row
identity-requires-clause-some_row c = omega (arith, c.rows-then-has_only_zeros.ensures.count, c.rows.ensures.count, c.if-rows-eq0.false)

pub identity-requires-clause-rows_fit : goal.identity-requires-clause-rows_fit
identity-requires-clause-rows_fit c = omega (arith, c.rows-then-has_only_zeros.ensures.count, c.rows.ensures.well_formed.rows_fit)

pub identity-requires-clause-columns_fit : goal.identity-requires-clause-columns_fit
identity-requires-clause-columns_fit c = omega (arith, c.rows-then-has_only_zeros.ensures.count, c.rows.ensures.well_formed.rows_fit)

pub returns-then-has_only_zeros-clause-well_formed : goal.returns-then-has_only_zeros-clause-well_formed
returns-then-has_only_zeros-clause-well_formed c = c.identity.ensures.well_formed

pub returns-in_err-mirrored_columns-clause-basis : goal.returns-in_err-mirrored_columns-clause-basis
returns-in_err-mirrored_columns-clause-basis c =
    let some : length c.args.matrix.now.rows ≢ 0 = omega (arith, c.rows.ensures.count, c.if-rows-eq0.false) in
    answers_early (null_space_refusal c.args.matrix.now) (IsNullSpaceMatrix c.args.matrix.now) c.from_residual.result
    (transpose_refusal-none c.args.matrix.now some)
    (no_memory _ c.from_residual.result _ c.from_residual.ensures.1 c.in_err-mirrored_columns.ensures)

pub returns-in_err-mirrored_columns-clause-well_formed : goal.returns-in_err-mirrored_columns-clause-well_formed
returns-in_err-mirrored_columns-clause-well_formed c = IfOk-from_err c.from_residual.result _ c.from_residual.ensures.0

pub returns-in_err-space-clause-basis : goal.returns-in_err-space-clause-basis
returns-in_err-space-clause-basis c =
    let some : length c.args.matrix.now.rows ≢ 0 = omega (arith, c.rows.ensures.count, c.if-rows-eq0.false) in
    answers_early (null_space_refusal c.args.matrix.now) (IsNullSpaceMatrix c.args.matrix.now) c.from_residual-in_err-space.result
    (transpose_refusal-none c.args.matrix.now some)
    (no_memory _ c.from_residual-in_err-space.result _ c.from_residual-in_err-space.ensures.1 c.in_err-space.ensures)

pub returns-in_err-space-clause-well_formed : goal.returns-in_err-space-clause-well_formed
returns-in_err-space-clause-well_formed c = IfOk-from_err c.from_residual-in_err-space.result _ c.from_residual-in_err-space.ensures.0
