use Rattle.std.proofs.Common.{◌≡◌}
use Rattle.std.proofs.lemmas.Result.{err_from_is_err_and}
use Rattle.axe_row.specs.Refusals.{RefusedAs}
use Rattle.axe_row.specs.declared.refusals.Refusal.TheVariants.{Singular}
use Rattle.axe_matrix.specs.Matrices.{IsMatrix, transpose_refusal, transposed_matrix}
use Rattle.axe_reduction.specs.Solutions.{IsInverseMatrix, IsInvertibleMatrix}
use Rattle.axe_echelon.specs.Echelons.{inverse_refusal, null_space_refusal, IsNullSpaceMatrix}
use Rattle.axe_execute.specs.MatrixCommands.{TransposeOf, InverseOf, NullSpaceOf}
use Rattle.axe_plan.proofs.Refused.{refused_fault, refused_fault_or, accepted_value, accepted_value_or}
use Rattle.axe_execute.proofs.operations.OfOne.make.Goals as goal

pub returns-in_err-transpose-in-Transpose : goal.returns-in_err-transpose-in-Transpose
unfolding TransposeOf
returns-in_err-transpose-in-Transpose c =
    let p = err_from_is_err_and c.from_residual.result c.from_residual.ensures.1 in
    rw (p.1, p.2, c.in-Transpose.is) (refused_fault (λ transpose. transpose ≡ transposed_matrix c.args.matrix.now)
    (λ transpose. transpose ≡ transposed_matrix c.args.matrix.now) (transpose_refusal c.args.matrix.now) c.in_err-transpose-in-Transpose.field-0.0
    c.in_err-transpose-in-Transpose.ensures.transpose)

pub returns-in_ok-transpose-in-Transpose : goal.returns-in_ok-transpose-in-Transpose
unfolding TransposeOf
returns-in_ok-transpose-in-Transpose c =
    rw (c.in-Transpose.is) (accepted_value (λ transpose. transpose ≡ transposed_matrix c.args.matrix.now)
    (λ transpose. transpose ≡ transposed_matrix c.args.matrix.now) (transpose_refusal c.args.matrix.now) c.in_ok-transpose-in-Transpose.field-0 (λ of. of)
    c.in_ok-transpose-in-Transpose.ensures.transpose)

pub returns-in_err-inverse-in-Inverse : goal.returns-in_err-inverse-in-Inverse
unfolding InverseOf
returns-in_err-inverse-in-Inverse c =
    let p = err_from_is_err_and c.from_residual-in_err-inverse-in-Inverse.result c.from_residual-in_err-inverse-in-Inverse.ensures.1 in
    rw (p.1, p.2, c.in-Inverse.is) (refused_fault_or (IsInverseMatrix c.args.matrix.now) (IsInverseMatrix c.args.matrix.now)
    (RefusedAs Singular (¬ (IsInvertibleMatrix c.args.matrix.now))) (inverse_refusal c.args.matrix.now) c.in_err-inverse-in-Inverse.field-0.0 c.in_err-inverse-in-Inverse.ensures.inverse)

pub returns-in_ok-inverse-in-Inverse : goal.returns-in_ok-inverse-in-Inverse
unfolding InverseOf
returns-in_ok-inverse-in-Inverse c =
    rw (c.in-Inverse.is) (accepted_value_or (IsInverseMatrix c.args.matrix.now) (IsInverseMatrix c.args.matrix.now)
    (RefusedAs Singular (¬ (IsInvertibleMatrix c.args.matrix.now))) (inverse_refusal c.args.matrix.now) c.in_ok-inverse-in-Inverse.field-0 (λ of. of)
    c.in_ok-inverse-in-Inverse.ensures.inverse)

pub returns-in_err-null_space-in-NullSpace : goal.returns-in_err-null_space-in-NullSpace
unfolding NullSpaceOf
returns-in_err-null_space-in-NullSpace c =
    let p = err_from_is_err_and c.from_residual-in_err-null_space-in-NullSpace.result c.from_residual-in_err-null_space-in-NullSpace.ensures.1 in
    rw (p.1, p.2, c.in-NullSpace.is) (refused_fault (IsNullSpaceMatrix c.args.matrix.now)
    (λ basis. IsNullSpaceMatrix c.args.matrix.now basis × IsMatrix basis) (null_space_refusal c.args.matrix.now) c.in_err-null_space-in-NullSpace.field-0.0
    c.in_err-null_space-in-NullSpace.ensures.basis)

pub returns-in_ok-null_space-in-NullSpace : goal.returns-in_ok-null_space-in-NullSpace
unfolding NullSpaceOf
returns-in_ok-null_space-in-NullSpace c =
    rw (c.in-NullSpace.is) (accepted_value (IsNullSpaceMatrix c.args.matrix.now) (λ basis. IsNullSpaceMatrix c.args.matrix.now basis × IsMatrix basis)
    (null_space_refusal c.args.matrix.now) c.in_ok-null_space-in-NullSpace.field-0 (λ of. (of, c.in_ok-null_space-in-NullSpace.ensures.well_formed)) c.in_ok-null_space-in-NullSpace.ensures.basis)
