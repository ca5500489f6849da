use Rattle.std.proofs.Common.{◌≡◌, None, ap, subst, ◌∙◌}
use Rattle.std.proofs.lemmas.Result.{IfOk-from_err}
use Rattle.axe_row.specs.Refusals.{Answers}
use Rattle.axe_echelon.proofs.Exits.{no_memory}
use Rattle.axe_matrix.specs.Matrices.{MatrixValue, matrix_product}
use Rattle.axe_chop.proofs.lifted.LiftedRows.lift_copy.Goals as goal

pub lift-requires-clause-field : goal.lift-requires-clause-field
lift-requires-clause-field c = ap (λ (m : MatrixValue). m.order) c.in_ok-copy.ensures.copied ∙ c.requires.field

pub lift-requires-clause-fits : goal.lift-requires-clause-fits
lift-requires-clause-fits c = ap (λ (m : MatrixValue). m.cols) c.in_ok-copy.ensures.copied ∙ c.requires.fits

pub returns-clause-lifted : goal.returns-clause-lifted
returns-clause-lifted c =
    subst (λ (m : MatrixValue). Answers None (λ lifted. lifted ≡ matrix_product m c.args.self.now) c.lift.result)
    c.in_ok-copy.ensures.copied c.lift.ensures.lifted

pub returns-in_err-copy-clause-lifted : goal.returns-in_err-copy-clause-lifted
returns-in_err-copy-clause-lifted c =
    no_memory _ c.from_residual.result _ c.from_residual.ensures.1 c.in_err-copy.ensures.copied

pub returns-in_err-copy-clause-well_formed : goal.returns-in_err-copy-clause-well_formed
returns-in_err-copy-clause-well_formed c =
    IfOk-from_err c.from_residual.result _ c.from_residual.ensures.0
