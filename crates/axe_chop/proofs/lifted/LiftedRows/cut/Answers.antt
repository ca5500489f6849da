use Rattle.std.proofs.Common.{sym, subst, ◌∙◌}
use Rattle.std.proofs.lemmas.Result.{IfOk-from_err}
use Rattle.axe_echelon.proofs.Exits.{no_memory}
use Rattle.axe_matrix.specs.Matrices.{IsMatrix}
use Rattle.axe_chop.proofs.lifted.LiftedRows.cut.Goals as goal

pub returns-clause-lifted : goal.returns-clause-lifted
returns-clause-lifted c =
    c.of_matrix.ensures.same ∙ c.in_ok-lifted.ensures.lifted

pub returns-clause-chosen : goal.returns-clause-chosen
returns-clause-chosen c =
    c.in_ok-chosen.ensures

pub returns-clause-well_formed : goal.returns-clause-well_formed
returns-clause-well_formed c =
    subst IsMatrix (sym c.of_matrix.ensures.same) c.in_ok-lifted.ensures.well_formed

pub returns-in_err-lifted-clause-lifted : goal.returns-in_err-lifted-clause-lifted
returns-in_err-lifted-clause-lifted c =
    no_memory _ c.from_residual.result _ c.from_residual.ensures.1 c.in_err-lifted.ensures.lifted

pub returns-in_err-lifted-clause-chosen : goal.returns-in_err-lifted-clause-chosen
returns-in_err-lifted-clause-chosen c =
    no_memory _ c.from_residual.result _ c.from_residual.ensures.1 c.in_err-lifted.ensures.lifted

pub returns-in_err-lifted-clause-well_formed : goal.returns-in_err-lifted-clause-well_formed
returns-in_err-lifted-clause-well_formed c =
    IfOk-from_err c.from_residual.result _ c.from_residual.ensures.0

pub returns-in_err-chosen-clause-lifted : goal.returns-in_err-chosen-clause-lifted
returns-in_err-chosen-clause-lifted c =
    no_memory _ c.from_residual-in_err-chosen.result _ c.from_residual-in_err-chosen.ensures.1 c.in_err-chosen.ensures

pub returns-in_err-chosen-clause-chosen : goal.returns-in_err-chosen-clause-chosen
returns-in_err-chosen-clause-chosen c =
    no_memory _ c.from_residual-in_err-chosen.result _ c.from_residual-in_err-chosen.ensures.1 c.in_err-chosen.ensures

pub returns-in_err-chosen-clause-well_formed : goal.returns-in_err-chosen-clause-well_formed
returns-in_err-chosen-clause-well_formed c =
    IfOk-from_err c.from_residual-in_err-chosen.result _ c.from_residual-in_err-chosen.ensures.0
