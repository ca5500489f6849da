use Rattle.axe_echelon.proofs.Exits.{no_memory}
use Rattle.axe_echelon.proofs.null_spaces.orthogonal_to.Goals as goal

pub returns-clause-basis : goal.returns-clause-basis
returns-clause-basis c = c.orthogonal_rows.ensures.basis

pub returns-clause-well_formed : goal.returns-clause-well_formed
returns-clause-well_formed c = c.orthogonal_rows.ensures.well_formed

pub returns-in_err-reduced-clause-basis : goal.returns-in_err-reduced-clause-basis
returns-in_err-reduced-clause-basis c = no_memory _ c.from_residual.result _ c.from_residual.ensures.1 c.in_err-reduced.ensures

pub returns-in_err-reduced-clause-well_formed : goal.returns-in_err-reduced-clause-well_formed
returns-in_err-reduced-clause-well_formed c = no_memory _ c.from_residual.result _ c.from_residual.ensures.1 c.in_err-reduced.ensures
