use Rattle.std.proofs.lemmas.Result.{IfOk-from_err}
use Rattle.axe_matrix.specs.Matrices.{IsMatrix}
use Rattle.axe_echelon.proofs.Exits.{no_memory}
use Rattle.axe_action.proofs.bases.extend_basis.Goals as goal

pub returns-in_err-span-clause-extended : goal.returns-in_err-span-clause-extended
returns-in_err-span-clause-extended c = no_memory _ c.from_residual.result _ c.from_residual.ensures.1 c.in_err-span.ensures.span

pub returns-in_err-span-clause-well_formed : goal.returns-in_err-span-clause-well_formed
returns-in_err-span-clause-well_formed c = IfOk-from_err c.from_residual.result IsMatrix c.from_residual.ensures.0

pub extend_beside-requires-clause-independent : goal.extend_beside-requires-clause-independent
extend_beside-requires-clause-independent c = c.requires.independent

pub extend_beside-requires-clause-span : goal.extend_beside-requires-clause-span
extend_beside-requires-clause-span c = c.in_ok-span.ensures.span

pub returns-clause-extended : goal.returns-clause-extended
returns-clause-extended c = c.extend_beside.ensures.extended

pub returns-clause-well_formed : goal.returns-clause-well_formed
returns-clause-well_formed c = c.extend_beside.ensures.well_formed
