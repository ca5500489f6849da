use Rattle.std.proofs.Common.{rules, refl}
use Rattle.axe_row.specs.declared.refusals.Refusal.TheVariants.{Memory}
use Rattle.axe_echelon.proofs.Exits.{no_memory}
use Rattle.axe_chop.proofs.found.Found.append_place.Goals as goal

pub returns-clause-placed : goal.returns-clause-placed
returns-clause-placed c = search rules

pub returns-in_err-append_matrix-clause-placed : goal.returns-in_err-append_matrix-clause-placed
returns-in_err-append_matrix-clause-placed c =
    no_memory _ c.from_residual.result _ c.from_residual.ensures.1 c.in_err-append_matrix.ensures.rows

pub returns-in_err-append_matrix-clause-basis : goal.returns-in_err-append_matrix-clause-basis
returns-in_err-append_matrix-clause-basis c =
    no_memory _ c.from_residual.result _ c.from_residual.ensures.1 c.in_err-append_matrix.ensures.rows

pub returns-in_err-append_matrix-clause-well_formed : goal.returns-in_err-append_matrix-clause-well_formed
returns-in_err-append_matrix-clause-well_formed c =
    no_memory _ c.from_residual.result _ c.from_residual.ensures.1 c.in_err-append_matrix.ensures.rows

pub returns-in_err-push-clause-placed : goal.returns-in_err-push-clause-placed
returns-in_err-push-clause-placed c =
    no_memory _ c.from_residual-in_err-push.result Memory c.from_residual-in_err-push.ensures.1 refl

pub returns-in_err-push-clause-basis : goal.returns-in_err-push-clause-basis
returns-in_err-push-clause-basis c =
    no_memory _ c.from_residual-in_err-push.result Memory c.from_residual-in_err-push.ensures.1 refl

pub returns-in_err-push-clause-well_formed : goal.returns-in_err-push-clause-well_formed
returns-in_err-push-clause-well_formed c =
    no_memory _ c.from_residual-in_err-push.result Memory c.from_residual-in_err-push.ensures.1 refl
