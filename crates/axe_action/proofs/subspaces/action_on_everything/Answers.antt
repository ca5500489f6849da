use Rattle.axe_action.proofs.ConjugateLaws.{IsBasisFor}
use Rattle.axe_action.proofs.WholeActions.{action_by_conjugate}
use Rattle.axe_action.proofs.subspaces.action_on_everything.Goals as goal

pub returns-clause-action : goal.returns-clause-action
returns-clause-action c =
    let fits : IsBasisFor c.args.module.now c.args.rows.now =
    record { field = c.requires.field; rows = c.requires.square; columns = c.requires.fits } in
    action_by_conjugate c.args.module.now c.args.rows.now c.conjugate.result c.requires.module_well_formed c.requires.rows_well_formed c.requires.independent fits
    c.conjugate.ensures.conjugate

pub returns-clause-well_formed : goal.returns-clause-well_formed
returns-clause-well_formed c = c.conjugate.ensures.well_formed
