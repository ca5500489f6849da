use Rattle.std.proofs.Common.{length, ◌∙◌, ap, subst}
use Rattle.axe_row.specs.Rows.{RowValue}
use Rattle.axe_echelon.specs.Subspaces.{IsCleared}
use Rattle.axe_echelon.proofs.Exits.{no_memory}
use Rattle.axe_echelon.proofs.left_of.Goals as goal

pub reduce_with-requires-clause-field : goal.reduce_with-requires-clause-field
reduce_with-requires-clause-field c = ap (λ (r : RowValue). r.order) c.in_ok-rest.ensures.copied ∙ c.requires.field

pub reduce_with-requires-clause-fits : goal.reduce_with-requires-clause-fits
reduce_with-requires-clause-fits c = ap (λ (r : RowValue). length r.entries) c.in_ok-rest.ensures.copied ∙ c.requires.fits

pub returns-clause-cleared : goal.returns-clause-cleared
returns-clause-cleared c =
    subst (λ (r : RowValue). IsCleared c.args.space.now r c.reduce_with.new.row c.reduce_with.new.multipliers)
    c.in_ok-rest.ensures.copied c.reduce_with.ensures.cleared

pub returns-clause-row_well_formed : goal.returns-clause-row_well_formed
returns-clause-row_well_formed c = c.len.ensures.well_formed

pub returns-in_err-multipliers-clause-cleared : goal.returns-in_err-multipliers-clause-cleared
returns-in_err-multipliers-clause-cleared c = no_memory _ c.from_residual.result _ c.from_residual.ensures.1 c.in_err-multipliers.ensures.zeros

pub returns-in_err-multipliers-clause-row_well_formed : goal.returns-in_err-multipliers-clause-row_well_formed
returns-in_err-multipliers-clause-row_well_formed c = c.len.ensures.well_formed

pub returns-in_err-rest-clause-cleared : goal.returns-in_err-rest-clause-cleared
returns-in_err-rest-clause-cleared c = no_memory _ c.from_residual-in_err-rest.result _ c.from_residual-in_err-rest.ensures.1 c.in_err-rest.ensures.copied

pub returns-in_err-rest-clause-row_well_formed : goal.returns-in_err-rest-clause-row_well_formed
returns-in_err-rest-clause-row_well_formed c = c.len.ensures.well_formed
