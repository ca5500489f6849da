use Rattle.std.proofs.Common.{◌≡◌, length, ap, ◌∙◌}
use Rattle.std.specs.Prelude.{cond, eqb}
use Rattle.axe_algebra.specs.Lists.{unit_row}
use Rattle.axe_algebra.proofs.ListEntries.{listed_length}
use Rattle.axe_echelon.proofs.Exits.{no_memory, answers_more}
use Rattle.axe_row.specs.Rows.{RowValue}
use Rattle.axe_action.specs.FreeColumns.{IsRowModulo}
use Rattle.axe_action.proofs.QuotientRows.{row_is_modulo}
use Rattle.axe_action.proofs.quotients.unit_modulo.Goals as goal

pub returns-clause-modulo : goal.returns-clause-modulo
returns-clause-modulo c =
    let unit : c.in_ok-unit.unit.entries ≡ unit_row c.args.span.now.cols c.args.column =
    ap (λ (r : RowValue). r.entries) c.in_ok-unit.ensures.unit ∙ ap (λ n. unit_row n c.args.column) c.cols.ensures.count in
    answers_more c.entries.result _
    (λ (row : RowValue). IsRowModulo c.args.span.now c.args.columns.now (unit_row c.args.span.now.cols c.args.column) row.entries)
    c.entries.ensures.selected
    (λ row is. row_is_modulo c.args.span.now c.args.columns.now (unit_row c.args.span.now.cols c.args.column) c.reduce.new.row row
    (rw unit at c.reduce.ensures.representative)
    c.reduce.ensures.same_field c.reduce.ensures.as_long c.reduce.ensures.row_well_formed is)

pub returns-in_err-unit-clause-modulo : goal.returns-in_err-unit-clause-modulo
returns-in_err-unit-clause-modulo c = no_memory _ c.from_residual.result _ c.from_residual.ensures.1 c.in_err-unit.ensures.unit

pub returns-in_err-unit-clause-same_field : goal.returns-in_err-unit-clause-same_field
returns-in_err-unit-clause-same_field c = no_memory _ c.from_residual.result _ c.from_residual.ensures.1 c.in_err-unit.ensures.unit

pub reduce-requires-clause-fits : goal.reduce-requires-clause-fits
reduce-requires-clause-fits c =
    ap (λ (r : RowValue). length r.entries) c.in_ok-unit.ensures.unit ∙ listed_length c.cols.result (λ j. cond (eqb c.args.column j) 1 0) ∙ c.cols.ensures.count
