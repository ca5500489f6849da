use Rattle.std.proofs.Common.{ℕ, List, length, get_or, refl, sym, ap, ◌∙◌, arith}
use Rattle.std.proofs.lemmas.List.{length-map}
use Rattle.axe_row.specs.Rows.{RowValue}
use Rattle.axe_matrix.specs.Matrices.{entries_at}
use Rattle.axe_matrix.proofs.PartialMatrices.{IsPartialMatrix-none, IsPartialMatrix-more, IsPartialMatrix-all}
use Rattle.axe_matrix.proofs.Matrix.columns_at.Goals as goal

pub loop-index-init : goal.loop-index-init
loop-index-init c = IsPartialMatrix-none _ _ _ _ _ _ c.in_ok-chosen.ensures.no_rows c.in_ok-chosen.ensures.well_formed c.field.ensures.order refl

pub append-requires-clause-fits : goal.append-requires-clause-fits
append-requires-clause-fits c =
    ap (λ (row : RowValue). length row.entries) c.in_ok-row.ensures.selected
    ∙ length-map c.new-places.result (λ column. get_or c.row.result.now.entries column 0) ∙ ap length c.new-places.ensures
    ∙ sym c.loop-index.invariant.columns

pub loop-index-preserved : goal.loop-index-preserved
loop-index-preserved c =
    let row = ap (λ (r : RowValue). r.entries) c.in_ok-row.ensures.selected
    ∙ ap (λ (columns : List ℕ). entries_at columns c.row.result.now.entries) c.new-places.ensures
    ∙ ap (λ (r : RowValue). entries_at c.args.columns.now r.entries) c.row.ensures.value in
    IsPartialMatrix-more _ _ _ _ _ _ _ c.loop-index.invariant c.in_ok-append.ensures.appended c.append.ensures.well_formed row

pub returns-clause-columns : goal.returns-clause-columns
returns-clause-columns c =
    IsPartialMatrix-all _ _ _ _ _ _ c.loop-index.invariant
    (omega (arith, c.rows-index-end.ensures.count, c.loop-index-test.false, c.loop-index.auto.index-end))
