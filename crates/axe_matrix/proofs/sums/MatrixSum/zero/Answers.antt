use Rattle.std.proofs.Common.{◌<◌, [], length, refl, sym, ap, ◌∙◌, subst, arith}
use Rattle.axe_row.specs.Rows.{RowValue}
use Rattle.axe_matrix.specs.Matrices.{IsMatrix}
use Rattle.axe_matrix.specs.RowLists.{matrix_from_rows}
use Rattle.axe_algebra.proofs.ListEntries.{listed_length}
use Rattle.axe_matrix.proofs.VectorLaws.{replicate-listed}
use Rattle.axe_matrix.proofs.PartialMatrices.{IsPartialMatrix-none, IsPartialMatrix-more, IsPartialMatrix-all}
use Rattle.axe_matrix.proofs.sums.MatrixSum.zero.Goals as goal

pub loop-index-init : goal.loop-index-init
loop-index-init c =
    let empty = ap (matrix_from_rows c.args.field c.args.cols) c.in_ok-with_capacity.ensures.items in
    let well_formed : IsMatrix (record { order = c.args.field; cols = c.args.cols; rows = [] }) = record {
      some_column = c.requires.some_column;
      columns_fit = c.requires.columns_fit;
      rows_fit = omega arith;
      row_lengths = λ i d below. let none : i < 0 = below in absurd (omega arith);
      elements = λ i d below. let none : i < 0 = below in absurd (omega arith);
    } in
    IsPartialMatrix-none _ _ _ _ _ _ empty (subst IsMatrix (sym empty) well_formed) refl refl

pub append-requires-clause-field : goal.append-requires-clause-field
append-requires-clause-field c =
    ap (λ (row : RowValue). row.order) c.in_ok-sum.ensures.zeros ∙ sym c.loop-index.invariant.field

pub append-requires-clause-fits : goal.append-requires-clause-fits
append-requires-clause-fits c =
    ap (λ (row : RowValue). length row.entries) c.in_ok-sum.ensures.zeros ∙ ap length (replicate-listed c.args.cols 0)
    ∙ listed_length _ _ ∙ sym c.loop-index.invariant.columns

pub append-requires-clause-room : goal.append-requires-clause-room
append-requires-clause-room c = omega (arith, c.loop-index.invariant.count, c.loop-index-test.true, c.requires.rows_fit)

pub append-requires-clause-well_formed : goal.append-requires-clause-well_formed
append-requires-clause-well_formed c = c.loop-index.invariant.well_formed

pub loop-index-preserved : goal.loop-index-preserved
loop-index-preserved c =
    let row = ap (λ (r : RowValue). r.entries) c.in_ok-sum.ensures.zeros ∙ replicate-listed c.args.cols 0 in
    IsPartialMatrix-more _ _ _ _ _ _ _ c.loop-index.invariant c.in_ok-append.ensures.appended
    c.append.ensures.well_formed row

pub returns-clause-zeros : goal.returns-clause-zeros
returns-clause-zeros c =
    IsPartialMatrix-all _ _ _ _ _ _ c.loop-index.invariant
    (omega (arith, c.loop-index-test.false, c.loop-index.auto.index-end))
