use Rattle.std.proofs.Common.{ℕ, List, ap, sym, ◌∙◌, length, ◌<◌, ◌+◌, arith}
use Rattle.axe_algebra.proofs.ListEntries.{listed_length}
use Rattle.axe_row.specs.Rows.{RowValue}
use Rattle.axe_matrix.proofs.StripLaws.{IsStrip-column, column-elements, IsColumnsMatrix-from, IsColumnsMatrix-more, IsColumnsMatrix-all}
use Rattle.axe_matrix.proofs.Matrix.append_columns.Goals as goal

pub loop-index-init : goal.loop-index-init
loop-index-init c = IsColumnsMatrix-from _ _ c.args.matrix.now _ c.requires.begun c.requires.well_formed (omega arith)

pub from_elements-requires : goal.from_elements-requires
from_elements-requires c =
    let below : c.loop-index.index < c.args.width = omega arith in
    column-elements _ _ c.args.matrix.now (c.args.start + c.loop-index.index) c.field.ensures.order
    (IsStrip-column c.args.matrix.now _ _ _ _ _ _ _ c.in_ok-lines.ensures below c.deref.ensures.value c.in_ok-column.ensures c.deref-in-loop-index.ensures.value)
    c.field.ensures.well_formed

pub append-requires : goal.append-requires
append-requires c =
    let below : c.loop-index.index < c.args.width = omega arith in
    let column = IsStrip-column c.args.matrix.now _ _ _ _ _ _ _ c.in_ok-lines.ensures below c.deref.ensures.value c.in_ok-column.ensures c.deref-in-loop-index.ensures.value in
    record {
      field = ap (λ (r : RowValue). r.order) c.in_ok-row.ensures.copied ∙ c.field.ensures.order ∙ sym c.loop-index.invariant.field;
      fits = ap (λ (r : RowValue). length r.entries) c.in_ok-row.ensures.copied ∙ ap (λ (x : List ℕ). length x) column
          ∙ listed_length (length c.args.matrix.now.rows) _ ∙ sym c.loop-index.invariant.columns;
      room = omega (arith, c.loop-index.invariant.count, c.field.ensures.well_formed.columns_fit);
    }

pub loop-index-preserved : goal.loop-index-preserved
loop-index-preserved c =
    let below : c.loop-index.index < c.args.width = omega arith in
    let column = IsStrip-column c.args.matrix.now _ _ _ _ _ _ _ c.in_ok-lines.ensures below c.deref.ensures.value c.in_ok-column.ensures c.deref-in-loop-index.ensures.value in
    IsColumnsMatrix-more c.args.start c.loop-index.index c.args.matrix.now _ _ _ c.loop-index.invariant c.in_ok-append.ensures.appended c.append.ensures.well_formed
    (ap (λ (r : RowValue). r.entries) c.in_ok-row.ensures.copied ∙ column)

pub returns-clause-appended : goal.returns-clause-appended
returns-clause-appended c = IsColumnsMatrix-all _ _ c.args.matrix.now _ c.loop-index.invariant (omega arith)
