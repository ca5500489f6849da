-- The pivots of the rows of an echelon form, and the table that has them.
use Rattle.std.specs.Prelude.{◌≡◌, ◌≢◌, ℕ, ◌/◌, ◌<◌, ◌≤◌, List, [], ◌∷◌, ◌++◌, length, get_or, set}
use Rattle.std.proofs.lemmas.List.{length-map, map-append}
use Rattle.axe_algebra.specs.Bridge.{matrix_of}
use Rattle.axe_algebra.specs.SpansOfLists.{IsPivot}
use Rattle.axe_field.specs.Order.{Order}
use Rattle.axe_field.specs.NumberFields.{number_field, gf}
use Rattle.axe_matrix.specs.Limits.{most_columns}
use Rattle.axe_echelon.specs.Subspaces.{rows_of, pivots_of, AreFormRows, AreTabledRows}
use Rattle.axe_row.specs.BitBlocks.{IsBlockOf}
use Rattle.axe_row.specs.declared.bit_block.BitBlock.{BitBlock}
use Rattle.axe_echelon.specs.PivotTables.{marks_of, HasRoom, IsPivotAt, HasPivots, HasBlocks}
use Rattle.axe_echelon.specs.declared.subspace.PivotRow.{PivotRow}
use Rattle.axe_echelon.specs.declared.pivot_table.PivotTable.{PivotTable}
use Rattle.axe_echelon.proofs.FormLaws.{form_of_none, place_of_pivot, pivot_of_place}
use Rattle.axe_echelon.proofs.PivotTableLaws.{pivots_more, blocks_more}
use Rattle.axe_echelon.proofs.PivotRowLaws.{length-rows_of}
use mathlib.Core.Path.{sym, ◌∙◌, ap, subst}
use native.Mathlib.Omega.{arith}

-- a column is a pivot exactly where it is that of a row
pub row_of_pivot : (o : Order) (n : ℕ) (rows : List PivotRow) (j : ℕ) → AreFormRows o n rows → IsPivot (number_field o) (rows_of rows) j →
    (t : ℕ) × (t < length rows) × (get_or (pivots_of rows) t 0 ≡ j)
row_of_pivot o n rows j are pivot =
    from (place_of_pivot (gf o) n (length (rows_of rows)) (matrix_of (number_field o) (rows_of rows)) (λ t. get_or (pivots_of rows) t 0) are.form j pivot)
  where
    from : (t : ℕ) × (t < length (rows_of rows)) × (get_or (pivots_of rows) t 0 ≡ j) → (t : ℕ) × (t < length rows) × (get_or (pivots_of rows) t 0 ≡ j)
    from (t, below, e) = (t, omega (arith, length-rows_of rows), e)

pub pivot_of_row_at : (o : Order) (n : ℕ) (rows : List PivotRow) (t : ℕ) → AreFormRows o n rows → t < length rows →
    IsPivot (number_field o) (rows_of rows) (get_or (pivots_of rows) t 0)
pivot_of_row_at o n rows t are below =
    pivot_of_place (gf o) n (length (rows_of rows)) (matrix_of (number_field o) (rows_of rows)) (λ t. get_or (pivots_of rows) t 0) are.form t
    (omega (arith, length-rows_of rows))

-- the table marks the columns that are pivots of the span
pub pivot_if_marked : (o : Order) (n : ℕ) (rows : List PivotRow) (table : PivotTable) (j : ℕ) → AreTabledRows o n rows table →
    get_or (marks_of table) j 0 ≢ 0 → IsPivot (number_field o) (rows_of rows) j
pivot_if_marked o n rows table j tabled marked = from (tabled.tabled.row j marked)
  where
    from : IsPivotAt (pivots_of rows) (get_or table.rows.items j 0) j → IsPivot (number_field o) (rows_of rows) j
    from at = subst (IsPivot (number_field o) (rows_of rows)) at.is
        (pivot_of_row_at o n rows (get_or table.rows.items j 0) tabled.are_rows (omega (arith, at.within, length-map rows (λ (p : PivotRow). p.pivot))))

pub marked_if_pivot : (o : Order) (n : ℕ) (rows : List PivotRow) (table : PivotTable) (j : ℕ) → AreTabledRows o n rows table →
    IsPivot (number_field o) (rows_of rows) j → get_or (marks_of table) j 0 ≢ 0
marked_if_pivot o n rows table j tabled pivot = from (row_of_pivot o n rows j tabled.are_rows pivot)
  where
    from : (t : ℕ) × (t < length rows) × (get_or (pivots_of rows) t 0 ≡ j) → get_or (marks_of table) j 0 ≢ 0
    from (t, below, e) = subst (λ k. get_or (marks_of table) k 0 ≢ 0) e
        (tabled.tabled.marked t (omega (arith, below, length-map rows (λ (p : PivotRow). p.pivot))))

-- no rows
pub tabled_none : (o : Order) (n : ℕ) (rows : List PivotRow) (table : PivotTable) → rows ≡ [] → 1 ≤ n → n ≤ most_columns → HasPivots n [] table →
    HasBlocks [] table → AreTabledRows o n rows table
tabled_none o n rows table none some fit has blocks = subst (λ (l : List PivotRow). AreTabledRows o n l table) (sym none) (record {
  are_rows = record {
    some_column = some;
    columns_fit = fit;
    each = λ i p below. absurd (omega (arith, below));
    form = form_of_none (gf o) n _ _;
  };
  tabled = has;
  has_blocks = blocks;
})

-- the pivot of one more row is marked
pub pivots_by_row : (n : ℕ) (rows next : List PivotRow) (p : PivotRow) (table after : PivotTable) (index : ℕ) → next ≡ rows ++ p ∷ [] →
    HasPivots n (pivots_of rows) table → HasRoom n table → p.pivot < n → index ≡ length rows → marks_of after ≡ set (marks_of table) p.pivot 1 →
    after.rows.items ≡ set table.rows.items p.pivot index → (block : BitBlock) → after.blocks.items ≡ set table.blocks.items p.pivot block →
    HasPivots n (pivots_of next) after
pivots_by_row n rows next p table after index pushed has room inside counted marks items block blocks =
    subst (λ (l : List ℕ). HasPivots n l after) (sym (ap pivots_of pushed ∙ map-append (λ (p : PivotRow). p.pivot) rows (p ∷ [])))
    (pivots_more n (pivots_of rows) p.pivot table after has room inside marks
    (items ∙ ap (set table.rows.items p.pivot) (counted ∙ sym (length-map rows (λ (p : PivotRow). p.pivot)))) block blocks)

pub blocks_by_row : (n : ℕ) (rows next : List PivotRow) (p : PivotRow) (table after : PivotTable) (index : ℕ) → next ≡ rows ++ p ∷ [] →
    HasPivots n (pivots_of rows) table → HasRoom n table → p.pivot < n → index ≡ length rows → marks_of after ≡ set (marks_of table) p.pivot 1 →
    after.rows.items ≡ set table.rows.items p.pivot index → (block : BitBlock) → after.blocks.items ≡ set table.blocks.items p.pivot block →
    HasBlocks rows table → IsBlockOf p.row (p.pivot / 64) block → HasBlocks next after
blocks_by_row n rows next p table after index pushed has room inside counted marks items block blocks before is =
    subst (λ (l : List PivotRow). HasBlocks l after) (sym pushed)
    (blocks_more n rows (pivots_of rows) p table after block has room before (length-map rows (λ (p : PivotRow). p.pivot)) inside is marks
    (items ∙ ap (set table.rows.items p.pivot) (counted ∙ sym (length-map rows (λ (p : PivotRow). p.pivot)))) blocks)

-- rows that are equal to these, and another table that has their pivots
pub tabled_as : (o : Order) (n : ℕ) (rows next : List PivotRow) (table after : PivotTable) → next ≡ rows → AreTabledRows o n rows table →
    HasPivots n (pivots_of rows) after → HasBlocks rows after → AreTabledRows o n next after
tabled_as o n rows next table after same tabled has blocks =
    subst (λ (l : List PivotRow). AreTabledRows o n l after) (sym same) (record { are_rows = tabled.are_rows; tabled = has; has_blocks = blocks })
