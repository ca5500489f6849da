-- Tables of pivots by their columns.
use Rattle.std.specs.Prelude.{◌≡◌, ◌≢◌, ℕ, ◌/◌, ◌<◌, List, [], length, slice_index, slice_index_or}
use Rattle.std.specs.Prelude.{Option, Some, None, IfSome, MatchOption}
use Rattle.axe_row.specs.BitBlocks.{IsBlockOf}
use Rattle.axe_row.specs.declared.bit_block.BitBlock.{BitBlock}
use Rattle.axe_echelon.specs.declared.subspace.PivotRow.{PivotRow}
use Rattle.axe_echelon.specs.declared.pivot_table.PivotTable.{PivotTable}

-- the marks that there are
abbrev pub marks_in : Option (List ℕ) → List ℕ
marks_in None = []
marks_in (Some marks) = marks

-- the marks of a table by columns: 0 at each column that is no pivot
abbrev pub marks_of : PivotTable → List ℕ
marks_of table = marks_in table.marks

-- where there are marks, each of so many columns has one
abbrev pub FitsColumns : ℕ → PivotTable → Type 0
FitsColumns cols table = IfSome table.marks (λ marks. length marks ≡ cols)

-- there are a mark, the index of a row and a block for each of so many columns
pub record HasRoom (cols : ℕ) (table : PivotTable) : Type 0 where
  pub marks : length (marks_of table) ≡ cols
  pub rows : length table.rows.items ≡ cols
  pub blocks : length table.blocks.items ≡ cols

-- the column is the pivot at this index
pub record IsPivotAt (pivots : List ℕ) (index column : ℕ) : Type 0 where
  pub within : index < length pivots
  pub is : slice_index pivots index ≡ column

-- the pivots of the rows, in their order, are the columns that the table marks, and it has the index of each
pub record HasPivots (cols : ℕ) (pivots : List ℕ) (table : PivotTable) : Type 0 where
  pub room : MatchOption table.marks (length pivots ≡ 0) (λ _. HasRoom cols table)
  pub marked : (index : ℕ) → index < length pivots → slice_index (marks_of table) (slice_index pivots index) ≢ 0
  pub row : (column : ℕ) → slice_index (marks_of table) column ≢ 0 →
      IsPivotAt pivots (slice_index table.rows.items column) column

-- at each column that the table marks, its block is that of the row there: of the word in which the column stands
abbrev pub HasBlocks : List PivotRow → PivotTable → Type 0
HasBlocks rows table = (column : ℕ) (p : PivotRow) (block : BitBlock) → slice_index (marks_of table) column ≢ 0 →
    p ≡ slice_index_or rows (slice_index table.rows.items column) p →
    block ≡ slice_index_or table.blocks.items column block → IsBlockOf p.row (column / 64) block
