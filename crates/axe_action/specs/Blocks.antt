-- The blocks of a matrix by some columns and the others, row by row.
use Rattle.std.specs.Prelude.{◌≡◌, ℕ, ◌<◌, ◌≤◌, ◌⊎◌, List, [], ◌∷◌, ◌++◌, length, All}
use Rattle.axe_row.specs.Rows.{RowValue}
use Rattle.axe_matrix.specs.Limits.{most_rows, most_columns}
use Rattle.axe_matrix.specs.Matrices.{MatrixValue, IsMatrix, entries_at}
use Rattle.axe_action.specs.FreeColumns.{IsNextPivot}
use Rattle.axe_action.specs.declared.blocks.Blocks.{Blocks}

-- a matrix with one row more: the entries of v at these columns
abbrev pub with_entries : MatrixValue → List ℕ → List ℕ → MatrixValue
with_entries m columns v = record { order = m.order; cols = m.cols; rows = m.rows ++ entries_at columns v ∷ [] }

-- the next row, after those whose entries stand in the blocks, is at the next pivot
abbrev pub IsPivotRowNext : List ℕ → Blocks → Type 0
IsPivotRowNext pivots blocks = IsNextPivot pivots (length blocks.at_pivots.rows) (length blocks.across.rows)

-- the entries of a row at these columns can stand in the matrix
pub record FitsBlock (columns : List ℕ) (m : MatrixValue) (row : RowValue) : Type 0 where
  pub field : row.order ≡ m.order
  pub width : length columns ≡ m.cols
  pub within : All (λ column. column < length row.entries) columns

-- the entries of a row can stand in the blocks: in those of the other columns there is room for it, unless it is at a
-- pivot
pub record FitsBlocks (pivots columns : List ℕ) (blocks : Blocks) (row : RowValue) : Type 0 where
  pub at_pivots : FitsBlock pivots blocks.at_pivots row
  pub across : FitsBlock pivots blocks.across row
  pub at_columns : FitsBlock columns blocks.at_columns row
  pub pivots_fit : length pivots ≤ most_columns
  pub room : ¬ (IsPivotRowNext pivots blocks) →
      (length blocks.across.rows < most_rows) × (length blocks.at_columns.rows < most_rows)

-- a row v at a pivot comes to the blocks: its entries at the pivots to the block there
pub record AreWithPivotRow (pivots v : List ℕ) (before after : Blocks) : Type 0 where
  pub is_next : IsPivotRowNext pivots before
  pub at_pivots : after.at_pivots ≡ with_entries before.at_pivots pivots v
  pub across : after.across ≡ before.across
  pub at_columns : after.at_columns ≡ before.at_columns
  pub formed : IsMatrix after.at_pivots

-- a row v at another column comes to the blocks: its entries at the pivots to the block across, and those at the other
-- columns to the block there
pub record AreWithOtherRow (pivots columns v : List ℕ) (before after : Blocks) : Type 0 where
  pub is_other : ¬ (IsPivotRowNext pivots before)
  pub at_pivots : after.at_pivots ≡ before.at_pivots
  pub across : after.across ≡ with_entries before.across pivots v
  pub at_columns : after.at_columns ≡ with_entries before.at_columns columns v
  pub across_formed : IsMatrix after.across
  pub columns_formed : IsMatrix after.at_columns

-- the blocks after are those before with the entries of one row more, v
abbrev pub AreBlocksWith : (pivots columns v : List ℕ) (before after : Blocks) → Type 0
AreBlocksWith pivots columns v before after =
    AreWithPivotRow pivots v before after ⊎ AreWithOtherRow pivots columns v before after

-- the products of the entries at the other columns and the block across, both ways, can be added to the block at the
-- pivots and to that at the other columns
pub record FitsProducts (entries : MatrixValue) (blocks : Blocks) : Type 0 where
  pub at_pivots_field : entries.order ≡ blocks.at_pivots.order
  pub across_field : blocks.across.order ≡ blocks.at_pivots.order
  pub at_columns_field : blocks.across.order ≡ blocks.at_columns.order
  pub at_pivots_rows : length entries.rows ≡ length blocks.at_pivots.rows
  pub at_pivots_inner : entries.cols ≡ length blocks.across.rows
  pub at_pivots_columns : blocks.across.cols ≡ blocks.at_pivots.cols
  pub at_columns_rows : length blocks.across.rows ≡ length blocks.at_columns.rows
  pub at_columns_inner : blocks.across.cols ≡ length entries.rows
  pub at_columns_columns : entries.cols ≡ blocks.at_columns.cols
