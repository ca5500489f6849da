-- Blocks of rows that are multiplied by the generators of a module at once.
use Rattle.std.specs.Prelude.{◌≡◌, ℕ, ◌+◌, ◌≤◌, List, [], ◌++◌, length, get_or}
use Rattle.axe_algebra.specs.Lists.{listed}
use Rattle.axe_algebra.specs.SpansOfLists.{HaveSameSpan}
use Rattle.axe_field.specs.NumberFields.{number_field}
use Rattle.axe_matrix.specs.Matrices.{MatrixValue}
use Rattle.axe_echelon.specs.Echelons.{EchelonValue}
use Rattle.axe_echelon.specs.Subspaces.{BeginWith}

-- the matrix of so many rows of the space, from row `source` on
abbrev pub block_of_rows : EchelonValue → ℕ → ℕ → MatrixValue
block_of_rows space source count = record {
  order = space.order;
  cols = space.cols;
  rows = listed count (λ i. get_or space.rows (source + i) []);
}

-- the rows of e span what those of `old` and the further rows span, and begin with those of `old`
pub record SpansMore (old : EchelonValue) (rows : List (List ℕ)) (e : EchelonValue) : Type 0 where
  pub field : e.order ≡ old.order
  pub columns : e.cols ≡ old.cols
  pub same : HaveSameSpan (number_field old.order) (old.rows ++ rows) e.rows
  pub grown : length old.rows ≤ length e.rows
  pub begins : BeginWith old.rows e.rows
