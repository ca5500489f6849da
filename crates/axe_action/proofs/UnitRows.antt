-- The unit vectors of the columns that are no pivots, beside the rows that they extend to a basis.
use Rattle.std.proofs.Common.{◌≡◌, ℕ, List, ◌++◌, map, ap}
use Rattle.axe_algebra.specs.Lists.{unit_row}
use Rattle.axe_matrix.specs.Matrices.{MatrixValue}
use Rattle.axe_action.specs.Actions.{IsExtendedMatrix}
use Rattle.axe_action.specs.FreeColumns.{AreFreeColumns, rows_to_span}

-- the unit vectors of these columns
abbrev pub units_of : MatrixValue → List ℕ → MatrixValue
units_of rows columns = record { order = rows.order; cols = rows.cols; rows = map (unit_row rows.cols) columns }

-- after the rows they are the extended basis
pub extended_by_units : (rows units : MatrixValue) (columns : List ℕ) → AreFreeColumns (rows_to_span rows) columns →
    units ≡ units_of rows columns → IsExtendedMatrix rows (record units { rows = rows.rows ++ units.rows })
extended_by_units rows units columns free are = record {
  field = ap (λ (m : MatrixValue). m.order) are;
  columns = ap (λ (m : MatrixValue). m.cols) are;
  extends = record {
    columns = columns;
    free = free;
    equals = ap (λ (m : MatrixValue). rows.rows ++ m.rows) are;
  };
}
