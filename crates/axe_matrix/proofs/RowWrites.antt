-- Rows that make a matrix, when one of them is written.
use Rattle.std.proofs.Common.{◌≡◌, ℕ, ◌<◌, List, [], length, get_or, set, map, sym, ap, ◌∙◌, subst, arith}
use Rattle.std.specs.List.{All}
use Rattle.std.proofs.lemmas.List.{get_or-map, length-map, length-set, map-set}
use Rattle.std.proofs.lemmas.List.Elements.{All-set}
use Rattle.axe_field.specs.Order.{Order, IsElement}
use Rattle.axe_row.specs.Rows.{RowValue, IsRow}
use Rattle.axe_row.proofs.RowLaws.{same_row}
use Rattle.axe_matrix.specs.Matrices.{MatrixValue, IsMatrix, row_of}
use Rattle.axe_matrix.specs.RowLists.{matrix_from_rows, MakeMatrix}

-- a matrix with another row
IsMatrix-set : (m : MatrixValue) (i : ℕ) (row : List ℕ) → IsMatrix m → length row ≡ m.cols → All (IsElement m.order) row →
    IsMatrix (record m { rows = set m.rows i row })
IsMatrix-set m i row h long elements = record {
  some_column = h.some_column;
  columns_fit = h.columns_fit;
  rows_fit = omega (arith, length-set m.rows i row, h.rows_fit);
  row_lengths = All-set (λ r. length r ≡ m.cols) m.rows i row long h.row_lengths;
  elements = All-set (All (IsElement m.order)) m.rows i row elements h.elements;
}

-- the row at an index is over the field
pub order-at : (o : Order) (n : ℕ) (rows : List RowValue) (i : ℕ) (row : RowValue) → MakeMatrix o n rows → i < length rows → row ≡ get_or rows i row →
    row.order ≡ o
order-at o n rows i row h below e = ap (λ (r : RowValue). r.order) e ∙ h.one_field i row below

-- an index of a row of the matrix is one of the list
pub below_rows : (m : MatrixValue) (o : Order) (n : ℕ) (rows : List RowValue) (i : ℕ) → matrix_from_rows o n rows ≡ m → i < length m.rows → i < length rows
below_rows m o n rows i is below =
    omega (arith, ap (λ (x : MatrixValue). length x.rows) is, length-map rows (λ (r : RowValue). r.entries), below)

-- another row is written at an index
pub MakeMatrix-write : (o : Order) (n : ℕ) (rows : List RowValue) (i : ℕ) (new : RowValue) → MakeMatrix o n rows →
    new.order ≡ o → length new.entries ≡ n → IsRow new → MakeMatrix o n (set rows i new)
MakeMatrix-write o n rows i new h field fits well_formed = record {
  one_field = All-set (λ (r : RowValue). r.order ≡ o) rows i new field h.one_field;
  matrix = subst (λ list. IsMatrix (record { order = o; cols = n; rows = list })) (sym (map-set (λ (r : RowValue). r.entries) rows i new))
      (IsMatrix-set (matrix_from_rows o n rows) i new.entries h.matrix fits (subst (λ p. All (IsElement p) new.entries) field well_formed.elements));
}

-- the row at an index, as one of the matrix
row-at : (o : Order) (n : ℕ) (rows : List RowValue) (i : ℕ) (row : RowValue) → MakeMatrix o n rows → i < length rows → row ≡ get_or rows i row →
    row ≡ row_of (matrix_from_rows o n rows) i
row-at o n rows i row h below e =
    same_row row (row_of (matrix_from_rows o n rows) i) (order-at o n rows i row h below e)
    (ap (λ (r : RowValue). r.entries) e ∙ sym (get_or-map (λ (r : RowValue). r.entries) rows i row [] below))

-- and as one of what the matrix is
pub row-read : (m : MatrixValue) (o : Order) (n : ℕ) (rows : List RowValue) (i : ℕ) (row : RowValue) → matrix_from_rows o n rows ≡ m → MakeMatrix o n rows →
    i < length rows → row ≡ get_or rows i row → row_of m i ≡ row
row-read m o n rows i row is h below e = ap (λ x. row_of x i) (sym is) ∙ sym (row-at o n rows i row h below e)

-- what is made of the row at an index is written there
pub matrix_from_written_rows : (o : Order) (n : ℕ) (rows : List RowValue) (i : ℕ) (old new : RowValue) (after : RowValue → RowValue) → MakeMatrix o n rows →
    i < length rows → old ≡ get_or rows i old → new ≡ after old →
    matrix_from_rows o n (set rows i new)
    ≡ record { order = o; cols = n; rows = set (map (λ (r : RowValue). r.entries) rows) i (after (row_of (matrix_from_rows o n rows) i)).entries }
matrix_from_written_rows o n rows i old new after h below old_is new_is =
    ap (λ list. record { order = o; cols = n; rows = list }) (
    map-set (λ (r : RowValue). r.entries) rows i new
    ∙ ap (λ (r : RowValue). set (map (λ (r : RowValue). r.entries) rows) i r.entries) (new_is ∙ ap after (row-at o n rows i old h below old_is)))
