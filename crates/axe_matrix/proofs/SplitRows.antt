-- Rows that move from one matrix to another: those of a matrix that is split, and those that are appended.
use Rattle.std.proofs.Common.{◌≡◌, ℕ, ◌+◌, ◌≤◌, List, All, ◌++◌, length, take, drop, subst, sym, ap, ◌∙◌, arith, length-append}
use Rattle.std.proofs.lemmas.List.{length-drop, length-take, take-map, drop-map, map-append}
use Rattle.std.proofs.lemmas.List.Elements.{All-append, All-take, All-drop}
use Rattle.axe_field.specs.Order.{Order, IsElement}
use Rattle.axe_row.specs.Rows.{RowValue}
use Rattle.axe_matrix.specs.Limits.{most_rows}
use Rattle.axe_matrix.specs.Matrices.{MatrixValue, IsMatrix}
use Rattle.axe_matrix.specs.RowLists.{matrix_from_rows, MakeMatrix}

-- ---- matrices of some of the rows, and of more

-- some of the rows of a matrix: no more of them, and what holds of all rows holds of these
IsMatrix-some : (m : MatrixValue) (rows : List (List ℕ)) → IsMatrix m → length rows ≤ length m.rows →
    ((P : List ℕ → Type 0) → All P m.rows → All P rows) → IsMatrix (record m { rows = rows })
IsMatrix-some m rows h fewer among = record {
  some_column = h.some_column;
  columns_fit = h.columns_fit;
  rows_fit = omega (arith, fewer, h.rows_fit);
  row_lengths = among (λ row. length row ≡ m.cols) h.row_lengths;
  elements = among (All (IsElement m.order)) h.elements;
}

IsMatrix-append : (m : MatrixValue) (rows : List (List ℕ)) → IsMatrix m → IsMatrix (record m { rows = rows }) →
    length m.rows + length rows ≤ most_rows → IsMatrix (record m { rows = m.rows ++ rows })
IsMatrix-append m rows h more room = record {
  some_column = h.some_column;
  columns_fit = h.columns_fit;
  rows_fit = omega (arith, length-append m.rows rows, room);
  row_lengths = All-append (λ row. length row ≡ m.cols) m.rows rows h.row_lengths more.row_lengths;
  elements = All-append (All (IsElement m.order)) m.rows rows h.elements more.elements;
}

pub MakeMatrix-take : (o : Order) (n : ℕ) (rows : List RowValue) (count : ℕ) → MakeMatrix o n rows → MakeMatrix o n (take count rows)
MakeMatrix-take o n rows count h = let all = (matrix_from_rows o n rows).rows in record {
  one_field = All-take (λ row. row.order ≡ o) count rows h.one_field;
  matrix = subst (λ l. IsMatrix (record { order = o; cols = n; rows = l })) (take-map (λ row. row.entries) count rows)
      (IsMatrix-some (matrix_from_rows o n rows) (take count all) h.matrix (omega (arith, length-take count all)) (λ P. All-take P count all));
}

pub MakeMatrix-drop : (o : Order) (n : ℕ) (rows : List RowValue) (count : ℕ) → MakeMatrix o n rows → MakeMatrix o n (drop count rows)
MakeMatrix-drop o n rows count h = let all = (matrix_from_rows o n rows).rows in record {
  one_field = All-drop (λ row. row.order ≡ o) count rows h.one_field;
  matrix = subst (λ l. IsMatrix (record { order = o; cols = n; rows = l })) (drop-map (λ row. row.entries) count rows)
      (IsMatrix-some (matrix_from_rows o n rows) (drop count all) h.matrix (omega (arith, length-drop count all)) (λ P. All-drop P count all));
}

pub MakeMatrix-append : (o : Order) (n : ℕ) (rows more : List RowValue) → MakeMatrix o n rows → MakeMatrix o n more →
    length (matrix_from_rows o n rows).rows + length (matrix_from_rows o n more).rows ≤ most_rows → MakeMatrix o n (rows ++ more)
MakeMatrix-append o n rows more h further room = record {
  one_field = All-append (λ row. row.order ≡ o) rows more h.one_field further.one_field;
  matrix = subst (λ l. IsMatrix (record { order = o; cols = n; rows = l })) (sym (map-append (λ (row : RowValue). row.entries) rows more))
      (IsMatrix-append (matrix_from_rows o n rows) (matrix_from_rows o n more).rows h.matrix further.matrix room);
}

-- a matrix of the first rows, and of those after them
pub first_rows_of : (o : Order) (n : ℕ) (rows part : List RowValue) (m : MatrixValue) (count : ℕ) → matrix_from_rows o n rows ≡ m →
    part ≡ take count rows → matrix_from_rows o n part ≡ record m { rows = take count m.rows }
first_rows_of o n rows part m count view_is part_is =
    ap (matrix_from_rows o n) part_is
    ∙ ap (λ (l : List (List ℕ)). record { order = o; cols = n; rows = l }) (sym (take-map (λ (row : RowValue). row.entries) count rows))
    ∙ ap (λ (x : MatrixValue). record x { rows = take count x.rows }) view_is

pub rows_after_of : (o : Order) (n : ℕ) (rows part : List RowValue) (m : MatrixValue) (count : ℕ) → matrix_from_rows o n rows ≡ m →
    part ≡ drop count rows → matrix_from_rows o n part ≡ record m { rows = drop count m.rows }
rows_after_of o n rows part m count view_is part_is =
    ap (matrix_from_rows o n) part_is
    ∙ ap (λ (l : List (List ℕ)). record { order = o; cols = n; rows = l }) (sym (drop-map (λ (row : RowValue). row.entries) count rows))
    ∙ ap (λ (x : MatrixValue). record x { rows = drop count x.rows }) view_is
