-- The rows of a matrix in the opposite order, and as rows of their own.
use Rattle.std.proofs.Common.{◌≡◌, ℕ, ◌-◌, ◌<◌, Bool, true, false, List, All, [], ◌∷◌, ◌++◌, length, get_or, map, reverse}
use Rattle.std.proofs.Common.{subst, refl, sym, ap, ◌∙◌, arith}
use Rattle.std.proofs.lemmas.List.{get_or-reverse, length-reverse, map-append, reverse-append}
use Rattle.std.proofs.lemmas.List.Elements.{All-from_get_or, All-get_or}
use Rattle.axe_field.specs.Order.{Order, IsElement}
use Rattle.axe_row.specs.Rows.{RowValue}
use Rattle.axe_matrix.specs.Matrices.{MatrixValue, IsMatrix, reversed_matrix, lines_of}
use Rattle.axe_matrix.specs.RowLists.{matrix_from_rows, MakeMatrix, AreRowsOf}
use Rattle.axe_matrix.proofs.RowListLaws.{All-from_entries}

-- ---- lists in the opposite order

-- what holds of each element holds of each of them
pub All-reverse : {X : Type 0} (P : X → Type 0) (xs : List X) (d : X) → All P xs → All P (reverse xs)
All-reverse P xs d each = All-from_get_or P (reverse xs) d (λ k below.
    let inside : k < length xs = omega (arith, below, length-reverse xs) in
    subst P (sym (get_or-reverse xs k d inside)) (All-get_or P xs (length xs - 1 - k) d (omega (arith, inside)) each))

-- the images of the elements stand in the opposite order too
map-reverse : {X Y : Type 0} (f : X → Y) (xs : List X) → map f (reverse xs) ≡ reverse (map f xs)
map-reverse f [] = refl
map-reverse f (x ∷ xs) =
    ap (map f) (reverse-append (x ∷ []) xs) ∙ map-append f (reverse xs) (x ∷ []) ∙ ap (λ l. l ++ f x ∷ []) (map-reverse f xs)
    ∙ sym (reverse-append (f x ∷ []) (map f xs))

-- ---- matrices with their rows in the opposite order

-- they are a matrix
pub IsMatrix-reverse : (m : MatrixValue) → IsMatrix m → IsMatrix (reversed_matrix m)
IsMatrix-reverse m h = record {
  some_column = h.some_column;
  columns_fit = h.columns_fit;
  rows_fit = omega (arith, length-reverse m.rows, h.rows_fit);
  row_lengths = All-reverse (λ row. length row ≡ m.cols) m.rows [] h.row_lengths;
  elements = All-reverse (All (IsElement m.order)) m.rows [] h.elements;
}

-- the rows in the opposite order make one
pub MakeMatrix-reverse : (o : Order) (n : ℕ) (rows : List RowValue) → MakeMatrix o n rows → MakeMatrix o n (reverse rows)
MakeMatrix-reverse o n rows h = record {
  one_field = All-reverse (λ row. row.order ≡ o) rows (record { order = o; entries = [] }) h.one_field;
  matrix = subst (λ l. IsMatrix (record { order = o; cols = n; rows = l })) (sym (map-reverse (λ (row : RowValue). row.entries) rows))
      (IsMatrix-reverse (matrix_from_rows o n rows) h.matrix);
}

-- and it is the reversed matrix
pub reversed_of : (o : Order) (n : ℕ) (rows turned : List RowValue) (m : MatrixValue) → matrix_from_rows o n rows ≡ m → turned ≡ reverse rows →
    matrix_from_rows o n turned ≡ reversed_matrix m
reversed_of o n rows turned m view_is turned_is =
    ap (matrix_from_rows o n) turned_is
    ∙ ap (λ (l : List (List ℕ)). record { order = o; cols = n; rows = l }) (map-reverse (λ (row : RowValue). row.entries) rows)
    ∙ ap reversed_matrix view_is

-- ---- a matrix, with its rows in the opposite order where that is asked

-- its field is the matrix's
pub lines_of-order : (from_last : Bool) (m : MatrixValue) → (lines_of from_last m).order ≡ m.order
lines_of-order true m = refl
lines_of-order false m = refl

-- it has as many columns
pub lines_of-cols : (from_last : Bool) (m : MatrixValue) → (lines_of from_last m).cols ≡ m.cols
lines_of-cols true m = refl
lines_of-cols false m = refl

-- it has as many rows
pub lines_of-count : (from_last : Bool) (m : MatrixValue) → length (lines_of from_last m).rows ≡ length m.rows
lines_of-count true m = length-reverse m.rows
lines_of-count false m = refl

-- it is a matrix
pub IsMatrix-lines : (from_last : Bool) (m : MatrixValue) → IsMatrix m → IsMatrix (lines_of from_last m)
IsMatrix-lines true m h = IsMatrix-reverse m h
IsMatrix-lines false m h = h

-- ---- rows that were those of a matrix

-- rows that make a matrix are its rows
pub rows_of : (o : Order) (n : ℕ) (rows : List RowValue) → MakeMatrix o n rows → AreRowsOf (matrix_from_rows o n rows) rows
rows_of o n rows h = record {
  entries = refl;
  one_field = h.one_field;
  as_long = All-from_entries (λ row. length row ≡ n) rows h.matrix.row_lengths;
  well_formed = λ k d below. record {
    elements = subst (λ q. All (IsElement q) (get_or rows k d).entries) (sym (h.one_field k d below))
        (All-from_entries (All (IsElement o)) rows h.matrix.elements k d below);
  };
}
