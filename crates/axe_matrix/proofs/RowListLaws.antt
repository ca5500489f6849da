-- Rows that make a matrix.
use Rattle.std.proofs.Common.{◌≡◌, ℕ, ◌<◌, List, [], ◌∷◌, ◌++◌, length, get_or, map, ap, ◌∙◌, arith}
use Rattle.std.specs.List.{All}
use Rattle.std.proofs.lemmas.List.{get_or-map, length-map, map-append}
use Rattle.std.proofs.lemmas.List.Elements.{All-push}
use Rattle.axe_field.specs.Order.{Order, IsElement}
use Rattle.axe_row.specs.Rows.{RowValue, IsRow}
use Rattle.axe_matrix.specs.Limits.{most_rows}
use Rattle.axe_matrix.specs.RowLists.{matrix_from_rows, MakeMatrix}
use Rattle.axe_matrix.proofs.MatrixLaws.{IsMatrix-push}

-- what holds of each list of entries holds of the entries of each row
pub All-from_entries : (P : List ℕ → Type 0) (rows : List RowValue) → All P (map (λ (row : RowValue). row.entries) rows) → All (λ row. P row.entries) rows
All-from_entries P rows h k d below =
    let e : get_or (map (λ (row : RowValue). row.entries) rows) k [] ≡ (get_or rows k d).entries = get_or-map (λ row. row.entries) rows k d [] below in
    let in_list : k < length (map (λ (row : RowValue). row.entries) rows) = omega (arith, length-map rows (λ row. row.entries)) in
    rw e at (h k [] in_list)

-- with one more row
pub MakeMatrix-push : (o : Order) (n : ℕ) (rows : List RowValue) (row : RowValue) → MakeMatrix o n rows → IsRow row → row.order ≡ o → length row.entries ≡ n → length (map (λ (row : RowValue). row.entries) rows) < most_rows → MakeMatrix o n (rows ++ row ∷ [])
MakeMatrix-push o n rows row h r field fits room = record {
  one_field = All-push (λ x. x.order ≡ o) rows row h.one_field field;
  matrix =
      let elements : All (IsElement o) row.entries = rw (← field) r.elements in
      rw (map-append (λ (x : RowValue). x.entries) rows (row ∷ [])) (IsMatrix-push (matrix_from_rows o n rows) row.entries h.matrix fits room elements);
}

-- a row of a matrix, read at its index
pub IsRow-at : (o : Order) (n : ℕ) (rows : List RowValue) (i : ℕ) (row : RowValue) → MakeMatrix o n rows → i < length rows → row ≡ get_or rows i row → IsRow row
IsRow-at o n rows i row h below e =
    let field : (get_or rows i row).order ≡ o = h.one_field i row below in
    let elements : All (IsElement o) (get_or rows i row).entries = All-from_entries (All (IsElement o)) rows h.matrix.elements i row below in
    record { elements = rw (ap (λ (r : RowValue). r.order) e ∙ field, ap (λ (r : RowValue). r.entries) e) elements }

-- and it has an entry in each column
pub length-at : (o : Order) (n : ℕ) (rows : List RowValue) (i : ℕ) (row : RowValue) → MakeMatrix o n rows → i < length rows → row ≡ get_or rows i row → length row.entries ≡ n
length-at o n rows i row h below e =
    ap (λ (r : RowValue). length r.entries) e ∙ All-from_entries (λ r. length r ≡ n) rows h.matrix.row_lengths i row below
