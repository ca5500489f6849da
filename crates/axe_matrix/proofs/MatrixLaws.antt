-- What holds of matrices as values: when they are equal, what their rows and entries are, and which are well formed.
use Rattle.std.proofs.Common.{◌≡◌, ℕ, ◌<◌, List, [], ◌∷◌, ◌++◌, length, get_or, false, not, eqb, inl, inr, sym, ◌∙◌, arith, length-append}
use Rattle.std.specs.List.{All}
use Rattle.std.proofs.lemmas.Bool.{cases_lt, eqb-true, not-false}
use Rattle.std.proofs.lemmas.List.{ext_get_or, get_or_past}
use Rattle.std.proofs.lemmas.List.Elements.{All-push, All-get_or}
use Rattle.axe_algebra.specs.Lists.{entry}
use Rattle.axe_field.specs.Order.{Order, order_number, IsElement}
use Rattle.axe_field.proofs.Orders.{zero_is_element, order_number-injective}
use Rattle.axe_row.specs.Rows.{IsRow}
use Rattle.axe_matrix.specs.Limits.{most_rows}
use Rattle.axe_matrix.specs.Matrices.{MatrixValue, IsMatrix, row_of}

-- fields that were compared, and not found to differ, are the same
pub one_field : (o p f g : Order) → f ≡ o → false ≡ not (eqb (order_number f) (order_number g)) → g ≡ p → o ≡ p
one_field o p f g fo tested gp = sym fo ∙ order_number-injective f g (eqb-true _ _ (not-false _ (sym tested))) ∙ gp

-- matrices with equal parts are equal
pub same_matrix : (a b : MatrixValue) → a.order ≡ b.order → a.cols ≡ b.cols → a.rows ≡ b.rows → a ≡ b
same_matrix a b e f g = λ i. record { order = e i; cols = f i; rows = g i }

-- a matrix with one more row
pub IsMatrix-push : (m : MatrixValue) (row : List ℕ) → IsMatrix m → length row ≡ m.cols → length m.rows < most_rows → All (IsElement m.order) row → IsMatrix (record m { rows = m.rows ++ row ∷ [] })
IsMatrix-push m row h long room elements = record {
  some_column = h.some_column;
  columns_fit = h.columns_fit;
  rows_fit = omega (arith, length-append m.rows (row ∷ []));
  row_lengths = All-push (λ r. length r ≡ m.cols) m.rows row h.row_lengths long;
  elements = All-push (All (IsElement m.order)) m.rows row h.elements elements;
}

-- a row has an entry in each column
pub length-row_of : (m : MatrixValue) (i : ℕ) → IsMatrix m → i < length m.rows → length (row_of m i).entries ≡ m.cols
length-row_of m i h below = All-get_or (λ r. length r ≡ m.cols) m.rows i [] below h.row_lengths

-- the entries of a row are elements
pub IsRow-row_of : (m : MatrixValue) (i : ℕ) → IsMatrix m → i < length m.rows → IsRow (row_of m i)
IsRow-row_of m i h below = record { elements = All-get_or (All (IsElement m.order)) m.rows i [] below h.elements }

-- an entry is an element, also the 0 outside the matrix
pub entry-IsElement : (m : MatrixValue) (i j : ℕ) → IsMatrix m → IsElement m.order (entry m.rows i j)
entry-IsElement m i j h =
    elim (cases_lt i (length m.rows)) [
      | inl row ↦ elim (cases_lt j (length (get_or m.rows i []))) [
        | inl column ↦ All-get_or (IsElement m.order) (get_or m.rows i []) j 0 column (IsRow-row_of m i h row).elements
        | inr past ↦ rw (get_or_past (get_or m.rows i []) j 0 past) (zero_is_element m.order)
      ]
      | inr past ↦ rw (get_or_past m.rows i [] past) (zero_is_element m.order)
    ]

-- lists of rows of one length with the same entries are equal
pub same_rows : (n : ℕ) (a b : List (List ℕ)) → All (λ row. length row ≡ n) a → All (λ row. length row ≡ n) b → length a ≡ length b → ((i j : ℕ) → i < length a → j < n → entry a i j ≡ entry b i j) → a ≡ b
same_rows n a b long-a long-b rows entries =
    ext_get_or [] a b rows (λ i below.
    let la : length (get_or a i []) ≡ n = All-get_or (λ row. length row ≡ n) a i [] below long-a in
    let lb : length (get_or b i []) ≡ n = All-get_or (λ row. length row ≡ n) b i [] (omega arith) long-b in
    ext_get_or 0 (get_or a i []) (get_or b i []) (la ∙ sym lb) (λ j within. entries i j below (omega arith)))
