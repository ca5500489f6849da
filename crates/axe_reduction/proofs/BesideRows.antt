-- Matrices beside one another that are made of rows.
use Rattle.std.proofs.Common.{◌≡◌, ℕ, ◌+◌, ◌<◌, List, [], ◌∷◌, ◌++◌, length, get_or, map, sym, ap, ap₂, ◌∙◌, arith}
use Rattle.std.proofs.lemmas.List.{ext_get_or, get_or-map, length-map, map-append}
use Rattle.std.proofs.lemmas.List.Elements.{All-head, All-tail, All-same}
use Rattle.std.specs.List.{All}
use Rattle.axe_matrix.specs.Matrices.{MatrixValue, IsMatrix}
use Rattle.axe_reduction.specs.Augmented.{AugmentedValue, AreBeside, augmented, rows_beside}
use Rattle.axe_reduction.specs.AugmentedRows.{whole, IsRowOf}
use Rattle.axe_reduction.specs.declared.augmented_row.AugmentedRow.{AugmentedRow}
use Rattle.axe_reduction.proofs.BesideLaws.{length-rows_beside, row-rows_beside, same_augmented}

-- two matrices of the parts of rows, like an augmented matrix
pub record AreOfRows (v : AugmentedValue) (rows : List AugmentedRow) (a b : MatrixValue) : Type 0 where
  pub left_field : a.order ≡ v.order
  pub left_columns : a.cols ≡ v.left
  pub left_rows : a.rows ≡ map (λ (row : AugmentedRow). row.left.entries) rows
  pub left_fine : IsMatrix a
  pub right_field : b.order ≡ v.order
  pub right_columns : v.left + b.cols ≡ v.cols
  pub right_rows : b.rows ≡ map (λ (row : AugmentedRow). row.right.entries) rows
  pub right_fine : IsMatrix b

-- of no rows
pub of_no_rows : (x y : MatrixValue) (v : AugmentedValue) (a b : MatrixValue) → augmented x y ≡ v → AreBeside x y →
    a ≡ record { order = x.order; cols = x.cols; rows = [] } → b ≡ record { order = y.order; cols = y.cols; rows = [] } →
    IsMatrix a → IsMatrix b → AreOfRows v [] a b
of_no_rows x y v a b view_is h a_is b_is left_fine right_fine = record {
  left_field = ap (λ (m : MatrixValue). m.order) a_is ∙ ap (λ (w : AugmentedValue). w.order) view_is;
  left_columns = ap (λ (m : MatrixValue). m.cols) a_is ∙ ap (λ (w : AugmentedValue). w.left) view_is;
  left_rows = ap (λ (m : MatrixValue). m.rows) a_is;
  left_fine = left_fine;
  right_field = ap (λ (m : MatrixValue). m.order) b_is ∙ h.field ∙ ap (λ (w : AugmentedValue). w.order) view_is;
  right_columns =
      ap (λ (m : MatrixValue). v.left + m.cols) b_is ∙ ap (λ k. k + y.cols) (sym (ap (λ (w : AugmentedValue). w.left) view_is))
      ∙ ap (λ (w : AugmentedValue). w.cols) view_is;
  right_rows = ap (λ (m : MatrixValue). m.rows) b_is;
  right_fine = right_fine;
}

-- one of the rows of a list, after some first ones, is like all of them
row_after : (v : AugmentedValue) (first : List AugmentedRow) (row : AugmentedRow) (rest : List AugmentedRow) →
    All (IsRowOf v) (first ++ row ∷ rest) → IsRowOf v row
row_after v [] row rest h = All-head (IsRowOf v) row rest h
row_after v (other ∷ first) row rest h = row_after v first row rest (All-tail (IsRowOf v) other (first ++ row ∷ rest) h)

pub next_row : (v : AugmentedValue) (rows first left : List AugmentedRow) (row : AugmentedRow) (rest : List AugmentedRow) →
    All (IsRowOf v) rows → first ++ left ≡ rows → left ≡ row ∷ rest → IsRowOf v row
next_row v rows first left row rest h all next =
    row_after v first row rest (All-same (IsRowOf v) (first ++ row ∷ rest) rows (ap (λ l. first ++ l) (sym next) ∙ all) h)

-- of one row more
pub of_more_rows : (v : AugmentedValue) (rows : List AugmentedRow) (a b next_a next_b : MatrixValue) (row : AugmentedRow) → AreOfRows v rows a b →
    next_a ≡ record a { rows = a.rows ++ row.left.entries ∷ [] } → next_b ≡ record b { rows = b.rows ++ row.right.entries ∷ [] } →
    IsMatrix next_a → IsMatrix next_b → AreOfRows v (rows ++ row ∷ []) next_a next_b
of_more_rows v rows a b next_a next_b row h a_is b_is left_fine right_fine = record {
  left_field = ap (λ (m : MatrixValue). m.order) a_is ∙ h.left_field;
  left_columns = ap (λ (m : MatrixValue). m.cols) a_is ∙ h.left_columns;
  left_rows =
      ap (λ (m : MatrixValue). m.rows) a_is ∙ ap (λ (l : List (List ℕ)). l ++ row.left.entries ∷ []) h.left_rows
      ∙ sym (map-append (λ (row : AugmentedRow). row.left.entries) rows (row ∷ []));
  left_fine = left_fine;
  right_field = ap (λ (m : MatrixValue). m.order) b_is ∙ h.right_field;
  right_columns = ap (λ (m : MatrixValue). v.left + m.cols) b_is ∙ h.right_columns;
  right_rows =
      ap (λ (m : MatrixValue). m.rows) b_is ∙ ap (λ (l : List (List ℕ)). l ++ row.right.entries ∷ []) h.right_rows
      ∙ sym (map-append (λ (row : AugmentedRow). row.right.entries) rows (row ∷ []));
  right_fine = right_fine;
}

-- they are beside one another
pub rows-AreBeside : (v : AugmentedValue) (rows : List AugmentedRow) (a b : MatrixValue) → AreOfRows v rows a b → AreBeside a b
rows-AreBeside v rows a b h = record {
  field = h.right_field ∙ sym h.left_field;
  as_many =
      ap (λ (l : List (List ℕ)). length l) h.right_rows ∙ length-map rows (λ (row : AugmentedRow). row.right.entries)
      ∙ sym (ap (λ (l : List (List ℕ)). length l) h.left_rows ∙ length-map rows (λ (row : AugmentedRow). row.left.entries));
  left = h.left_fine;
  right = h.right_fine;
}

wholes_beside : (rows : List AugmentedRow) →
    rows_beside (map (λ (row : AugmentedRow). row.left.entries) rows) (map (λ (row : AugmentedRow). row.right.entries) rows) ≡ map whole rows
wholes_beside rows =
    let left : List (List ℕ) = map (λ (row : AugmentedRow). row.left.entries) rows in
    let right : List (List ℕ) = map (λ (row : AugmentedRow). row.right.entries) rows in
    let count : length left ≡ length rows = length-map rows (λ (row : AugmentedRow). row.left.entries) in
    ext_get_or [] (rows_beside left right) (map whole rows) (length-rows_beside left right ∙ count ∙ sym (length-map rows whole)) (λ i below.
    let inside : i < length rows = omega (arith, length-rows_beside left right, count) in
    row-rows_beside left right i (omega (arith, count)) ∙ at rows i inside)
  where
    at : (rows : List AugmentedRow) (i : ℕ) → i < length rows →
        get_or (map (λ (row : AugmentedRow). row.left.entries) rows) i [] ++ get_or (map (λ (row : AugmentedRow). row.right.entries) rows) i []
        ≡ get_or (map whole rows) i []
    at [] i below = absurd (let wrong : ⊥ = omega (arith, below) in wrong)
    at (row ∷ rest) i below =
        ap₂ (λ (x y : List ℕ). x ++ y) (get_or-map (λ (row : AugmentedRow). row.left.entries) (row ∷ rest) i row [] below)
        (get_or-map (λ (row : AugmentedRow). row.right.entries) (row ∷ rest) i row [] below)
        ∙ sym (get_or-map whole (row ∷ rest) i row [] below)

-- and have these rows
pub rows_are_whole : (v : AugmentedValue) (rows : List AugmentedRow) (a b : MatrixValue) → AreOfRows v rows a b →
    augmented a b ≡ record v { rows = map whole rows }
rows_are_whole v rows a b h =
    same_augmented (augmented a b) (record v { rows = map whole rows }) h.left_field h.left_columns
    (ap (λ k. k + b.cols) h.left_columns ∙ h.right_columns) (ap₂ rows_beside h.left_rows h.right_rows ∙ wholes_beside rows)
