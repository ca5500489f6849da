-- Lists of rows beside one another, and the augmented matrices that matrices make.
use Rattle.std.proofs.Common.{◌≡◌, ℕ, ◌+◌, ◌-◌, ◌<◌, List, [], ◌++◌, length, get_or, inl, inr, refl, sym, ap, ap₂, subst, ◌∙◌, arith, length-append}
use Rattle.std.specs.List.{All}
use Rattle.std.proofs.lemmas.Bool.{cases_lt}
use Rattle.std.proofs.lemmas.List.{ext_get_or, get_or_append_left, get_or-append-add}
use Rattle.std.proofs.lemmas.List.Elements.{All-get_or, All-from_get_or, All-append}
use Rattle.axe_algebra.specs.Lists.{entry, table, IsVectorOver, IsMatrixOver}
use Rattle.axe_algebra.proofs.ListEntries.{listed_length, listed_at, table_length, table_row, table_entry}
use Rattle.axe_field.specs.Order.{Order, IsElement}
use Rattle.axe_field.specs.NumberFields.{number_field}
use Rattle.axe_matrix.specs.Matrices.{MatrixValue, IsMatrix}
use Rattle.axe_matrix.proofs.BlockRows.{elements-below}
use Rattle.axe_matrix.proofs.MatrixLaws.{same_matrix, same_rows, length-row_of, IsRow-row_of}
use Rattle.axe_reduction.specs.Augmented.{AugmentedValue, IsAugmented, AreBeside, rows_beside, augmented, right_part}

-- each row has so many entries
abbrev pub HaveLength : ℕ → List (List ℕ) → Type 0
HaveLength n rows = All (λ row. length row ≡ n) rows

-- as many rows as the first list has
pub length-rows_beside : (a b : List (List ℕ)) → length (rows_beside a b) ≡ length a
unfolding rows_beside
length-rows_beside a b = listed_length (length a) _

-- row i is row i of the first and then that of the second
pub row-rows_beside : (a b : List (List ℕ)) (i : ℕ) → i < length a → get_or (rows_beside a b) i [] ≡ get_or a i [] ++ get_or b i []
unfolding rows_beside
row-rows_beside a b i below = listed_at (length a) _ i [] below

-- a row of a list of rows of one length
pub length-row : (n : ℕ) (a : List (List ℕ)) (i : ℕ) → HaveLength n a → i < length a → length (get_or a i []) ≡ n
length-row n a i long below = All-get_or (λ row. length row ≡ n) a i [] below long

-- an entry left of the bar
pub left-entry : (m : ℕ) (a b : List (List ℕ)) (i j : ℕ) → HaveLength m a → i < length a → j < m → entry (rows_beside a b) i j ≡ entry a i j
left-entry m a b i j long below inside =
    let row : length (get_or a i []) ≡ m = length-row m a i long below in
    ap (λ (r : List ℕ). get_or r j 0) (row-rows_beside a b i below)
    ∙ get_or_append_left (get_or a i []) (get_or b i []) 0 j (omega (arith, row))

-- an entry right of the bar
pub right-entry : (m : ℕ) (a b : List (List ℕ)) (i j : ℕ) → HaveLength m a → i < length a → entry (rows_beside a b) i (m + j) ≡ entry b i j
right-entry m a b i j long below =
    ap (λ (r : List ℕ). get_or r (m + j) 0) (row-rows_beside a b i below)
    ∙ ap (λ k. get_or (get_or a i [] ++ get_or b i []) (k + j) 0) (sym (length-row m a i long below))
    ∙ get_or-append-add (get_or a i []) (get_or b i []) j 0

-- the rows have the entries of both
pub long-rows_beside : (m n : ℕ) (a b : List (List ℕ)) → HaveLength m a → HaveLength n b → length b ≡ length a → HaveLength (m + n) (rows_beside a b)
long-rows_beside m n a b long_a long_b same =
    All-from_get_or (λ row. length row ≡ m + n) (rows_beside a b) [] (λ i below.
    let inside : i < length a = omega (arith, length-rows_beside a b) in
    ap (λ (r : List ℕ). length r) (row-rows_beside a b i inside) ∙ length-append (get_or a i []) (get_or b i [])
    ∙ ap₂ (λ (x y : ℕ). x + y) (length-row m a i long_a inside) (length-row n b i long_b (omega arith)))

-- rows with these entries stand beside one another
pub is_beside : (m n : ℕ) (a b rows : List (List ℕ)) → HaveLength m a → HaveLength n b → length b ≡ length a → length rows ≡ length a → HaveLength (m + n) rows →
    ((i j : ℕ) → i < length a → j < m → entry a i j ≡ entry rows i j) → ((i j : ℕ) → i < length a → j < n → entry b i j ≡ entry rows i (m + j)) →
    rows_beside a b ≡ rows
is_beside m n a b rows long_a long_b same count long left right =
    same_rows (m + n) (rows_beside a b) rows (long-rows_beside m n a b long_a long_b same) long (length-rows_beside a b ∙ sym count) (λ i j below within.
    let inside : i < length a = omega (arith, length-rows_beside a b) in
    elim (cases_lt j m) [
      | inl before ↦ left-entry m a b i j long_a inside before ∙ left i j inside before
      | inr past ↦
          let at : m + (j - m) ≡ j = omega arith in
          subst (λ k. entry (rows_beside a b) i k ≡ entry rows i k) at
          (right-entry m a b i (j - m) long_a inside ∙ right i (j - m) inside (omega arith))
    ])

-- the rows of a table
pub long-table : (m n : ℕ) (f : ℕ → ℕ → ℕ) → HaveLength n (table m n f)
long-table m n f =
    All-from_get_or (λ row. length row ≡ n) (table m n f) [] (λ i below.
    ap (λ (r : List ℕ). length r) (table_row m n f i (omega (arith, table_length m n f))) ∙ listed_length n (f i))

-- the second list is what stands right of the bar
pub right_of_beside : (m n : ℕ) (a b : List (List ℕ)) → HaveLength m a → HaveLength n b → length b ≡ length a →
    b ≡ table (length (rows_beside a b)) n (λ i j. entry (rows_beside a b) i (m + j))
right_of_beside m n a b long_a long_b same =
    let count = length-rows_beside a b in
    same_rows n b (table (length (rows_beside a b)) n (λ i j. entry (rows_beside a b) i (m + j))) long_b (long-table _ n _)
    (same ∙ sym count ∙ sym (table_length (length (rows_beside a b)) n _)) (λ i j below within.
    sym (table_entry (length (rows_beside a b)) n _ i j (omega (arith, count)) within ∙ right-entry m a b i j long_a (omega arith)))

-- lists of rows, one after another
pub append_beside : (a b c d : List (List ℕ)) → length b ≡ length a → length d ≡ length c → rows_beside (a ++ c) (b ++ d) ≡ rows_beside a b ++ rows_beside c d
append_beside a b c d same_ab same_cd =
    let first = length-rows_beside a b in
    let second = length-rows_beside c d in
    let all = length-rows_beside (a ++ c) (b ++ d) in
    let count = length-append a c in
    ext_get_or [] (rows_beside (a ++ c) (b ++ d)) (rows_beside a b ++ rows_beside c d)
    (all ∙ count ∙ sym (length-append (rows_beside a b) (rows_beside c d) ∙ ap₂ (λ (x y : ℕ). x + y) first second)) (λ i below.
    let inside : i < length (a ++ c) = omega (arith, all) in
    row-rows_beside (a ++ c) (b ++ d) i inside
    ∙ elim (cases_lt i (length a)) [
      | inl before ↦
          ap₂ (λ (x y : List ℕ). x ++ y) (get_or_append_left a c [] i before) (get_or_append_left b d [] i (omega arith))
          ∙ sym (get_or_append_left (rows_beside a b) (rows_beside c d) [] i (omega arith) ∙ row-rows_beside a b i before)
      | inr past ↦
          let t : ℕ = i - length a in
          let in_a : length a + t ≡ i = omega arith in
          let in_b : length b + t ≡ i = omega arith in
          let in_all : length (rows_beside a b) + t ≡ i = omega arith in
          ap₂ (λ (x y : List ℕ). x ++ y)
          (ap (λ k. get_or (a ++ c) k []) (sym in_a) ∙ get_or-append-add a c t [])
          (ap (λ k. get_or (b ++ d) k []) (sym in_b) ∙ get_or-append-add b d t [])
          ∙ sym (ap (λ k. get_or (rows_beside a b ++ rows_beside c d) k []) (sym in_all) ∙ get_or-append-add (rows_beside a b) (rows_beside c d) t []
          ∙ row-rows_beside c d t (omega arith))
    ])

-- ---- augmented matrices

-- augmented matrices with equal parts are equal
pub same_augmented : (a b : AugmentedValue) → a.order ≡ b.order → a.left ≡ b.left → a.cols ≡ b.cols → a.rows ≡ b.rows → a ≡ b
same_augmented a b e f g h = λ i. record { order = e i; left = f i; cols = g i; rows = h i }

-- the rows of a matrix are over its field
pub matrix_over : (o : Order) (n : ℕ) (m : MatrixValue) → IsMatrix m → m.order ≡ o → m.cols ≡ n → IsMatrixOver (number_field o) n m.rows
matrix_over o n m h field columns =
    All-from_get_or (IsVectorOver (number_field o) n) m.rows [] (λ i below. record {
      length_is = length-row_of m i h below ∙ columns;
      elements = elements-below o (get_or m.rows i []) (subst (λ p. All (IsElement p) (get_or m.rows i [])) field (IsRow-row_of m i h below).elements);
    })

-- rows beside one another, over one field
pub beside_over : (o : Order) (a b : MatrixValue) → AreBeside a b → a.order ≡ o → IsMatrixOver (number_field o) (a.cols + b.cols) (rows_beside a.rows b.rows)
beside_over o a b h field =
    let over_a = matrix_over o a.cols a h.left field refl in
    let over_b = matrix_over o b.cols b h.right (h.field ∙ field) refl in
    All-from_get_or (IsVectorOver (number_field o) (a.cols + b.cols)) (rows_beside a.rows b.rows) [] (λ i below.
    let inside : i < length a.rows = omega (arith, length-rows_beside a.rows b.rows) in
    let row_a = All-get_or (IsVectorOver (number_field o) a.cols) a.rows i [] inside over_a in
    let row_b = All-get_or (IsVectorOver (number_field o) b.cols) b.rows i [] (omega (arith, h.as_many)) over_b in
    subst (IsVectorOver (number_field o) (a.cols + b.cols)) (sym (row-rows_beside a.rows b.rows i inside))
    (vectors_beside o a.cols b.cols (get_or a.rows i []) (get_or b.rows i []) row_a row_b))
  where
    vectors_beside : (o : Order) (m n : ℕ) (x y : List ℕ) → IsVectorOver (number_field o) m x → IsVectorOver (number_field o) n y →
        IsVectorOver (number_field o) (m + n) (x ++ y)
    vectors_beside o m n x y over_x over_y = record {
      length_is = length-append x y ∙ ap₂ (λ (s t : ℕ). s + t) over_x.length_is over_y.length_is;
      elements = All-append (λ number. number < (number_field o).order) x y over_x.elements over_y.elements;
    }

-- a matrix beside another is an augmented matrix
pub augmented-IsAugmented : (a b : MatrixValue) → AreBeside a b → IsAugmented (augmented a b)
augmented-IsAugmented a b h = record {
  some_left = h.left.some_column;
  some_right = omega (arith, h.right.some_column);
  left_fits = h.left.columns_fit;
  right_fits = omega (arith, h.right.columns_fit);
  rows_fit = omega (arith, h.left.rows_fit, length-rows_beside a.rows b.rows);
  over = beside_over a.order a b h refl;
}

-- what is the view of two matrices beside one another is an augmented matrix
pub view-IsAugmented : (a b : MatrixValue) (v : AugmentedValue) → augmented a b ≡ v → AreBeside a b → IsAugmented v
view-IsAugmented a b v view_is h = subst IsAugmented view_is (augmented-IsAugmented a b h)

-- it has as many rows as the first matrix
pub view-count : (a b : MatrixValue) (v : AugmentedValue) → augmented a b ≡ v → length v.rows ≡ length a.rows
view-count a b v view_is = sym (ap (λ (x : AugmentedValue). length x.rows) view_is) ∙ length-rows_beside a.rows b.rows

-- its entries left of the bar are those of the first matrix
pub view-entry : (a b : MatrixValue) (v : AugmentedValue) (i j : ℕ) → augmented a b ≡ v → AreBeside a b → i < length v.rows → j < v.left →
    entry v.rows i j ≡ entry a.rows i j
view-entry a b v i j view_is h below inside =
    let columns = ap (λ (x : AugmentedValue). x.left) view_is in
    let count = view-count a b v view_is in
    sym (ap (λ (x : AugmentedValue). entry x.rows i j) view_is)
    ∙ left-entry a.cols a.rows b.rows i j h.left.row_lengths (omega arith) (omega (arith, columns))

-- the second matrix is what stands right of the bar
pub view-right : (a b : MatrixValue) (v : AugmentedValue) → augmented a b ≡ v → AreBeside a b → b ≡ right_part v b.cols
view-right a b v view_is h =
    subst (λ (x : AugmentedValue). b ≡ right_part x b.cols) view_is
    (same_matrix b (right_part (augmented a b) b.cols) h.field refl
    (right_of_beside a.cols b.cols a.rows b.rows h.left.row_lengths h.right.row_lengths h.as_many))
