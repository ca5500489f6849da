-- Lists of numbers as vectors and matrices: shapes, tables, and that a list is determined by its vector.
use Rattle.std.specs.Prelude.{◌≡◌, ℕ, ◌<◌, ◌≤◌, List, [], length, get_or}
use Rattle.axe_algebra.specs.NumberField.{NumberField}
use Rattle.axe_algebra.specs.Field.{Field}
use Rattle.axe_algebra.specs.Vectors.{Vector, Matrix, HasLength, HasRowsOfLength, HasShape}
use Rattle.axe_algebra.specs.Bridge.{field_of, element, vector_of, matrix_of}
use Rattle.axe_algebra.specs.Lists.{entry, listed, table, entries_of, rows_of, IsVectorOver, IsMatrixOver, IsSquareOver}
use Rattle.axe_algebra.proofs.ElementNumbers.{zero-below, element_of_number, element_zero, same_number, entry-below}
use Rattle.std.proofs.lemmas.List.{get_or_past, ext_get_or}
use Rattle.std.proofs.lemmas.List.FromFn.{length-map-range_with_len, get_or-map-range_with_len}
use mathlib.Core.Path.{sym, ◌∙◌, ap, subst, fun_ext}
use native.Mathlib.Omega.{arith}
use native.Mathlib.Decide.{dec_lt}

pub listed_length : {A : Type 0} (n : ℕ) (f : ℕ → A) → length (listed n f) ≡ n
listed_length n f = length-map-range_with_len f 0 n

pub listed_at : {A : Type 0} (n : ℕ) (f : ℕ → A) (i : ℕ) (d : A) → i < n → get_or (listed n f) i d ≡ f i
listed_at n f i d below = get_or-map-range_with_len f 0 n i i d below (omega arith)

pub table_length : (m n : ℕ) (f : ℕ → ℕ → ℕ) → length (table m n f) ≡ m
table_length m n f = listed_length m (λ i. listed n (f i))

pub table_row : (m n : ℕ) (f : ℕ → ℕ → ℕ) (i : ℕ) → i < m → get_or (table m n f) i [] ≡ listed n (f i)
table_row m n f i below = listed_at m (λ i. listed n (f i)) i [] below

pub table_entry : (m n : ℕ) (f : ℕ → ℕ → ℕ) (i j : ℕ) → i < m → j < n → entry (table m n f) i j ≡ f i j
table_entry m n f i j below inside =
    ap (λ (row : List ℕ). get_or row j 0) (table_row m n f i below) ∙ listed_at n (f i) j 0 inside

module _ (K : NumberField) where
  abbrev F : Field
  F = field_of K

  pub listed_over : (n : ℕ) (f : ℕ → ℕ) → ((j : ℕ) → j < n → f j < K.order) → IsVectorOver K n (listed n f)
  listed_over n f below = record {
    length_is = listed_length n f;
    elements = λ j d inside.
        let small : j < n = omega (arith, listed_length n f) in
        subst (λ e. e < K.order) (sym (listed_at n f j d small)) (below j small);
  }

  pub table_over : (m n : ℕ) (f : ℕ → ℕ → ℕ) → ((i j : ℕ) → i < m → j < n → f i j < K.order) → IsMatrixOver K n (table m n f)
  table_over m n f below i d inside =
      let small : i < m = omega (arith, table_length m n f) in
      subst (IsVectorOver K n) (sym (listed_at m (λ i. listed n (f i)) i d small)) (listed_over n (f i) (λ j. below i j small))

  -- a row of a matrix
  pub row_over : (n : ℕ) (rows : List (List ℕ)) (i : ℕ) → IsMatrixOver K n rows → i < length rows → IsVectorOver K n (get_or rows i [])
  row_over n rows i over below = over i [] below

  pub matrix_entry-below : (n : ℕ) (rows : List (List ℕ)) (i j : ℕ) → IsMatrixOver K n rows → entry rows i j < K.order
  matrix_entry-below n rows i j over = cases (dec_lt i (length rows))
    where
      cases : Dec (i < length rows) → entry rows i j < K.order
      cases (yes below) = entry-below K (get_or rows i []) j (row_over n rows i over below).elements
      cases (no past) = subst (λ (row : List ℕ). get_or row j 0 < K.order) (sym (get_or_past rows i [] (omega arith))) (zero-below K)

  pub vector_past : (entries : List ℕ) (j : ℕ) → length entries ≤ j → vector_of K entries j ≡ F.zero
  vector_past entries j past = ap (element K) (get_or_past entries j 0 past) ∙ element_zero K

  pub vector_length : (n : ℕ) (entries : List ℕ) → length entries ≡ n → HasLength F n (vector_of K entries)
  vector_length n entries same j past = vector_past entries j (omega arith)

  pub row_past : (rows : List (List ℕ)) (i : ℕ) → length rows ≤ i → (j : ℕ) → matrix_of K rows i j ≡ F.zero
  row_past rows i past j = ap (λ (row : List ℕ). vector_of K row j) (get_or_past rows i [] past) ∙ element_zero K

  pub matrix_shape : (n : ℕ) (rows : List (List ℕ)) → IsMatrixOver K n rows → HasShape F (length rows) n (matrix_of K rows)
  matrix_shape n rows over = record { rows = λ i j past. row_past rows i past j; columns = λ i j past. column i j past (dec_lt i (length rows)) }
    where
      column : (i j : ℕ) → n ≤ j → Dec (i < length rows) → matrix_of K rows i j ≡ F.zero
      column i j past (yes below) = vector_length n (get_or rows i []) (row_over n rows i over below).length_is j past
      column i j past (no above) = row_past rows i (omega arith) j

  pub rows_length : (n : ℕ) (rows : List (List ℕ)) → IsMatrixOver K n rows → HasRowsOfLength F n (matrix_of K rows)
  rows_length n rows over = (matrix_shape n rows over).columns

  pub square_shape : (n : ℕ) (rows : List (List ℕ)) → IsSquareOver K n rows → HasShape F n n (matrix_of K rows)
  square_shape n rows square = subst (λ m. HasShape F m n (matrix_of K rows)) square.length_is (matrix_shape n rows square.matrix)

  -- the vector of a list made from a function, and the matrix of a table
  pub vector_of_listed : (n : ℕ) (f : ℕ → ℕ) (x : Vector F) → HasLength F n x →
      ((j : ℕ) → j < n → element K (f j) ≡ x j) → vector_of K (listed n f) ≡ x
  vector_of_listed n f x length same = fun_ext λ j. at j (dec_lt j n)
    where
      at : (j : ℕ) → Dec (j < n) → vector_of K (listed n f) j ≡ x j
      at j (yes below) = ap (element K) (listed_at n f j 0 below) ∙ same j below
      at j (no past) = vector_past (listed n f) j (omega (arith, listed_length n f)) ∙ sym (length j (omega arith))

  pub matrix_of_table : (m n : ℕ) (f : ℕ → ℕ → ℕ) (a : Matrix F) → HasShape F m n a →
      ((i j : ℕ) → i < m → j < n → element K (f i j) ≡ a i j) → matrix_of K (table m n f) ≡ a
  matrix_of_table m n f a shape same = fun_ext λ i. row i (dec_lt i m)
    where
      row : (i : ℕ) → Dec (i < m) → matrix_of K (table m n f) i ≡ a i
      row i (yes below) =
          ap (vector_of K) (table_row m n f i below) ∙ vector_of_listed n (f i) (a i) (shape.columns i) (λ j. same i j below)
      row i (no past) = fun_ext λ j. row_past (table m n f) i (omega (arith, table_length m n f)) j ∙ sym (shape.rows i j (omega arith))

  -- back and forth
  pub vector_of_entries : (n : ℕ) (x : Vector F) → HasLength F n x → vector_of K (entries_of K n x) ≡ x
  vector_of_entries n x length = vector_of_listed n (λ j. (x j).0) x length (λ j below. element_of_number K (x j))

  pub entries_over : (n : ℕ) (x : Vector F) → IsVectorOver K n (entries_of K n x)
  entries_over n x = listed_over n (λ j. (x j).0) (λ j below. (x j).1)

  pub matrix_of_rows : (m n : ℕ) (a : Matrix F) → HasShape F m n a → matrix_of K (rows_of K m n a) ≡ a
  matrix_of_rows m n a shape = matrix_of_table m n (λ i j. (a i j).0) a shape (λ i j below inside. element_of_number K (a i j))

  pub rows_over : (m n : ℕ) (a : Matrix F) → IsMatrixOver K n (rows_of K m n a)
  rows_over m n a = table_over m n (λ i j. (a i j).0) (λ i j below inside. (a i j).1)

  -- lists with one vector are the same, and so are matrices
  pub same_vector : (n : ℕ) (xs ys : List ℕ) → IsVectorOver K n xs → IsVectorOver K n ys → vector_of K xs ≡ vector_of K ys → xs ≡ ys
  same_vector n xs ys over_xs over_ys same =
      ext_get_or 0 xs ys (over_xs.length_is ∙ sym over_ys.length_is)
      (λ j below. same_number K (get_or xs j 0) (get_or ys j 0) (entry-below K xs j over_xs.elements) (entry-below K ys j over_ys.elements)
      (ap (λ (x : Vector F). x j) same))

  pub same_matrix : (n : ℕ) (a b : List (List ℕ)) → length a ≡ length b → IsMatrixOver K n a → IsMatrixOver K n b →
      matrix_of K a ≡ matrix_of K b → a ≡ b
  same_matrix n a b lengths over_a over_b same =
      ext_get_or [] a b lengths (λ i below. same_vector n (get_or a i []) (get_or b i []) (row_over n a i over_a below)
      (row_over n b i over_b (omega arith)) (ap (λ (x : Matrix F). x i) same))
