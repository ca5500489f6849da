-- A reduced basis times a generator, by the generator's blocks.
use Rattle.std.specs.Prelude.{◌≡◌, ◌≢◌, ℕ, ◌<◌, ◌⊎◌, List, [], length, get_or}
use Rattle.std.proofs.lemmas.List.Elements.{All-from_get_or}
use Rattle.axe_algebra.specs.NumberField.{NumberField}
use Rattle.axe_algebra.specs.Field.{Field}
use Rattle.axe_algebra.specs.Vectors.{Vector, Matrix, HasLength, HasRowsOfLength, unit_vector, add_vectors, subtract, times, multiply}
use Rattle.axe_algebra.specs.Reduced
use Rattle.axe_algebra.specs.Actions.{IsFree, unit_vectors}
use Rattle.axe_algebra.specs.Bridge.{vector_of, matrix_of, element}
use Rattle.axe_algebra.specs.Lists.{entry, table, IsMatrixOver}
use Rattle.axe_algebra.specs.ListArithmetic.{product_entry, product}
use Rattle.axe_algebra.proofs.FieldLaws.{zero-add, neg-zero, one-mul, difference_of_same}
use Rattle.axe_algebra.proofs.ProductLaws.{times_same, times_times, times_unit, times-add_vectors, unit_at, unit_off, unit_length}
use Rattle.axe_algebra.proofs.ReducedBases.{same_places}
use Rattle.axe_algebra.proofs.FreeColumns.{by_free_columns, pivot_or_not}
use Rattle.axe_algebra.proofs.ElementNumbers.{same_number, element_one, element_add, element_mul}
use Rattle.axe_algebra.proofs.ListEntries.{rows_length, matrix_entry-below}
use Rattle.axe_algebra.proofs.ListProducts.{product_entry-below, element_product_entry}
use Rattle.axe_algebra.specs.SpansOfLists.{IsPivot}
use Rattle.axe_field.specs.NumberFields.{number_field, gf}
use Rattle.axe_matrix.specs.Matrices.{MatrixValue, IsMatrix, matrix_product, entries_at, columns_at}
use Rattle.axe_matrix.specs.Products.{rows_with_product}
use Rattle.axe_matrix.proofs.MatrixLaws.{same_matrix}
use Rattle.axe_matrix.proofs.ProductRows.{same_table}
use Rattle.axe_echelon.proofs.InverseLaws.{matrix_over}
use Rattle.axe_action.specs.FreeColumns.{AreFreeColumns, AreReducedAt, AreComplementary, rows_to_span, matrix_within}
use Rattle.axe_action.proofs.EntryLaws.{lists_at, lists_at_length, lists_at_row, lists_at_entry, lists_at_over, chosen, chosen_length, chosen_row, chosen_over}
use mathlib.Core.Logic.{inl, inr}
use mathlib.Core.Path.{refl, sym, ◌∙◌, ap, ap₂, subst, fun_ext}
use native.Mathlib.Omega.{arith}
use native.Mathlib.Decide.{ℕ_discrete}

-- a vector that is a unit vector at the pivots, times a matrix: the row of the matrix at that pivot, and the combination
-- of its rows at the other columns
pub times_by_columns : (F : Field) (n k : ℕ) (v : Matrix F) → HasRowsOfLength F n v → (m : ℕ) (columns : ℕ → ℕ) →
    Reduced.IsAscendingListOf (IsFree F n k v) m columns → (x : Vector F) → HasLength F n x → (p : ℕ) → p < n → Reduced.IsPivot F k v p →
    ((j : ℕ) → Reduced.IsPivot F k v j → x j ≡ unit_vector F p j) → (a : Matrix F) →
    times F n x a ≡ add_vectors F (a p) (times F m (λ l. x (columns l)) (λ l. a (columns l)))
times_by_columns F n k v rows m columns free x long p below pivot at a =
    ap (λ (z : Vector F). times F n z a) parts
    ∙ times-add_vectors F n (unit_vector F p) (times F m (λ l. x (columns l)) (unit_vectors F columns)) a
    ∙ ap₂ (add_vectors F) (times_unit F n p a below)
    (times_times F n m (λ l. x (columns l)) (unit_vectors F columns) a
    ∙ times_same F m (λ l. x (columns l)) (λ l. x (columns l)) (multiply F n (unit_vectors F columns) a) (λ l. a (columns l)) (λ l inside. refl)
    (λ l inside. times_unit F n (columns l) a (free.each l inside).below))
  where
    y : Vector F
    y = subtract F x (unit_vector F p)

    y_long : HasLength F n y
    y_long j past = difference_of_same F (x j) (unit_vector F p j) (long j past ∙ sym (unit_length F n p below j past))

    y_zero : Reduced.IsZeroAtPivots F k v y
    y_zero j is = difference_of_same F (x j) (unit_vector F p j) (at j is)

    other : (l : ℕ) → l < m → p ≢ columns l
    other l inside = λ same. (free.each l inside).no_pivot (subst (Reduced.IsPivot F k v) same pivot)

    y_at : (l : ℕ) → l < m → y (columns l) ≡ x (columns l)
    y_at l inside = ap (λ e. F.add (x (columns l)) (F.neg e)) (unit_off F p (columns l) (other l inside))
        ∙ ap (F.add (x (columns l))) (neg-zero F) ∙ F.add-zero (x (columns l))

    y_is : y ≡ times F m (λ l. x (columns l)) (unit_vectors F columns)
    y_is = by_free_columns F n k v rows m columns free y y_long y_zero
        ∙ times_same F m (λ l. y (columns l)) (λ l. x (columns l)) (unit_vectors F columns) (unit_vectors F columns) y_at (λ l inside. refl)

    parts : x ≡ add_vectors F (unit_vector F p) (times F m (λ l. x (columns l)) (unit_vectors F columns))
    parts =
        fun_ext (λ j. sym (
        ap (F.add (unit_vector F p j)) (F.add_comm (x j) (F.neg (unit_vector F p j)))
        ∙ sym (F.add_assoc (unit_vector F p j) (F.neg (unit_vector F p j)) (x j))
        ∙ ap (λ e. F.add e (x j)) (F.add-neg (unit_vector F p j)) ∙ zero-add F (x j)
        ))
        ∙ ap (add_vectors F (unit_vector F p)) y_is

-- the pivots of rows and the other columns are complementary
pub complementary : (rows : MatrixValue) (pivots columns : List ℕ) → IsMatrix rows → AreReducedAt rows pivots → AreFreeColumns (rows_to_span rows) columns →
    AreComplementary rows.cols pivots columns
complementary rows pivots columns rows_h reduced free = record {
  pivots_ascend = reduced.pivots.ascending;
  columns_ascend = free.ascending;
  pivots_below = λ t below. reduced.coordinates.within t 0 below;
  columns_below = λ t below. (free.each t below).below;
  apart = λ s t inside below same. (free.each t below).no_pivot (subst (IsPivot (number_field rows.order) rows.rows) same (reduced.pivots.each s inside));
  every = λ j below. at j below (pivot_or_not (gf rows.order) rows.cols (length rows.rows) (matrix_of (number_field rows.order) rows.rows)
      (rows_length (number_field rows.order) rows.cols rows.rows (matrix_over rows rows_h)) j);
}
  where
    at : (j : ℕ) → j < rows.cols → Dec (IsPivot (number_field rows.order) rows.rows j) →
        ((t : ℕ) × (t < length pivots) × (get_or pivots t 0 ≡ j)) ⊎ ((t : ℕ) × (t < length columns) × (get_or columns t 0 ≡ j))
    at j below (yes pivot) = inl (reduced.pivots.all j pivot)
    at j below (no other) = inr (free.all j (record { below = below; no_pivot = other }))

-- the product of a reduced basis with the entries of a generator at the pivots
module _ (rows g entries : MatrixValue) (pivots columns : List ℕ) (rows_h : IsMatrix rows) (g_h : IsMatrix g) (field : g.order ≡ rows.order)
    (fits : g.cols ≡ rows.cols) (square : length g.rows ≡ g.cols) (reduced : AreReducedAt rows pivots) (free : AreFreeColumns (rows_to_span rows) columns)
    (entries_are : entries ≡ columns_at columns rows) where
  abbrev K : NumberField
  K = number_field rows.order

  abbrev F : Field
  F = gf rows.order

  abbrev n : ℕ
  n = rows.cols

  abbrev s : ℕ
  s = length pivots

  abbrev v : Matrix F
  v = matrix_of K rows.rows

  abbrev place : ℕ → ℕ
  place l = get_or columns l 0

  abbrev wide : List (List ℕ)
  wide = lists_at pivots g.rows

  abbrev first : List (List ℕ)
  first = lists_at pivots (chosen pivots g.rows)

  abbrev second : List (List ℕ)
  second = lists_at pivots (chosen columns g.rows)

  abbrev f : List (List ℕ)
  f = lists_at columns rows.rows

  is_reduced : Reduced.IsReducedBasis F (length rows.rows) v (length rows.rows) v
  is_reduced = reduced.reduced.basis

  count : s ≡ length rows.rows
  count = reduced.coordinates.count

  rows_over : IsMatrixOver K n rows.rows
  rows_over = matrix_over rows rows_h

  g_over : IsMatrixOver K n g.rows
  g_over = subst (λ k. IsMatrixOver K k g.rows) fits (subst (λ o. IsMatrixOver (number_field o) g.cols g.rows) field (matrix_over g g_h))

  many : length wide ≡ n
  many = lists_at_length pivots g.rows ∙ square ∙ fits

  pivot_inside : (i : ℕ) → i < s → get_or pivots i 0 < length g.rows
  pivot_inside i below = let inside : get_or pivots i 0 < n = reduced.coordinates.within i 0 below in omega (arith, inside, square, fits)

  column_inside : (l : ℕ) → l < length columns → place l < length g.rows
  column_inside l below = let inside : place l < n = (free.each l below).below in omega (arith, inside, square, fits)

  wide_over : IsMatrixOver K s wide
  wide_over = lists_at_over K n pivots g.rows g_over

  first_over : IsMatrixOver K s first
  first_over = lists_at_over K n pivots (chosen pivots g.rows)
      (chosen_over K n pivots g.rows g_over (All-from_get_or (λ index. index < length g.rows) pivots 0 pivot_inside))

  second_over : IsMatrixOver K s second
  second_over = lists_at_over K n pivots (chosen columns g.rows)
      (chosen_over K n columns g.rows g_over (All-from_get_or (λ index. index < length g.rows) columns 0 column_inside))

  second_many : length second ≡ length columns
  second_many = lists_at_length pivots (chosen columns g.rows) ∙ chosen_length columns g.rows

  f_over : IsMatrixOver K (length second) f
  f_over = subst (λ k. IsMatrixOver K k f) (sym second_many) (lists_at_over K n columns rows.rows rows_over)

  -- row i of the basis is a unit vector at the pivots
  row_at_pivots : (i : ℕ) → i < length rows.rows → (j : ℕ) → Reduced.IsPivot F (length rows.rows) v j → v i j ≡ unit_vector F (is_reduced.pivots i) j
  row_at_pivots i below j pivot = at (is_reduced.are_pivots.all j pivot)
    where
      at : (t : ℕ) × (t < length rows.rows) × (is_reduced.pivots t ≡ j) → v i j ≡ unit_vector F (is_reduced.pivots i) j
      at (t, small, e) = cases (ℕ_discrete t i)
        where
          cases : Dec (t ≡ i) → v i j ≡ unit_vector F (is_reduced.pivots i) j
          cases (yes same) =
              let here : is_reduced.pivots i ≡ j = ap is_reduced.pivots (sym same) ∙ e in
              ap (v i) (sym here) ∙ is_reduced.one i below ∙ sym (unit_at F (is_reduced.pivots i)) ∙ ap (unit_vector F (is_reduced.pivots i)) here
          cases (no other) =
              let zero : v i j ≡ F.zero = ap (v i) (sym e) ∙ is_reduced.zero t i small below other in
              let apart : is_reduced.pivots i ≢ j = λ same. F.one-not-zero (sym (is_reduced.one i below) ∙ ap (v i) same ∙ zero) in
              zero ∙ sym (unit_off F (is_reduced.pivots i) j apart)

  same_pivot : (i : ℕ) → i < length rows.rows → is_reduced.pivots i ≡ get_or pivots i 0
  same_pivot i below =
      sym (same_places (IsPivot K rows.rows) s (λ t. get_or pivots t 0) (length rows.rows) is_reduced.pivots reduced.pivots is_reduced.are_pivots
      i (omega (arith, below, count)))

  row_times_wide : (i : ℕ) → i < length rows.rows →
      times F n (v i) (matrix_of K wide) ≡ add_vectors F (matrix_of K wide (get_or pivots i 0))
      (times F (length columns) (λ l. v i (place l)) (λ l. matrix_of K wide (place l)))
  row_times_wide i below =
      times_by_columns F n (length rows.rows) v (rows_length K n rows.rows rows_over) (length columns) place free (v i)
      (rows_length K n rows.rows rows_over i) (is_reduced.pivots i)
      (subst (λ p. p < n) (sym (same_pivot i below)) (reduced.coordinates.within i 0 (omega (arith, below, count))))
      (is_reduced.are_pivots.each i below) (row_at_pivots i below) (matrix_of K wide)
      ∙ ap (λ p. add_vectors F (matrix_of K wide p) (times F (length columns) (λ l. v i (place l)) (λ l. matrix_of K wide (place l)))) (same_pivot i below)

  first_row : (i : ℕ) → i < s → get_or first i [] ≡ get_or wide (get_or pivots i 0) []
  first_row i below =
      lists_at_row pivots (chosen pivots g.rows) i (omega (arith, below, chosen_length pivots g.rows))
      ∙ ap (entries_at pivots) (chosen_row pivots g.rows i below)
      ∙ sym (lists_at_row pivots g.rows (get_or pivots i 0) (pivot_inside i below))

  second_row : (l : ℕ) → l < length columns → get_or second l [] ≡ get_or wide (place l) []
  second_row l below =
      lists_at_row pivots (chosen columns g.rows) l (omega (arith, below, chosen_length columns g.rows))
      ∙ ap (entries_at pivots) (chosen_row columns g.rows l below)
      ∙ sym (lists_at_row pivots g.rows (place l) (column_inside l below))

  entry_is : (i j : ℕ) → i < s → j < s →
      K.add (entry first i j) (K.mul 1 (product_entry K f second (length second) i j)) ≡ product_entry K rows.rows wide (length wide) i j
  entry_is i j below inside =
      same_number K (K.add q (K.mul 1 r)) (product_entry K rows.rows wide (length wide) i j)
      (K.add-below q (K.mul 1 r) q_below (K.mul-below 1 r K.one-below r_below))
      (product_entry-below K (length wide) s rows.rows wide i j wide_rows wide_over)
      (element_add K q (K.mul 1 r) q_below (K.mul-below 1 r K.one-below r_below)
      ∙ ap₂ F.add (ap (λ (row : List ℕ). element K (get_or row j 0)) (first_row i below))
      (element_mul K 1 r K.one-below r_below ∙ ap (λ e. F.mul e (element K r)) (element_one K) ∙ one-mul F (element K r) ∙ r_is)
      ∙ sym (element_product_entry K (length wide) s rows.rows wide i j wide_rows wide_over
      ∙ ap (λ k. times F k (v i) (matrix_of K wide) j) many
      ∙ ap (λ (x : Vector F). x j) (row_times_wide i (omega (arith, below, count)))))
    where
      q : ℕ
      q = entry first i j

      r : ℕ
      r = product_entry K f second (length second) i j

      q_below : q < K.order
      q_below = matrix_entry-below K s first i j first_over

      r_below : r < K.order
      r_below = product_entry-below K (length second) s f second i j f_over second_over

      wide_rows : IsMatrixOver K (length wide) rows.rows
      wide_rows = subst (λ k. IsMatrixOver K k rows.rows) (sym many) rows_over

      r_is : element K r ≡ times F (length columns) (λ l. v i (place l)) (λ l. matrix_of K wide (place l)) j
      r_is =
          element_product_entry K (length second) s f second i j f_over second_over
          ∙ ap (λ k. times F k (matrix_of K f i) (matrix_of K second) j) second_many
          ∙ ap (λ (x : Vector F). x j)
          (times_same F (length columns) (matrix_of K f i) (λ l. v i (place l)) (matrix_of K second) (λ l. matrix_of K wide (place l))
          (λ l small. ap (element K) (lists_at_entry columns rows.rows i l (omega (arith, below, count)) small))
          (λ l small. ap (vector_of K) (second_row l small)))

  -- it is that of the generator's blocks
  pub within_is_product : matrix_within pivots columns entries g ≡ matrix_product rows (columns_at pivots g)
  unfolding rows_with_product product
  within_is_product = same_matrix (matrix_within pivots columns entries g) (matrix_product rows (columns_at pivots g)) field refl rows_are
    where
      long : length first ≡ length rows.rows
      long = lists_at_length pivots (chosen pivots g.rows) ∙ chosen_length pivots g.rows ∙ count

      rows_are : (matrix_within pivots columns entries g).rows ≡ (matrix_product rows (columns_at pivots g)).rows
      rows_are =
          ap (λ o. rows_with_product (number_field o) s first 1 entries.rows second) field
          ∙ ap (λ (x : MatrixValue). rows_with_product K s first 1 x.rows second) entries_are
          ∙ same_table (length first) s (λ i j. K.add (entry first i j) (K.mul 1 (product_entry K f second (length second) i j)))
          (product_entry K rows.rows wide (length wide)) (λ i j below inside. entry_is i j (omega (arith, below, long, count)) inside)
          ∙ ap (λ k. table k s (product_entry K rows.rows wide (length wide))) long
