-- The reduction of a matrix beside the identity, as rows over the field; inverses from it.
use Rattle.std.specs.Prelude.{◌≡◌, ℕ, ◌+◌, ◌<◌, ◌≤◌, List, [], ◌++◌, length, get_or}
use Rattle.std.specs.List.{All, Contains}
use Rattle.std.proofs.lemmas.List.{length-append, get_or_append_left, get_or-append-add}
use Rattle.std.proofs.lemmas.List.Elements.{Contains-get_or, All-from_get_or}
use Rattle.axe_algebra.specs.NumberField.{NumberField}
use Rattle.axe_algebra.specs.Field.{Field}
use Rattle.axe_algebra.specs.Vectors.{Vector, Matrix, unit_vector, unit_matrix, times}
use Rattle.axe_algebra.specs.Spans.{InSpan, SpanWithin}
use Rattle.axe_algebra.specs.Bridge.{field_of, element, vector_of, matrix_of}
use Rattle.axe_algebra.specs.Lists.{entry, table, IsMatrixOver, IsSquareOver, IsVectorOver}
use Rattle.axe_algebra.specs.ListArithmetic.{identity}
use Rattle.axe_algebra.proofs.ProductLaws.{identity_row, identity_past, times_zero}
use Rattle.axe_algebra.proofs.SquareMatrices.{left_two_sided}
use Rattle.axe_algebra.proofs.ListEntries.{listed_at, listed_length, table_length, table_entry, row_over, rows_length, square_shape}
use Rattle.axe_algebra.proofs.ListProducts.{matrix_of_identity, identity_length}
use Rattle.axe_algebra.proofs.ListLaws.{inverse_of_lists, lists_of_inverse}
use Rattle.axe_field.specs.Order.{Order}
use Rattle.axe_field.specs.NumberFields.{number_field, gf}
use Rattle.axe_matrix.specs.Matrices.{MatrixValue, IsMatrix, identity_matrix}
use Rattle.axe_reduction.specs.Augmented.{AugmentedValue, rows_beside, augmented, right_part}
use Rattle.axe_reduction.specs.Forms.{AreReducedRows}
use Rattle.axe_reduction.specs.Reductions.{IsReductionOf}
use Rattle.axe_reduction.specs.Solutions.{IsInverseMatrix, IsInvertibleMatrix, IsRowAtPivot, AreRowsByPivot}
use Rattle.axe_reduction.specs.declared.reduction.Reduction.{Reduction}
use Rattle.axe_reduction.proofs.BesideLaws.{matrix_over}
use Rattle.axe_reduction.proofs.SolutionLaws.{AreBesideUnits, AreReducedBefore, pivots_of_invertible, every_pivot, right_is_inverse}
use mathlib.Core.Path.{refl, sym, ◌∙◌, ap, ap₂, subst, fun_ext}
use native.Mathlib.Decide.{dec_lt}
use native.Mathlib.Omega.{arith}

module _ (K : NumberField) where
  abbrev F : Field
  F = field_of K

  -- the rows beside those of the identity
  pub beside_units : (m : ℕ) (rows : List (List ℕ)) → IsMatrixOver K m rows →
      AreBesideUnits F (length rows) m (matrix_of K rows) (matrix_of K (rows_beside rows (identity (length rows))))
  unfolding rows_beside
  beside_units m rows over = record {
    lengths = rows_length K m rows over;
    left = λ i j below inside.
        ap (λ (row : List ℕ). element K (get_or row j 0)) (row_is i below)
        ∙ ap (element K) (get_or_append_left (get_or rows i []) (get_or (identity (length rows)) i []) 0 j
        (let long : length (get_or rows i []) ≡ m = (row_over K m rows i over below).length_is in omega arith));
    right = λ i j below.
        ap (λ (row : List ℕ). element K (get_or row (m + j) 0)) (row_is i below)
        ∙ ap (λ (q : ℕ). element K (get_or (get_or rows i [] ++ get_or (identity (length rows)) i []) (q + j) 0)) (sym (row_over K m rows i over below).length_is)
        ∙ ap (element K) (get_or-append-add (get_or rows i []) (get_or (identity (length rows)) i []) j 0)
        ∙ ap (λ (a : Matrix F). a i j) (matrix_of_identity K (length rows))
        ∙ ap (λ (v : Vector F). v j) (identity_row F (length rows) i below);
  }
    where
      row_is : (i : ℕ) → i < length rows →
          get_or (rows_beside rows (identity (length rows))) i [] ≡ get_or rows i [] ++ get_or (identity (length rows)) i []
      row_is i below = listed_at (length rows) (λ i. get_or rows i [] ++ get_or (identity (length rows)) i []) i [] below

  pub appended_first : (first last : List (List ℕ)) (t : ℕ) → t < length first → matrix_of K (first ++ last) t ≡ matrix_of K first t
  appended_first first last t below = ap (vector_of K) (get_or_append_left first last [] t below)

  pub appended_later : (first last : List (List ℕ)) (t : ℕ) → matrix_of K (first ++ last) (length first + t) ≡ matrix_of K last t
  appended_later first last t = ap (vector_of K) (get_or-append-add first last t [])

  -- the entries of a right part
  pub right_entry : (k n m : ℕ) (rows u : List (List ℕ)) → u ≡ table k n (λ i j. entry rows i (m + j)) → (t j : ℕ) → t < k → j < n →
      matrix_of K u t j ≡ matrix_of K rows t (m + j)
  right_entry k n m rows u is t j below inside =
      ap (λ (a : List (List ℕ)). matrix_of K a t j) is ∙ ap (element K) (table_entry k n (λ i j. entry rows i (m + j)) t j below inside)

-- ---- the reduction as rows over the field

pub reduced_before : (a : AugmentedValue) (r : Reduction) → IsReductionOf a r →
    AreReducedBefore (gf a.order) a.left (length r.reduced.rows) (length r.rest.rows) (matrix_of (number_field a.order) (r.reduced.rows ++ r.rest.rows))
    (λ t. get_or r.pivots.items t 0)
reduced_before a r h = record {
  pivots = λ t below.
      subst (λ q. get_or r.pivots.items t 0 < q) h.reduced_alike.left (h.are_reduced.left t 0 (omega (arith, h.are_reduced.count)));
  one = λ t below. ap (λ (v : Vector F). v (get_or r.pivots.items t 0)) (appended_first K r.reduced.rows r.rest.rows t below) ∙ are_reduced.one t below;
  zero = λ i t first below other.
      ap (λ (v : Vector F). v (get_or r.pivots.items t 0)) (appended_first K r.reduced.rows r.rest.rows i first) ∙ are_reduced.zero i t first below other;
  rest = λ t j below inside. ap (λ (v : Vector F). v j) (appended_later K r.reduced.rows r.rest.rows t)
      ∙ zeros t j below (subst (λ q. j < q) (sym h.rest_alike.left) inside);
}
  where
    K : NumberField
    K = number_field a.order

    F : Field
    F = gf a.order

    are_reduced : AreReducedRows (gf a.order) (length r.reduced.rows) (matrix_of (number_field a.order) r.reduced.rows) (λ t. get_or r.pivots.items t 0)
    are_reduced =
        subst (λ o. AreReducedRows (gf o) (length r.reduced.rows) (matrix_of (number_field o) r.reduced.rows) (λ t. get_or r.pivots.items t 0))
        h.reduced_alike.field
        (subst (λ k. AreReducedRows (gf r.reduced.order) k (matrix_of (number_field r.reduced.order) r.reduced.rows) (λ t. get_or r.pivots.items t 0))
        h.are_reduced.count h.are_reduced.reduced)

    zeros : (i j : ℕ) → i < length r.rest.rows → j < r.rest.left → matrix_of (number_field a.order) r.rest.rows i j ≡ (gf a.order).zero
    zeros = subst (λ o. (i j : ℕ) → i < length r.rest.rows → j < r.rest.left → matrix_of (number_field o) r.rest.rows i j ≡ (gf o).zero)
        h.rest_alike.field h.rest_zero.zero

-- the rows and those of the reduction lie in one another's span
pub span_forth : (a : AugmentedValue) (n : ℕ) (r : Reduction) → IsReductionOf a r → length a.rows ≡ n →
    SpanWithin (gf a.order) n (matrix_of (number_field a.order) a.rows)
    (length r.reduced.rows + length r.rest.rows) (matrix_of (number_field a.order) (r.reduced.rows ++ r.rest.rows))
span_forth a n r h count t below =
    subst (λ k. InSpan (gf a.order) k (matrix_of (number_field a.order) (r.reduced.rows ++ r.rest.rows)) (matrix_of (number_field a.order) a.rows t))
    (length-append r.reduced.rows r.rest.rows) (h.same.forth t (omega (arith, count)))

pub span_back : (a : AugmentedValue) (n : ℕ) (r : Reduction) → IsReductionOf a r → length a.rows ≡ n →
    SpanWithin (gf a.order) (length r.reduced.rows + length r.rest.rows) (matrix_of (number_field a.order) (r.reduced.rows ++ r.rest.rows))
    n (matrix_of (number_field a.order) a.rows)
span_back a n r h count t below =
    subst (λ k. InSpan (gf a.order) k (matrix_of (number_field a.order) a.rows) (matrix_of (number_field a.order) (r.reduced.rows ++ r.rest.rows) t))
    count (h.same.back t (omega (arith, length-append r.reduced.rows r.rest.rows)))

-- how many columns are right of the bar, and what the right part is
pub right_columns : (a b : AugmentedValue) (m n cols : ℕ) → b.left ≡ a.left → b.cols ≡ a.cols → a.left ≡ m → a.cols ≡ m + n → b.left + cols ≡ b.cols → cols ≡ n
right_columns a b m n cols left columns left_is columns_is right = omega (arith, left, columns, left_is, columns_is, right)

pub right_rows : (b : AugmentedValue) (vectors : MatrixValue) (m n : ℕ) → vectors ≡ right_part b vectors.cols → vectors.cols ≡ n → b.left ≡ m →
    vectors.rows ≡ table (length b.rows) n (λ i j. entry b.rows i (m + j))
right_rows b vectors m n is columns left =
    ap (λ (x : MatrixValue). x.rows) is ∙ ap₂ (λ (c q : ℕ). table (length b.rows) c (λ i j. entry b.rows i (q + j))) columns left

-- the matrix beside the identity
abbrev pub beside_identity : MatrixValue → AugmentedValue
beside_identity m = augmented m (identity_matrix m.order (length m.rows))

pub beside_count : (m : MatrixValue) → length (beside_identity m).rows ≡ length m.rows
unfolding rows_beside
beside_count m = listed_length (length m.rows) (λ i. get_or m.rows i [] ++ get_or (identity (length m.rows)) i [])

-- ---- inverses

-- what a reduction of a square matrix beside the identity says, with one name for its rows and columns
pub record IsSquareReduction (m : MatrixValue) (n : ℕ) (r : Reduction) : Type 0 where
  pub square : IsSquareOver (number_field m.order) n m.rows
  pub beside : AreBesideUnits (gf m.order) n n (matrix_of (number_field m.order) m.rows) (matrix_of (number_field m.order) (beside_identity m).rows)
  pub reduced : AreReducedBefore (gf m.order) n (length r.reduced.rows) (length r.rest.rows)
      (matrix_of (number_field m.order) (r.reduced.rows ++ r.rest.rows)) (λ t. get_or r.pivots.items t 0)
  pub forth : SpanWithin (gf m.order) n (matrix_of (number_field m.order) (beside_identity m).rows)
      (length r.reduced.rows + length r.rest.rows) (matrix_of (number_field m.order) (r.reduced.rows ++ r.rest.rows))
  pub back : SpanWithin (gf m.order) (length r.reduced.rows + length r.rest.rows) (matrix_of (number_field m.order) (r.reduced.rows ++ r.rest.rows))
      n (matrix_of (number_field m.order) (beside_identity m).rows)

pub square_reduction : (m : MatrixValue) (r : Reduction) → IsMatrix m → length m.rows ≡ m.cols → IsReductionOf (beside_identity m) r →
    IsSquareReduction m m.cols r
square_reduction m r h square of_rows = record {
  square = record { length_is = square; matrix = matrix_over m.order m.cols m h refl refl };
  beside = subst (λ n. AreBesideUnits (gf m.order) n m.cols (matrix_of (number_field m.order) m.rows) (matrix_of (number_field m.order) (beside_identity m).rows))
      square (beside_units (number_field m.order) m.cols m.rows (matrix_over m.order m.cols m h refl refl));
  reduced = reduced_before (beside_identity m) r of_rows;
  forth = span_forth (beside_identity m) m.cols r of_rows (beside_count m ∙ square);
  back = span_back (beside_identity m) m.cols r of_rows (beside_count m ∙ square);
}

pub no_inverse_of_fewer : (m : MatrixValue) (r : Reduction) → IsMatrix m → length m.rows ≡ m.cols → IsReductionOf (beside_identity m) r →
    ¬ (length r.pivots.items ≡ length m.rows) → ¬ (IsInvertibleMatrix m)
no_inverse_of_fewer m r h square of_rows fewer (inverse, is) = fewer (omega (arith, enough, of_rows.count, of_rows.are_reduced.count, beside_count m, square))
  where
    facts : IsSquareReduction m m.cols r
    facts = square_reduction m r h square of_rows

    enough : m.cols ≤ length r.reduced.rows
    enough = pivots_of_invertible (gf m.order) m.cols (length r.reduced.rows) (length r.rest.rows) (matrix_of (number_field m.order) m.rows)
        (matrix_of (number_field m.order) (beside_identity m).rows) (matrix_of (number_field m.order) (r.reduced.rows ++ r.rest.rows))
        (λ t. get_or r.pivots.items t 0) facts.beside facts.reduced facts.forth
        (record {
          inverse = matrix_of (number_field m.order) inverse.rows;
          inverts = inverse_of_lists (number_field m.order) m.cols m.rows inverse.rows facts.square is.square is.inverts;
        })

-- with as many pivots as rows all columns are pivots
pub reduced_full : (m : MatrixValue) (r : Reduction) → IsMatrix m → (square : length m.rows ≡ m.cols) → IsReductionOf (beside_identity m) r →
    length r.pivots.items ≡ length m.rows →
    AreReducedBefore (gf m.order) m.cols m.cols (length r.rest.rows) (matrix_of (number_field m.order) (r.reduced.rows ++ r.rest.rows)) (λ t. get_or r.pivots.items t 0)
reduced_full m r h square of_rows whole =
    subst (λ k. AreReducedBefore (gf m.order) m.cols k (length r.rest.rows) (matrix_of (number_field m.order) (r.reduced.rows ++ r.rest.rows)) (λ t. get_or r.pivots.items t 0))
    (sym of_rows.are_reduced.count ∙ whole ∙ square) (reduced_before (beside_identity m) r of_rows)

pub all_columns : (m : MatrixValue) (r : Reduction) → IsMatrix m → length m.rows ≡ m.cols → IsReductionOf (beside_identity m) r →
    length r.pivots.items ≡ length m.rows → (j : ℕ) → j < m.cols → Contains r.pivots.items j
all_columns m r h square of_rows whole j below =
    from (every_pivot (gf m.order) m.cols (length r.rest.rows) (matrix_of (number_field m.order) (r.reduced.rows ++ r.rest.rows)) (λ t. get_or r.pivots.items t 0) j
    (reduced_full m r h square of_rows whole) below)
  where
    from : (t : ℕ) × (t < m.cols) × (get_or r.pivots.items t 0 ≡ j) → Contains r.pivots.items j
    from (t, inside, e) = subst (Contains r.pivots.items) e (Contains-get_or r.pivots.items t 0 (omega (arith, inside, whole, square)))

-- each of them is one of so many columns
pub pivots_small : (m : MatrixValue) (r : Reduction) → length m.rows ≡ m.cols → IsReductionOf (beside_identity m) r →
    length r.pivots.items ≡ length m.rows → All (λ pivot. pivot < length r.pivots.items) r.pivots.items
pivots_small m r square of_rows whole =
    subst (λ k. All (λ pivot. pivot < k) r.pivots.items) (of_rows.reduced_alike.left ∙ sym square ∙ sym whole) of_rows.are_reduced.left

-- the right parts of the reduced rows are as many as the pivots, and have a column for each row of the matrix
pub reduced_count : (m : MatrixValue) (r : Reduction) (rows : MatrixValue) → IsReductionOf (beside_identity m) r → rows ≡ right_part r.reduced rows.cols →
    length r.pivots.items ≡ length rows.rows
reduced_count m r rows of_rows is =
    of_rows.are_reduced.count ∙ sym (ap (λ (x : MatrixValue). length x.rows) is
    ∙ table_length (length r.reduced.rows) rows.cols (λ i j. entry r.reduced.rows i (r.reduced.left + j)))

pub columns_of_right : (m : MatrixValue) (r : Reduction) (rows : MatrixValue) → IsReductionOf (beside_identity m) r →
    r.reduced.left + rows.cols ≡ r.reduced.cols → rows.cols ≡ length m.rows
columns_of_right m r rows of_rows columns =
    right_columns (beside_identity m) r.reduced m.cols (length m.rows) rows.cols of_rows.reduced_alike.left of_rows.reduced_alike.columns refl refl columns

-- so the right parts of the reduced rows, in the order of their pivots, are the inverse
pub inverse_by_pivots : (m rows sorted : MatrixValue) (r : Reduction) → IsMatrix m → length m.rows ≡ m.cols → IsReductionOf (beside_identity m) r →
    length r.pivots.items ≡ length m.rows → IsMatrix rows → rows ≡ right_part r.reduced rows.cols → r.reduced.left + rows.cols ≡ r.reduced.cols →
    AreRowsByPivot r.pivots.items rows rows.cols sorted → IsInverseMatrix m sorted
inverse_by_pivots m rows sorted r h square of_rows whole well_formed is columns by_pivot = record {
  field = by_pivot.field ∙ field;
  columns = by_pivot.columns ∙ cols;
  square = square_sorted;
  inverts = lists_of_inverse (number_field m.order) m.cols m.rows sorted.rows facts.square square_sorted
      (left_two_sided (gf m.order) m.cols (matrix_of (number_field m.order) m.rows) (matrix_of (number_field m.order) sorted.rows)
      (square_shape (number_field m.order) m.cols m.rows facts.square) (square_shape (number_field m.order) m.cols sorted.rows square_sorted)
      (fun_ext λ i. row i (dec_lt i m.cols)));
}
  where
    facts : IsSquareReduction m m.cols r
    facts = square_reduction m r h square of_rows

    field : rows.order ≡ m.order
    field = ap (λ (x : MatrixValue). x.order) is ∙ of_rows.reduced_alike.field

    cols : rows.cols ≡ m.cols
    cols = columns_of_right m r rows of_rows columns ∙ square

    full : length r.reduced.rows ≡ m.cols
    full = sym of_rows.are_reduced.count ∙ whole ∙ square

    tabled : rows.rows ≡ table (length r.reduced.rows) m.cols (λ i j. entry r.reduced.rows i (m.cols + j))
    tabled = right_rows r.reduced rows m.cols m.cols is cols of_rows.reduced_alike.left

    count : length rows.rows ≡ m.cols
    count =
        ap (λ (x : List (List ℕ)). length x) tabled ∙ table_length (length r.reduced.rows) m.cols (λ i j. entry r.reduced.rows i (m.cols + j)) ∙ full

    over : IsMatrixOver (number_field m.order) m.cols rows.rows
    over = matrix_over m.order m.cols rows well_formed field cols

    at_pivot : (j : ℕ) → j < m.cols → IsRowAtPivot r.pivots.items rows.rows j (get_or sorted.rows j [])
    at_pivot j below = by_pivot.rows j (omega (arith, cols, below))

    place_below : (j : ℕ) (below : j < m.cols) → (at_pivot j below).place < m.cols
    place_below j below = let inside : (at_pivot j below).place < length r.pivots.items = (at_pivot j below).within in omega (arith, inside, whole, square)

    square_sorted : IsSquareOver (number_field m.order) m.cols sorted.rows
    square_sorted = record {
      length_is = by_pivot.count ∙ cols;
      matrix = All-from_get_or (IsVectorOver (number_field m.order) m.cols) sorted.rows [] (λ j below. row_is_over j (omega (arith, below, by_pivot.count, cols)));
    }
      where
        row_is_over : (j : ℕ) → j < m.cols → IsVectorOver (number_field m.order) m.cols (get_or sorted.rows j [])
        row_is_over j below =
            subst (IsVectorOver (number_field m.order) m.cols) (sym (at_pivot j below).same)
            (row_over (number_field m.order) m.cols rows.rows (at_pivot j below).place over (omega (arith, place_below j below, count)))

    row : (i : ℕ) → Dec (i < m.cols) →
        times (gf m.order) m.cols (matrix_of (number_field m.order) sorted.rows i) (matrix_of (number_field m.order) m.rows) ≡ unit_matrix (gf m.order) m.cols i
    row i (yes below) =
        right_is_inverse (gf m.order) m.cols (length r.rest.rows) (matrix_of (number_field m.order) m.rows)
        (matrix_of (number_field m.order) (beside_identity m).rows) (matrix_of (number_field m.order) (r.reduced.rows ++ r.rest.rows))
        (λ t. get_or r.pivots.items t 0) (at_pivot i below).place (matrix_of (number_field m.order) sorted.rows i) facts.beside
        (reduced_full m r h square of_rows whole) (place_below i below)
        (facts.back (at_pivot i below).place (omega (arith, place_below i below, full)))
        (λ j inside. entry_is j inside)
        ∙ ap (unit_vector (gf m.order)) (at_pivot i below).pivot ∙ sym (identity_row (gf m.order) m.cols i below)
      where
        entry_is : (j : ℕ) → j < m.cols → matrix_of (number_field m.order) sorted.rows i j ≡
            matrix_of (number_field m.order) (r.reduced.rows ++ r.rest.rows) (at_pivot i below).place (m.cols + j)
        entry_is j inside =
            ap (λ (x : List ℕ). vector_of (number_field m.order) x j) (at_pivot i below).same
            ∙ right_entry (number_field m.order) (length r.reduced.rows) m.cols m.cols r.reduced.rows rows.rows tabled (at_pivot i below).place j
            (omega (arith, place_below i below, full)) inside
            ∙ ap (λ (v : Vector (gf m.order)). v (m.cols + j))
            (sym (appended_first (number_field m.order) r.reduced.rows r.rest.rows (at_pivot i below).place (omega (arith, place_below i below, full))))
    row i (no past) =
        ap (λ (v : Vector (gf m.order)). times (gf m.order) m.cols v (matrix_of (number_field m.order) m.rows))
        (fun_ext λ j. (square_shape (number_field m.order) m.cols sorted.rows square_sorted).rows i j (omega arith))
        ∙ times_zero (gf m.order) m.cols (matrix_of (number_field m.order) m.rows) ∙ sym (identity_past (gf m.order) m.cols i (omega arith))

-- ---- the call of the reduction

pub as_many_rows : (m copy unit : MatrixValue) (o : Order) (n : ℕ) → copy ≡ m → unit ≡ identity_matrix o n → n ≡ length m.rows →
    length unit.rows ≡ length copy.rows
as_many_rows m copy unit o n copied is count =
    ap (λ (x : MatrixValue). length x.rows) is ∙ identity_length (number_field o) n ∙ count ∙ ap (λ (x : MatrixValue). length x.rows) (sym copied)

pub some_row_beside : (m copy unit : MatrixValue) (a : AugmentedValue) → copy ≡ m → a ≡ augmented copy unit → 1 ≤ length m.rows → 1 ≤ length a.rows
unfolding rows_beside
some_row_beside m copy unit a copied is some =
    let long : length a.rows ≡ length m.rows =
    ap (λ (x : AugmentedValue). length x.rows) is ∙ listed_length (length copy.rows) (λ i. get_or copy.rows i [] ++ get_or unit.rows i [])
    ∙ ap (λ (x : MatrixValue). length x.rows) copied in
    omega (arith, long, some)
