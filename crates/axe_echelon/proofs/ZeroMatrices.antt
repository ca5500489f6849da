-- Matrices whose rows are all zero: their null space is everything, as is the space of all vectors that are orthogonal to
-- their rows.
use Rattle.std.specs.Prelude.{◌≡◌, ℕ, ◌-◌, ◌<◌, ◌≤◌, List, [], length, get_or, All, Some, cond, eqb}
use Rattle.std.proofs.lemmas.List.{get_or_past}
use Rattle.std.proofs.lemmas.List.Elements.{All-get_or, All-from_get_or}
use Rattle.axe_algebra.specs.NumberField.{NumberField}
use Rattle.axe_algebra.specs.Field.{Field}
use Rattle.axe_algebra.specs.Vectors.{Vector, HasLength, zero_vector}
use Rattle.axe_algebra.specs.Spans
use Rattle.axe_algebra.specs.Bridge.{field_of, matrix_of}
use Rattle.axe_algebra.specs.Lists.{entry, listed, unit_row}
use Rattle.axe_algebra.specs.ListArithmetic.{identity, transpose}
use Rattle.axe_algebra.specs.SpansOfLists.{IsIndependent}
use Rattle.axe_algebra.proofs.ProductLaws.{times_identity, times_zero_rows}
use Rattle.axe_algebra.proofs.Spanning.{span_length}
use Rattle.axe_algebra.proofs.Isomorphisms.{unit_rows_independent}
use Rattle.axe_algebra.proofs.ListEntries.{rows_length, listed_length, listed_at, table_length, table_row}
use Rattle.axe_algebra.proofs.ListProducts.{matrix_of_identity, identity_over, identity_length}
use Rattle.axe_algebra.proofs.ListIrreducible.{transpose_length}
use Rattle.axe_field.specs.Order.{Order}
use Rattle.axe_field.specs.NumberFields.{number_field}
use Rattle.axe_row.specs.Operations.{IsZeroVector}
use Rattle.axe_row.specs.Rows.{RowValue}
use Rattle.axe_matrix.specs.Limits.{most_columns}
use Rattle.axe_matrix.specs.Matrices.{MatrixValue, IsMatrix, identity_matrix, transposed_matrix}
use Rattle.axe_echelon.proofs.EliminationLaws.{vector_of_zero_row}
use Rattle.axe_echelon.specs.Echelons.{EchelonValue, IsEchelon, IsReducedMatrix, IsNullSpaceMatrix}
use Rattle.axe_echelon.specs.OrthogonalPoints.{IsOrthogonalPoint}
use Rattle.axe_echelon.proofs.WholeSpace.{identity_is_reduced}
use Rattle.axe_echelon.proofs.SomeMatrix.{matrix_of_rows_over}
use mathlib.Core.Path.{refl, sym, ◌∙◌, ap, ap₂, subst}
use native.Mathlib.Omega.{arith}
use native.Mathlib.Decide.{dec_lt}

-- an entry of a list of zeros, or 0 outside it
zero_entry : (v : List ℕ) (j : ℕ) → IsZeroVector v → get_or v j 0 ≡ 0
zero_entry v j zeros = at (dec_lt j (length v))
  where
    at : Dec (j < length v) → get_or v j 0 ≡ 0
    at (yes below) = All-get_or (λ number. number ≡ 0) v j 0 below zeros
    at (no past) = get_or_past v j 0 (omega arith)

-- ---- the null space

module _ (K : NumberField) where
  abbrev F : Field
  F = field_of K

  -- the rows of the identity are independent
  pub units_independent : (n : ℕ) → IsIndependent K (identity n)
  units_independent n =
      subst (λ k. Spans.IsIndependent F k (matrix_of K (identity n))) (sym (identity_length K n))
      (subst (Spans.IsIndependent F n) (sym (matrix_of_identity K n)) (unit_rows_independent F n))

  -- and span everything
  pub whole_span : (n : ℕ) (x : Vector F) → HasLength F n x → Spans.InSpan F (length (identity n)) (matrix_of K (identity n)) x
  whole_span n x long =
      subst (λ k. Spans.InSpan F k (matrix_of K (identity n)) x) (sym (identity_length K n))
      (subst (λ a. Spans.InSpan F n a x) (sym (matrix_of_identity K n)) (record { coefficients = x; combines = sym (times_identity F n x long) }))

-- the rows of the identity
abbrev units : Order → ℕ → EchelonValue
units o n = record { order = o; cols = n; rows = identity n }

-- they are an echelon form
units_are_echelon : (o : Order) (n : ℕ) → 1 ≤ n → n ≤ most_columns → IsEchelon (units o n)
units_are_echelon o n some few = record {
  some_column = some;
  columns_fit = few;
  over = identity_over (number_field o) n;
  independent = units_independent (number_field o) n;
}

-- the identity has as its rows the reduced basis of the null space of a zero matrix
pub identity_is_null_space : (m basis : MatrixValue) (o : Order) (n : ℕ) → 1 ≤ length m.rows → length m.rows ≤ most_columns → All IsZeroVector m.rows →
    o ≡ m.order → n ≡ length m.rows → basis ≡ identity_matrix o n → IsNullSpaceMatrix m basis
identity_is_null_space m basis o n some few zeros same_field same_count is =
    subst (IsNullSpaceMatrix m) (sym (is ∙ ap₂ identity_matrix same_field same_count)) null_space
  where
    K : NumberField
    K = number_field m.order

    F : Field
    F = field_of K

    count : ℕ
    count = length m.rows

    rows_are : (t : ℕ) → t < count → matrix_of K m.rows t ≡ zero_vector F
    rows_are t below = vector_of_zero_row K (get_or m.rows t []) (All-get_or IsZeroVector m.rows t [] below zeros)

    reduced : IsReducedMatrix (units m.order count) (identity_matrix m.order count)
    reduced = identity_is_reduced (units m.order count) (identity_matrix m.order count) m.order count (units_are_echelon m.order count some few) refl refl
        (identity_length K count) refl

    null_space : IsNullSpaceMatrix m (identity_matrix m.order count)
    null_space = record {
      field = refl;
      columns = refl;
      basis_of_null_space = record {
        forth = λ x in_span. record {
          length = span_length F count (length (identity count)) (matrix_of K (identity count)) x (rows_length K count (identity count) (identity_over K count)) in_span;
          vanishes = times_zero_rows F count x (matrix_of K m.rows) rows_are;
        };
        back = λ x null. whole_span K count x null.length;
        reduced = reduced.basis;
      };
    }

-- ---- the first point

-- the rows of the transpose of a zero matrix are zero
zero_transpose : (n : ℕ) (rows : List (List ℕ)) → All IsZeroVector rows → All IsZeroVector (transpose n rows)
unfolding transpose
zero_transpose n rows zeros = All-from_get_or IsZeroVector (transpose n rows) [] (λ i below.
    let inside : i < n = omega (arith, below, table_length n (length rows) (λ i j. entry rows j i)) in
    subst IsZeroVector (sym (table_row n (length rows) (λ i j. entry rows j i) i inside))
    (All-from_get_or (λ number. number ≡ 0) (listed (length rows) (λ j. entry rows j i)) 0 (λ j short.
    let among : j < length rows = omega (arith, short, listed_length (length rows) (λ j. entry rows j i)) in
    listed_at (length rows) (λ j. entry rows j i) j 0 among ∙ zero_entry (get_or rows j []) i (All-get_or IsZeroVector rows j [] among zeros))))

-- the last row of the identity is the last unit vector
pub last_of_identity : (n last : ℕ) → 1 ≤ n → last ≡ n - 1 → unit_row n last ≡ get_or (identity n) (length (identity n) - 1) []
unfolding identity
last_of_identity n last some is =
    let count : length (identity n) ≡ n = table_length n n (λ i j. cond (eqb i j) 1 0) in
    ap (unit_row n) (let same : last ≡ length (identity n) - 1 = omega (arith, is, count) in same)
    ∙ sym (listed_at n (unit_row n) (length (identity n) - 1) [] (omega (arith, some, count)))

-- the last unit vector is the first point of the space of all vectors that are orthogonal to zeros
pub point_of_zeros : (m : MatrixValue) (o : Order) (n last : ℕ) (v : RowValue) → IsMatrix m → All IsZeroVector m.rows → o ≡ m.order → n ≡ m.cols →
    last ≡ m.cols - 1 → v ≡ record { order = o; entries = unit_row n last } → IsOrthogonalPoint m (Some v)
point_of_zeros m o n last v well zeros same_field same_count is_last is = record {
  basis = identity_matrix m.order m.cols;
  is_basis = identity_is_null_space (transposed_matrix m) (identity_matrix m.order m.cols) m.order m.cols (omega (arith, count, well.some_column))
      (omega (arith, count, well.columns_fit)) (zero_transpose m.cols m.rows zeros) refl (sym count) refl;
  well_formed = matrix_of_rows_over m.order m.cols (identity m.cols) well.some_column well.columns_fit (omega (arith, size, well.columns_fit))
      (identity_over (number_field m.order) m.cols);
  first = (
    omega (arith, size, well.some_column),
    is ∙ (λ t. record { order = same_field t; entries = unit_row (same_count t) last })
        ∙ ap (λ (entries : List ℕ). record { order = m.order; entries = entries }) (last_of_identity m.cols last well.some_column is_last),
  );
}
  where
    count : length (transpose m.cols m.rows) ≡ m.cols
    count = transpose_length m.cols m.rows

    size : length (identity m.cols) ≡ m.cols
    size = identity_length (number_field m.order) m.cols
