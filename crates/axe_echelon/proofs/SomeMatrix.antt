-- A matrix with rows has a null space matrix, and a square matrix has an inverse or none.
use Rattle.std.proofs.Common.{◌≡◌, ◌≢◌, refl, sym, ◌∙◌, ap, subst, ℕ, ◌<◌, ◌≤◌, List, length, ◌⊎◌, inl, inr, arith}
use Rattle.axe_algebra.specs.Field.{Field}
use Rattle.axe_algebra.specs.NumberField.{NumberField}
use Rattle.axe_algebra.specs.Vectors.{Vector, Matrix, zero_vector}
use Rattle.axe_algebra.specs.Spans.{InSpan, IsDependent, IsIndependent, IsNullVector, IsInvertible}
use Rattle.axe_algebra.specs.Reduced.{IsReducedBasis, IsReducedBasisOf}
use Rattle.axe_algebra.specs.NortonTheorems.{SpansNullSpace}
use Rattle.axe_algebra.specs.Bridge.{field_of, vector_of, matrix_of}
use Rattle.axe_algebra.specs.Lists
use Rattle.axe_algebra.specs.ListArithmetic
use Rattle.axe_algebra.specs.SpansOfLists
use Rattle.axe_algebra.proofs.Elimination.{eliminate}
use Rattle.axe_algebra.proofs.Exchange.{span_of_same_rows}
use Rattle.axe_algebra.proofs.SquareMatrices.{zero_null_space_of_inverse, null_vector_or_inverse}
use Rattle.axe_algebra.proofs.ReducedBases.{reduced_independent, reduced_of_span}
use Rattle.axe_algebra.proofs.NullSpaces.{null_space_basis}
use Rattle.axe_algebra.proofs.ListEntries.{table_length, table_row, rows_length, rows_over, square_shape, vector_of_entries}
use Rattle.axe_algebra.proofs.ListLaws.{inverse_of_lists, inverse_list}
use Rattle.axe_algebra.proofs.ListReduced.{reduced_basis_list}
use Rattle.axe_field.specs.Order.{Order}
use Rattle.axe_field.specs.NumberFields.{number_field}
use Rattle.axe_matrix.specs.Matrices.{MatrixValue, IsMatrix}
use Rattle.axe_matrix.specs.Limits.{most_rows, most_columns}
use Rattle.axe_reduction.specs.Solutions.{IsInvertibleMatrix as HasInverse}
use Rattle.axe_echelon.specs.Echelons.{IsNullSpaceMatrix}
use Rattle.axe_echelon.proofs.InverseLaws.{matrix_over}

-- ---- null spaces

module _ (K : NumberField) where
  abbrev F : Field
  F = field_of K

  -- the reduced basis of a null space that rows span, as a list
  null_basis_of : (n : ℕ) (a : Matrix F) (r : ℕ) (b : Matrix F) → SpansNullSpace F n a r b →
      (basis : List (List ℕ)) × Lists.IsMatrixOver K n basis × IsReducedBasisOf F (IsNullVector F n a) (length basis) (matrix_of K basis)
  null_basis_of n a r b spans = from (reduced_basis_list K n rows over)
    where
      rows : List (List ℕ)
      rows = Lists.rows_of K r n b

      over : Lists.IsMatrixOver K n rows
      over = rows_over K r n b

      count : length rows ≡ r
      count = table_length r n (λ i j. (b i j).0)

      same : (t : ℕ) → t < r → b t ≡ matrix_of K rows t
      same t below = sym (vector_of_entries K n (b t) (spans.lengths t)) ∙ ap (vector_of K) (sym (table_row r n (λ i j. (b i j).0) t below))

      forth : (x : Vector F) → InSpan F (length rows) (matrix_of K rows) x → IsNullVector F n a x
      forth x in_span =
          spans.forth x (span_of_same_rows F r (matrix_of K rows) b x (λ t below. sym (same t below)) (subst (λ k. InSpan F k (matrix_of K rows) x) count in_span))

      back : (x : Vector F) → IsNullVector F n a x → InSpan F (length rows) (matrix_of K rows) x
      back x null =
          subst (λ k. InSpan F k (matrix_of K rows) x) (sym count) (span_of_same_rows F r b (matrix_of K rows) x same (spans.back x null))

      from : (basis : List (List ℕ)) × Lists.IsMatrixOver K n basis × SpansOfLists.IsReducedBasis K rows basis →
          (basis : List (List ℕ)) × Lists.IsMatrixOver K n basis × IsReducedBasisOf F (IsNullVector F n a) (length basis) (matrix_of K basis)
      from (basis, of_basis, reduced) = (
        basis,
        of_basis,
        record {
          forth = λ x in_span. forth x (whole.forth x in_span);
          back = λ x null. whole.back x (back x null);
          reduced = whole.reduced;
        },
      )
        where
          whole : IsReducedBasisOf F (InSpan F (length rows) (matrix_of K rows)) (length basis) (matrix_of K basis)
          whole = reduced_of_span F n (length rows) (matrix_of K rows) (length basis) (matrix_of K basis) (rows_length K n rows over) reduced

  -- a reduced basis has no more rows than columns
  few_rows : (n : ℕ) (basis : List (List ℕ)) → Lists.IsMatrixOver K n basis → IsReducedBasis F (length basis) (matrix_of K basis) (length basis) (matrix_of K basis) →
      length basis ≤ n
  few_rows n basis over reduced = cases (eliminate F n (length basis) (matrix_of K basis) (rows_length K n basis over))
    where
      independent : IsIndependent F (length basis) (matrix_of K basis)
      independent = reduced_independent F (length basis) (matrix_of K basis) (length basis) (matrix_of K basis) reduced

      cases : IsDependent F (length basis) (matrix_of K basis) ⊎ (IsIndependent F (length basis) (matrix_of K basis) × (length basis ≤ n)) → length basis ≤ n
      cases (inl d) = absurd (d.nonzero (independent.only_zero d.coefficients d.vanishes d.place d.place-below))
      cases (inr (known, few)) = few

-- rows over the field of an order are a matrix
pub matrix_of_rows_over : (o : Order) (n : ℕ) (rows : List (List ℕ)) → 1 ≤ n → n ≤ most_columns → length rows ≤ most_rows →
    Lists.IsMatrixOver (number_field o) n rows → IsMatrix (record { order = o; cols = n; rows = rows })
unfolding number_field
matrix_of_rows_over o n rows some columns_fit rows_fit over = record {
  some_column = some;
  columns_fit = columns_fit;
  rows_fit = rows_fit;
  row_lengths = λ i d below. (over i d below).length_is;
  elements = λ i d below. (over i d below).elements;
}

-- rows of one length have a null space matrix, also where that length is 0
pub null_space_of_rows : (m : MatrixValue) → Lists.IsMatrixOver (number_field m.order) m.cols m.rows → 1 ≤ length m.rows → length m.rows ≤ most_columns →
    (basis : MatrixValue) × (IsNullSpaceMatrix m basis × IsMatrix basis)
null_space_of_rows m rows_over some few = from (null_space_basis F m.cols n A (rows_length K m.cols m.rows rows_over))
  where
    K : NumberField
    K = number_field m.order

    F : Field
    F = field_of K

    n : ℕ
    n = length m.rows

    A : Matrix F
    A = matrix_of K m.rows

    of_list : (basis : List (List ℕ)) × Lists.IsMatrixOver K n basis × IsReducedBasisOf F (IsNullVector F n A) (length basis) (matrix_of K basis) →
        (basis : MatrixValue) × (IsNullSpaceMatrix m basis × IsMatrix basis)
    of_list (basis, over, reduced) = (
      record { order = m.order; cols = n; rows = basis },
      (
        record { field = refl; columns = refl; basis_of_null_space = reduced },
        matrix_of_rows_over m.order n basis some few (omega (arith, few, few_rows K n basis over reduced.reduced)) over,
      ),
    )

    from : (r : ℕ) × (b : Matrix F) × SpansNullSpace F n A r b → (basis : MatrixValue) × (IsNullSpaceMatrix m basis × IsMatrix basis)
    from (r, b, spans) = of_list (null_basis_of K n A r b spans)

pub some_null_space : (m : MatrixValue) → IsMatrix m → 1 ≤ length m.rows → (basis : MatrixValue) × (IsNullSpaceMatrix m basis × IsMatrix basis)
some_null_space m well some = null_space_of_rows m (matrix_over m well) some (omega (arith, well.rows_fit))

-- ---- inverses

pub inverse_or_none : (m : MatrixValue) → IsMatrix m → length m.rows ≡ m.cols → HasInverse m ⊎ (¬ (HasInverse m))
inverse_or_none m well square = cases (null_vector_or_inverse F m.cols A (square_shape K m.cols m.rows of_m))
  where
    K : NumberField
    K = number_field m.order

    F : Field
    F = field_of K

    A : Matrix F
    A = matrix_of K m.rows

    of_m : Lists.IsSquareOver K m.cols m.rows
    of_m = record { length_is = square; matrix = matrix_over m well }

    some : (b : List (List ℕ)) × Lists.IsSquareOver K m.cols b × ListArithmetic.IsInverse K m.cols m.rows b → HasInverse m
    some (b, of_b, inverts) = (
      record { order = m.order; cols = m.cols; rows = b },
      record { field = refl; columns = refl; square = of_b; inverts = inverts },
    )

    invertible : HasInverse m → IsInvertible F m.cols A
    invertible (b, inverse) = record {
      inverse = matrix_of K b.rows;
      inverts = inverse_of_lists K m.cols m.rows b.rows of_m inverse.square inverse.inverts;
    }

    cases : ((v : Vector F) × (v ≢ zero_vector F) × IsNullVector F m.cols A v) ⊎ IsInvertible F m.cols A → HasInverse m ⊎ (¬ (HasInverse m))
    cases (inl (v, nonzero, null)) = inr (λ inverse. nonzero (zero_null_space_of_inverse F m.cols A (invertible inverse) v null))
    cases (inr found) = inl (some (inverse_list K m.cols m.rows of_m found))
