-- Every space that rows span has a reduced basis, as a list; so annihilators have one.
use Rattle.std.specs.Prelude.{◌≡◌, ℕ, ◌<◌, List, length}
use Rattle.axe_algebra.specs.NumberField.{NumberField}
use Rattle.axe_algebra.specs.Field.{Field}
use Rattle.axe_algebra.specs.Vectors.{Vector, Matrix, HasRowsOfLength}
use Rattle.axe_algebra.specs.Spans.{InSpan}
use Rattle.axe_algebra.specs.Reduced
use Rattle.axe_algebra.specs.NortonTheorems.{SpansAnnihilator}
use Rattle.axe_algebra.specs.Bridge.{field_of, vector_of, matrix_of}
use Rattle.axe_algebra.specs.Lists.{rows_of, IsMatrixOver}
use Rattle.axe_algebra.specs.SpansOfLists.{IsReducedBasis, IsAnnihilatorBasis}
use Rattle.axe_algebra.proofs.Exchange.{span_of_same_rows}
use Rattle.axe_algebra.proofs.ReducedBases.{reduced_independent, reduced_of_span}
use Rattle.axe_algebra.proofs.NullSpaces.{annihilator_basis}
use Rattle.axe_algebra.proofs.ListEntries.{table_length, table_row, rows_length, rows_over, vector_of_entries}
use Rattle.axe_algebra.proofs.ListReduced.{reduced_basis_list}
use Rattle.axe_algebra.proofs.ListSpans.{independent_rows_are_few}
use Rattle.axe_field.specs.NumberFields.{number_field}
use Rattle.axe_matrix.specs.Matrices.{MatrixValue, IsMatrix}
use Rattle.axe_echelon.proofs.InverseLaws.{matrix_over}
use Rattle.axe_echelon.proofs.SomeMatrix.{matrix_of_rows_over}
use Rattle.axe_action.specs.Actions.{IsAnnihilatorMatrix}
use mathlib.Core.Path.{refl, sym, ◌∙◌, ap, subst}
use native.Mathlib.Omega.{arith}

module _ (K : NumberField) where
  abbrev F : Field
  F = field_of K

  -- the reduced basis of a space that rows span, as a list
  pub some_space_basis : (n : ℕ) (P : Vector F → Type 0) (r : ℕ) (b : Matrix F) → HasRowsOfLength F n b →
      ((x : Vector F) → InSpan F r b x → P x) →
      ((x : Vector F) → P x → InSpan F r b x) →
      (basis : List (List ℕ)) × IsMatrixOver K n basis × Reduced.IsReducedBasisOf F P (length basis) (matrix_of K basis)
  some_space_basis n P r b lengths forth back = from (reduced_basis_list K n rows over)
    where
      rows : List (List ℕ)
      rows = rows_of K r n b

      over : IsMatrixOver K n rows
      over = rows_over K r n b

      count : length rows ≡ r
      count = table_length r n (λ i j. (b i j).0)

      same : (t : ℕ) → t < r → b t ≡ matrix_of K rows t
      same t below =
          sym (vector_of_entries K n (b t) (lengths t))
          ∙ ap (vector_of K) (sym (table_row r n (λ i j. (b i j).0) t below))

      from : (basis : List (List ℕ)) × IsMatrixOver K n basis × IsReducedBasis K rows basis →
          (basis : List (List ℕ)) × IsMatrixOver K n basis ×
          Reduced.IsReducedBasisOf F P (length basis) (matrix_of K basis)
      from (basis, of_basis, reduced) = (
        basis,
        of_basis,
        record {
          forth = λ x in_span. forth x (span_of_same_rows F r (matrix_of K rows) b x (λ t below. sym (same t below))
              (subst (λ k. InSpan F k (matrix_of K rows) x) count (whole.forth x in_span)));
          back = λ x holds. whole.back x
              (subst (λ k. InSpan F k (matrix_of K rows) x) (sym count)
              (span_of_same_rows F r b (matrix_of K rows) x same (back x holds)));
          reduced = whole.reduced;
        },
      )
        where
          whole : Reduced.IsReducedBasisOf F (InSpan F (length rows) (matrix_of K rows)) (length basis)
              (matrix_of K basis)
          whole = reduced_of_span F n (length rows) (matrix_of K rows) (length basis) (matrix_of K basis)
              (rows_length K n rows over) reduced

  -- the reduced basis of an annihilator, as a list
  pub some_annihilator_basis : (n : ℕ) (rows : List (List ℕ)) → IsMatrixOver K n rows →
      (basis : List (List ℕ)) × IsMatrixOver K n basis × IsAnnihilatorBasis K n rows basis
  some_annihilator_basis n rows over =
      from (annihilator_basis F n (length rows) (matrix_of K rows) (rows_length K n rows over))
    where
      from : (r : ℕ) × (w : Matrix F) × HasRowsOfLength F n w ×
          SpansAnnihilator F n (length rows) (matrix_of K rows) r w →
          (basis : List (List ℕ)) × IsMatrixOver K n basis × IsAnnihilatorBasis K n rows basis
      from (r, w, lengths, spans) = some_space_basis n _ r w lengths spans.forth spans.back

-- the annihilator of the rows of a matrix
pub some_annihilator : (rows : MatrixValue) → IsMatrix rows →
    (basis : MatrixValue) × (IsAnnihilatorMatrix rows basis × IsMatrix basis)
some_annihilator rows well =
    from (some_annihilator_basis (number_field rows.order) rows.cols rows.rows (matrix_over rows well))
  where
    from : (basis : List (List ℕ)) × IsMatrixOver (number_field rows.order) rows.cols basis ×
        IsAnnihilatorBasis (number_field rows.order) rows.cols rows.rows basis →
        (basis : MatrixValue) × (IsAnnihilatorMatrix rows basis × IsMatrix basis)
    from (basis, over, is) = (
      record { order = rows.order; cols = rows.cols; rows = basis },
      (
        record { field = refl; columns = refl; basis_of_annihilator = is },
        matrix_of_rows_over rows.order rows.cols basis well.some_column well.columns_fit (omega (
          arith,
          well.columns_fit,
          independent_rows_are_few (number_field rows.order) rows.cols basis over
              (reduced_independent (field_of (number_field rows.order)) (length basis)
              (matrix_of (number_field rows.order) basis) (length basis)
              (matrix_of (number_field rows.order) basis) is.reduced),
        )) over,
      ),
    )
