-- Reduced bases of lists: which lists they are, that there is one, and only one; representatives of cosets.
use Rattle.std.specs.Prelude.{◌≡◌, ◌≢◌, ℕ, ◌<◌, List, [], length, get_or}
use Rattle.axe_algebra.specs.NumberField.{NumberField}
use Rattle.axe_algebra.specs.Field.{Field}
use Rattle.axe_algebra.specs.Vectors.{Vector, Matrix, HasRowsOfLength}
use Rattle.axe_algebra.specs.Spans
use Rattle.axe_algebra.specs.Reduced
use Rattle.axe_algebra.specs.Bridge.{field_of, vector_of, matrix_of}
use Rattle.axe_algebra.specs.Lists.{entry, rows_of, IsMatrixOver}
use Rattle.axe_algebra.specs.SpansOfLists.{IsReducedBasis}
use Rattle.axe_algebra.proofs.ReducedBases.{reduced_basis, reduced_size_is_unique, reduced_is_unique, space_size_is_unique, space_rows_are_unique}
use Rattle.axe_algebra.proofs.ListEntries.{table_length, row_over, rows_length, same_vector, rows_over, vector_of_entries, table_row}
use Rattle.std.proofs.lemmas.List.{ext_get_or}
use mathlib.Core.Path.{sym, ◌∙◌, ap, subst}
use native.Mathlib.Omega.{arith}

-- the rows of a list in reduced row echelon form, with their pivots
pub record IsReducedRows (rows : List (List ℕ)) (pivots : ℕ → ℕ) : Type 0 where
  pub ascending : (s t : ℕ) → s < t → t < length rows → pivots s < pivots t
  pub one : (t : ℕ) → t < length rows → entry rows t (pivots t) ≡ 1
  pub zero : (s t : ℕ) → s < length rows → t < length rows → s ≢ t → entry rows t (pivots s) ≡ 0
  pub before : (t i : ℕ) → t < length rows → i < pivots t → entry rows t i ≡ 0

module _ (K : NumberField) where
  abbrev F : Field
  F = field_of K

  -- the rows below the size of a reduced basis alone count
  reduced_of_same_rows : (k : ℕ) (v : Matrix F) (r : ℕ) (w u : Matrix F) → ((t : ℕ) → t < r → w t ≡ u t) →
      Reduced.IsReducedBasis F k v r w → Reduced.IsReducedBasis F k v r u
  reduced_of_same_rows k v r w u same basis = record {
    pivots = basis.pivots;
    are_pivots = basis.are_pivots;
    in_span = λ t below. subst (Spans.InSpan F k v) (same t below) (basis.in_span t below);
    one = λ t below. ap (λ (x : Vector F). x (basis.pivots t)) (sym (same t below)) ∙ basis.one t below;
    zero = λ s t inside below other. ap (λ (x : Vector F). x (basis.pivots s)) (sym (same t below)) ∙ basis.zero s t inside below other;
  }

  -- the reduced basis as a list
  pub reduced_basis_list : (n : ℕ) (rows : List (List ℕ)) → IsMatrixOver K n rows →
      (basis : List (List ℕ)) × IsMatrixOver K n basis × IsReducedBasis K rows basis
  reduced_basis_list n rows over = from (reduced_basis F n (length rows) (matrix_of K rows) (rows_length K n rows over))
    where
      from : (r : ℕ) × (w : Matrix F) × HasRowsOfLength F n w × Reduced.IsReducedBasis F (length rows) (matrix_of K rows) r w →
          (basis : List (List ℕ)) × IsMatrixOver K n basis × IsReducedBasis K rows basis
      from (r, w, lengths, reduced) = (
        rows_of K r n w,
        rows_over K r n w,
        subst (λ m. Reduced.IsReducedBasis F (length rows) (matrix_of K rows) m (matrix_of K (rows_of K r n w)))
            (sym (table_length r n (λ i j. (w i j).0)))
            (reduced_of_same_rows (length rows) (matrix_of K rows) r w (matrix_of K (rows_of K r n w)) same reduced),
      )
        where
          same : (t : ℕ) → t < r → w t ≡ matrix_of K (rows_of K r n w) t
          same t below =
              sym (vector_of_entries K n (w t) (lengths t)) ∙ ap (vector_of K) (sym (table_row r n (λ i j. (w i j).0) t below))

  -- lists of rows of one length that agree as rows of vectors are the same
  same_rows : (n : ℕ) (a b : List (List ℕ)) → IsMatrixOver K n a → IsMatrixOver K n b → length a ≡ length b →
      ((t : ℕ) → t < length a → matrix_of K a t ≡ matrix_of K b t) → a ≡ b
  same_rows n a b over_a over_b lengths same =
      ext_get_or [] a b lengths (λ i below. same_vector K n (get_or a i []) (get_or b i []) (row_over K n a i over_a below)
      (row_over K n b i over_b (omega arith)) (same i below))

  -- there is only one reduced basis
  pub reduced_basis_list_is_unique : (n : ℕ) (rows a b : List (List ℕ)) → IsMatrixOver K n rows → IsMatrixOver K n a → IsMatrixOver K n b →
      IsReducedBasis K rows a → IsReducedBasis K rows b → a ≡ b
  reduced_basis_list_is_unique n rows a b over over_a over_b first second =
      same_rows n a b over_a over_b
      (reduced_size_is_unique F (length rows) (matrix_of K rows) (length a) (matrix_of K a) (length b) (matrix_of K b) first second)
      (reduced_is_unique F n (length rows) (matrix_of K rows) (length a) (matrix_of K a) (length b) (matrix_of K b) (rows_length K n rows over) first second)

  -- and only one reduced basis of a space
  pub space_basis_list_is_unique : (P : Vector F → Type 0) (n : ℕ) (a b : List (List ℕ)) → IsMatrixOver K n a → IsMatrixOver K n b →
      Reduced.IsReducedBasisOf F P (length a) (matrix_of K a) → Reduced.IsReducedBasisOf F P (length b) (matrix_of K b) → a ≡ b
  space_basis_list_is_unique P n a b over_a over_b first second =
      same_rows n a b over_a over_b
      (space_size_is_unique F P (length a) (matrix_of K a) (length b) (matrix_of K b) first second)
      (space_rows_are_unique F P n (length a) (matrix_of K a) (length b) (matrix_of K b) (rows_length K n a over_a) first second)
