-- Rows that are zero.
use Rattle.std.specs.Prelude.{◌≡◌, ℕ, ◌<◌, ◌≤◌, List, [], length, get_or, Bool, true, false}
use Rattle.axe_algebra.specs.NumberField.{NumberField}
use Rattle.axe_algebra.specs.Field.{Field}
use Rattle.axe_algebra.specs.Spans
use Rattle.axe_algebra.specs.Bridge.{field_of, vector_of, matrix_of}
use Rattle.axe_algebra.specs.Lists.{IsVectorOver, IsMatrixOver}
use Rattle.axe_algebra.specs.SpansOfLists.{IsSpanned, HaveSameSpan}
use Rattle.axe_algebra.proofs.ProductLaws.{times_zero_rows, times_none}
use Rattle.axe_algebra.proofs.ListEntries.{row_over}
use Rattle.axe_row.specs.Operations.{IsZeroVector}
use Rattle.axe_echelon.proofs.EliminationLaws.{zero_row_of_vector, vector_of_zero_row}
use Rattle.axe_matrix.specs.Matrices.{has_only_zeros}
use Rattle.axe_matrix.proofs.OnlyZeros.{only_zeros, row_of_zeros}
use mathlib.Core.Path.{refl, ◌∙◌, subst}
use native.Mathlib.Omega.{arith}

module _ (K : NumberField) where
  abbrev F : Field
  F = field_of K

  -- rows that are zero span only zero
  pub spanned_by_zeros : (n : ℕ) (rows : List (List ℕ)) (v : List ℕ) → has_only_zeros rows ≡ true → IsVectorOver K n v → IsSpanned K rows v → IsZeroVector v
  spanned_by_zeros n rows v zeros over spanned =
      zero_row_of_vector K n v over (spanned.combines ∙ times_zero_rows F (length rows) spanned.coefficients (matrix_of K rows)
      (λ t below. vector_of_zero_row K (get_or rows t []) (row_of_zeros rows t zeros below)))

-- a test that cannot succeed fails
pub false_if_absurd : (test : Bool) → (test ≡ true → ⊥) → test ≡ false
false_if_absurd true never = absurd (never refl)
false_if_absurd false never = refl

-- rows in the span of no rows have only zeros
pub zeros_of_no_basis : (K : NumberField) (n : ℕ) (rows basis : List (List ℕ)) → IsMatrixOver K n rows → HaveSameSpan K rows basis → length basis ≡ 0 →
    has_only_zeros rows ≡ true
zeros_of_no_basis K n rows basis over same none =
    only_zeros rows zeros
  where
    zeros : (t : ℕ) → t < length rows → IsZeroVector (get_or rows t [])
    zeros t below =
        let spanned : Spans.InSpan (field_of K) 0 (matrix_of K basis) (vector_of K (get_or rows t [])) =
        subst (λ k. Spans.InSpan (field_of K) k (matrix_of K basis) (vector_of K (get_or rows t []))) none (same.forth t below) in
        zero_row_of_vector K n (get_or rows t []) (row_over K n rows t over below)
        (spanned.combines ∙ times_none (field_of K) spanned.coefficients (matrix_of K basis))

pub some_basis_row : (K : NumberField) (n : ℕ) (rows basis : List (List ℕ)) → IsMatrixOver K n rows → HaveSameSpan K rows basis →
    has_only_zeros rows ≡ false → 1 ≤ length basis
some_basis_row K n rows basis over same some = positive (length basis) (λ none. different (zeros_of_no_basis K n rows basis over same none) some)
  where
    different : has_only_zeros rows ≡ true → has_only_zeros rows ≡ false → ⊥
    different first second = cc

    positive : (k : ℕ) → (k ≡ 0 → ⊥) → 1 ≤ k
    positive k not_none = omega arith
