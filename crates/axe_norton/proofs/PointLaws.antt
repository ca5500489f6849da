-- The points of a space that is given by the rows of a matrix, over the field of a module.
use Rattle.std.specs.Prelude.{◌≡◌, ◌≢◌, ℕ, ◌<◌, List, [], length, get_or}
use Rattle.axe_algebra.specs.Vectors.{zero_vector}
use Rattle.axe_algebra.specs.Bridge.{vector_of}
use Rattle.axe_algebra.specs.Lists.{IsMatrixOver}
use Rattle.axe_algebra.specs.SpansOfLists.{IsSpanned, IsIndependent}
use Rattle.axe_algebra.specs.PointsOfLists.{points}
use Rattle.axe_algebra.specs.PointTheorems.{IsNonzeroSpanned, IsMultipleOfPoint}
use Rattle.axe_algebra.proofs.PointSpans.{point_nonzero_spanned, spanned_are_multiples, first_point_is_last_row}
use Rattle.axe_field.specs.Order.{Order}
use Rattle.axe_field.specs.NumberFields.{number_field, gf}
use Rattle.axe_matrix.specs.Matrices.{MatrixValue}
use Rattle.axe_word.specs.PointsOfMatrix.{points_of}
use Rattle.axe_norton.specs.Spaces.{point_of}
use mathlib.Core.Path.{sym, ◌∙◌, ap, subst}

module _ (o : Order) (n : ℕ) (basis : MatrixValue) (field : basis.order ≡ o) (columns : basis.cols ≡ n) where
  -- the points are those over this field
  pub points_over : points_of basis ≡ points (number_field o) n basis.rows
  points_over = ap (λ p. points (number_field p) basis.cols basis.rows) field ∙ ap (λ k. points (number_field o) k basis.rows) columns

  pub point_at : (i : ℕ) → get_or (points (number_field o) n basis.rows) i [] ≡ point_of basis i
  point_at i = ap (λ (ps : List (List ℕ)). get_or ps i []) (sym points_over)

  module _ (over : IsMatrixOver (number_field o) n basis.rows) where
    pub point_is : IsIndependent (number_field o) basis.rows → (i : ℕ) → i < length (points_of basis) → IsNonzeroSpanned (number_field o) n basis.rows (point_of basis i)
    point_is independent i below =
        subst (IsNonzeroSpanned (number_field o) n basis.rows) (point_at i)
        (point_nonzero_spanned (number_field o) n basis.rows i over independent (subst (λ (ps : List (List ℕ)). i < length ps) points_over below))

    pub multiple_of_point : (v : List ℕ) → IsSpanned (number_field o) basis.rows v → vector_of (number_field o) v ≢ zero_vector (gf o) →
        IsMultipleOfPoint (number_field o) n basis.rows (vector_of (number_field o) v)
    multiple_of_point v spanned nonzero = spanned_are_multiples (number_field o) n basis.rows (vector_of (number_field o) v) over spanned nonzero

    pub some_point : 0 < length basis.rows → 0 < length (points_of basis)
    some_point some = subst (λ (ps : List (List ℕ)). 0 < length ps) (sym points_over) (first_point_is_last_row (number_field o) n basis.rows over some).0
