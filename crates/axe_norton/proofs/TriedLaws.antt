-- Trying the points of the null space of a word's value, which is singular: the first, and all where there are few.
use Rattle.std.specs.Prelude.{◌≡◌, ℕ, ◌*◌, ◌<◌, List, length, None}
use Rattle.axe_algebra.specs.Lists.{IsMatrixOver, IsSquareOver}
use Rattle.axe_algebra.specs.PointsOfLists.{point_coordinates}
use Rattle.axe_algebra.proofs.PointLists.{no_coordinates, count_next}
use Rattle.axe_algebra.proofs.PointSpans.{points_length}
use Rattle.axe_field.specs.NumberFields.{number_field}
use Rattle.axe_row.specs.Rows.{RowValue}
use Rattle.axe_row.specs.Operations.{IsZeroVector}
use Rattle.axe_matrix.specs.Matrices.{MatrixValue, IsMatrix, transposed_matrix}
use Rattle.axe_echelon.specs.Echelons.{IsNullSpaceMatrix}
use Rattle.axe_spin.specs.Modules.{ModuleValue}
use Rattle.axe_word.specs.PointsOfMatrix.{points_of}
use Rattle.axe_norton.specs.Spaces.{GeneratesModule, GeneratesProper, HasFewPoints, point_of}
use Rattle.axe_norton.specs.Searches.{HasOrthogonalVector, IsTestedWord, IsReducedIn, IsSquareIn, FindsFirst, FindsFirstOf, FindsTried}
use Rattle.axe_norton.specs.Pairings.{AreNullSpaces}
use Rattle.axe_norton.specs.declared.spaces.Tried.TheVariants.{Proper, Generate}
use Rattle.axe_norton.proofs.TestedLaws.{value_square, null_in_module}
use Rattle.axe_norton.proofs.OpenLaws.{own_square}
use Rattle.axe_norton.proofs.SearchLaws.{point_fits, point_nonzero, some_point_in, found_at_first, found_of_all, singular_has_orthogonal, transposed_row_is}
use Rattle.axe_norton.proofs.DecisionLaws.{singular_with_rows}
use mathlib.Core.Path.{sym, ◌∙◌, ap, subst}
use native.Mathlib.Nat.{zero-mul}
use native.Mathlib.Omega.{arith}

-- a space of one dimension has one point
pub one_point : (basis : MatrixValue) → length basis.rows ≡ 1 → length (points_of basis) ≡ 1
one_point basis one =
    let none : length (point_coordinates (number_field basis.order).order 0) * (number_field basis.order).order ≡ 0 =
    ap (λ (cs : List (List ℕ)). length cs * (number_field basis.order).order) (no_coordinates (number_field basis.order).order)
    ∙ zero-mul (number_field basis.order).order in
    let count : length (points_of basis) ≡ length (point_coordinates (number_field basis.order).order 1) =
    points_length (number_field basis.order) basis.cols basis.rows ∙ ap (λ k. length (point_coordinates (number_field basis.order).order k)) one in
    omega (arith, none, count, count_next (number_field basis.order).order 0 (number_field basis.order).one-below)

-- where the first generates everything, it alone is tried
pub none_of_one : (m : ModuleValue) (basis : MatrixValue) → length basis.rows ≡ 1 → GeneratesModule m (point_of basis 0) → FindsFirst m basis None
none_of_one m basis one generates i tried =
    let first : i ≡ 0 = omega (arith, tried.below, one_point basis one) in
    subst (GeneratesModule m) (ap (point_of basis) (sym first)) generates

module _ (m : ModuleValue) (matrix null : MatrixValue) (value : IsTestedWord m (record { matrix = matrix; null_space = null })) where
  pub square_in : IsSquareIn m matrix
  square_in = value_square m value.word matrix value.is_tested.value

  pub null_in : IsReducedIn m null
  null_in = null_in_module m matrix null square_in value.is_tested.tested.null_space

  module _ (some : 0 < length null.rows) where
    own : IsSquareOver (number_field matrix.order) matrix.cols matrix.rows
    own = own_square m matrix square_in

    pub rows_over : IsMatrixOver (number_field matrix.order) matrix.cols matrix.rows
    rows_over = own.matrix

    -- something other than zero is orthogonal to its rows
    pub has_orthogonal : HasOrthogonalVector matrix
    has_orthogonal = singular_has_orthogonal matrix own
        (singular_with_rows m matrix null square_in value.is_tested.tested.null_space value.is_tested.tested.well_formed some)

    -- with the null space of the transpose
    pub null_spaces : (others : MatrixValue) → IsNullSpaceMatrix (transposed_matrix matrix) others → IsMatrix others → AreNullSpaces m null others
    null_spaces others is well_formed = record { matrix = matrix; tested = value; some_row = some; of_transpose = is; well_formed = well_formed }

    some_first : 0 < length (points_of null)
    some_first = some_point_in m null null_in value.is_tested.tested.well_formed some

    -- the first point
    module _ (point : RowValue) (is : point ≡ record { order = null.order; entries = point_of null 0 }) where
      first_is : point.entries ≡ point_of null 0
      first_is = ap (λ (r : RowValue). r.entries) is

      pub first_field : point.order ≡ m.order
      first_field = ap (λ (r : RowValue). r.order) is ∙ null_in.field

      pub first_fits : length point.entries ≡ m.dim
      first_fits = point_fits m null null_in value.is_tested.tested.well_formed 0 point some_first first_is

      pub first_nonzero : ¬ (IsZeroVector point.entries)
      first_nonzero = point_nonzero m null null_in value.is_tested.tested.well_formed 0 point some_first first_is

      pub first_generates : GeneratesModule m point.entries → GeneratesModule m (point_of null 0)
      first_generates = subst (GeneratesModule m) first_is

      -- what it generates is found, where that is proper
      pub first_found : (space : MatrixValue) → GeneratesProper m point.entries space → FindsTried m matrix null (Proper space)
      first_found space proper = found_at_first m null space some_first (subst (λ (x : List ℕ). GeneratesProper m x space) first_is proper)

    -- all were tried
    pub all_generate : (others : MatrixValue) (v : RowValue) → HasFewPoints null → FindsFirstOf m (points_of null) None →
        IsNullSpaceMatrix (transposed_matrix matrix) others → IsMatrix others → v ≡ record { order = others.order; entries = point_of others 0 } →
        FindsTried m matrix null (Generate v)
    all_generate others v few none is well_formed same =
        (found_of_all m null None few none, transposed_row_is matrix rows_over has_orthogonal others v is well_formed same)
