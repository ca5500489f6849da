-- Words that leave a module open: word 0 does so only where the module has many points.
use Rattle.std.specs.Prelude.{◌≡◌, ℕ, ◌<◌, ◌≤◌, ◌⊎◌, [], length}
use Rattle.axe_algebra.specs.Words.{word_value}
use Rattle.axe_algebra.specs.Bridge.{matrix_of}
use Rattle.axe_algebra.specs.Lists.{IsSquareOver}
use Rattle.axe_algebra.proofs.ListLaws.{inverse_of_lists}
use Rattle.axe_algebra.proofs.NortonLists.{invertible_without_null_rows, no_null_rows_of_invertible, null_space_of_zero}
use Rattle.axe_field.specs.Order.{order_number}
use Rattle.axe_field.specs.NumberFields.{number_field}
use Rattle.axe_matrix.specs.Matrices.{MatrixValue}
use Rattle.axe_reduction.specs.Solutions.{IsInvertibleMatrix}
use Rattle.axe_echelon.specs.Echelons.{IsNullSpaceMatrix}
use Rattle.axe_spin.specs.Modules.{ModuleValue, IsModule}
use Rattle.axe_word.specs.declared.tested.Tested.{Tested}
use Rattle.axe_word.specs.Tested.{IsTestedBy}
use Rattle.axe_word.specs.Drawing.{drawn_word}
use Rattle.axe_word.specs.PointsOfMatrix.{most_points, point_count}
use Rattle.axe_norton.specs.Searches.{IsSquareIn}
use Rattle.axe_norton.specs.Verdicts.{LeavesOpen, IsLeftWithMany, word_of_seed}
use Rattle.axe_norton.proofs.SearchLaws.{invertible_matrix}
use Rattle.axe_norton.proofs.TestedLaws.{value_square, value_over}
use mathlib.Core.Logic.{inl, inr}
use mathlib.Core.Path.{refl, sym, subst}
use native.Mathlib.Omega.{arith}

-- a square matrix over the module's field is one over its own
pub own_square : (m : ModuleValue) (matrix : MatrixValue) → IsSquareIn m matrix → IsSquareOver (number_field matrix.order) matrix.cols matrix.rows
own_square m matrix is =
    subst (λ k. IsSquareOver (number_field matrix.order) k matrix.rows) (sym is.columns)
    (subst (λ o. IsSquareOver (number_field o) m.dim matrix.rows) (sym is.field) is.square)

-- a square matrix is invertible exactly where the basis of its null space has no rows
module _ (matrix null : MatrixValue) (square : IsSquareOver (number_field matrix.order) matrix.cols matrix.rows) (is : IsNullSpaceMatrix matrix null) where
  pub invertible_without_rows : length null.rows ≡ 0 → IsInvertibleMatrix matrix
  invertible_without_rows none =
      invertible_matrix matrix square
      (invertible_without_null_rows (number_field matrix.order) matrix.cols matrix.rows null.rows square is.basis_of_null_space none)

  pub no_rows_of_invertible : IsInvertibleMatrix matrix → length null.rows ≡ 0
  no_rows_of_invertible (inverse, inverts) =
      no_null_rows_of_invertible (number_field matrix.order) matrix.cols matrix.rows null.rows square is.basis_of_null_space (record {
        inverse = matrix_of (number_field matrix.order) inverse.rows;
        inverts = inverse_of_lists (number_field matrix.order) matrix.cols matrix.rows inverse.rows square inverts.square inverts.inverts;
      })

-- the null space of the value of the word without terms is everything
pub null_space_of_no_terms : (m : ModuleValue) (t : Tested) → IsTestedBy m [] t → length t.null_space.rows ≡ m.dim
unfolding word_value
null_space_of_no_terms m t is =
    null_space_of_zero (number_field m.order) m.dim t.matrix.rows t.null_space.rows is.value.value.square is.value.value.value (value_over m [] t is).over
    (value_over m [] t is).basis

-- so that value is not invertible
pub zero_is_singular : (m : ModuleValue) → IsModule m → (t : Tested) → IsTestedBy m [] t → ¬ (IsInvertibleMatrix t.matrix)
zero_is_singular m is t tested invertible =
    let none : length t.null_space.rows ≡ 0 =
    no_rows_of_invertible t.matrix t.null_space (own_square m t.matrix (value_square m [] t.matrix tested.value)) tested.tested.null_space invertible in
    omega (arith, none, null_space_of_no_terms m t tested, is.over.positive)

-- and the word leaves a module open only where the module has many points
pub many_where_open : (m : ModuleValue) → IsModule m → LeavesOpen m [] → most_points < point_count (order_number m.order) m.dim
many_where_open m is open_ = cases open_.tells.0
  where
    rows : length open_.tested.null_space.rows ≡ m.dim
    rows = null_space_of_no_terms m open_.tested open_.is_tested

    field : open_.tested.null_space.order ≡ m.order
    field = (value_over m [] open_.tested open_.is_tested).field

    cases : IsInvertibleMatrix open_.tested.matrix ⊎ IsLeftWithMany m open_.tested.matrix open_.tested.null_space →
        most_points < point_count (order_number m.order) m.dim
    cases (inl invertible) = absurd (zero_is_singular m is open_.tested open_.is_tested invertible)
    cases (inr left) =
        subst (λ k. most_points < point_count (order_number m.order) k) rows
        (subst (λ o. most_points < point_count (order_number o) (length open_.tested.null_space.rows)) field left.many)

-- word 0 of every seed is the word without terms
pub word_zero : (m : ModuleValue) (seed : ℕ) → word_of_seed m seed 0 ≡ []
unfolding drawn_word
word_zero m seed = refl

pub many_where_undecided : (m : ModuleValue) (seed words : ℕ) → IsModule m → ((i : ℕ) → i ≤ words → LeavesOpen m (word_of_seed m seed i)) →
    most_points < point_count (order_number m.order) m.dim
many_where_undecided m seed words is each = many_where_open m is (subst (LeavesOpen m) (word_zero m seed) (each 0 (omega arith)))

pub small_is_decided : (m : ModuleValue) (seed words : ℕ) → IsModule m → point_count (order_number m.order) m.dim ≤ most_points →
    ¬ ((i : ℕ) → i ≤ words → LeavesOpen m (word_of_seed m seed i))
small_is_decided m seed words is few each = let many = many_where_undecided m seed words is each in omega arith
