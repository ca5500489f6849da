-- What the reduction of an augmented matrix gives.
use Rattle.std.specs.Prelude.{◌≡◌, ℕ, ◌+◌, ◌<◌, List, ◌++◌, length, get_or, All}
use Rattle.axe_algebra.specs.Bridge.{matrix_of}
use Rattle.axe_algebra.specs.SpansOfLists.{HaveSameSpan}
use Rattle.axe_field.specs.Arithmetic.{field_neg}
use Rattle.axe_field.specs.NumberFields.{number_field, gf}
use Rattle.axe_reduction.specs.Augmented.{AugmentedValue, IsAugmented, AreAlike, entries_at_columns}
use Rattle.axe_reduction.specs.Augmented.{with_product, with_rows}
use Rattle.axe_reduction.specs.Forms.{AreReducedRows}
use Rattle.axe_reduction.specs.declared.reduction.Reduction.{Reduction}

-- these are the pivots of the rows, all left of the bar, and the rows are reduced at them
pub record IsReducedAtPivots (pivots : List ℕ) (a : AugmentedValue) : Type 0 where
  pub count : length pivots ≡ length a.rows
  pub left : All (λ pivot. pivot < a.left) pivots
  pub reduced : AreReducedRows (gf a.order) (length pivots) (matrix_of (number_field a.order) a.rows)
      (λ t. get_or pivots t 0)

-- each row of b less the combination of the rows of a that has as its coefficients the row's entries at these columns
abbrev pub cleared : List ℕ → AugmentedValue → AugmentedValue → AugmentedValue
cleared pivots a b = with_product b (field_neg b.order 1) (entries_at_columns b pivots) a

-- the rows are 0 left of the bar
pub record AreZeroLeft (a : AugmentedValue) : Type 0 where
  pub zero : (i j : ℕ) → i < length a.rows → j < a.left →
      matrix_of (number_field a.order) a.rows i j ≡ (gf a.order).zero

-- this joins two reductions: the reduced rows of the first, cleared by those of the second, stand before these; so do
-- its pivots and its other rows
pub record IsJoinOf (first second r : Reduction) : Type 0 where
  pub reduced : r.reduced ≡ with_rows (cleared second.pivots.items second.reduced first.reduced) second.reduced
  pub pivots : r.pivots.items ≡ first.pivots.items ++ second.pivots.items
  pub rest : r.rest ≡ with_rows first.rest second.rest
  pub reduced_well_formed : IsAugmented r.reduced
  pub rest_well_formed : IsAugmented r.rest

-- the rows of `reduced` and of `rest` span what those of a do, and are as many; the former are reduced at the pivots,
-- the latter are 0 left of the bar
pub record IsReductionOf (a : AugmentedValue) (r : Reduction) : Type 0 where
  pub reduced_alike : AreAlike a r.reduced
  pub rest_alike : AreAlike a r.rest
  pub reduced_well_formed : IsAugmented r.reduced
  pub rest_well_formed : IsAugmented r.rest
  pub count : length r.reduced.rows + length r.rest.rows ≡ length a.rows
  pub are_reduced : IsReducedAtPivots r.pivots.items r.reduced
  pub rest_zero : AreZeroLeft r.rest
  pub same : HaveSameSpan (number_field a.order) a.rows (r.reduced.rows ++ r.rest.rows)
