-- The last unit vector of a module: the first point of the null space of word 0's value, which is zero.
use Rattle.std.specs.Prelude.{◌≡◌, ℕ, zero, suc, ◌-◌, ◌<◌, ◌⊎◌, List, [], ◌∷◌, length, get_or}
use Rattle.std.proofs.lemmas.List.Elements.{All-nil, All-cons}
use Rattle.axe_algebra.specs.NumberField.{NumberField}
use Rattle.axe_algebra.specs.Bridge.{vector_of}
use Rattle.axe_algebra.specs.Lists.{unit_row, IsVectorOver, IsMatrixOver}
use Rattle.axe_algebra.specs.ListArithmetic.{identity}
use Rattle.axe_algebra.specs.SpansOfLists.{IsSpanned}
use Rattle.axe_algebra.proofs.ListEntries.{row_over}
use Rattle.axe_algebra.proofs.ListGenerated.{seed_row_generated}
use Rattle.axe_algebra.proofs.ListProducts.{identity_over, identity_length}
use Rattle.axe_algebra.proofs.ListReduced.{reduced_basis_list_is_unique}
use Rattle.axe_algebra.proofs.PointSpans.{first_point_is_last_row}
use Rattle.axe_field.specs.NumberFields.{number_field}
use Rattle.axe_matrix.specs.Matrices.{MatrixValue, identity_matrix}
use Rattle.axe_echelon.specs.Echelons.{EchelonValue, IsEchelon}
use Rattle.axe_echelon.proofs.WholeSpace.{identity_is_reduced}
use Rattle.axe_echelon.proofs.ZeroMatrices.{last_of_identity}
use Rattle.axe_spin.specs.Modules.{ModuleValue, IsModule}
use Rattle.axe_word.specs.declared.tested.Tested.{Tested}
use Rattle.axe_word.specs.Tested.{IsTestedBy}
use Rattle.axe_norton.specs.declared.verdicts.At.TheVariants.{Reducible}
use Rattle.axe_norton.specs.declared.verdicts.Verdict
use Rattle.axe_norton.specs.Spaces.{GeneratesModule, GeneratesProper, LastGenerates, IsFirstProperSpace, point_of}
use Rattle.axe_norton.specs.Verdicts.{Decides, LeavesOpen, Says, IsLeftByPoints, ShowsReducible, TellsByFactor, word_of_seed}
use Rattle.axe_norton.proofs.PointLaws.{point_at, some_point}
use Rattle.axe_norton.proofs.TestedLaws.{IsNullSpaceOver, value_over, independent_null}
use Rattle.axe_norton.proofs.OpenLaws.{null_space_of_no_terms, zero_is_singular, word_zero}
use mathlib.Core.Logic.{inl, inr}
use mathlib.Core.Path.{refl, sym, ◌∙◌, ap, subst}
use native.Mathlib.Omega.{arith}

-- the last unit vector is a row of the identity
last_unit_over : (K : NumberField) (n : ℕ) → 0 < n → IsVectorOver K n (unit_row n (n - 1))
last_unit_over K n some =
    subst (IsVectorOver K n) (sym (last_of_identity n (n - 1) some refl))
    (row_over K n (identity n) (length (identity n) - 1) (identity_over K n) (omega (arith, some, identity_length K n)))

-- a vector is in the space that it generates
in_generated : (m : ModuleValue) (v : List ℕ) (space : MatrixValue) → IsVectorOver (number_field m.order) m.dim v → GeneratesProper m v space →
    IsSpanned (number_field m.order) space.rows v
in_generated m v space over proper =
    proper.generated.basis_of_generated.back (vector_of (number_field m.order) v)
    (seed_row_generated (number_field m.order) m.dim m.generators (v ∷ []) 0 over_seed (omega arith))
  where
    over_seed : IsMatrixOver (number_field m.order) m.dim (v ∷ [])
    over_seed = All-cons (IsVectorOver (number_field m.order) m.dim) v [] over (All-nil (IsVectorOver (number_field m.order) m.dim))

-- ---- the value of the word without terms

module _ (m : ModuleValue) (is : IsModule m) (t : Tested) (tested : IsTestedBy m [] t) where
  abbrev K : NumberField
  K = number_field m.order

  null_over : IsNullSpaceOver m.order m.dim t.matrix.rows t.null_space
  null_over = value_over m [] t tested

  count : length t.null_space.rows ≡ m.dim
  count = null_space_of_no_terms m t tested

  some_row : 0 < length t.null_space.rows
  some_row = omega (arith, count, is.over.positive)

  -- the reduced basis of its null space are the rows of the identity
  null_space_is_identity : t.null_space.rows ≡ identity m.dim
  null_space_is_identity =
      reduced_basis_list_is_unique K m.dim t.null_space.rows t.null_space.rows (identity m.dim) null_over.over null_over.over (identity_over K m.dim)
      null_over.basis.reduced
      (identity_is_reduced whole (identity_matrix m.order m.dim) m.order m.dim whole_is_echelon refl refl count refl).basis
    where
      whole : EchelonValue
      whole = record { order = m.order; cols = m.dim; rows = t.null_space.rows }

      whole_is_echelon : IsEchelon whole
      whole_is_echelon = record {
        some_column = is.over.positive;
        columns_fit = is.dim_fits;
        over = null_over.over;
        independent = independent_null m.order m.dim t.matrix.rows t.null_space null_over;
      }

  -- its first point is the last unit vector
  pub first_is_last_unit : point_of t.null_space 0 ≡ unit_row m.dim (m.dim - 1)
  first_is_last_unit =
      sym (point_at m.order m.dim t.null_space null_over.field null_over.columns 0)
      ∙ (first_point_is_last_row K m.dim t.null_space.rows null_over.over some_row).1
      ∙ ap (λ (rows : List (List ℕ)). get_or rows (length rows - 1) []) null_space_is_identity
      ∙ sym (last_of_identity m.dim (m.dim - 1) is.over.positive refl)

  last_where_first_generates : GeneratesModule m (point_of t.null_space 0) → LastGenerates m
  last_where_first_generates first = subst (GeneratesModule m) first_is_last_unit first

  -- where its points leave the module open
  last_where_left : IsLeftByPoints m t.matrix t.null_space → LastGenerates m
  last_where_left (inl invertible) = absurd (zero_is_singular m is t tested invertible)
  last_where_left (inr many) = last_where_first_generates many.first

  -- where they show it to be reducible by a space that doesn't have the last unit vector
  module _ (space : MatrixValue) (outside : ¬ (IsSpanned K space.rows (unit_row m.dim (m.dim - 1)))) where
    last_outside_first : IsFirstProperSpace m t.null_space space → LastGenerates m
    last_outside_first first = by_number first.number first.before first.proper
      where
        by_number : (i : ℕ) → ((j : ℕ) → j < i → GeneratesModule m (point_of t.null_space j)) → GeneratesProper m (point_of t.null_space i) space → LastGenerates m
        by_number zero before proper =
            absurd (outside (in_generated m (unit_row m.dim (m.dim - 1)) space (last_unit_over K m.dim is.over.positive)
            (subst (λ (v : List ℕ). GeneratesProper m v space) first_is_last_unit proper)))
        by_number (suc i) before proper = last_where_first_generates (before 0 (omega arith))

    last_outside_shown : ShowsReducible m t.matrix t.null_space space → LastGenerates m
    last_outside_shown (inl first) = last_outside_first first
    last_outside_shown (inr (generate, transposed)) =
        last_where_first_generates
        (generate 0 (record {
          below = some_point m.order m.dim t.null_space null_over.field null_over.columns null_over.over some_row;
          first_or_few = inl refl;
        }))

    last_outside_told : ShowsReducible m t.matrix t.null_space space ⊎ TellsByFactor m t.matrix t.null_space (Reducible space) → LastGenerates m
    last_outside_told (inl shows) = last_outside_shown shows
    last_outside_told (inr told) = last_where_left told.left

-- ---- words of a seed

-- where words of a seed show the module to be reducible by a space that doesn't have the last unit vector, that vector
-- generates everything
pub last_generates_where_outside : (m : ModuleValue) (seed words : ℕ) (space : MatrixValue) → IsModule m →
    Decides m seed words (Verdict.TheVariants.Reducible space) → ¬ (IsSpanned (number_field m.order) space.rows (unit_row m.dim (m.dim - 1))) →
    LastGenerates m
last_generates_where_outside m seed words space is (j, decides) outside = by_word j decides.before decides.says
  where
    by_word : (j : ℕ) → ((i : ℕ) → i < j → LeavesOpen m (word_of_seed m seed i)) → Says m (word_of_seed m seed j) (Reducible space) → LastGenerates m
    by_word zero before says =
        let said : Says m [] (Reducible space) = subst (λ w. Says m w (Reducible space)) (word_zero m seed) says in
        last_outside_told m is said.tested said.is_tested space outside said.tells
    by_word (suc j) before says =
        let left : LeavesOpen m [] = subst (LeavesOpen m) (word_zero m seed) (before 0 (omega arith)) in
        last_where_left m is left.tested left.is_tested left.tells.0
