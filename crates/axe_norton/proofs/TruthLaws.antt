-- What points tell of a module is true of it: Norton's criterion, and the submodules that are found.
use Rattle.std.specs.Prelude.{◌≡◌, ◌≢◌, ℕ, ◌<◌, ◌⊎◌, List, length, get_or}
use Rattle.std.proofs.lemmas.List.{length-map, get_or-map}
use Rattle.axe_algebra.specs.NumberField.{NumberField}
use Rattle.axe_algebra.specs.Field.{Field}
use Rattle.axe_algebra.specs.Vectors.{Vector, zero_vector, scale}
use Rattle.axe_algebra.specs.Modules.{Module, InGenerated}
use Rattle.axe_algebra.specs.Bridge.{vector_of, module_of}
use Rattle.axe_algebra.specs.Lists.{listed, IsVectorOver, IsMatrixOver, IsSquareOver}
use Rattle.axe_algebra.specs.ListArithmetic.{transpose}
use Rattle.axe_algebra.specs.SpansOfLists.{IsNullVector, IsAnnihilatorBasis}
use Rattle.axe_algebra.specs.PointTheorems.{IsNonzeroSpanned, IsMultipleOfPoint}
use Rattle.axe_algebra.proofs.Generated.{multiple_generates}
use Rattle.axe_algebra.proofs.ListEntries.{vector_length, same_vector}
use Rattle.axe_algebra.proofs.ListSpans.{independent_rows_are_few}
use Rattle.axe_algebra.proofs.ListVectors.{vector_of_zeros, zeros_over}
use Rattle.axe_algebra.proofs.ListModules.{module_shape}
use Rattle.axe_algebra.proofs.ListIrreducible.{irreducible_by_norton}
use Rattle.axe_algebra.proofs.NortonLists.{transpose_square, IsSubmoduleBasis, generated_submodule, generated_basis_is_full, annihilator_submodule}
use Rattle.axe_field.specs.Order.{Order}
use Rattle.axe_field.specs.NumberFields.{number_field, gf}
use Rattle.axe_row.specs.Rows.{RowValue}
use Rattle.axe_matrix.specs.Matrices.{MatrixValue, IsMatrix}
use Rattle.axe_echelon.proofs.InverseLaws.{matrix_over}
use Rattle.axe_spin.specs.Modules.{ModuleValue, IsModule}
use Rattle.axe_action.specs.Actions.{dual_module}
use Rattle.axe_word.specs.Words.{WordValue, IsWordIn}
use Rattle.axe_word.specs.declared.tested.Tested.{Tested}
use Rattle.axe_word.specs.Tested.{IsTested, IsTestedBy}
use Rattle.axe_word.specs.PointsOfMatrix.{points_of}
use Rattle.axe_norton.specs.Spaces.{IsIrreducibleModule, IsProperSubmodule, GeneratesModule, GeneratesProper, point_of, TriedGenerate, IsFirstProperSpace, IsTransposedSpace}
use Rattle.axe_norton.specs.Searches.{IsSquareIn}
use Rattle.axe_norton.specs.Verdicts.{ShowsIrreducible, ShowsReducible}
use Rattle.axe_norton.proofs.PointLaws.{points_over, point_at, multiple_of_point}
use Rattle.axe_norton.proofs.TestedLaws.{IsNullSpaceOver, value_square, tested_over, value_over, transposed_over, null_point}
use mathlib.Core.Logic.{inl, inr}
use mathlib.Core.Path.{sym, ◌∙◌, ap, subst}
use native.Mathlib.Omega.{arith}
use native.Mathlib.Decide.{dec_lt}

-- the rows of a matrix over the field of a module, with as many columns as its dimension
pub rows_over_field : (o : Order) (n : ℕ) (space : MatrixValue) → space.order ≡ o → space.cols ≡ n → IsMatrix space → IsMatrixOver (number_field o) n space.rows
rows_over_field o n space field columns well_formed =
    subst (λ k. IsMatrixOver (number_field o) k space.rows) columns
    (subst (λ p. IsMatrixOver (number_field p) space.cols space.rows) field (matrix_over space well_formed))

-- the transposed module is a module
pub dual_is_module : (m : ModuleValue) → IsModule m → IsModule (dual_module m)
dual_is_module m is = record {
  over = record {
    positive = is.over.positive;
    square = λ i d below.
        let small : i < length m.generators = omega (arith, length-map m.generators (transpose m.dim)) in
        subst (IsSquareOver (number_field m.order) m.dim) (sym (get_or-map (transpose m.dim) m.generators i d d small))
        (transpose_square (number_field m.order) m.dim (get_or m.generators i d) (is.over.square i d small));
  };
  dim_fits = is.dim_fits;
  some_generator = omega (arith, is.some_generator, length-map m.generators (transpose m.dim));
  generators_fit = omega (arith, is.generators_fit, length-map m.generators (transpose m.dim));
}

module _ (m : ModuleValue) (is : IsModule m) where
  abbrev K : NumberField
  K = number_field m.order

  abbrev F : Field
  F = gf m.order

  abbrev M : Module F
  M = module_of K m.dim m.generators

  -- what a point generates, a nonzero multiple of it generates
  multiple_generates_module : (v point : List ℕ) (factor : F.Element) → factor ≢ F.zero → IsVectorOver K m.dim point →
      vector_of K v ≡ scale F factor (vector_of K point) → GeneratesModule m point → GeneratesModule m v
  multiple_generates_module v point factor nonzero over equals generates x long =
      subst (λ (y : Vector F). InGenerated F M 1 (λ t. y) x) (sym equals)
      ((multiple_generates F M (module_shape K m.dim m.generators is.over.square) factor (vector_of K point) nonzero
      (vector_length K m.dim point over.length_is) x).1 (generates x long))

  -- a word that shows the module to be irreducible tells the truth
  pub irreducible_is_true : (word : WordValue) (t : Tested) (v : RowValue) → IsWordIn m word → IsTestedBy m word t →
      ShowsIrreducible m t.matrix t.null_space v → IsIrreducibleModule m
  irreducible_is_true word t v is_word is_tested shows =
      irreducible_by_norton K m.dim m.generators is.over.square word t.matrix.rows (point_of shows.transpose.point.null_space 0)
      is_word.over is_tested.value.value each null_point_of_transpose shows.transpose.generates
    where
      null : IsNullSpaceOver m.order m.dim t.matrix.rows t.null_space
      null = value_over m word t is_tested

      each : (x : List ℕ) → IsVectorOver K m.dim x → x ≢ listed m.dim (λ j. 0) → IsNullVector K t.matrix.rows x → GeneratesModule m x
      each x over nonzero is_null = by_point (multiple_of_point m.order m.dim t.null_space null.field null.columns null.over
          x (null.basis.back (vector_of K x) is_null)
          (λ zero. nonzero (same_vector K m.dim x (listed m.dim (λ j. 0)) over (zeros_over K m.dim) (zero ∙ sym (vector_of_zeros K m.dim)))))
        where
          by_point : IsMultipleOfPoint K m.dim t.null_space.rows (vector_of K x) → GeneratesModule m x
          by_point multiple =
              let below : multiple.place < length (points_of t.null_space) =
              subst (λ (ps : List (List ℕ)). multiple.place < length ps) (sym (points_over m.order m.dim t.null_space null.field null.columns)) multiple.inside in
              multiple_generates_module x (point_of t.null_space multiple.place) multiple.factor multiple.nonzero
              (null_point m.order m.dim t.matrix.rows t.null_space null multiple.place below).over
              (multiple.equals ∙ ap (λ (v : List ℕ). scale F multiple.factor (vector_of K v)) (point_at m.order m.dim t.null_space null.field null.columns multiple.place))
              (shows.generate multiple.place (record { below = below; first_or_few = inr shows.few }))

      transposed : IsNullSpaceOver m.order m.dim (transpose m.dim t.matrix.rows) shows.transpose.point.null_space
      transposed = transposed_over m t.matrix shows.transpose.point.null_space (value_square m word t.matrix is_tested.value)
          shows.transpose.point.is_null_space shows.transpose.point.well_formed

      null_point_of_transpose : IsNullVector K (transpose m.dim t.matrix.rows) (point_of shows.transpose.point.null_space 0)
      null_point_of_transpose =
          transposed.basis.forth (vector_of K (point_of shows.transpose.point.null_space 0))
          (null_point m.order m.dim (transpose m.dim t.matrix.rows) shows.transpose.point.null_space transposed 0 shows.transpose.point.some_point).spanned

  -- the reduced basis of the proper space that a nonzero vector generates
  pub generated_is_proper_submodule : (v : List ℕ) (space : MatrixValue) → IsVectorOver K m.dim v → vector_of K v ≢ zero_vector F → GeneratesProper m v space →
      IsProperSubmodule m space
  generated_is_proper_submodule v space over nonzero generates = record {
    field = generates.generated.field;
    columns = generates.generated.columns;
    independent = basis.independent;
    invariant = basis.invariant;
    nonzero = basis.some;
    proper = by_size (dec_lt (length space.rows) m.dim);
    well_formed = generates.well_formed;
  }
    where
      over_space : IsMatrixOver K m.dim space.rows
      over_space = rows_over_field m.order m.dim space generates.generated.field generates.generated.columns generates.well_formed

      basis : IsSubmoduleBasis K m.dim m.generators space.rows
      basis = generated_submodule K m.dim m.generators is.over.square v space.rows over nonzero over_space generates.generated.basis_of_generated

      by_size : Dec (length space.rows < m.dim) → length space.rows < m.dim
      by_size (yes few) = few
      by_size (no many) =
          let most = independent_rows_are_few K m.dim space.rows over_space basis.independent in
          absurd (generates.proper ((generated_basis_is_full K m.dim m.generators v space.rows over_space generates.generated.basis_of_generated).1 (omega arith)))

-- the annihilator of the proper space that the first point of the transpose's null space generates under the transposes
module _ (m : ModuleValue) (is : IsModule m) where
  pub transposed_is_proper_submodule : (matrix space : MatrixValue) → IsSquareIn m matrix → IsTransposedSpace m matrix space → IsProperSubmodule m space
  transposed_is_proper_submodule matrix space square found = record {
    field = field;
    columns = columns;
    independent = both.0.independent;
    invariant = both.0.invariant;
    nonzero = both.0.some;
    proper = both.1;
    well_formed = found.well_formed;
  }
    where
      K : NumberField
      K = number_field m.order

      null : MatrixValue
      null = found.point.null_space

      transposed : IsNullSpaceOver m.order m.dim (transpose m.dim matrix.rows) found.point.null_space
      transposed = transposed_over m matrix found.point.null_space square found.point.is_null_space found.point.well_formed

      point : IsNonzeroSpanned (number_field m.order) m.dim found.point.null_space.rows (point_of found.point.null_space 0)
      point = null_point m.order m.dim (transpose m.dim matrix.rows) found.point.null_space transposed 0 found.point.some_point

      generated : IsProperSubmodule (dual_module m) found.generated
      generated = generated_is_proper_submodule (dual_module m) (dual_is_module m is) (point_of found.point.null_space 0) found.generated point.over point.nonzero
          found.proper

      field : space.order ≡ m.order
      field = found.annihilator.field ∙ generated.field

      columns : space.cols ≡ m.dim
      columns = found.annihilator.columns ∙ generated.columns

      annihilator : IsAnnihilatorBasis (number_field m.order) m.dim found.generated.rows space.rows
      annihilator = subst (λ k. IsAnnihilatorBasis (number_field m.order) k found.generated.rows space.rows) generated.columns
          (subst (λ o. IsAnnihilatorBasis (number_field o) found.generated.cols found.generated.rows space.rows) generated.field found.annihilator.basis_of_annihilator)

      both : IsSubmoduleBasis (number_field m.order) m.dim m.generators space.rows × (length space.rows < m.dim)
      both = annihilator_submodule (number_field m.order) m.dim m.generators is.over.square found.generated.rows space.rows
          (rows_over_field m.order m.dim found.generated generated.field generated.columns found.proper.well_formed)
          generated.independent generated.invariant generated.nonzero generated.proper
          (rows_over_field m.order m.dim space field columns found.well_formed) annihilator

  -- a tested matrix that shows the module to be reducible tells the truth
  pub reducible_is_true : (t : Tested) (space : MatrixValue) → IsSquareIn m t.matrix → IsTested t → ShowsReducible m t.matrix t.null_space space →
      IsProperSubmodule m space
  reducible_is_true t space square is_tested shows = cases shows
    where
      null : IsNullSpaceOver m.order m.dim t.matrix.rows t.null_space
      null = tested_over m t square is_tested

      cases : IsFirstProperSpace m t.null_space space ⊎
          (TriedGenerate m t.null_space × IsTransposedSpace m t.matrix space) → IsProperSubmodule m space
      cases (inl found) =
          let point : IsNonzeroSpanned (number_field m.order) m.dim t.null_space.rows (point_of t.null_space found.number) =
          null_point m.order m.dim t.matrix.rows t.null_space null found.number found.tried.below in
          generated_is_proper_submodule m is (point_of t.null_space found.number) space point.over point.nonzero found.proper
      cases (inr (generate, found)) = transposed_is_proper_submodule t.matrix space square found
