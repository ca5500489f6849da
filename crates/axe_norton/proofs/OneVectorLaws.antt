-- What an irreducible polynomial says of a module by one vector is true of it.
use Rattle.std.specs.Prelude.{◌≡◌, ℕ, ◌<◌, List, length, Some, None, Result}
use Rattle.axe_algebra.specs.NumberField.{NumberField}
use Rattle.axe_algebra.specs.Bridge.{vector_of}
use Rattle.axe_algebra.specs.Lists.{IsMatrixOver, IsSquareOver}
use Rattle.axe_algebra.specs.ListArithmetic.{transpose}
use Rattle.axe_algebra.specs.SpansOfLists.{IsNullVector}
use Rattle.axe_algebra.specs.PointTheorems.{IsNonzeroSpanned}
use Rattle.axe_polynomial_algebra.specs.PolynomialsOfLists.{degree_of, IsIrreduciblePolynomial, IsPolynomialValue, Fits}
use Rattle.axe_polynomial_algebra.proofs.RuleLists.{list_one_vector_rule}
use Rattle.axe_polynomial_algebra.proofs.VectorFits.{fits_exactly}
use Rattle.axe_field.specs.NumberFields.{number_field}
use Rattle.axe_row.specs.Rows.{RowValue}
use Rattle.axe_row.specs.Operations.{IsZeroVector}
use Rattle.axe_row.specs.Refusals.{Answers}
use Rattle.axe_row.specs.declared.refusals.Refusal.{Refusal}
use Rattle.axe_matrix.specs.Matrices.{MatrixValue, IsMatrix}
use Rattle.axe_echelon.proofs.Exits.{answers_more}
use Rattle.axe_echelon.proofs.InverseLaws.{matrix_over}
use Rattle.axe_poly.specs.Polys.{PolyValue}
use Rattle.axe_spin.specs.Modules.{ModuleValue, IsModule}
use Rattle.axe_action.specs.Actions.{dual_module}
use Rattle.axe_word.specs.Words.{WordValue, IsWordIn, IsValueOf}
use Rattle.axe_word.specs.declared.tested.Tested.{Tested}
use Rattle.axe_word.specs.Tested.{IsTestedAt, IsTestedByPoly}
use Rattle.axe_word.specs.PointsOfMatrix.{points_of, IsReduced}
use Rattle.axe_word.proofs.ReducedNullSpaces.{null_is_reduced}
use Rattle.axe_word.proofs.TestedLaws.{poly_value}
use Rattle.axe_word.proofs.ValueLaws.{value-is_unique}
use Rattle.axe_norton.specs.declared.verdicts.At.{At}
use Rattle.axe_norton.specs.declared.verdicts.At.TheVariants.{Irreducible, Reducible, Left}
use Rattle.axe_norton.specs.Spaces.{IsIrreducibleModule, IsProperSubmodule, GeneratesModule, GeneratesProper, point_of, TransposeGenerates, IsTransposedSpace}
use Rattle.axe_norton.specs.declared.value_spaces.ValueSpaces.{ValueSpaces}
use Rattle.axe_norton.specs.ValueSpaces.{AreSpacesOf}
use Rattle.axe_norton.specs.Searches.{IsReducedIn, IsSquareIn, HasOrthogonalVector, IsTransposedPointRow, IsAnnihilatorOf, AreSingularSpaces}
use Rattle.axe_norton.specs.SmallFactors.{IsFittingFactor}
use Rattle.axe_norton.specs.Verdicts.{IsTrueOf}
use Rattle.axe_norton.specs.OneVector.{FitsWord, ShowsIrreducibleByOne, ShowsReducibleByOne, TellsByOne, SaysByPoly}
use Rattle.axe_norton.proofs.OpenLaws.{own_square, no_rows_of_invertible}
use Rattle.axe_norton.proofs.OrthogonalLaws.{orthogonal_is_carried, point_is_carried}
use Rattle.axe_norton.proofs.PointLaws.{some_point}
use Rattle.axe_norton.proofs.SearchLaws.{some_point_in, point_fits, point_nonzero, singular_has_orthogonal, transposed_point_field, transposed_point_fits, transposed_point_nonzero, transpose_generates, transposed_space_is}
use Rattle.axe_norton.proofs.TestedLaws.{IsNullSpaceOver, poly_value_square, null_in_module, tested_over, transposed_over, null_point}
use Rattle.axe_norton.proofs.TruthLaws.{generated_is_proper_submodule, transposed_is_proper_submodule}
use mathlib.Core.Logic.{inl, inr}
use mathlib.Core.Path.{sym, ◌∙◌, ap, subst}
use native.Mathlib.Omega.{arith}

module _ (m : ModuleValue) (word : WordValue) (p : PolyValue) (fits : FitsWord m word p) (t : Tested) (is : IsTestedByPoly m word p t) where
  abbrev K : NumberField
  K = number_field m.order

  value : IsPolynomialValue K p.coefficients is.argument.rows t.matrix.rows
  value = poly_value m word p is.argument t.matrix is.is_value is.tested_at.value

  square : IsSquareIn m t.matrix
  square = poly_value_square m word p is.argument t.matrix is.is_value is.tested_at.value

  null : IsNullSpaceOver m.order m.dim t.matrix.rows t.null_space
  null = tested_over m t square is.tested_at.tested

  -- its null space has as many dimensions as p has degrees, so it is not zero
  some_null_row : 0 < length t.null_space.rows
  some_null_row =
      let rows : length t.null_space.rows ≡ degree_of p.coefficients =
      (fits_exactly K is.argument.rows p.coefficients t.matrix.rows t.null_space.rows fits.irreducible.over value
      (subst (λ n. IsMatrixOver K n t.null_space.rows) (sym is.is_value.value.square.length_is) null.over) null.basis).0 (fits.fits is.argument is.is_value) in
      omega (arith, rows, fits.irreducible.over.positive)

  pub singular_spaces : (spaces : ValueSpaces) → AreSpacesOf t spaces → AreSingularSpaces m t spaces
  singular_spaces spaces are = record { square = square; tested = is.tested_at.tested; some_row = some_null_row; of_tested = are }

  some_null_point : 0 < length (points_of t.null_space)
  some_null_point = some_point m.order m.dim t.null_space null.field null.columns null.over some_null_row

  module _ (is_module : IsModule m) (is_word : IsWordIn m word) where
    -- where p shows the module to be irreducible, it is
    irreducible_is_true : (v : RowValue) → ShowsIrreducibleByOne m t.matrix t.null_space v → IsIrreducibleModule m
    irreducible_is_true v shows =
        list_one_vector_rule K m.dim m.generators is_module.over.square word is_word.over is.argument.rows t.matrix.rows p.coefficients is.is_value.value
        fits.irreducible (fits.fits is.argument is.is_value) value (point_of t.null_space 0) point.nonzero (null.basis.forth (vector_of K (point_of t.null_space 0)) point.spanned)
        shows.generates (point_of shows.transpose.point.null_space 0) null_point_of_transpose shows.transpose.generates
      where
        point : IsNonzeroSpanned K m.dim t.null_space.rows (point_of t.null_space 0)
        point = null_point m.order m.dim t.matrix.rows t.null_space null 0 shows.some_point

        transposed : IsNullSpaceOver m.order m.dim (transpose m.dim t.matrix.rows) shows.transpose.point.null_space
        transposed = transposed_over m t.matrix shows.transpose.point.null_space square shows.transpose.point.is_null_space
            shows.transpose.point.well_formed

        null_point_of_transpose : IsNullVector K (transpose m.dim t.matrix.rows) (point_of shows.transpose.point.null_space 0)
        null_point_of_transpose =
            transposed.basis.forth (vector_of K (point_of shows.transpose.point.null_space 0))
            (null_point m.order m.dim (transpose m.dim t.matrix.rows) shows.transpose.point.null_space transposed 0 shows.transpose.point.some_point).spanned

    -- and where it shows it to be reducible, the space is a proper submodule
    reducible_is_true : (space : MatrixValue) → ShowsReducibleByOne m t.matrix t.null_space space → IsProperSubmodule m space
    reducible_is_true space (inl proper) =
        let point : IsNonzeroSpanned K m.dim t.null_space.rows (point_of t.null_space 0) =
        null_point m.order m.dim t.matrix.rows t.null_space null 0 some_null_point in
        generated_is_proper_submodule m is_module (point_of t.null_space 0) space point.over point.nonzero proper
    reducible_is_true space (inr (all, found)) = transposed_is_proper_submodule m is_module t.matrix space square found

    -- what p says of a module is true of it
    pub told_is_true : (answer : At) → TellsByOne m p t.matrix t.null_space answer → IsTrueOf m answer
    told_is_true (Irreducible (Some by) v) tells = irreducible_is_true v tells.1
    told_is_true (Irreducible None v) tells = absurd tells
    told_is_true (Reducible space) tells = reducible_is_true space tells
    told_is_true Left tells = absurd tells

  pub said_by_poly : (result : Result At Refusal) → Answers None (TellsByOne m p t.matrix t.null_space) result → Answers None (SaysByPoly m word p) result
  said_by_poly result told = answers_more result (TellsByOne m p t.matrix t.null_space) (SaysByPoly m word p) told
      (λ answer tells. record { tested = t; is_tested = is; tells = tells })

-- ---- a small factor p of the value x of a word that fits it

module _ (m : ModuleValue) (word : WordValue) (x : MatrixValue) (is_value : IsValueOf m word x) (p : PolyValue) where
  -- it fits the word, which has no other value
  pub fitting_fits_word : IsFittingFactor x p → FitsWord m word p
  fitting_fits_word fitting = record {
    field = fitting.factor.field ∙ is_value.field;
    irreducible = subst (λ o. IsIrreduciblePolynomial (number_field o) p.coefficients) is_value.field fitting.factor.factor.irreducible;
    fits = λ y is_y. subst (λ (z : MatrixValue). Fits (number_field m.order) z.rows p.coefficients) (value-is_unique m word x y is_value is_y)
        (subst (λ o. Fits (number_field o) x.rows p.coefficients) is_value.field fitting.fits);
  }

  pub tested_at_value : (t : Tested) → IsTestedAt p x t → IsTestedByPoly m word p t
  tested_at_value t is = record { argument = x; is_value = is_value; tested_at = is }

-- ---- what the spaces of a singular tested matrix tell

module _ (m : ModuleValue) (t : Tested) (spaces : ValueSpaces) (are : AreSingularSpaces m t spaces) where
  in_module : IsReducedIn m t.null_space
  in_module = null_in_module m t.matrix t.null_space are.square are.tested.null_space

  below : 0 < length (points_of t.null_space)
  below = some_point_in m t.null_space in_module are.tested.well_formed are.some_row

  -- the null space is reduced, and has a row
  pub null_reduced : IsReduced spaces.null_space
  null_reduced = subst IsReduced (sym are.of_tested.null_space) (null_is_reduced t.matrix t.null_space are.tested.null_space)

  pub null_row : 0 < length spaces.null_space.rows
  null_row = subst (λ (n : MatrixValue). 0 < length n.rows) (sym are.of_tested.null_space) are.some_row

  -- something other than zero is orthogonal to the rows, and its first point is the matrix's
  own : IsSquareOver (number_field t.matrix.order) t.matrix.cols t.matrix.rows
  own = own_square m t.matrix are.square

  pub orthogonal_to_rows : HasOrthogonalVector spaces.rows
  orthogonal_to_rows =
      orthogonal_is_carried spaces.rows t.matrix are.of_tested.field are.of_tested.columns are.of_tested.span
      (singular_has_orthogonal t.matrix own (λ invertible. singular (no_rows_of_invertible t.matrix t.null_space own are.tested.null_space invertible)))
    where
      singular : ¬ (length t.null_space.rows ≡ 0)
      singular none = omega (arith, none, are.some_row)

  module _ (formed : IsMatrix spaces.rows) (v : RowValue) (found : IsTransposedPointRow spaces.rows v) where
    point_of_matrix : IsTransposedPointRow t.matrix v
    point_of_matrix =
        point_is_carried spaces.rows t.matrix are.of_tested.field are.of_tested.columns are.of_tested.span (matrix_over spaces.rows formed) own.matrix v found

    pub second_field : v.order ≡ m.order
    second_field = transposed_point_field m t.matrix are.square v point_of_matrix

    pub second_fits : length v.entries ≡ m.dim
    second_fits = transposed_point_fits m t.matrix are.square v point_of_matrix

    pub second_nonzero : ¬ (IsZeroVector v.entries)
    second_nonzero = transposed_point_nonzero m t.matrix are.square v point_of_matrix

    pub second_generates : GeneratesModule (dual_module m) v.entries → TransposeGenerates m t.matrix
    second_generates = transpose_generates m t.matrix are.square v point_of_matrix

    pub second_space : (space : MatrixValue) → IsAnnihilatorOf m v.entries space → IsTransposedSpace m t.matrix space
    second_space = transposed_space_is m t.matrix are.square v point_of_matrix

  module _ (point : RowValue) (given : point ≡ record { order = spaces.null_space.order; entries = point_of spaces.null_space 0 }) where
    first : point ≡ record { order = t.null_space.order; entries = point_of t.null_space 0 }
    first = given ∙ ap (λ (n : MatrixValue). record { order = n.order; entries = point_of n 0 }) are.of_tested.null_space

    entries : point.entries ≡ point_of t.null_space 0
    entries = ap (λ (r : RowValue). r.entries) first

    pub first_field : point.order ≡ m.order
    first_field = ap (λ (r : RowValue). r.order) first ∙ in_module.field

    pub first_fits : length point.entries ≡ m.dim
    first_fits = point_fits m t.null_space in_module are.tested.well_formed 0 point below entries

    pub first_nonzero : ¬ (IsZeroVector point.entries)
    first_nonzero = point_nonzero m t.null_space in_module are.tested.well_formed 0 point below entries

    module _ (p : PolyValue) where
      pub one_irreducible : (by : PolyValue) (v : RowValue) → by ≡ p → v ≡ point → GeneratesModule m point.entries → TransposeGenerates m t.matrix →
          TellsByOne m p t.matrix t.null_space (Irreducible (Some by) v)
      one_irreducible by v is same all transpose = (
        is,
        record {
          some_point = below;
          field = ap (λ (r : RowValue). r.order) same ∙ first_field;
          first = ap (λ (r : RowValue). r.entries) same ∙ entries;
          generates = subst (GeneratesModule m) entries all;
          transpose = transpose;
        },
      )

      pub one_proper : (space : MatrixValue) → GeneratesProper m point.entries space → TellsByOne m p t.matrix t.null_space (Reducible space)
      one_proper space proper = inl (subst (λ (v : List ℕ). GeneratesProper m v space) entries proper)

      pub one_transposed : (space : MatrixValue) → GeneratesModule m point.entries → IsTransposedSpace m t.matrix space →
          TellsByOne m p t.matrix t.null_space (Reducible space)
      one_transposed space all found = inr (subst (GeneratesModule m) entries all, found)
