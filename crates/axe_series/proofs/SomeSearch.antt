-- What the steps of the test find: a vector, the first of some, the points of a space, and the transposed point generate
-- everything or a proper space.
use Rattle.std.specs.Prelude.{◌≡◌, ℕ, zero, suc, ◌<◌, ◌≤◌, ◌⊎◌, List, [], ◌∷◌, length, get_or, Option, Some, None}
use Rattle.std.proofs.lemmas.List.Elements.{All-nil, All-cons}
use Rattle.axe_algebra.specs.NumberField.{NumberField}
use Rattle.axe_algebra.specs.Bridge.{field_of, matrix_of}
use Rattle.axe_algebra.specs.Lists.{IsVectorOver, IsMatrixOver, IsSquareOver}
use Rattle.axe_algebra.specs.ListArithmetic.{transpose}
use Rattle.axe_algebra.specs.SpansOfLists.{IsIndependent}
use Rattle.axe_algebra.specs.ModulesOfLists.{IsGeneratedBasis}
use Rattle.axe_algebra.proofs.ReducedBases.{reduced_independent}
use Rattle.axe_algebra.proofs.ListExistence.{generated_basis_list}
use Rattle.axe_algebra.proofs.ListSpans.{independent_rows_are_few}
use Rattle.axe_algebra.proofs.NortonLists.{transpose_square}
use Rattle.axe_field.specs.Order.{order_number}
use Rattle.axe_field.specs.NumberFields.{number_field}
use Rattle.axe_matrix.specs.Matrices.{MatrixValue, IsMatrix, transposed_matrix}
use Rattle.axe_reduction.specs.Solutions.{IsInvertibleMatrix}
use Rattle.axe_echelon.specs.Echelons.{EchelonValue, IsNullSpaceMatrix}
use Rattle.axe_echelon.proofs.SomeMatrix.{matrix_of_rows_over, some_null_space}
use Rattle.axe_spin.specs.Modules.{ModuleValue, IsModule}
use Rattle.axe_spin.specs.Spinning.{IsGeneratedSpace}
use Rattle.axe_action.specs.Actions.{dual_module, IsAnnihilatorMatrix}
use Rattle.axe_word.specs.PointsOfMatrix.{points_of, point_count, most_points}
use Rattle.axe_norton.specs.Spaces.{GeneratesModule, GeneratesProper, point_of, HasFewPoints, TransposedPoint}
use Rattle.axe_norton.specs.Spaces.{TransposeGenerates, IsTransposedSpace}
use Rattle.axe_norton.specs.Searches.{IsReducedIn, IsSquareIn, FindsProper, FindsFirst, FindsFirstOf}
use Rattle.axe_norton.proofs.TestedLaws.{IsNullSpaceOver, transposed_over, null_point}
use Rattle.axe_norton.proofs.TruthLaws.{dual_is_module}
use Rattle.axe_norton.proofs.OpenLaws.{own_square}
use Rattle.axe_norton.proofs.SearchLaws.{everything_generated, proper_generated, proper_reduced, point_in, some_point_in, found_of_all, found_of_first}
use Rattle.axe_norton.proofs.SearchLaws.{singular_has_orthogonal, transposed_row_is}
use Rattle.axe_series.proofs.SomeAnnihilator.{some_annihilator}
use mathlib.Core.Logic.{inl, inr}
use mathlib.Core.Path.{refl, sym, subst}
use native.Mathlib.Omega.{arith}
use native.Mathlib.Decide.{dec_lt, ℕ_discrete}

-- some space, or none, of which a relation tells
abbrev pub SomeFound : (Option MatrixValue → Type 0) → Type 0
SomeFound P = (found : Option MatrixValue) × P found

-- whether the first point of the null space of a transpose generates a proper space under the transposes: nothing where
-- it generates everything, and else the annihilator of that space
abbrev pub FindsInTranspose : ModuleValue → MatrixValue → Option MatrixValue → Type 0
FindsInTranspose m matrix None = TransposeGenerates m matrix
FindsInTranspose m matrix (Some space) = IsTransposedSpace m matrix space

-- a matrix that has a property, and is well-formed
abbrev pub SomeMatrix : (MatrixValue → Type 0) → Type 0
SomeMatrix P = (x : MatrixValue) × (P x × IsMatrix x)

-- ---- what one vector generates

module _ (m : ModuleValue) (is : IsModule m) where
  abbrev K : NumberField
  K = number_field m.order

  -- a vector generates everything, or a proper space
  pub some_proper : (v : List ℕ) → IsVectorOver K m.dim v → SomeFound (FindsProper m v)
  some_proper v over =
      from (generated_basis_list K m.dim m.generators is.over.square (v ∷ [])
      (All-cons (IsVectorOver K m.dim) v [] over (All-nil (IsVectorOver K m.dim))))
    where
      from : (basis : List (List ℕ)) × IsMatrixOver K m.dim basis × IsGeneratedBasis K m.dim m.generators (v ∷ []) basis →
          SomeFound (FindsProper m v)
      from (basis, over_basis, generated) = by_size (ℕ_discrete (length basis) m.dim)
        where
          space : MatrixValue
          space = record { order = m.order; cols = m.dim; rows = basis }

          independent : IsIndependent K basis
          independent = reduced_independent (field_of K) (length basis) (matrix_of K basis) (length basis)
              (matrix_of K basis) generated.reduced

          few : length basis ≤ m.dim
          few = independent_rows_are_few K m.dim basis over_basis independent

          well : IsMatrix space
          well = matrix_of_rows_over m.order m.dim basis (omega (arith, is.over.positive)) (omega (arith, is.dim_fits))
              (omega (arith, is.dim_fits, few)) over_basis

          spanned : EchelonValue
          spanned = record { order = m.order; cols = m.dim; rows = basis }

          generated_space : IsGeneratedSpace m (v ∷ []) spanned
          generated_space = record {
            field = refl;
            columns = refl;
            generated = record { forth = generated.forth; back = generated.back };
            well_formed = record {
              some_column = omega (arith, is.over.positive);
              columns_fit = is.dim_fits;
              over = over_basis;
              independent = independent;
            };
          }

          by_size : Dec (length basis ≡ m.dim) → SomeFound (FindsProper m v)
          by_size (yes full) = (None, everything_generated m v spanned generated_space full)
          by_size (no less) = (
            Some space,
            proper_reduced m v spanned space (proper_generated m v spanned generated_space less)
                (record { field = refl; columns = refl; basis = generated.reduced }) well,
          )

  -- the first so many vectors generate everything
  abbrev AllBelow : List (List ℕ) → ℕ → Type 0
  AllBelow vectors n = (i : ℕ) → i < n → GeneratesModule m (get_or vectors i [])

  -- one of them, the first such, generates a proper space
  abbrev SomeFirst : List (List ℕ) → Type 0
  SomeFirst vectors = (space : MatrixValue) × FindsFirstOf m vectors (Some space)

  -- the first of some vectors that generates a proper space, or each generates everything
  pub some_first_of : (vectors : List (List ℕ)) →
      ((i : ℕ) → i < length vectors → IsVectorOver K m.dim (get_or vectors i [])) →
      SomeFound (FindsFirstOf m vectors)
  some_first_of vectors over = done (search (length vectors) (omega arith))
    where
      one_more : (n : ℕ) → n < length vectors → AllBelow vectors n → SomeFound (FindsProper m (get_or vectors n [])) →
          AllBelow vectors (suc n) ⊎ SomeFirst vectors
      one_more n below before (None, generates) = inl (λ i small. at i small (ℕ_discrete i n))
        where
          at : (i : ℕ) → i < suc n → Dec (i ≡ n) → GeneratesModule m (get_or vectors i [])
          at i small (yes e) = subst (λ k. GeneratesModule m (get_or vectors k [])) (sym e) generates
          at i small (no other) = before i (omega arith)
      one_more n below before (Some space, proper) =
          inr (space, record { number = n; below = below; before = before; proper = proper })

      search : (n : ℕ) → n ≤ length vectors → AllBelow vectors n ⊎ SomeFirst vectors
      search zero within = inl (λ i below. absurd (omega arith))
      search (suc n) within = next (search n (omega arith))
        where
          next : AllBelow vectors n ⊎ SomeFirst vectors → AllBelow vectors (suc n) ⊎ SomeFirst vectors
          next (inl before) = one_more n (omega arith) before (some_proper (get_or vectors n []) (over n (omega arith)))
          next (inr found) = inr found

      done : AllBelow vectors (length vectors) ⊎ SomeFirst vectors → SomeFound (FindsFirstOf m vectors)
      done (inl all) = (None, all)
      done (inr (space, first)) = (Some space, first)

  -- the first tried point of a space that generates a proper space, or each generates everything
  pub some_first : (basis : MatrixValue) → IsReducedIn m basis → IsMatrix basis → 0 < length basis.rows →
      SomeFound (FindsFirst m basis)
  some_first basis reduced well some =
      by_number (dec_lt most_points (point_count (order_number basis.order) (length basis.rows)))
    where
      over : (i : ℕ) → i < length (points_of basis) → IsVectorOver K m.dim (point_of basis i)
      over i below = (point_in m basis reduced well i below).over

      some_point : 0 < length (points_of basis)
      some_point = some_point_in m basis reduced well some

      of_all : HasFewPoints basis → SomeFound (FindsFirstOf m (points_of basis)) → SomeFound (FindsFirst m basis)
      of_all few (found, first) = (found, found_of_all m basis found few first)

      of_first : ¬ (HasFewPoints basis) → SomeFound (FindsProper m (point_of basis 0)) → SomeFound (FindsFirst m basis)
      of_first many (found, proper) = (found, found_of_first m basis (point_of basis 0) found many some_point refl proper)

      by_number : Dec (most_points < point_count (order_number basis.order) (length basis.rows)) →
          SomeFound (FindsFirst m basis)
      by_number (yes many) =
          of_first (λ few. omega (arith, many, few)) (some_proper (point_of basis 0) (over 0 some_point))
      by_number (no few) = of_all (omega arith) (some_first_of (points_of basis) over)

-- ---- the transposed module

module _ (m : ModuleValue) (is : IsModule m) (matrix : MatrixValue) (in_module : IsSquareIn m matrix)
    (well : IsMatrix matrix) where
  square : IsSquareOver (number_field matrix.order) matrix.cols matrix.rows
  square = own_square m matrix in_module

  transposed : IsSquareOver (number_field matrix.order) matrix.cols (transpose matrix.cols matrix.rows)
  transposed = transpose_square (number_field matrix.order) matrix.cols matrix.rows square

  transposed_well : IsMatrix (transposed_matrix matrix)
  transposed_well =
      subst (λ k. IsMatrix (record { order = matrix.order; cols = k; rows = transpose matrix.cols matrix.rows }))
      (sym square.length_is)
      (matrix_of_rows_over matrix.order matrix.cols (transpose matrix.cols matrix.rows) well.some_column well.columns_fit
      (omega (arith, well.columns_fit, transposed.length_is)) transposed.matrix)

  some_transposed_point : ¬ (IsInvertibleMatrix matrix) → TransposedPoint matrix
  some_transposed_point singular =
      from (some_null_space (transposed_matrix matrix) transposed_well
      (omega (arith, well.some_column, transposed.length_is)))
    where
      from : SomeMatrix (IsNullSpaceMatrix (transposed_matrix matrix)) → TransposedPoint matrix
      from (null, (is_null, formed)) =
          (transposed_row_is matrix square.matrix (singular_has_orthogonal matrix square singular) null
          (record { order = null.order; entries = point_of null 0 }) is_null formed refl).point

  -- the first point of the transpose's null space generates everything under the transposes, or a proper space
  pub some_transposed : ¬ (IsInvertibleMatrix matrix) → SomeFound (FindsInTranspose m matrix)
  some_transposed singular = from (some_proper (dual_module m) (dual_is_module m is) (point_of point.null_space 0) over)
    where
      point : TransposedPoint matrix
      point = some_transposed_point singular

      null : IsNullSpaceOver m.order m.dim (transpose m.dim matrix.rows) point.null_space
      null = transposed_over m matrix point.null_space in_module point.is_null_space point.well_formed

      over : IsVectorOver (number_field m.order) m.dim (point_of point.null_space 0)
      over = (null_point m.order m.dim (transpose m.dim matrix.rows) point.null_space null 0 point.some_point).over

      annihilated : (generated : MatrixValue) → GeneratesProper (dual_module m) (point_of point.null_space 0) generated →
          SomeMatrix (IsAnnihilatorMatrix generated) → SomeFound (FindsInTranspose m matrix)
      annihilated generated proper (space, (annihilator, formed)) = (
        Some space,
        record { point = point; generated = generated; proper = proper; annihilator = annihilator; well_formed = formed },
      )

      from : SomeFound (FindsProper (dual_module m) (point_of point.null_space 0)) → SomeFound (FindsInTranspose m matrix)
      from (None, generates) = (None, record { point = point; generates = generates })
      from (Some generated, proper) = annihilated generated proper (some_annihilator generated proper.well_formed)
