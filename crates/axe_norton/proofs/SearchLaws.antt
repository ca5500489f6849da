-- The steps of the test: seeds of one row, first points, and what points generate.
use Rattle.std.specs.Prelude.{◌≡◌, ◌≢◌, ℕ, ◌-◌, ◌<◌, ◌⊎◌, List, [], ◌∷◌, ◌++◌, length, Option, Some, None, Result, Bool, false, IsTrue}
use Rattle.std.proofs.lemmas.Bool.{eq-eqb}
use Rattle.axe_algebra.specs.Field.{Field}
use Rattle.axe_algebra.specs.Vectors.{Vector, Matrix, HasShape, zero_vector, transposed}
use Rattle.axe_algebra.specs.Spans
use Rattle.axe_algebra.specs.Bridge.{vector_of, matrix_of}
use Rattle.axe_algebra.specs.Lists.{IsMatrixOver, IsSquareOver}
use Rattle.axe_algebra.specs.ListArithmetic.{IsInverse}
use Rattle.axe_algebra.specs.SpansOfLists.{IsIndependent, IsReducedBasis}
use Rattle.axe_algebra.specs.PointTheorems.{IsNonzeroSpanned}
use Rattle.axe_algebra.proofs.SquareMatrices.{null_vector_or_inverse, transpose_criterion}
use Rattle.axe_algebra.proofs.ReducedBases.{reduced_independent}
use Rattle.axe_algebra.proofs.ListGenerated.{generates_everything, everything_is_full}
use Rattle.axe_algebra.proofs.ListLaws.{inverse_list}
use Rattle.axe_algebra.proofs.ListEntries.{square_shape}
use Rattle.axe_algebra.proofs.ListIrreducible.{transpose_length}
use Rattle.axe_field.specs.Order.{Order, order_number}
use Rattle.axe_field.specs.NumberFields.{number_field, gf}
use Rattle.axe_row.specs.Rows.{RowValue}
use Rattle.axe_row.specs.Refusals.{Answers}
use Rattle.axe_row.specs.Operations.{IsZeroVector}
use Rattle.axe_row.specs.declared.refusals.Refusal.{Refusal}
use Rattle.axe_matrix.specs.Matrices.{MatrixValue, IsMatrix, transposed_matrix, has_only_zeros}
use Rattle.axe_matrix.proofs.OnlyZeros.{some_nonzero}
use Rattle.axe_reduction.specs.Solutions.{IsInvertibleMatrix}
use Rattle.axe_echelon.specs.Echelons.{EchelonValue, IsReducedMatrix, IsNullSpaceMatrix}
use Rattle.axe_echelon.specs.OrthogonalPoints.{IsOrthogonalPoint}
use Rattle.axe_echelon.proofs.InverseLaws.{matrix_over}
use Rattle.axe_echelon.proofs.EliminationLaws.{vector_of_zero_row}
use Rattle.axe_spin.specs.Modules.{ModuleValue}
use Rattle.axe_spin.specs.Spinning.{seed_refusal, IsGeneratedSpace}
use Rattle.axe_spin.proofs.GeneratedLaws.{generated_matrix}
use Rattle.axe_spin.proofs.SpaceLaws.{space_over}
use Rattle.axe_action.specs.Actions.{dual_module, IsAnnihilatorMatrix}
use Rattle.axe_word.specs.PointsOfMatrix.{points_of}
use Rattle.axe_word.proofs.PointSums.{last_row_is_first_point}
use Rattle.axe_word.proofs.ReducedNullSpaces.{null_is_reduced}
use Rattle.axe_norton.specs.Spaces.{GeneratesModule, GeneratesProper, one_row, point_of, HasFewPoints, IsTried, TransposeGenerates, IsTransposedSpace}
use Rattle.axe_norton.specs.Searches.{HasOrthogonalVector, IsReducedIn, IsSquareIn, FindsProper, IsProperSpaceOf, FindsFirstOf, FindsFirst, IsTransposedPointRow, IsAnnihilatorOf}
use Rattle.axe_norton.proofs.PointLaws.{point_is, some_point}
use Rattle.axe_norton.proofs.OrthogonalLaws.{orthogonal_rows}
use Rattle.axe_norton.proofs.TruthLaws.{rows_over_field}
use mathlib.Core.Logic.{inl, inr}
use mathlib.Core.Path.{refl, sym, ◌∙◌, ap, subst}
use native.Mathlib.Omega.{arith}

-- ---- one row as a seed

-- a row that is appended to no rows
pub seed_of_row : (m : ModuleValue) (o : Order) (n : ℕ) (start seed : MatrixValue) (v : List ℕ) → o ≡ m.order → n ≡ m.dim →
    start ≡ record { order = o; cols = n; rows = [] } → seed ≡ record start { rows = start.rows ++ v ∷ [] } → seed ≡ one_row m v
seed_of_row m o n start seed v field dim start_is is =
    is ∙ ap (λ (s : MatrixValue). record s { rows = s.rows ++ v ∷ [] }) start_is
    ∙ (λ i. record { order = field i; cols = dim i; rows = v ∷ [] })

-- a seed over the field, with the dimension's columns and a nonzero row is not refused
seed_refusal-none : (m : ModuleValue) (seed : MatrixValue) → order_number seed.order ≡ order_number m.order → seed.cols ≡ m.dim →
    has_only_zeros seed.rows ≡ false → seed_refusal m seed ≡ None
seed_refusal-none m seed fields shapes nonzero = rw (eq-eqb _ _ fields, eq-eqb _ _ shapes, nonzero) refl

-- a seed of one row other than zero is accepted
pub one_row_accepted : (m : ModuleValue) (v : List ℕ) → ¬ (IsZeroVector v) → seed_refusal m (one_row m v) ≡ None
one_row_accepted m v nonzero =
    seed_refusal-none m (one_row m v) refl refl (some_nonzero (v ∷ []) 0 v false (omega arith) refl (λ zeros. absurd (nonzero zeros)) refl)

pub seed_accepted : (m : ModuleValue) (v : List ℕ) (seed : MatrixValue) (result : Result EchelonValue Refusal) → seed ≡ one_row m v → ¬ (IsZeroVector v) →
    Answers (seed_refusal m seed) (IsGeneratedSpace m seed.rows) result → Answers None (IsGeneratedSpace m (v ∷ [])) result
seed_accepted m v seed result is nonzero answer =
    subst (λ (r : Option Refusal). Answers r (IsGeneratedSpace m (v ∷ [])) result) (one_row_accepted m v nonzero)
    (subst (λ (s : MatrixValue). Answers (seed_refusal m s) (IsGeneratedSpace m s.rows) result) is answer)

module _ (m : ModuleValue) (v : List ℕ) (space : EchelonValue) (is : IsGeneratedSpace m (v ∷ []) space) where
  over_space : IsMatrixOver (number_field m.order) m.dim space.rows
  over_space = space_over m space is.field is.columns is.well_formed

  independent_space : IsIndependent (number_field m.order) space.rows
  independent_space = subst (λ o. IsIndependent (number_field o) space.rows) is.field is.well_formed.independent

  -- the vector generates everything where the space has the module's dimension, and else a proper space
  pub everything_generated : length space.rows ≡ m.dim → GeneratesModule m v
  everything_generated full =
      generates_everything (number_field m.order) m.dim m.generators v space.rows over_space is.generated independent_space full

  pub proper_generated : length space.rows ≢ m.dim → IsProperSpaceOf m v space
  proper_generated less = record {
    generated = is;
    proper = λ all. less (everything_is_full (number_field m.order) m.dim m.generators v space.rows over_space is.generated independent_space all);
  }

-- and this is the reduced basis of that space
pub proper_reduced : (m : ModuleValue) (v : List ℕ) (space : EchelonValue) (basis : MatrixValue) → IsProperSpaceOf m v space → IsReducedMatrix space basis →
    IsMatrix basis → GeneratesProper m v basis
proper_reduced m v space basis proper reduced well_formed = record {
  generated = generated_matrix m (one_row m v) basis space proper.generated reduced;
  well_formed = well_formed;
  proper = proper.proper;
}

-- ---- points of a space in a module

pub nonzero_row : (o : Order) (v : List ℕ) → vector_of (number_field o) v ≢ zero_vector (gf o) → ¬ (IsZeroVector v)
nonzero_row o v nonzero zeros = nonzero (vector_of_zero_row (number_field o) v zeros)

module _ (m : ModuleValue) (basis : MatrixValue) (is : IsReducedIn m basis) (well_formed : IsMatrix basis) where
  over_basis : IsMatrixOver (number_field m.order) m.dim basis.rows
  over_basis = rows_over_field m.order m.dim basis is.field is.columns well_formed

  pub independent_basis : IsIndependent (number_field m.order) basis.rows
  independent_basis =
      reduced_independent (gf m.order) (length basis.rows) (matrix_of (number_field m.order) basis.rows) (length basis.rows)
      (matrix_of (number_field m.order) basis.rows) (subst (λ o. IsReducedBasis (number_field o) basis.rows basis.rows) is.field is.reduced)

  pub point_in : (i : ℕ) → i < length (points_of basis) → IsNonzeroSpanned (number_field m.order) m.dim basis.rows (point_of basis i)
  point_in = point_is m.order m.dim basis is.field is.columns over_basis independent_basis

  pub some_point_in : 0 < length basis.rows → 0 < length (points_of basis)
  some_point_in = some_point m.order m.dim basis is.field is.columns over_basis

  -- a row that is a point is a nonzero vector of the module
  pub point_fits : (i : ℕ) (v : RowValue) → i < length (points_of basis) → v.entries ≡ point_of basis i → length v.entries ≡ m.dim
  point_fits i v below is_point = ap length is_point ∙ (point_in i below).over.length_is

  pub point_nonzero : (i : ℕ) (v : RowValue) → i < length (points_of basis) → v.entries ≡ point_of basis i → ¬ (IsZeroVector v.entries)
  point_nonzero i v below is_point =
      subst (λ (x : List ℕ). ¬ (IsZeroVector x)) (sym is_point) (nonzero_row m.order (point_of basis i) (point_in i below).nonzero)

-- all points are tried where there are few
pub found_of_all : (m : ModuleValue) (basis : MatrixValue) (found : Option MatrixValue) → HasFewPoints basis → FindsFirstOf m (points_of basis) found → FindsFirst m basis found
found_of_all m basis None few each = λ i tried. each i tried.below
found_of_all m basis (Some space) few first = record {
  number = first.number;
  tried = record { below = first.below; first_or_few = inr few };
  before = first.before;
  proper = first.proper;
}

-- the first generates a proper space
pub found_at_first : (m : ModuleValue) (basis space : MatrixValue) → 0 < length (points_of basis) → GeneratesProper m (point_of basis 0) space → FindsFirst m basis (Some space)
found_at_first m basis space some proper = record {
  number = 0;
  tried = record { below = some; first_or_few = inl refl };
  before = λ i before. absurd (omega arith);
  proper = proper;
}

-- the first generates everything, and it alone is tried where there are many
pub none_of_first : (m : ModuleValue) (basis : MatrixValue) → ¬ (HasFewPoints basis) → GeneratesModule m (point_of basis 0) → FindsFirst m basis None
none_of_first m basis many generates = λ i tried. at i tried tried.first_or_few
  where
    at : (i : ℕ) → IsTried basis i → (i ≡ 0) ⊎ HasFewPoints basis → GeneratesModule m (point_of basis i)
    at i tried (inl first) = subst (GeneratesModule m) (ap (point_of basis) (sym first)) generates
    at i tried (inr few) = absurd (many few)

-- the first alone, where there are many
pub found_of_first : (m : ModuleValue) (basis : MatrixValue) (v : List ℕ) (found : Option MatrixValue) → ¬ (HasFewPoints basis) →
    0 < length (points_of basis) → v ≡ point_of basis 0 → FindsProper m v found → FindsFirst m basis found
found_of_first m basis v None many some is generates = none_of_first m basis many (subst (GeneratesModule m) is generates)
found_of_first m basis v (Some space) many some is proper = found_at_first m basis space some (subst (λ (x : List ℕ). GeneratesProper m x space) is proper)

-- ---- the first point of the null space of a transpose

-- a square matrix of lists that is invertible
pub invertible_matrix : (matrix : MatrixValue) → IsSquareOver (number_field matrix.order) matrix.cols matrix.rows →
    Spans.IsInvertible (gf matrix.order) matrix.cols (matrix_of (number_field matrix.order) matrix.rows) → IsInvertibleMatrix matrix
invertible_matrix matrix square invertible = make (inverse_list (number_field matrix.order) matrix.cols matrix.rows square invertible)
  where
    make : (b : List (List ℕ)) × IsSquareOver (number_field matrix.order) matrix.cols b × IsInverse (number_field matrix.order) matrix.cols matrix.rows b → IsInvertibleMatrix matrix
    make (b, square_b, inverts) = (
      record { order = matrix.order; cols = matrix.cols; rows = b },
      record {
        field = refl;
        columns = refl;
        square = square_b;
        inverts = inverts;
      },
    )

-- something other than zero is orthogonal to the rows of a singular matrix
pub singular_has_orthogonal : (matrix : MatrixValue) → IsSquareOver (number_field matrix.order) matrix.cols matrix.rows → ¬ (IsInvertibleMatrix matrix) →
    HasOrthogonalVector matrix
singular_has_orthogonal matrix square singular = found (null_vector_or_inverse F matrix.cols (transposed F a) shape)
  where
    F : Field
    F = gf matrix.order

    a : Matrix F
    a = matrix_of (number_field matrix.order) matrix.rows

    of_a : HasShape F matrix.cols matrix.cols a
    of_a = square_shape (number_field matrix.order) matrix.cols matrix.rows square

    shape : HasShape F matrix.cols matrix.cols (transposed F a)
    shape = record { rows = λ i j past. of_a.columns j i past; columns = λ i j past. of_a.rows j i past }

    found : ((v : Vector F) × (v ≢ zero_vector F) × Spans.IsNullVector F matrix.cols (transposed F a) v) ⊎ Spans.IsInvertible F matrix.cols (transposed F a) →
        HasOrthogonalVector matrix
    found (inl (v, nonzero, null)) = record { vector = v; nonzero = nonzero; orthogonal = null }
    found (inr invertible) = absurd (singular (invertible_matrix matrix square ((transpose_criterion F matrix.cols a).1 invertible)))

pub transposed_null_rows : (matrix null : MatrixValue) → IsSquareOver (number_field matrix.order) matrix.cols matrix.rows → ¬ (IsInvertibleMatrix matrix) →
    IsNullSpaceMatrix (transposed_matrix matrix) null → 0 < length null.rows
transposed_null_rows matrix null square singular is = orthogonal_rows matrix null square.matrix (singular_has_orthogonal matrix square singular) is

-- it is a nonzero vector of the module
module _ (m : ModuleValue) (matrix : MatrixValue) (is : IsSquareIn m matrix) (v : RowValue) (found : IsTransposedPointRow matrix v) where
  null_in : IsReducedIn m found.point.null_space
  null_in = record {
    field = found.point.is_null_space.field ∙ is.field;
    columns = found.point.is_null_space.columns ∙ transpose_length matrix.cols matrix.rows ∙ is.columns;
    reduced = null_is_reduced (transposed_matrix matrix) found.point.null_space found.point.is_null_space;
  }

  pub transposed_point_fits : length v.entries ≡ m.dim
  transposed_point_fits = point_fits m found.point.null_space null_in found.point.well_formed 0 v found.point.some_point found.first

  pub transposed_point_nonzero : ¬ (IsZeroVector v.entries)
  transposed_point_nonzero = point_nonzero m found.point.null_space null_in found.point.well_formed 0 v found.point.some_point found.first

  pub transposed_point_field : v.order ≡ m.order
  transposed_point_field = found.field ∙ is.field

  -- what it generates under the transposes
  pub transpose_generates : GeneratesModule (dual_module m) v.entries → TransposeGenerates m matrix
  transpose_generates generates = record {
    point = found.point;
    generates = subst (GeneratesModule (dual_module m)) found.first generates;
  }

  pub transposed_space_is : (space : MatrixValue) → IsAnnihilatorOf m v.entries space → IsTransposedSpace m matrix space
  transposed_space_is space of_point = record {
    point = found.point;
    generated = of_point.generated;
    proper = subst (λ (x : List ℕ). GeneratesProper (dual_module m) x of_point.generated) found.first of_point.proper;
    annihilator = of_point.annihilator;
    well_formed = of_point.well_formed;
  }

-- what a vector generates under the transposes, in a module that is the transposed one
pub dual_generates : (m dual : ModuleValue) (v : List ℕ) → dual ≡ dual_module m → GeneratesModule dual v → GeneratesModule (dual_module m) v
dual_generates m dual v same generates = subst (λ (d : ModuleValue). GeneratesModule d v) same generates

pub annihilator_is : (m dual : ModuleValue) (v : List ℕ) (generated space : MatrixValue) → dual ≡ dual_module m → GeneratesProper dual v generated →
    IsAnnihilatorMatrix generated space → IsMatrix space → IsAnnihilatorOf m v space
annihilator_is m dual v generated space same proper annihilator well_formed = record {
  generated = generated;
  proper = subst (λ (d : ModuleValue). GeneratesProper d v generated) same proper;
  annihilator = annihilator;
  well_formed = well_formed;
}

-- ---- the first point of the null space of the transpose of rows, where something other than zero is orthogonal to them

module _ (rows : MatrixValue) (over : IsMatrixOver (number_field rows.order) rows.cols rows.rows) (has : HasOrthogonalVector rows) where
  -- a row that is that
  pub transposed_row_is : (null : MatrixValue) (v : RowValue) → IsNullSpaceMatrix (transposed_matrix rows) null → IsMatrix null →
      v ≡ record { order = null.order; entries = point_of null 0 } → IsTransposedPointRow rows v
  transposed_row_is null v is well_formed same = record {
    point = record {
      null_space = null;
      is_null_space = is;
      well_formed = well_formed;
      some_point = some_point null.order null.cols null refl refl (matrix_over null well_formed) (orthogonal_rows rows null over has is);
    };
    field = ap (λ (r : RowValue). r.order) same ∙ is.field;
    first = ap (λ (r : RowValue). r.entries) same;
  }

  -- the first point of the space of all vectors that are orthogonal to the rows is that
  pub orthogonal_point_is : (v : RowValue) → IsOrthogonalPoint rows (Some v) → IsTransposedPointRow rows v
  orthogonal_point_is v point = transposed_row_is point.basis v point.is_basis point.well_formed
      (point.first.1 ∙ last_row_is_first_point point.basis (length point.basis.rows - 1) point.well_formed point.first.0 refl)

  -- and there is one
  pub some_orthogonal_point : ¬ (IsOrthogonalPoint rows None)
  some_orthogonal_point point = omega (arith, point.first, orthogonal_rows rows point.basis over has point.is_basis)

-- a test is not both
pub not_both : (b : Bool) → IsTrue b → b ≡ false → ⊥
not_both b holds fails = cc
