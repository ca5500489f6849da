-- Null spaces by their reduced basis or by its last row alone: how many rows that basis has, and what follows of one
-- that is not made.
use Rattle.std.specs.Prelude.{◌≡◌, ◌≢◌, ℕ, ◌+◌, ◌-◌, ◌<◌, ◌≤◌, List, length, All}
use Rattle.axe_algebra.specs.NumberField.{NumberField}
use Rattle.axe_algebra.specs.Field.{Field}
use Rattle.axe_algebra.specs.Vectors.{Vector, Matrix, HasLength, HasRowsOfLength, unit_vector, subtract, times}
use Rattle.axe_algebra.specs.Spans.{IsIndependent}
use Rattle.axe_algebra.specs.Reduced.{IsPivot, IsAscendingListOf, IsReducedBasis, IsReducedBasisOf}
use Rattle.axe_algebra.specs.Actions.{IsFree, unit_vectors}
use Rattle.axe_algebra.specs.Bridge.{matrix_of}
use Rattle.axe_algebra.specs.Lists.{unit_row}
use Rattle.axe_algebra.specs.ListArithmetic.{identity}
use Rattle.axe_algebra.proofs.FieldLaws.{zero-add, neg-zero}
use Rattle.axe_algebra.proofs.ProductLaws.{unit_at, unit_off}
use Rattle.axe_algebra.proofs.ReducedBases.{reduced_basis}
use Rattle.axe_algebra.proofs.Quotients.{unit_combination_at, unit_combination_off}
use Rattle.axe_algebra.proofs.FreeColumns.{free_columns_count}
use Rattle.axe_algebra.proofs.ListEntries.{rows_length}
use Rattle.axe_algebra.proofs.ListProducts.{transpose_over, identity_over, identity_length}
use Rattle.axe_field.specs.Order.{Order}
use Rattle.axe_field.specs.NumberFields.{number_field, gf}
use Rattle.axe_row.specs.Operations.{IsZeroVector}
use Rattle.axe_row.specs.Rows.{RowValue, IsRow}
use Rattle.axe_matrix.specs.Limits.{most_columns}
use Rattle.axe_matrix.specs.Matrices.{MatrixValue, IsMatrix, row_of, identity_matrix, transposed_matrix}
use Rattle.axe_matrix.proofs.MatrixLaws.{IsRow-row_of}
use Rattle.axe_echelon.specs.Echelons.{EchelonValue, IsEchelon, IsRowSpace, IsNullSpaceMatrix}
use Rattle.axe_echelon.specs.Mirrored.{mirrored, IsMirrored, IsOrthogonalMirrored}
use Rattle.axe_echelon.specs.Orthogonal.{IsOrthogonalToSpace}
use Rattle.axe_echelon.specs.NullPoints.{IsSmallNullSpace, IsFirstNullPoint, IsNullPoints, IsSmallOrthogonal, IsLargeOrthogonal, ArePointsOrthogonal}
use Rattle.axe_echelon.specs.declared.first_points.NullPoints.{NullPoints}
use Rattle.axe_echelon.specs.declared.first_points.NullPoints.TheVariants.{Basis, First}
use Rattle.axe_echelon.proofs.InverseLaws.{matrix_over}
use Rattle.axe_echelon.proofs.MirroredLaws.{mirrored_twice, mirrored_length}
use Rattle.axe_echelon.proofs.MirroredBases.{IsUnitOrthogonal}
use Rattle.axe_echelon.proofs.OneMatrix.{over_of, null_space_is_one}
use Rattle.axe_echelon.proofs.OrthogonalLaws.{IsOrthogonalUnit, IsOrthogonalUpTo, basis_all}
use Rattle.axe_echelon.proofs.OrthogonalPoints.{pivot_inside, pivot_is_free, place, last_row_is}
use Rattle.axe_echelon.proofs.SomeMatrix.{matrix_of_rows_over, some_null_space}
use Rattle.axe_echelon.proofs.Transposes.{null_space_by_columns, orthogonal_of_null_space, twice_transposed}
use Rattle.axe_echelon.proofs.ZeroMatrices.{identity_is_null_space, last_of_identity}
use mathlib.Core.Path.{refl, sym, ◌∙◌, ap, ap₂, subst}
use native.Mathlib.Omega.{arith}
use native.Mathlib.Decide.{dec_lt}

-- ---- how many rows the reduced basis has

module _ (F : Field) (n r : ℕ) (w : Matrix F) (rows : HasRowsOfLength F n w) where
  -- to each column that is no pivot of the rows belongs a vector that is orthogonal to them
  some_orthogonal : (c : ℕ) → c < n → ¬ (IsPivot F r w c) → (x : Vector F) × IsOrthogonalUnit F n r w c x
  some_orthogonal c inside none = from (reduced_basis F n r w rows)
    where
      from : (m : ℕ) × (b : Matrix F) × HasRowsOfLength F n b × IsReducedBasis F r w m b → (x : Vector F) × IsOrthogonalUnit F n r w c x
      from (m, b, lengths, basis) = (x, basis_all F n r w c m b basis rows none x inside up_to length)
        where
          -- what is set at the pivots
          set_there : Vector F
          set_there = times F m (λ t. b t c) (unit_vectors F basis.pivots)

          x : Vector F
          x = subtract F (unit_vector F c) set_there

          up_to : IsOrthogonalUpTo F r w m b basis.pivots c m x
          up_to = record {
            at_pivots = λ t below.
                ap₂ (λ y z. F.add y (F.neg z)) (unit_off F c (basis.pivots t) (other t below))
                (unit_combination_at F (IsPivot F r w) m basis.pivots basis.are_pivots (λ t. b t c) t below)
                ∙ zero-add F (F.neg (b t c));
            others = λ j outside.
                ap (λ z. F.add (unit_vector F c j) (F.neg z)) (unit_combination_off F m basis.pivots (λ t. b t c) j outside)
                ∙ ap (F.add (unit_vector F c j)) (neg-zero F) ∙ F.add-zero (unit_vector F c j);
          }
            where
              other : (t : ℕ) → t < m → c ≢ basis.pivots t
              other t below same = none (subst (IsPivot F r w) (sym same) (basis.are_pivots.each t below))

          length : HasLength F n x
          length j past =
              up_to.others j (λ t below same. omega (arith, same, past, pivot_before t below)) ∙ unit_off F c j (omega (arith, inside, past))
            where
              pivot_before : (t : ℕ) → t < m → basis.pivots t < n
              pivot_before t below = by_place (dec_lt (basis.pivots t) n)
                where
                  by_place : Dec (basis.pivots t < n) → basis.pivots t < n
                  by_place (yes within) = within
                  by_place (no far) = absurd (F.one-not-zero (sym (basis.one t below) ∙ lengths t (basis.pivots t) (omega arith)))

  -- where all columns are pivots of independent rows, there are as many rows
  pub rows_where_all : IsIndependent F r w → ((j : ℕ) → j < n → IsPivot F r w j) → r ≡ n
  rows_where_all independent all = omega (
    arith,
    free_columns_count F n r w rows 0 (λ t. 0) (record {
      ascending = λ i j before below. absurd (omega arith);
      each = λ t below. absurd (omega arith);
      all = λ j free. absurd (free.no_pivot (all j free.below));
    }) independent,
  )

  module _ (s : ℕ) (y : Matrix F) (lengths : HasRowsOfLength F n y) (basis : IsReducedBasisOf F (IsOrthogonalMirrored F n r w) s y) where
    abbrev p : ℕ → ℕ
    p = basis.reduced.pivots

    inside : (t : ℕ) → t < s → p t < n
    inside t below = pivot_inside F n r w rows s y lengths basis (p t) (basis.reduced.are_pivots.each t below)

    -- the column that a row of the basis belongs to, from the last row to the first
    abbrev column : ℕ → ℕ
    column t = n - 1 - p (s - 1 - t)

    free_columns : IsAscendingListOf (IsFree F n r w) s column
    free_columns = record {
      ascending = λ i j before below. omega (
        arith,
        basis.reduced.are_pivots.ascending (s - 1 - j) (s - 1 - i) (omega arith) (omega arith),
        inside (s - 1 - i) (omega arith),
      );
      each = λ t below. record {
        below = omega (arith, inside (s - 1 - t) (omega arith));
        no_pivot = pivot_is_free F n r w rows s y lengths basis (p (s - 1 - t)) (basis.reduced.are_pivots.each (s - 1 - t) (omega arith));
      };
      all = λ j free. by_vector j free.below (some_orthogonal j free.below free.no_pivot) free.no_pivot;
    }
      where
        by_vector : (j : ℕ) → j < n → (x : Vector F) × IsOrthogonalUnit F n r w j x → ¬ (IsPivot F r w j) → (t : ℕ) × (t < s) × (column t ≡ j)
        by_vector j below (x, orthogonal) none =
            by_place (place F n r w rows s y lengths basis j below (mirrored F n x) (mirrored_length F n x)
            (subst (IsUnitOrthogonal F n r w j) (sym (mirrored_twice F n x orthogonal.within.length)) unit))
          where
            unit : IsUnitOrthogonal F n r w j x
            unit = record {
              within = orthogonal.within;
              one = orthogonal.free j none ∙ unit_at F j;
              zeros = λ i free other. orthogonal.free i free ∙ unit_off F j i (λ same. other (sym same));
            }

            by_place : (t : ℕ) × (t < s) × (p t ≡ n - 1 - j) → (t : ℕ) × (t < s) × (column t ≡ j)
            by_place (t, within, found) = (
              s - 1 - t,
              omega arith,
              ap (λ i. n - 1 - p i) (let back : s - 1 - (s - 1 - t) ≡ t = omega arith in back) ∙ (let at : n - 1 - p t ≡ j = omega (arith, found, below) in at),
            )

    pub orthogonal_count : IsIndependent F r w → r + s ≡ n
    orthogonal_count independent = free_columns_count F n r w rows s column free_columns independent

-- a space and the space of all vectors that are orthogonal to it have as many dimensions together as there are columns
pub dimensions_add_up : (e : EchelonValue) (basis : MatrixValue) → IsEchelon e → IsMatrix basis → IsOrthogonalToSpace e basis →
    length e.rows + length basis.rows ≡ e.cols
dimensions_add_up e basis h well orthogonal =
    orthogonal_count (gf e.order) e.cols (length e.rows) (matrix_of K e.rows) (rows_length K e.cols e.rows h.over) (length basis.rows)
    (matrix_of K basis.rows) (rows_length K e.cols basis.rows (over_of basis e.order e.cols well orthogonal.field orthogonal.columns)) orthogonal.basis
    h.independent
  where
    K : NumberField
    K = number_field e.order

-- where all columns are pivots of a space it has as many dimensions
pub whole_where_all : (e : EchelonValue) → IsEchelon e → ((j : ℕ) → j < e.cols → IsPivot (gf e.order) (length e.rows) (matrix_of (number_field e.order) e.rows) j) →
    length e.rows ≡ e.cols
whole_where_all e h all =
    rows_where_all (gf e.order) e.cols (length e.rows) (matrix_of (number_field e.order) e.rows) (rows_length (number_field e.order) e.cols e.rows h.over)
    h.independent all

-- ---- of a matrix of zeros

pub small_of_zeros : (m basis : MatrixValue) (o : Order) (n most : ℕ) → 1 ≤ length m.rows → length m.rows ≤ most_columns → All IsZeroVector m.rows →
    o ≡ m.order → n ≡ length m.rows → n ≤ most → basis ≡ identity_matrix o n → IsMatrix basis → IsNullPoints m most (Basis basis)
small_of_zeros m basis o n most some few zeros same_field same_count within is well = record {
  is_basis = identity_is_null_space m basis o n some few zeros same_field same_count is;
  well_formed = well;
  small = omega (arith, within, size);
}
  where
    size : length basis.rows ≡ n
    size = ap (λ (b : MatrixValue). length b.rows) is ∙ identity_length (number_field o) n

pub first_of_zeros : (m : MatrixValue) (o : Order) (n last most : ℕ) (v : RowValue) → 1 ≤ length m.rows → length m.rows ≤ most_columns → All IsZeroVector m.rows →
    o ≡ m.order → n ≡ length m.rows → most < n → last ≡ n - 1 → v ≡ record { order = o; entries = unit_row n last } → IsRow v → IsNullPoints m most (First v)
first_of_zeros m o n last most v some few zeros same_field same_count large is_last is row = record {
  basis = identity_matrix m.order (length m.rows);
  is_basis = identity_is_null_space m (identity_matrix m.order (length m.rows)) m.order (length m.rows) some few zeros refl refl refl;
  well_formed = matrix_of_rows_over m.order (length m.rows) (identity (length m.rows)) some few (omega (arith, size, few))
      (identity_over (number_field m.order) (length m.rows));
  large = omega (arith, size, same_count, large);
  first =
      is ∙ (λ t. record { order = same_field t; entries = unit_row (same_count t) last })
      ∙ ap (λ (entries : List ℕ). record { order = m.order; entries = entries }) (last_of_identity (length m.rows) last some (is_last ∙ ap (λ k. k - 1) same_count));
  row_well_formed = row;
}
  where
    size : length (identity (length m.rows)) ≡ length m.rows
    size = identity_length (number_field m.order) (length m.rows)

-- ---- by the columns

module _ (m turned : MatrixValue) (e : EchelonValue) (most : ℕ) (well : IsMatrix m) (some : 1 ≤ length m.rows)
    (mirrored_rows : IsMirrored (transposed_matrix m) turned) (space : IsRowSpace turned e) where
  small_is : (basis : MatrixValue) → IsSmallOrthogonal e most basis → IsSmallNullSpace m most basis
  small_is basis given = record {
    is_basis = null_space_by_columns m turned basis e well mirrored_rows space given.orthogonal;
    well_formed = given.well_formed;
    small = omega (arith, given.small, dimensions_add_up e basis space.well_formed given.well_formed given.orthogonal);
  }

  first_is : (point : RowValue) → IsLargeOrthogonal e most point → IsFirstNullPoint m most point
  first_is point given = from (some_null_space m well some)
    where
      from : (basis : MatrixValue) × (IsNullSpaceMatrix m basis × IsMatrix basis) → IsFirstNullPoint m most point
      from (basis, (null, well_formed)) = record {
        basis = basis;
        is_basis = null;
        well_formed = well_formed;
        large = omega (arith, given.large, dimensions_add_up e basis space.well_formed well_formed orthogonal);
        first = last.1;
        row_well_formed = subst IsRow (sym last.1) (IsRow-row_of basis (length basis.rows - 1) well_formed (omega (arith, last.0)));
      }
        where
          orthogonal : IsOrthogonalToSpace e basis
          orthogonal = orthogonal_of_null_space (transposed_matrix m) turned basis e (transpose_over (number_field m.order) m.cols m.rows (matrix_over m well))
              mirrored_rows space (subst (λ (x : MatrixValue). IsNullSpaceMatrix x basis) (sym (twice_transposed m well)) null)

          last : (0 < length basis.rows) × (point ≡ row_of basis (length basis.rows - 1))
          last = last_row_is e space.well_formed basis well_formed orthogonal given.column point given.first_free given.vector

  pub null_points_by_columns : (points : NullPoints) → ArePointsOrthogonal e most points → IsNullPoints m most points
  null_points_by_columns (Basis basis) given = small_is basis given
  null_points_by_columns (First point) given = first_is point given

-- ---- there is one answer

pub null_points_are_one : (m : MatrixValue) (most : ℕ) (a b : NullPoints) → IsNullPoints m most a → IsNullPoints m most b → a ≡ b
null_points_are_one m most (Basis a) (Basis b) one other =
    ap Basis (null_space_is_one m a b (one.is_basis, one.well_formed) (other.is_basis, other.well_formed))
null_points_are_one m most (Basis a) (First v) one other =
    let same = null_space_is_one m a other.basis (one.is_basis, one.well_formed) (other.is_basis, other.well_formed) in
    absurd (omega (arith, ap (λ (b : MatrixValue). length b.rows) same, one.small, other.large))
null_points_are_one m most (First u) (Basis b) one other =
    let same = null_space_is_one m b one.basis (other.is_basis, other.well_formed) (one.is_basis, one.well_formed) in
    absurd (omega (arith, ap (λ (b : MatrixValue). length b.rows) same, other.small, one.large))
null_points_are_one m most (First u) (First v) one other =
    ap First (one.first
    ∙ ap (λ (b : MatrixValue). row_of b (length b.rows - 1))
    (null_space_is_one m one.basis other.basis (one.is_basis, one.well_formed) (other.is_basis, other.well_formed))
    ∙ sym other.first)
