-- The last row of the reduced basis of all vectors that are orthogonal to some rows when they are read from the last
-- entry to the first: the vector for the first column that is no pivot of the rows.
use Rattle.std.specs.Prelude.{◌≡◌, ℕ, ◌-◌, ◌<◌, ◌≤◌, [], length, get_or, reverse, Some, None}
use Rattle.std.proofs.lemmas.List.{length-reverse, reverse-reverse}
use Rattle.axe_algebra.specs.NumberField.{NumberField}
use Rattle.axe_algebra.specs.Field.{Field}
use Rattle.axe_algebra.specs.Vectors.{Vector, Matrix, HasLength, HasRowsOfLength}
use Rattle.axe_algebra.specs.Spans.{InSpan}
use Rattle.axe_algebra.specs.Reduced.{IsPivot, IsReducedBasisOf}
use Rattle.axe_algebra.specs.Bridge.{vector_of, matrix_of}
use Rattle.axe_algebra.specs.Lists.{IsVectorOver, IsMatrixOver}
use Rattle.axe_algebra.proofs.ListEntries.{rows_length, vector_length, same_vector, row_over}
use Rattle.axe_algebra.proofs.ListProducts.{transpose_over}
use Rattle.axe_algebra.proofs.Spanning.{span_row}
use Rattle.axe_algebra.proofs.ReducedBases.{same_at_pivots}
use Rattle.axe_algebra.proofs.ListIrreducible.{transpose_length}
use Rattle.axe_field.specs.NumberFields.{number_field, gf}
use Rattle.axe_row.specs.Rows.{RowValue}
use Rattle.axe_row.proofs.RowLaws.{same_row}
use Rattle.axe_matrix.specs.Matrices.{MatrixValue, IsMatrix, row_of, transposed_matrix}
use Rattle.axe_echelon.specs.Echelons.{EchelonValue, IsEchelon, IsRowSpace, IsNullSpaceMatrix}
use Rattle.axe_echelon.specs.Mirrored.{mirrored, IsMirrored, IsOrthogonalMirrored}
use Rattle.axe_echelon.specs.Orthogonal.{IsOrthogonalToSpace, IsMirroredVector}
use Rattle.axe_echelon.specs.OrthogonalPoints.{IsFirstPointOf, IsOrthogonalPoint, IsFirstFreeColumn}
use Rattle.axe_echelon.proofs.InverseLaws.{matrix_over}
use Rattle.axe_echelon.proofs.MirroredLaws.{mirrored_at, mirrored_length}
use Rattle.axe_echelon.proofs.MirroredBases.{IsUnitOrthogonal, last_at_no_pivot, zero_after}
use Rattle.axe_matrix.proofs.ReversedRows.{All-reverse}
use Rattle.axe_echelon.proofs.MirroredLists.{vector_of_reverse}
use Rattle.axe_echelon.proofs.OneMatrix.{over_of}
use Rattle.axe_echelon.proofs.SomeMatrix.{null_space_of_rows}
use Rattle.axe_echelon.proofs.Transposes.{orthogonal_of_null_space}
use mathlib.Core.Path.{sym, ◌∙◌, ap, subst}
use native.Mathlib.Omega.{arith}
use native.Mathlib.Decide.{ℕ_discrete, dec_lt}

module _ (F : Field) (n r : ℕ) (w : Matrix F) (rows : HasRowsOfLength F n w) (s : ℕ) (y : Matrix F) (lengths : HasRowsOfLength F n y)
    (basis : IsReducedBasisOf F (IsOrthogonalMirrored F n r w) s y) where
  -- the pivots of the space belong to columns that are no pivots of the rows
  pub pivot_inside : (p : ℕ) → IsPivot F s y p → p < n
  pivot_inside p pivot = by_place (dec_lt p n)
    where
      by_place : Dec (p < n) → p < n
      by_place (yes inside) = inside
      by_place (no past) = absurd (pivot.leads.nonzero ((basis.forth pivot.vector pivot.in_span).length p (omega arith)))

  pub pivot_is_free : (p : ℕ) → IsPivot F s y p → ¬ (IsPivot F r w (n - 1 - p))
  pivot_is_free p pivot of_rows =
      pivot.leads.nonzero (ap z (let back : p ≡ n - 1 - (n - 1 - p) = omega (arith, inside) in back)
      ∙ sym (mirrored_at F n z (n - 1 - p) (omega (arith, inside)))
      ∙ last_at_no_pivot F n r w rows (mirrored F n z) (n - 1 - p) (basis.forth z pivot.in_span).orthogonal of_rows (λ i above. after i above (dec_lt i n)))
    where
      z : Vector F
      z = pivot.vector

      inside : p < n
      inside = pivot_inside p pivot

      after : (i : ℕ) → n - 1 - p < i → Dec (i < n) → mirrored F n z i ≡ F.zero
      after i above (yes below) = mirrored_at F n z i below ∙ pivot.leads.before (n - 1 - i) (omega (arith, inside))
      after i above (no past) = mirrored_length F n z i (omega arith)

  -- where all columns are pivots of the rows there is none
  pub none_where_all : ((j : ℕ) → j < n → IsPivot F r w j) → s ≡ 0
  none_where_all all = by_size (dec_lt 0 s)
    where
      from : 0 < s → ⊥
      from some = pivot_is_free p pivot (all (n - 1 - p) (omega (arith, pivot_inside p pivot)))
        where
          p : ℕ
          p = basis.reduced.pivots 0

          pivot : IsPivot F s y p
          pivot = basis.reduced.are_pivots.each 0 some

      by_size : Dec (0 < s) → s ≡ 0
      by_size (yes some) = absurd (from some)
      by_size (no none) = omega arith

  -- a vector for a column that is none has the pivot of one row of the basis
  module _ (c : ℕ) (inside : c < n) (x : Vector F) (length : HasLength F n x) (unit : IsUnitOrthogonal F n r w c (mirrored F n x)) where
    abbrev p : ℕ → ℕ
    p = basis.reduced.pivots

    x_in_span : InSpan F s y x
    x_in_span = basis.back x (record { length = length; orthogonal = unit.within })

    x_at : x (n - 1 - c) ≡ F.one
    x_at = sym (mirrored_at F n x c inside) ∙ unit.one

    x_before : (i : ℕ) → i < n - 1 - c → x i ≡ F.zero
    x_before i ahead =
        ap x (let back : i ≡ n - 1 - (n - 1 - i) = omega (arith, inside, ahead) in back)
        ∙ sym (mirrored_at F n x (n - 1 - i) (omega (arith, inside)))
        ∙ zero_after F n r w rows c (mirrored F n x) unit n (n - 1 - i) (omega arith) (omega (arith, inside, ahead))

    pub place : (t : ℕ) × (t < s) × (p t ≡ n - 1 - c)
    place = basis.reduced.are_pivots.all (n - 1 - c) (record {
      vector = x;
      in_span = x_in_span;
      leads = record { nonzero = λ e. F.one-not-zero (sym x_at ∙ e); before = x_before };
    })

    -- where the columns before it are pivots, this is the last row
    module _ (before : (j : ℕ) → j < c → IsPivot F r w j) where
      -- no pivot of the space is past its place
      none_past : (q : ℕ) → IsPivot F s y q → q ≤ n - 1 - c
      none_past q pivot = by_place (dec_lt (n - 1 - q) c)
        where
          by_place : Dec (n - 1 - q < c) → q ≤ n - 1 - c
          by_place (yes earlier) = absurd (pivot_is_free q pivot (before (n - 1 - q) earlier))
          by_place (no later) = omega (arith, pivot_inside q pivot)

      last_place : (0 < s) × (p (s - 1) ≡ n - 1 - c)
      last_place = from place
        where
          from : (t : ℕ) × (t < s) × (p t ≡ n - 1 - c) → (0 < s) × (p (s - 1) ≡ n - 1 - c)
          from (t, below, found) = (omega arith, by_place (dec_lt t (s - 1)))
            where
              by_place : Dec (t < s - 1) → p (s - 1) ≡ n - 1 - c
              by_place (yes earlier) = absurd (omega (
                arith,
                basis.reduced.are_pivots.ascending t (s - 1) earlier (omega arith),
                none_past (p (s - 1)) (basis.reduced.are_pivots.each (s - 1) (omega arith)),
                found,
              ))
              by_place (no later) = ap p (let last : s - 1 ≡ t = omega arith in last) ∙ found

      pub last_is_first_free : (0 < s) × (x ≡ y (s - 1))
      last_is_first_free = (
        last_place.0,
        sym (same_at_pivots F n s y (y (s - 1)) x lengths (span_row F s y (s - 1) last) x_in_span
            (λ j pivot. at j (basis.reduced.are_pivots.all j pivot))),
      )
        where
          last : s - 1 < s
          last = omega (arith, last_place.0)

          at : (j : ℕ) → (t : ℕ) × (t < s) × (p t ≡ j) → y (s - 1) j ≡ x j
          at j (t, below, found) = by_place (ℕ_discrete t (s - 1))
            where
              by_place : Dec (t ≡ s - 1) → y (s - 1) j ≡ x j
              by_place (yes same) =
                  ap (y (s - 1)) (sym found ∙ ap p same) ∙ basis.reduced.one (s - 1) last
                  ∙ sym (ap x (sym found ∙ ap p same ∙ last_place.1) ∙ x_at)
              by_place (no other) =
                  ap (y (s - 1)) (sym found) ∙ basis.reduced.zero t (s - 1) below last other
                  ∙ sym (x_before j (omega (arith, found, last_place.1, basis.reduced.are_pivots.ascending t (s - 1) (omega (arith, below, other)) last)))

-- ---- of a subspace

module _ (e : EchelonValue) (h : IsEchelon e) (basis : MatrixValue) (well_formed : IsMatrix basis) (orthogonal : IsOrthogonalToSpace e basis) where
  abbrev K : NumberField
  K = number_field e.order

  basis_over : IsMatrixOver K e.cols basis.rows
  basis_over = over_of basis e.order e.cols well_formed orthogonal.field orthogonal.columns

  pub no_rows : ((j : ℕ) → j < e.cols → IsPivot (gf e.order) (length e.rows) (matrix_of K e.rows) j) → length basis.rows ≡ 0
  no_rows all = none_where_all (gf e.order) e.cols (length e.rows) (matrix_of K e.rows) (rows_length K e.cols e.rows h.over) (length basis.rows)
      (matrix_of K basis.rows) (rows_length K e.cols basis.rows basis_over) orthogonal.basis all

  pub last_row_is : (column : ℕ) (v : RowValue) → IsFirstFreeColumn e column → IsMirroredVector e column v → IsFirstPointOf basis (Some v)
  last_row_is column v first vector = (
    last.0,
    same_row v (row_of basis (length basis.rows - 1)) (vector.field ∙ sym orthogonal.field) (same_vector K e.cols v.entries (get_or basis.rows (length basis.rows - 1) []) v_over
        (row_over K e.cols basis.rows (length basis.rows - 1) basis_over (omega (arith, last.0))) last.1),
  )
    where
      v_over : IsVectorOver K e.cols v.entries
      v_over = subst (IsVectorOver K e.cols) (reverse-reverse v.entries) (record {
        length_is = length-reverse (reverse v.entries) ∙ vector.over.length_is;
        elements = All-reverse (λ number. number < K.order) (reverse v.entries) 0 vector.over.elements;
      })

      unit : IsUnitOrthogonal (gf e.order) e.cols (length e.rows) (matrix_of K e.rows) column (mirrored (gf e.order) e.cols (vector_of K v.entries))
      unit = subst (λ (x : Vector (gf e.order)). IsUnitOrthogonal (gf e.order) e.cols (length e.rows) (matrix_of K e.rows) column x)
          (vector_of_reverse K e.cols v.entries v_over.length_is)
          (record { within = vector.orthogonal; one = vector.one; zeros = vector.zeros })

      last : (0 < length basis.rows) × (vector_of K v.entries ≡ matrix_of K basis.rows (length basis.rows - 1))
      last = last_is_first_free (gf e.order) e.cols (length e.rows) (matrix_of K e.rows) (rows_length K e.cols e.rows h.over) (length basis.rows)
          (matrix_of K basis.rows) (rows_length K e.cols basis.rows basis_over) orthogonal.basis column first.within (vector_of K v.entries)
          (vector_length K e.cols v.entries v_over.length_is) unit first.before

-- ---- the first point

module _ (m turned : MatrixValue) (e : EchelonValue) (well : IsMatrix m) (mirrored_rows : IsMirrored m turned) (space : IsRowSpace turned e) where
  over : IsMatrixOver (number_field m.order) m.cols m.rows
  over = matrix_over m well

  some_basis : (basis : MatrixValue) × (IsNullSpaceMatrix (transposed_matrix m) basis × IsMatrix basis)
  some_basis = null_space_of_rows (transposed_matrix m) (transpose_over (number_field m.order) m.cols m.rows over)
      (omega (arith, transpose_length m.cols m.rows, well.some_column)) (omega (arith, transpose_length m.cols m.rows, well.columns_fit))

  pub point_is : (column : ℕ) (v : RowValue) → IsFirstFreeColumn e column → IsMirroredVector e column v → IsOrthogonalPoint m (Some v)
  point_is column v first vector = from some_basis
    where
      from : (basis : MatrixValue) × (IsNullSpaceMatrix (transposed_matrix m) basis × IsMatrix basis) → IsOrthogonalPoint m (Some v)
      from (basis, (null, well_formed)) = record {
        basis = basis;
        is_basis = null;
        well_formed = well_formed;
        first = last_row_is e space.well_formed basis well_formed (orthogonal_of_null_space m turned basis e over mirrored_rows space null) column v first vector;
      }

  pub no_point : ((j : ℕ) → j < e.cols → IsPivot (gf e.order) (length e.rows) (matrix_of (number_field e.order) e.rows) j) → IsOrthogonalPoint m None
  no_point all = from some_basis
    where
      from : (basis : MatrixValue) × (IsNullSpaceMatrix (transposed_matrix m) basis × IsMatrix basis) → IsOrthogonalPoint m None
      from (basis, (null, well_formed)) = record {
        basis = basis;
        is_basis = null;
        well_formed = well_formed;
        first = no_rows e space.well_formed basis well_formed (orthogonal_of_null_space m turned basis e over mirrored_rows space null) all;
      }
