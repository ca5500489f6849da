-- The rows u, u x, u x^2 and so on for a square matrix x: null vectors of p(x) where their sum with the coefficients of p
-- is zero.
use Rattle.std.specs.Prelude.{◌≡◌, ℕ, ◌+◌, ◌-◌, ◌<◌, List, [], ◌∷◌, ◌++◌, length, get_or, All, Bool}
use Rattle.std.proofs.lemmas.List.Elements.{All-from_get_or, All-get_or}
use Rattle.axe_algebra.specs.NumberField.{NumberField}
use Rattle.axe_algebra.specs.Field.{Field}
use Rattle.axe_algebra.specs.Vectors.{Vector, Matrix, zero_vector, times}
use Rattle.axe_algebra.specs.Spans.{IsNullVector}
use Rattle.axe_algebra.specs.Bridge.{field_of, vector_of, matrix_of}
use Rattle.axe_algebra.specs.Lists.{IsVectorOver, IsMatrixOver, IsSquareOver}
use Rattle.axe_algebra.specs.ListArithmetic.{combination}
use Rattle.axe_algebra.proofs.ListEntries.{row_over, square_shape, vector_length}
use Rattle.axe_algebra.proofs.ListSpans.{appended_length}
use Rattle.axe_algebra.proofs.ProductLaws.{times_same}
use Rattle.axe_polynomial_algebra.specs.PolynomialValues.{polynomial_value, power_rows}
use Rattle.axe_polynomial_algebra.specs.PolynomialsOfLists.{Annihilates, degree_of}
use Rattle.axe_polynomial_algebra.proofs.MinimalLists.{ArePowerRows, power_row_is, power_rows_appended}
use Rattle.axe_polynomial_algebra.proofs.ValueLaws.{times-value}
use Rattle.axe_polynomial_algebra.proofs.VectorRows.{null_vector_power}
use Rattle.axe_field.specs.Order.{Order}
use Rattle.axe_field.specs.NumberFields.{number_field, gf}
use Rattle.axe_row.specs.Operations.{IsZeroVector}
use Rattle.axe_row.specs.Rows.{RowValue}
use Rattle.axe_matrix.specs.Matrices.{MatrixValue, IsMatrix, row_of, vector_product}
use Rattle.axe_echelon.specs.Echelons.{EchelonValue, with_row_where}
use Rattle.axe_echelon.proofs.EliminationLaws.{vector_of_zero_row}
use Rattle.axe_echelon.proofs.InverseLaws.{matrix_over}
use Rattle.axe_poly.specs.Polys.{PolyValue, IsPoly}
use Rattle.axe_poly.specs.Powers.{ArePowers}
use Rattle.axe_norton.specs.Misfits.{AreNullRows}
use Rattle.axe_norton.specs.NullRows.{AreFirstPowers, AreNullPowers}
use Rattle.axe_norton.specs.ValueSpaces.{IsPolynomialRow}
use Rattle.axe_norton.proofs.MisfitLaws.{null_inserted}
use mathlib.Core.Path.{refl, sym, ◌∙◌, ap, subst}
use native.Mathlib.Omega.{arith}

-- ---- over lists: u p(x) is the sum, and with u each u x^t is a null vector

module _ (K : NumberField) (n : ℕ) (x : List (List ℕ)) (u p : List ℕ) (rows : List (List ℕ)) (square : IsSquareOver K n x)
    (over_u : IsVectorOver K n u) (over : IsMatrixOver K n rows) (powers : ArePowerRows K n x u square over_u rows)
    (counted : length rows ≡ length p) where
  abbrev F : Field
  F = field_of K

  abbrev value : Matrix F
  value = polynomial_value F n (length p) (vector_of K p) (matrix_of K x)

  power_is : (t : ℕ) → t < length rows → matrix_of K rows t ≡ power_rows F n (matrix_of K x) (vector_of K u) t
  power_is = power_row_is K n x u square over_u rows over powers

  pub null_of_sum : times F (length p) (vector_of K p) (matrix_of K rows) ≡ zero_vector F → All (λ row. Annihilates K x row p) rows
  null_of_sum vanishes = All-from_get_or (λ row. Annihilates K x row p) rows [] null_at
    where
      null_first : IsNullVector F n value (vector_of K u)
      null_first = record {
        length = vector_length K n u over_u.length_is;
        vanishes =
            times-value F n (matrix_of K x) (length p) (vector_of K p) (vector_of K u)
            ∙ times_same F (length p) (vector_of K p) (vector_of K p) (power_rows F n (matrix_of K x) (vector_of K u))
            (matrix_of K rows) (λ t below. refl) (λ t below. sym (power_is t (omega (arith, below, counted))))
            ∙ vanishes;
      }

      null_at : (t : ℕ) → t < length rows → Annihilates K x (get_or rows t []) p
      null_at t below =
          subst
          (λ m. times F m (matrix_of K rows t) (polynomial_value F m (length p) (vector_of K p) (matrix_of K x)) ≡ zero_vector F)
          (sym square.length_is)
          (ap (λ (y : Vector F). times F n y value) (power_is t below)
          ∙ (null_vector_power F n (matrix_of K x) (square_shape K n x square) (length p) (vector_of K p) (vector_of K u)
          null_first t).vanishes)

-- ---- the rows of a matrix

module _ (x : MatrixValue) where
  abbrev L : NumberField
  L = number_field x.order

  -- they are vectors over the field of x
  rows_over : (u : List ℕ) (count : ℕ) (rows : MatrixValue) → AreFirstPowers x u count rows → IsMatrixOver L x.cols rows.rows
  rows_over u count rows are =
      subst (λ k. IsMatrixOver L k rows.rows) are.columns
      (subst (λ o. IsMatrixOver (number_field o) rows.cols rows.rows) are.field (matrix_over rows are.well_formed))

  over_first : (u : List ℕ) (count : ℕ) (rows : MatrixValue) → AreFirstPowers x u count rows → 0 < count → IsVectorOver L x.cols u
  over_first u count rows are some =
      let inside : 0 < length rows.rows = omega (arith, are.counted, some) in
      subst (IsVectorOver L x.cols) (are.powers.first inside) (row_over L x.cols rows.rows 0 (rows_over u count rows are) inside)

  -- the first of them
  pub first_power : (u : List ℕ) (o : Order) (n : ℕ) (none rows : MatrixValue) → o ≡ x.order → n ≡ x.cols →
      none ≡ record { order = o; cols = n; rows = [] } → rows ≡ record none { rows = none.rows ++ u ∷ [] } → IsMatrix rows →
      AreFirstPowers x u 1 rows
  first_power u o n none rows field columns empty is formed = record {
    field = ap (λ (m : MatrixValue). m.order) same ∙ field;
    columns = ap (λ (m : MatrixValue). m.cols) same ∙ columns;
    counted = ap (λ (m : MatrixValue). length m.rows) same;
    powers = subst (λ (m : MatrixValue). ArePowers x u m.rows) (sym same)
        (record { first = λ some. refl; next = λ t below. absurd (omega (arith, below)) });
    well_formed = formed;
  }
    where
      same : rows ≡ record { order = o; cols = n; rows = u ∷ [] }
      same = is ∙ ap (λ (m : MatrixValue). record m { rows = m.rows ++ u ∷ [] }) empty

  -- one more
  pub one_power_more : (u : List ℕ) (count : ℕ) (rows more : MatrixValue) (last row : RowValue) →
      IsSquareOver L x.cols x.rows → AreFirstPowers x u count rows → 0 < count → last ≡ row_of rows (count - 1) →
      row ≡ vector_product last x → more ≡ record rows { rows = rows.rows ++ row.entries ∷ [] } → IsMatrix more →
      AreFirstPowers x u (count + 1) more
  one_power_more u count rows more last row square are some is_last product is formed = record {
    field = ap (λ (m : MatrixValue). m.order) is ∙ are.field;
    columns = ap (λ (m : MatrixValue). m.cols) is ∙ are.columns;
    counted = ap (λ (m : MatrixValue). length m.rows) is ∙ appended_length L rows.rows row.entries ∙ omega (arith, are.counted);
    powers = subst (λ (m : MatrixValue). ArePowers x u m.rows) (sym is)
        (record { first = appended.first; next = appended.next });
    well_formed = formed;
  }
    where
      over_u : IsVectorOver L x.cols u
      over_u = over_first u count rows are some

      appended : ArePowerRows L x.cols x.rows u square over_u (rows.rows ++ row.entries ∷ [])
      appended = power_rows_appended L x.cols x.rows u square over_u rows.rows row.entries
          (record { first = are.powers.first; next = are.powers.next }) (λ none. absurd (omega (arith, none, some, are.counted)))
          (λ t e. ap (λ (r : RowValue). r.entries) product
          ∙ ap (λ (r : RowValue). combination L x.cols r.entries x.rows) is_last
          ∙ (let place : count - 1 ≡ t = omega (arith, e, are.counted) in
          ap (λ k. combination L x.cols (get_or rows.rows k []) x.rows) place))

  -- they are null vectors of p(x) where the sum is zero
  pub null_powers : (p : PolyValue) (u : List ℕ) (rows : MatrixValue) (sum : RowValue) → IsSquareOver L x.cols x.rows →
      IsPoly p → AreFirstPowers x u (degree_of p.coefficients + 1) rows → ¬ (IsZeroVector u) → IsPolynomialRow rows p 0 sum →
      IsZeroVector sum.entries → AreNullPowers x p rows
  null_powers p u rows sum square poly are nonzero is_sum zeros = record {
    powers = subst (λ v. AreFirstPowers x v (degree_of p.coefficients + 1) rows) (sym first) are;
    nonzero = subst (λ v. ¬ (IsZeroVector v)) (sym first) nonzero;
    null = null_of_sum L x.cols x.rows u p.coefficients rows.rows square
        (over_first u (degree_of p.coefficients + 1) rows are (omega arith))
        (rows_over u (degree_of p.coefficients + 1) rows are)
        (record { first = are.powers.first; next = are.powers.next }) (omega (arith, are.counted, poly.positive)) vanishes;
  }
    where
      first : get_or rows.rows 0 [] ≡ u
      first = are.powers.first (omega (arith, are.counted))

      vanishes : times (gf x.order) (length p.coefficients) (vector_of L p.coefficients) (matrix_of L rows.rows) ≡ zero_vector (gf x.order)
      vanishes =
          subst (λ o. times (gf o) (length p.coefficients) (vector_of (number_field o) p.coefficients)
          (matrix_of (number_field o) rows.rows) ≡ zero_vector (gf o)) are.field
          (times_same (gf rows.order) (length p.coefficients) (vector_of (number_field rows.order) p.coefficients)
          (vector_of (number_field rows.order) p.coefficients) (matrix_of (number_field rows.order) rows.rows)
          (λ j. matrix_of (number_field rows.order) rows.rows (0 + j)) (λ j below. refl)
          (λ j below. let place : j ≡ 0 + j = omega arith in ap (matrix_of (number_field rows.order) rows.rows) place)
          ∙ sym is_sum.sum ∙ vector_of_zero_row (number_field rows.order) sum.entries zeros)

  pub null_rows_over : (p : PolyValue) (rows : MatrixValue) → AreNullPowers x p rows → IsMatrixOver L x.cols rows.rows
  null_rows_over p rows are = rows_over (get_or rows.rows 0 []) (degree_of p.coefficients + 1) rows are.powers

  -- one of them is inserted
  pub null_power_inserted : (p : PolyValue) (rows : MatrixValue) (old new : EchelonValue) (is_new : Bool) (place : ℕ)
      (row copy : RowValue) → AreNullRows x p old → AreNullPowers x p rows → place < degree_of p.coefficients →
      row ≡ row_of rows place → copy ≡ row → new ≡ with_row_where is_new old copy.entries → AreNullRows x p new
  null_power_inserted p rows old new is_new place row copy found are below is copied inserted =
      null_inserted x p old new is_new copy.entries found
      (subst (λ (r : RowValue). Annihilates L x.rows r.entries p.coefficients) (sym (copied ∙ is))
      (All-get_or (λ r. Annihilates L x.rows r p.coefficients) rows.rows place [] (omega (arith, below, are.powers.counted)) are.null))
      inserted
