-- The spaces of p(x) where the first unit vector is cyclic: that p fits, and the rows that span what those of p(x) span.
use Rattle.std.specs.Prelude.{◌≡◌, ℕ, suc, ◌+◌, ◌-◌, ◌<◌, ◌≤◌, List, [], ◌∷◌, ◌++◌, length, slice_index}
use Rattle.axe_algebra.specs.NumberField.{NumberField}
use Rattle.axe_algebra.specs.Field.{Field}
use Rattle.axe_algebra.specs.Vectors.{Vector, add_vectors, scale, times}
use Rattle.axe_algebra.specs.Bridge.{element, vector_of, matrix_of}
use Rattle.axe_algebra.specs.Lists.{unit_row, IsVectorOver, IsMatrixOver, IsSquareOver}
use Rattle.axe_algebra.specs.SpansOfLists.{HaveSameSpan}
use Rattle.axe_algebra.proofs.ElementNumbers.{element_one}
use Rattle.axe_algebra.proofs.FieldLaws.{zero-add, one-mul}
use Rattle.axe_algebra.proofs.ListSpans.{appended_length, appended_before, appended_last}
use Rattle.axe_algebra.proofs.ProductLaws.{times_none, times_more}
use Rattle.axe_polynomial_algebra.specs.PolynomialValues.{power_rows}
use Rattle.axe_polynomial_algebra.specs.PolynomialsOfLists.{degree_of, IsMonicOver, Divides, IsPolynomialValue}
use Rattle.axe_polynomial_algebra.specs.PolynomialsOfLists.{Fits}
use Rattle.axe_polynomial_algebra.proofs.MinimalLists.{ArePowerRows, power_row_is}
use Rattle.axe_polynomial_algebra.proofs.ValueLists.{list_value_exists}
use Rattle.axe_field.specs.Order.{IsElement}
use Rattle.axe_field.specs.NumberFields.{number_field, gf}
use Rattle.axe_row.specs.Operations.{row_with_multiple}
use Rattle.axe_row.specs.Rows.{RowValue, IsRow}
use Rattle.axe_matrix.specs.Matrices.{MatrixValue, row_of}
use Rattle.axe_echelon.proofs.ClearingLaws.{vector_of_sum}
use Rattle.axe_echelon.proofs.FormLaws.{below_or_at}
use Rattle.axe_echelon.proofs.InverseLaws.{matrix_over}
use Rattle.axe_echelon.proofs.StepLaws.{over_of_row, below_of_element}
use Rattle.axe_poly.specs.declared.minimal.CyclicBasis.{CyclicBasis}
use Rattle.axe_poly.specs.Polys.{PolyValue, IsPoly, IsValueAt}
use Rattle.axe_poly.specs.Powers.{IsCyclicBasis}
use Rattle.axe_norton.specs.SmallFactors.{first_unit_row}
use Rattle.axe_norton.specs.ValueSpaces.{FitsWithSpaces, IsNullSpaceAt, polynomial_row, IsPolynomialRow, ArePolynomialRows}
use Rattle.axe_polynomial_algebra.proofs.CyclicLists.{list_cyclic_divisor_fits, list_cyclic_rows_span_value}
use Rattle.axe_norton.proofs.FactorLaws.{unit_over, divisor_degree}
use mathlib.Core.Path.{refl, sym, ◌∙◌, ap, subst, fun_ext}
use native.Mathlib.Omega.{arith}

-- ---- cyclic bases

module _ (x : MatrixValue) (square : IsSquareOver (number_field x.order) x.cols x.rows) (v : RowValue)
    (over_v : IsVectorOver (number_field x.order) x.cols v.entries) (basis : CyclicBasis) (is : IsCyclicBasis x v basis) where
  abbrev K : NumberField
  K = number_field x.order

  abbrev F : Field
  F = gf x.order

  over_basis : IsMatrixOver K x.cols basis.rows.rows
  over_basis = subst (λ k. IsMatrixOver K k basis.rows.rows) is.columns
      (subst (λ o. IsMatrixOver (number_field o) basis.rows.cols basis.rows.rows) is.field
      (matrix_over basis.rows is.well_formed))

  -- the rows are v, v x and so on
  basis_powers : (t : ℕ) → t < length basis.rows.rows →
      matrix_of K basis.rows.rows t ≡ power_rows F x.cols (matrix_of K x.rows) (vector_of K v.entries) t
  basis_powers =
      let powers : ArePowerRows K x.cols x.rows v.entries square over_v basis.rows.rows =
      record { first = is.powers.first; next = is.powers.next } in
      power_row_is K x.cols x.rows v.entries square over_v basis.rows.rows over_basis powers

-- ---- a divisor p of the minimal polynomial of the first unit vector

module _ (x : MatrixValue) (p : PolyValue) (first : CyclicBasis) (square : IsSquareOver (number_field x.order) x.cols x.rows)
    (field : p.order ≡ x.order)
    (is : IsCyclicBasis x (first_unit_row x) first) (poly : IsPoly p)
    (divides : Divides (number_field x.order) p.coefficients first.minimal.coefficients) where
  abbrev L : NumberField
  L = number_field x.order

  monic : IsMonicOver L p.coefficients
  monic = subst (λ o. IsMonicOver (number_field o) p.coefficients) field poly

  over_unit : IsVectorOver L x.cols (unit_row x.cols 0)
  over_unit = unit_over L x.cols 0

  pub divisor_is_no_greater : degree_of p.coefficients ≤ degree_of first.minimal.coefficients
  divisor_is_no_greater = divisor_degree x first.minimal square is.minimal p.coefficients monic divides

  module _ (cyclic : degree_of first.minimal.coefficients ≡ x.cols) where
    pub cyclic_fits : Fits L x.rows p.coefficients
    cyclic_fits =
        list_cyclic_divisor_fits L x.cols x.rows (unit_row x.cols 0) first.minimal.coefficients p.coefficients square over_unit
        is.minimal.minimal
        cyclic monic divides

    rows_span : (rows : MatrixValue) (value : List (List ℕ)) → IsPolynomialValue L p.coefficients x.rows value →
        ArePolynomialRows first.rows p (length first.rows.rows - degree_of p.coefficients) rows → HaveSameSpan L rows.rows value
    rows_span rows value is_value are =
        list_cyclic_rows_span_value L x.cols x.rows value first.rows.rows rows.rows (unit_row x.cols 0)
        first.minimal.coefficients p.coefficients
        square over_unit is.minimal.minimal cyclic monic divides is_value (is.count ∙ cyclic)
        (λ t below. basis_powers x square (first_unit_row x) over_unit first is t (omega (arith, below, is.count, cyclic)))
        (omega (arith, are.counted, is.count, divisor_is_no_greater, cyclic))
        (λ t below. subst (λ o. matrix_of (number_field o) rows.rows t ≡
        times (gf o) (length p.coefficients) (vector_of (number_field o) p.coefficients)
        (λ j. matrix_of (number_field o) first.rows.rows (t + j)))
        is.field (are.each t (omega (arith, below, are.counted))))

    pub cyclic_spaces : (null rows : MatrixValue) → IsNullSpaceAt x p null →
        ArePolynomialRows first.rows p (length first.rows.rows - degree_of p.coefficients) rows →
        FitsWithSpaces x p (record { null_space = null; rows = rows })
    cyclic_spaces null rows of_null are = at_value (list_value_exists L x.cols p.coefficients x.rows square)
      where
        at_value : (value : List (List ℕ)) × IsPolynomialValue L p.coefficients x.rows value →
            FitsWithSpaces x p (record { null_space = null; rows = rows })
        at_value (value, is_value) =
            let matrix : MatrixValue = record { order = x.order; cols = x.cols; rows = value } in
            let is_at : IsValueAt p.coefficients x matrix = record { field = refl; columns = refl; value_is = is_value } in (
              cyclic_fits,
              record {
                tested = record { matrix = matrix; null_space = null };
                is_tested = record {
                  value = is_at;
                  tested = record { null_space = of_null.each matrix is_at; well_formed = of_null.well_formed };
                };
                of_tested = record {
                  null_space = refl;
                  field = are.field ∙ is.field;
                  columns = are.columns ∙ is.columns;
                  span = rows_span rows value is_value are;
                };
              },
            )

-- ---- the rows of p(x), one after the other

module _ (basis : MatrixValue) (p : PolyValue) where
  abbrev M : NumberField
  M = number_field basis.order

  abbrev E : Field
  E = gf basis.order

  pub no_polynomial_rows : (rows : MatrixValue) → rows ≡ record { order = basis.order; cols = basis.cols; rows = [] } →
      ArePolynomialRows basis p 0 rows
  no_polynomial_rows rows is = record {
    field = ap (λ (r : MatrixValue). r.order) is;
    columns = ap (λ (r : MatrixValue). r.cols) is;
    counted = ap (λ (r : MatrixValue). length r.rows) is;
    each = λ t below. absurd (omega (arith, below));
  }

  pub polynomial_row_more : (count : ℕ) (rows next : MatrixValue) (row : RowValue) → ArePolynomialRows basis p count rows →
      IsPolynomialRow basis p count row →
      next ≡ record rows { rows = rows.rows ++ row.entries ∷ [] } → ArePolynomialRows basis p (count + 1) next
  polynomial_row_more count rows next row are is same = record {
    field = ap (λ (r : MatrixValue). r.order) same ∙ are.field;
    columns = ap (λ (r : MatrixValue). r.cols) same ∙ are.columns;
    counted = ap (λ (r : MatrixValue). length r.rows) same ∙ appended_length M rows.rows row.entries
        ∙ omega (arith, are.counted);
    each = λ t below.
        ap (λ (r : MatrixValue). matrix_of M r.rows t) same
        ∙ below_or_at (λ t. matrix_of M (rows.rows ++ row.entries ∷ []) t ≡ polynomial_row basis p t) count
        (λ t before. appended_before M rows.rows row.entries t (omega (arith, before, are.counted)) ∙ are.each t before)
        (ap (matrix_of M (rows.rows ++ row.entries ∷ [])) (sym are.counted) ∙ appended_last M rows.rows row.entries ∙ is.sum)
        t (omega (arith, below));
  }

  -- ---- one of them: the last row as it is, and the first ones, each times its coefficient

  -- the row has the last and the first so many
  pub record IsRowUpTo (start count : ℕ) (row : RowValue) : Type 0 where
    pub field : row.order ≡ basis.order
    pub over : IsVectorOver M basis.cols row.entries
    pub sum : vector_of M row.entries ≡
        add_vectors E (times E count (vector_of M p.coefficients) (λ j. matrix_of M basis.rows (start + j)))
        (matrix_of M basis.rows (start + degree_of p.coefficients))
    pub within : count ≤ degree_of p.coefficients

  module _ (field : p.order ≡ basis.order) (poly : IsPoly p) (start : ℕ) where
    abbrev first_rows : ℕ → Vector E
    first_rows count = times E count (vector_of M p.coefficients) (λ j. matrix_of M basis.rows (start + j))

    abbrev last_row : Vector E
    last_row = matrix_of M basis.rows (start + degree_of p.coefficients)

    over_row : (place : ℕ) (row : RowValue) → row ≡ row_of basis place → length row.entries ≡ basis.cols → IsRow row →
        IsVectorOver M basis.cols row.entries
    over_row place row is long formed = over_of_row basis.order basis.cols row (ap (λ (r : RowValue). r.order) is) formed long

    pub row_start : (last row : RowValue) → last ≡ row_of basis (start + degree_of p.coefficients) →
        length last.entries ≡ basis.cols → IsRow last →
        row ≡ last → IsRowUpTo start 0 row
    row_start last row is long formed copied = record {
      field = ap (λ (r : RowValue). r.order) (copied ∙ is);
      over = subst (λ (r : RowValue). IsVectorOver M basis.cols r.entries) (sym copied)
          (over_row (start + degree_of p.coefficients) last is long formed);
      sum = ap (λ (r : RowValue). vector_of M r.entries) (copied ∙ is)
          ∙ (fun_ext λ j. sym (zero-add E (last_row j)))
          ∙ ap (λ (y : Vector E). add_vectors E y last_row)
          (sym (times_none E (vector_of M p.coefficients) (λ j. matrix_of M basis.rows (start + j))));
      within = omega arith;
    }

    pub row_more : (count c : ℕ) (row other next : RowValue) → IsRowUpTo start count row → count < degree_of p.coefficients →
        c ≡ slice_index p.coefficients count → IsElement p.order c → other ≡ row_of basis (start + count) →
        length other.entries ≡ basis.cols →
        IsRow other → next ≡ row_with_multiple row c other → length next.entries ≡ length row.entries → IsRow next →
        IsRowUpTo start (count + 1) next
    row_more count c row other next up_to inside c_is is_element other_is other_long other_formed is as_long formed = record {
      field = next_field;
      over = over_next;
      sum = vector_of_sum basis.order basis.cols row other next c up_to.field up_to.over over_other is over_next below
          ∙ ap (λ (y : Vector E). add_vectors E y term) up_to.sum
          ∙ (fun_ext λ j. E.add_assoc (first_rows count j) (last_row j) (term j)
          ∙ ap (E.add (first_rows count j)) (E.add_comm (last_row j) (term j))
          ∙ sym (E.add_assoc (first_rows count j) (term j) (last_row j)))
          ∙ ap (λ (y : Vector E). add_vectors E (add_vectors E (first_rows count) y) last_row) term_is
          ∙ ap (λ (y : Vector E). add_vectors E y last_row)
          (sym (times_more E count (vector_of M p.coefficients) (λ j. matrix_of M basis.rows (start + j)))
          ∙ (let one_more : suc count ≡ count + 1 = omega arith in ap first_rows one_more));
      within = omega (arith, inside);
    }
      where
        next_field : next.order ≡ basis.order
        next_field = ap (λ (r : RowValue). r.order) is ∙ up_to.field

        over_other : IsVectorOver M basis.cols other.entries
        over_other = over_row (start + count) other other_is other_long other_formed

        over_next : IsVectorOver M basis.cols next.entries
        over_next = over_of_row basis.order basis.cols next next_field formed (as_long ∙ up_to.over.length_is)

        below : c < M.order
        below = subst (λ o. c < (number_field o).order) field (below_of_element p.order c is_element)

        term : Vector E
        term = scale E (element M c) (vector_of M other.entries)

        term_is : term ≡ scale E (vector_of M p.coefficients count) (matrix_of M basis.rows (start + count))
        term_is =
            ap (λ (e : E.Element). scale E e (vector_of M other.entries)) (ap (element M) c_is)
            ∙ ap (λ (r : RowValue). scale E (vector_of M p.coefficients count) (vector_of M r.entries)) other_is

    -- all of them
    pub row_all : (count : ℕ) (row : RowValue) → IsRowUpTo start count row → degree_of p.coefficients ≤ count →
        IsPolynomialRow basis p start row
    row_all count row up_to all = record {
      field = up_to.field;
      over = up_to.over;
      sum = up_to.sum
          ∙ (let whole : count ≡ degree_of p.coefficients = omega (arith, all, up_to.within) in
          ap (λ k. add_vectors E (first_rows k) last_row) whole)
          ∙ ap (add_vectors E (first_rows (degree_of p.coefficients)))
          ((fun_ext λ j. sym (one-mul E (last_row j))) ∙ ap (λ (e : E.Element). scale E e last_row)
          (sym (element_one M) ∙ ap (element M) (sym poly.leads)))
          ∙ sym (times_more E (degree_of p.coefficients) (vector_of M p.coefficients) (λ j. matrix_of M basis.rows (start + j)))
          ∙ (let coefficients : suc (degree_of p.coefficients) ≡ length p.coefficients = omega (arith, poly.positive) in
          ap first_rows coefficients);
    }
