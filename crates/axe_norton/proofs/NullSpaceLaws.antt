-- The null space of p(x), for a polynomial p that fits a square matrix x: the span of null vectors of p(x), where as many
-- of them are independent as p has degrees.
use Rattle.std.specs.Prelude.{◌≡◌, ℕ, suc, List, [], length, get_or, All}
use Rattle.std.proofs.lemmas.List.Elements.{All-get_or}
use Rattle.axe_algebra.specs.NumberField.{NumberField}
use Rattle.axe_algebra.specs.Field.{Field}
use Rattle.axe_algebra.specs.Vectors.{Vector, Matrix}
use Rattle.axe_algebra.specs.Spans.{InSpan, SpanWithin, IsNullVector}
use Rattle.axe_algebra.specs.Spans
use Rattle.axe_algebra.specs.Bridge.{field_of, vector_of, matrix_of}
use Rattle.axe_algebra.specs.Lists.{IsMatrixOver, IsSquareOver}
use Rattle.axe_algebra.specs.Reduced.{IsReducedBasisOf}
use Rattle.axe_algebra.specs.SpansOfLists.{HaveSameSpan, IsIndependent, IsNullSpaceBasis, IsReducedBasis}
use Rattle.axe_algebra.proofs.Exchange.{independent_rows_span}
use Rattle.axe_algebra.proofs.ListEntries.{row_over, rows_length}
use Rattle.axe_algebra.proofs.ReducedBases.{reduced_of_span}
use Rattle.axe_algebra.proofs.Spanning.{span_within}
use Rattle.axe_polynomial_algebra.specs.PolynomialValues.{polynomial_value}
use Rattle.axe_polynomial_algebra.specs.PolynomialsOfLists.{Annihilates, Fits, IsMonicOver, IsPolynomialValue, degree_of}
use Rattle.axe_field.specs.NumberFields.{number_field}
use Rattle.axe_matrix.specs.Matrices.{MatrixValue, IsMatrix}
use Rattle.axe_echelon.specs.Echelons.{EchelonValue, IsRowSpace, IsReducedMatrix}
use Rattle.axe_poly.specs.Polys.{PolyValue, IsPoly}
use Rattle.axe_norton.specs.NullRows.{AreNullPowers}
use Rattle.axe_norton.specs.ValueSpaces.{IsNullSpaceAt}
use Rattle.axe_norton.proofs.MisfitLaws.{null_of_annihilated}
use Rattle.axe_norton.proofs.NullRowLaws.{null_rows_over}
use mathlib.Core.Path.{sym, ◌∙◌, ap, subst}
use native.Mathlib.Omega.{arith}

module _ (K : NumberField) (n : ℕ) (x : List (List ℕ)) (p : List ℕ) (square : length x ≡ n) (monic : IsMonicOver K p)
    (fits : Fits K x p) (rows : List (List ℕ)) (over : IsMatrixOver K n rows) (null : All (λ row. Annihilates K x row p) rows)
    (space : List (List ℕ)) (over_space : IsMatrixOver K n space) (same : HaveSameSpan K rows space)
    (independent : IsIndependent K space) (as_many : length space ≡ degree_of p) where
  abbrev F : Field
  F = field_of K

  abbrev value_of_vector : Matrix F
  value_of_vector = polynomial_value F (length x) (suc (degree_of p)) (vector_of K p) (matrix_of K x)

  -- they are in the null space
  rows_within : SpanWithin F (length rows) (matrix_of K rows) (degree_of p) fits.basis
  rows_within t below =
      fits.spans.back (matrix_of K rows t)
      (null_of_annihilated K n x p (get_or rows t []) square monic (row_over K n rows t over below)
      (All-get_or (λ row. Annihilates K x row p) rows t [] below null))

  space_within : SpanWithin F (length space) (matrix_of K space) (degree_of p) fits.basis
  space_within t below =
      span_within F (length rows) (matrix_of K rows) (degree_of p) fits.basis (matrix_of K space t) rows_within
      (same.back t below)

  spanned_is_null : (w : Vector F) → InSpan F (length space) (matrix_of K space) w → IsNullVector F (length x) value_of_vector w
  spanned_is_null w spanned =
      fits.spans.forth w
      (span_within F (length space) (matrix_of K space) (degree_of p) fits.basis w space_within spanned)

  -- and span it
  null_is_spanned : (w : Vector F) → IsNullVector F (length x) value_of_vector w → InSpan F (length space) (matrix_of K space) w
  null_is_spanned w of_w =
      subst (λ k. InSpan F k (matrix_of K space) w) (sym as_many)
      (independent_rows_span F (degree_of p) (matrix_of K space) fits.basis w
      (subst (λ k. Spans.IsIndependent F k (matrix_of K space)) as_many independent)
      (subst (λ k. SpanWithin F k (matrix_of K space) (degree_of p) fits.basis) as_many space_within) (fits.spans.back w of_w))

  -- so the reduced basis of their span is that of the null space
  pub reduced_of_null_rows : (basis value : List (List ℕ)) → IsReducedBasis K space basis → IsPolynomialValue K p x value →
      IsNullSpaceBasis K value basis
  reduced_of_null_rows basis value is is_value = record {
    forth = λ w spanned. at_value w (spanned_is_null w (by_space.forth w spanned));
    back = λ w of_w. by_space.back w (null_is_spanned w (of_value w of_w));
    reduced = by_space.reduced;
  }
    where
      by_space : IsReducedBasisOf F (InSpan F (length space) (matrix_of K space)) (length basis) (matrix_of K basis)
      by_space = reduced_of_span F n (length space) (matrix_of K space) (length basis) (matrix_of K basis)
          (rows_length K n space over_space) is

      equals : matrix_of K value ≡ value_of_vector
      equals =
          is_value.equals
          ∙ (let coefficients : length p ≡ suc (degree_of p) = omega (arith, monic.positive) in
          ap (λ m. polynomial_value F (length x) m (vector_of K p) (matrix_of K x)) coefficients)

      at_value : (w : Vector F) → IsNullVector F (length x) value_of_vector w → IsNullVector F (length value) (matrix_of K value) w
      at_value w of_w =
          subst (λ m. IsNullVector F m (matrix_of K value) w) (sym is_value.square.length_is)
          (subst (λ (a : Matrix F). IsNullVector F (length x) a w) (sym equals) of_w)

      of_value : (w : Vector F) → IsNullVector F (length value) (matrix_of K value) w → IsNullVector F (length x) value_of_vector w
      of_value w of_w =
          subst (λ (a : Matrix F). IsNullVector F (length x) a w) equals
          (subst (λ m. IsNullVector F m (matrix_of K value) w) is_value.square.length_is of_w)

-- the null space of p(x) is the reduced basis of the rows' span
pub null_space_of_rows : (x : MatrixValue) (p : PolyValue) (rows : MatrixValue) (e : EchelonValue) (null : MatrixValue) →
    IsSquareOver (number_field x.order) x.cols x.rows → p.order ≡ x.order → IsPoly p →
    Fits (number_field x.order) x.rows p.coefficients → AreNullPowers x p rows → IsRowSpace rows e →
    length e.rows ≡ degree_of p.coefficients → IsReducedMatrix e null → IsMatrix null → IsNullSpaceAt x p null
null_space_of_rows x p rows e null square field poly fits are space as_many reduced formed = record {
  each = λ value is_value. record {
    field = reduced.field ∙ e_field ∙ sym is_value.field;
    columns = reduced.columns ∙ e_columns ∙ sym (is_value.value_is.square.length_is ∙ square.length_is);
    basis_of_null_space = subst (λ o. IsNullSpaceBasis (number_field o) value.rows null.rows) (sym is_value.field)
        (reduced_of_null_rows (number_field x.order) x.cols x.rows p.coefficients square.length_is
        (subst (λ o. IsMonicOver (number_field o) p.coefficients) field poly) fits rows.rows
        (null_rows_over x p rows are) are.null e.rows
        (subst (λ k. IsMatrixOver (number_field x.order) k e.rows) e_columns
        (subst (λ o. IsMatrixOver (number_field o) e.cols e.rows) e_field space.well_formed.over))
        (subst (λ o. HaveSameSpan (number_field o) rows.rows e.rows) are.powers.field space.same)
        (subst (λ o. IsIndependent (number_field o) e.rows) e_field space.well_formed.independent) as_many null.rows value.rows
        (subst (λ o. IsReducedBasis (number_field o) e.rows null.rows) e_field reduced.basis) is_value.value_is);
  };
  well_formed = formed;
}
  where
    e_field : e.order ≡ x.order
    e_field = space.field ∙ are.powers.field

    e_columns : e.cols ≡ x.cols
    e_columns = space.columns ∙ are.powers.columns
