-- Rows over a field by their number of entries, and null vectors that are more than the degree of a polynomial.
use Rattle.std.specs.Prelude.{◌≡◌, ℕ, suc, ◌<◌, ◌≤◌, List, [], ◌∷◌, length, get_or, All, Bool, true, false, cond, eqb, slice_set}
use Rattle.std.proofs.lemmas.List.{length-set}
use Rattle.std.proofs.lemmas.List.Elements.{All-get_or, All-append, All-cons, All-nil}
use Rattle.axe_algebra.specs.NumberField.{NumberField}
use Rattle.axe_algebra.specs.Bridge.{field_of, vector_of, matrix_of}
use Rattle.axe_algebra.specs.Lists.{IsVectorOver, IsMatrixOver, IsSquareOver, unit_row}
use Rattle.axe_algebra.specs.Field.{Field}
use Rattle.axe_algebra.specs.Vectors.{times, zero_vector}
use Rattle.axe_algebra.specs.Spans.{IsNullVector}
use Rattle.axe_algebra.specs.SpansOfLists.{IsIndependent}
use Rattle.axe_algebra.proofs.Exchange.{exchange}
use Rattle.axe_algebra.proofs.ListEntries.{listed_length, listed_at, row_over, vector_length}
use Rattle.axe_polynomial_algebra.specs.PolynomialValues.{polynomial_value}
use Rattle.axe_polynomial_algebra.specs.PolynomialsOfLists.{Annihilates, Fits, degree_of, IsMonicOver}
use Rattle.axe_field.specs.Order.{Order}
use Rattle.axe_field.specs.NumberFields.{number_field}
use Rattle.axe_row.specs.Operations.{IsZeroVector, row_with_multiple}
use Rattle.axe_row.specs.Rows.{RowValue}
use Rattle.axe_matrix.specs.Matrices.{MatrixValue}
use Rattle.axe_echelon.specs.Echelons.{EchelonValue, IsEchelon, with_row_where}
use Rattle.axe_poly.specs.declared.minimal.CyclicBasis.{CyclicBasis}
use Rattle.axe_poly.specs.Polys.{PolyValue, IsPoly}
use Rattle.axe_poly.specs.Powers.{IsCyclicBasis}
use Rattle.axe_norton.specs.Misfits.{IsRowLike, IsBasisLike, AreNullRows}
use mathlib.Core.Path.{sym, ◌∙◌, ap, subst}
use native.Mathlib.Omega.{arith}

-- ---- rows

-- an entry that is set leaves the number of entries
pub like_set : (o : Order) (n : ℕ) (row new : RowValue) (i e : ℕ) → IsRowLike o n row →
    new ≡ record { order = row.order; entries = slice_set row.entries i e } → IsRowLike o n new
like_set o n row new i e like is = record {
  field = ap (λ (r : RowValue). r.order) is ∙ like.field;
  long = ap (λ (r : RowValue). length r.entries) is ∙ length-set row.entries i e ∙ like.long;
}

-- a sum with a multiple of a row has as many entries
pub like_sum : (o : Order) (n : ℕ) (row other new : RowValue) (c : ℕ) → IsRowLike o n row →
    new ≡ row_with_multiple row c other → length new.entries ≡ length row.entries → IsRowLike o n new
like_sum o n row other new c like is as_long = record {
  field = ap (λ (r : RowValue). r.order) is ∙ like.field;
  long = as_long ∙ like.long;
}

-- the second unit vector has as many entries, and is not zero
module _ (x : MatrixValue) (o : Order) (n : ℕ) (v : RowValue) (columns : n ≡ x.cols)
    (is : v ≡ record { order = o; entries = unit_row n 1 }) where
  pub second_unit_fits : length v.entries ≡ x.cols
  second_unit_fits =
      ap (λ (r : RowValue). length r.entries) is
      ∙ listed_length {A = ℕ} n (λ j. cond (eqb 1 j) 1 0) ∙ columns

  pub second_unit_not_zero : 2 ≤ x.cols → ¬ (IsZeroVector v.entries)
  second_unit_not_zero two = subst (λ (r : RowValue). ¬ (IsZeroVector r.entries)) (sym is) nonzero
    where
      nonzero : ¬ (IsZeroVector (unit_row n 1))
      nonzero zeros =
          let zero_second : get_or (unit_row n 1) 1 0 ≡ 0 =
          zeros 1 0 (omega (arith, two, columns, listed_length {A = ℕ} n (λ j. cond (eqb 1 j) 1 0))) in
          let one_second : get_or (unit_row n 1) 1 0 ≡ 1 =
          listed_at {A = ℕ} n (λ j. cond (eqb 1 j) 1 0) 1 0 (omega (arith, two, columns)) in
          omega (arith, zero_second, one_second)

-- ---- cyclic bases

-- the cyclic basis of a vector is like one
pub basis_like : (x : MatrixValue) (v : RowValue) (basis : CyclicBasis) → IsCyclicBasis x v basis → IsBasisLike x basis
basis_like x v basis is = record {
  minimal_field = is.minimal.field;
  field = is.field;
  columns = is.columns;
  count = is.count;
}

-- ---- null vectors

-- one more null vector
pub null_inserted : (x : MatrixValue) (p : PolyValue) (old new : EchelonValue) (is_new : Bool) (row : List ℕ) → AreNullRows x p old →
    Annihilates (number_field x.order) x.rows row p.coefficients → new ≡ with_row_where is_new old row → AreNullRows x p new
null_inserted x p old new true row are null is = subst (AreNullRows x p) (sym is) (record {
  field = are.field;
  columns = are.columns;
  null = All-append (λ (r : List ℕ). Annihilates (number_field x.order) x.rows r p.coefficients) old.rows (row ∷ []) are.null
      (All-cons (λ (r : List ℕ). Annihilates (number_field x.order) x.rows r p.coefficients) row [] null
      (All-nil (λ (r : List ℕ). Annihilates (number_field x.order) x.rows r p.coefficients)));
})
null_inserted x p old new false row are null is = subst (AreNullRows x p) (sym is) are

module _ (K : NumberField) where
  abbrev F : Field
  F = field_of K

  -- a row that p annihilates is a null vector of p(x)
  pub null_of_annihilated : (n : ℕ) (x : List (List ℕ)) (p row : List ℕ) → length x ≡ n → IsMonicOver K p → IsVectorOver K n row →
      Annihilates K x row p →
      IsNullVector F (length x) (polynomial_value F (length x) (suc (degree_of p)) (vector_of K p) (matrix_of K x)) (vector_of K row)
  null_of_annihilated n x p row square monic over null = record {
    length = vector_length K (length x) row (over.length_is ∙ sym square);
    vanishes =
        (let coefficients : length p ≡ suc (degree_of p) = omega (arith, monic.positive) in
        subst (λ m. times F (length x) (vector_of K row) (polynomial_value F (length x) m (vector_of K p) (matrix_of K x)) ≡ zero_vector F)
        coefficients null);
  }

  -- independent null vectors of p(x) that are more than the degree of p: p doesn't fit x
  pub many_null_rows : (n : ℕ) (x : List (List ℕ)) (p : List ℕ) (rows : List (List ℕ)) → length x ≡ n → IsMonicOver K p → IsMatrixOver K n rows →
      IsIndependent K rows → All (λ row. Annihilates K x row p) rows → degree_of p < length rows → ¬ (Fits K x p)
  many_null_rows n x p rows square monic over independent null many fits = omega (arith, many, few)
    where
      few : length rows ≤ degree_of p
      few = exchange F (length rows) (matrix_of K rows) (degree_of p) fits.basis independent
          (λ t below. fits.spans.back (matrix_of K rows t)
          (null_of_annihilated n x p (get_or rows t []) square monic (row_over K n rows t over below)
          (All-get_or (λ row. Annihilates K x row p) rows t [] below null)))

pub seen_misfit : (x : MatrixValue) (p : PolyValue) (found : EchelonValue) → IsSquareOver (number_field x.order) x.cols x.rows → p.order ≡ x.order →
    IsPoly p → AreNullRows x p found → IsEchelon found → degree_of p.coefficients < length found.rows →
    ¬ (Fits (number_field x.order) x.rows p.coefficients)
seen_misfit x p found square field poly are echelon many =
    many_null_rows (number_field x.order) x.cols x.rows p.coefficients found.rows square.length_is
    (subst (λ o. IsMonicOver (number_field o) p.coefficients) field poly)
    (subst (λ o. IsMatrixOver (number_field o) x.cols found.rows) are.field
    (subst (λ n. IsMatrixOver (number_field found.order) n found.rows) are.columns echelon.over))
    (subst (λ o. IsIndependent (number_field o) found.rows) are.field echelon.independent) are.null many
