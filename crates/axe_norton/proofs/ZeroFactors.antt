-- No small factor fits a zero matrix of more than one row.
use Rattle.std.specs.Prelude.{◌≡◌, ℕ, suc, ◌<◌, ◌≤◌, List, [], ◌∷◌, length}
use Rattle.std.proofs.lemmas.List.Elements.{All-nil, All-cons}
use Rattle.axe_algebra.specs.NumberField.{NumberField}
use Rattle.axe_algebra.specs.Field.{Field}
use Rattle.axe_algebra.specs.Vectors.{Vector, Matrix, HasLength, zero_vector, add_vectors, scale, times, unit_vector, unit_matrix}
use Rattle.axe_algebra.specs.Bridge.{field_of, vector_of, matrix_of}
use Rattle.axe_algebra.specs.Lists.{IsSquareOver, unit_row}
use Rattle.axe_algebra.proofs.ElementNumbers.{element_zero, zero-below}
use Rattle.axe_algebra.proofs.Exchange.{exchange}
use Rattle.axe_algebra.proofs.FieldLaws.{zero-mul, other_factor}
use Rattle.axe_algebra.proofs.Isomorphisms.{unit_rows_independent}
use Rattle.axe_algebra.proofs.ListEntries.{vector_length}
use Rattle.axe_algebra.proofs.ProductLaws.{times_zero_rows, times_unit, unit_at, unit_is_matrix}
use Rattle.axe_algebra.proofs.Spanning.{span_row}
use Rattle.axe_polynomial_algebra.specs.PolynomialValues.{Fits, polynomial_value, power_rows}
use Rattle.axe_polynomial_algebra.specs.PolynomialsOfLists.{degree_of, IsMonicOver}
use Rattle.axe_polynomial_algebra.proofs.Dividing.{plus_zero}
use Rattle.axe_polynomial_algebra.proofs.ListCongruences.{monic_of_list}
use Rattle.axe_polynomial_algebra.proofs.ValueLaws.{times-value}
use Rattle.axe_polynomial_algebra.proofs.ValuePowers.{power_rows_zero, power_rows_suc}
use Rattle.axe_polynomial_algebra.proofs.ValueSums.{times_first}
use Rattle.axe_field.specs.NumberFields.{number_field}
use Rattle.axe_matrix.specs.Matrices.{MatrixValue}
use Rattle.axe_poly.specs.Polys.{PolyValue}
use Rattle.axe_norton.specs.SmallFactors.{IsFittingFactor, NoneFits}
use Rattle.axe_norton.proofs.FactorLaws.{NoneUpTo, none_fits, unit_over}
use mathlib.Core.Path.{refl, sym, ◌∙◌, ap, ap₂, fun_ext}
use native.Mathlib.Omega.{arith}

-- ---- polynomials at a zero matrix

module _ (F : Field) (n : ℕ) (x : Matrix F) (zeros : (t : ℕ) → t < n → x t ≡ zero_vector F) where
  -- v f(x) is v times the constant coefficient of f
  times_value_of_zero : (k : ℕ) (f v : Vector F) → HasLength F n v → times F n v (polynomial_value F n (suc k) f x) ≡ scale F (f 0) v
  times_value_of_zero k f v long =
      times-value F n x (suc k) f v ∙ times_first F k f (power_rows F n x v)
      ∙ ap₂ (add_vectors F) (ap (scale F (f 0)) (power_rows_zero F n x v long))
      (times_zero_rows F k (λ t. f (suc t)) (λ t. power_rows F n x v (suc t))
      (λ t below. power_rows_suc F n x v t ∙ times_zero_rows F n (power_rows F n x v t) x zeros))
      ∙ plus_zero F (scale F (f 0) v)

  -- so f annihilates v where that coefficient is zero
  vanishes_without_constant : (k : ℕ) (f v : Vector F) → HasLength F n v → f 0 ≡ F.zero → times F n v (polynomial_value F n (suc k) f x) ≡ zero_vector F
  vanishes_without_constant k f v long none =
      times_value_of_zero k f v long ∙ fun_ext (λ j. ap (λ c. F.mul c (v j)) none ∙ zero-mul F (v j))

  -- the null space of p(x) is zero or everything, so a polynomial that fits has as many degrees as x has rows at least
  rows_within_degree : (d : ℕ) (p : Vector F) → 0 < d → Fits F n x d p → n ≤ d
  rows_within_degree d p some fits = by_constant (F.is_discrete (p 0) F.zero)
    where
      null : times F n (fits.basis 0) (polynomial_value F n (suc d) p x) ≡ zero_vector F
      null = (fits.spans.forth (fits.basis 0) (span_row F d fits.basis 0 some)).vanishes

      by_constant : Dec (p 0 ≡ F.zero) → n ≤ d
      by_constant (yes none) =
          exchange F n (unit_matrix F n) d fits.basis (unit_rows_independent F n) (λ t below.
          fits.spans.back (unit_matrix F n t) (record {
            length = (unit_is_matrix F n).columns t;
            vanishes = vanishes_without_constant d p (unit_matrix F n t) ((unit_is_matrix F n).columns t) none;
          }))
      by_constant (no other) =
          absurd (F.one-not-zero (sym (unit_at F 0) ∙ fits.independent.only_zero (unit_vector F 0) (times_unit F d 0 fits.basis some ∙ first_is_zero) 0 some))
        where
          first_is_zero : fits.basis 0 ≡ zero_vector F
          first_is_zero = fun_ext λ j.
              other_factor F (p 0) (fits.basis 0 j)
              (ap (λ (y : Vector F). y j) (sym (times_value_of_zero d p (fits.basis 0) (fits.spans.lengths 0)) ∙ null)) other

-- ---- small factors

module _ (x : MatrixValue) (square : IsSquareOver (number_field x.order) x.cols x.rows)
    (zeros : (t : ℕ) → t < length x.rows → matrix_of (number_field x.order) x.rows t ≡ zero_vector (field_of (number_field x.order)))
    (large : 1 < x.cols) where
  abbrev K : NumberField
  K = number_field x.order

  abbrev F : Field
  F = field_of K

  -- the polynomial X
  abbrev indeterminate : List ℕ
  indeterminate = 0 ∷ 1 ∷ []

  indeterminate_is_monic : IsMonicOver K indeterminate
  indeterminate_is_monic = record {
    elements = All-cons (λ a. a < K.order) 0 (1 ∷ []) (zero-below K)
        (All-cons (λ a. a < K.order) 1 [] K.one-below (All-nil (λ a. a < K.order)));
    positive = omega arith;
    leads = refl;
  }

  unit_long : HasLength F (length x.rows) (vector_of K (unit_row x.cols 0))
  unit_long = vector_length K (length x.rows) (unit_row x.cols 0) ((unit_over K x.cols 0).length_is ∙ sym square.length_is)

  -- X annihilates the first unit vector, so that no small factor has a degree above 1
  small_degree : (p : PolyValue) (is : IsFittingFactor x p) (d : ℕ) → d ≤ degree_of is.factor.minimal.coefficients → d ≤ 1
  small_degree p is d within =
      let bound : degree_of is.factor.minimal.coefficients ≤ 1 =
      is.factor.is_minimal.minimal.minimal.least 1 (vector_of K indeterminate) (monic_of_list K indeterminate indeterminate_is_monic)
      (vanishes_without_constant F (length x.rows) (matrix_of K x.rows) zeros 1 (vector_of K indeterminate) (vector_of K (unit_row x.cols 0)) unit_long
      (element_zero K)) in
      omega (arith, bound, within)

  none_of_degree_1 : (f : PolyValue) → NoneUpTo x f 1
  none_of_degree_1 f d some within q fitting =
      let rows : length x.rows ≤ degree_of q =
      rows_within_degree F (length x.rows) (matrix_of K x.rows) zeros (degree_of q) (vector_of K q) (omega (arith, some, fitting.factor.degree_is))
      fitting.fits in
      omega (arith, rows, fitting.factor.degree_is, within, square.length_is, large)

  pub none_fits_zero : NoneFits x
  none_fits_zero p is =
      none_fits x is.factor.minimal square is.factor.is_minimal 1 (none_of_degree_1 is.factor.minimal)
      (λ d bounded within. small_degree p is d within) p is
