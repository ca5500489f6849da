-- The rows v, v x, v x^2, .. of a null vector v of p(x), where p is irreducible: independent, and where p fits x they
-- span
-- the null space of p(x).
use Rattle.std.specs.Prelude.{◌≡◌, ◌≢◌, ℕ, suc, ◌<◌, ◌+◌}
use Rattle.axe_algebra.specs.Field.{Field}
use Rattle.axe_algebra.specs.Vectors.{Vector, Matrix, HasShape, zero_vector, times, multiply}
use Rattle.axe_algebra.specs.Spans.{InSpan, IsIndependent, IsNullVector}
use Rattle.axe_algebra.proofs.ProductLaws.{times_same, times_times, times_zero}
use Rattle.axe_algebra.proofs.Exchange.{independent_rows_span}
use Rattle.axe_polynomial_algebra.specs.Polynomials.{IsIrreduciblePolynomial}
use Rattle.axe_polynomial_algebra.specs.PolynomialValues.{matrix_power, polynomial_value, power_rows}
use Rattle.axe_polynomial_algebra.specs.PolynomialValues.{IsMinimalPolynomial, Fits}
use Rattle.axe_polynomial_algebra.specs.PolynomialTheorems.{MonicCofactor}
use Rattle.axe_polynomial_algebra.specs.PolynomialValueTheorems.{ValueCommutes, IrreducibleGivesIndependentRows}
use Rattle.axe_polynomial_algebra.specs.PolynomialValueTheorems.{FittingRowsSpanNullSpace}
use Rattle.axe_polynomial_algebra.proofs.Cofactors.{cofactor_is_monic}
use Rattle.axe_polynomial_algebra.proofs.ValuePowers.{power_suc, power-add, power_one, power_rows-at, power_rows-add}
use Rattle.axe_polynomial_algebra.proofs.ValuePowers.{power_rows_length}
use Rattle.axe_polynomial_algebra.proofs.ValueLaws.{value_row, times-value}
use Rattle.axe_polynomial_algebra.proofs.MinimalPolynomials.{minimal_within, minimal_rows_are_independent}
use Rattle.axe_polynomial_algebra.proofs.MinimalPolynomials.{minimal_degree_is_positive, divides_annihilating}
use mathlib.Core.Path.{refl, sym, ◌∙◌, ap, subst, fun_ext}
use native.Mathlib.Omega.{arith}
use native.Mathlib.Decide.{dec_lt}

module _ (F : Field) (n : ℕ) (x : Matrix F) (shape : HasShape F n n x) where
  -- x^k f(x) = f(x) x^k, at a vector
  pub times-value_power : (m : ℕ) (f v : Vector F) (k : ℕ) →
      times F n (power_rows F n x v k) (polynomial_value F n m f x) ≡
      times F n (times F n v (polynomial_value F n m f x)) (matrix_power F n x k)
  times-value_power m f v k =
      times-value F n x m f (power_rows F n x v k)
      ∙ times_same F m f f (power_rows F n x (power_rows F n x v k))
      (multiply F n (power_rows F n x v) (matrix_power F n x k)) (λ t below. refl)
      (λ j below. power_rows-at F n x (power_rows F n x v k) j ∙ sym (power_rows-add F n x shape v k j)
      ∙ (let e : k + j ≡ j + k = omega arith in ap (power_rows F n x v) e) ∙ power_rows-add F n x shape v j k)
      ∙ sym (times_times F n m f (power_rows F n x v) (matrix_power F n x k))
      ∙ ap (λ (y : Vector F). times F n y (matrix_power F n x k)) (sym (times-value F n x m f v))

  -- v x^k is in the null space of f(x) where v is
  pub null_vector_power : (m : ℕ) (f v : Vector F) → IsNullVector F n (polynomial_value F n m f x) v → (k : ℕ) →
      IsNullVector F n (polynomial_value F n m f x) (power_rows F n x v k)
  null_vector_power m f v null k = record {
    length = power_rows_length F n x shape v k;
    vanishes =
        times-value_power m f v k ∙ ap (λ (y : Vector F). times F n y (matrix_power F n x k)) null.vanishes
        ∙ times_zero F n (matrix_power F n x k);
  }

  -- f(x) x = x f(x)
  pub value_commutes_here : (m : ℕ) (f : Vector F) →
      multiply F n (polynomial_value F n m f x) x ≡ multiply F n x (polynomial_value F n m f x)
  value_commutes_here m f = fun_ext λ i.
      ap (λ (y : Vector F). times F n y x) (value_row F n x m f i) ∙ times_times F n m f (λ k. matrix_power F n x k i) x
      ∙ times_same F m f f (λ k. times F n (matrix_power F n x k i) x) (power_rows F n x (x i)) (λ t below. refl)
      (λ k below. ap (λ (a : Matrix F). a i) (sym (power_suc F n x k)
      ∙ (let e : suc k ≡ 1 + k = omega arith in ap (matrix_power F n x) e) ∙ power-add F n x shape 1 k
      ∙ ap (λ (a : Matrix F). multiply F n a (matrix_power F n x k)) (power_one F n x shape))
      ∙ sym (power_rows-at F n x (x i) k))
      ∙ sym (times-value F n x m f (x i))

  module _ (d : ℕ) (p v : Vector F) (irreducible : IsIrreduciblePolynomial F d p) (nonzero : v ≢ zero_vector F)
      (null : IsNullVector F n (polynomial_value F n (suc d) p x) v) where
    -- the minimal polynomial of v divides p, so it has the degree of p
    minimal_degree_is : (e : ℕ) (f : Vector F) → IsMinimalPolynomial F n x v e f → e ≡ d
    minimal_degree_is e f minimal = by_cofactor (cofactor_is_monic F e d f p minimal.monic irreducible.monic
        (divides_annihilating F n x v shape e f (suc d) p minimal irreducible.monic.length null.vanishes))
      where
        by_cofactor : MonicCofactor F e d f p → e ≡ d
        by_cofactor cofactor = by_size (dec_lt 0 cofactor.degree)
          where
            by_size : Dec (0 < cofactor.degree) → e ≡ d
            by_size (no none) = let sum : e + cofactor.degree ≡ d = cofactor.sum in omega arith
            by_size (yes some) = absurd (irreducible.no_product e cofactor.degree f cofactor.quotient
                (minimal_degree_is_positive F n x v null.length nonzero e f minimal) some minimal.monic cofactor.monic
                cofactor.equals)

    pub null_rows_are_independent : IsIndependent F d (power_rows F n x v)
    null_rows_are_independent =
        let found = minimal_within F n x v shape in
        subst (λ e. IsIndependent F e (power_rows F n x v)) (minimal_degree_is found.0 found.2 found.3)
        (minimal_rows_are_independent F n x v found.0 found.2 found.3)

    pub null_rows_span : Fits F n x d p → (w : Vector F) → IsNullVector F n (polynomial_value F n (suc d) p x) w →
        InSpan F d (power_rows F n x v) w
    null_rows_span fits w of_w =
        independent_rows_span F d (power_rows F n x v) fits.basis w null_rows_are_independent
        (λ k below. fits.spans.back (power_rows F n x v k) (null_vector_power (suc d) p v null k))
        (fits.spans.back w of_w)

module _ (F : Field) where
  pub value_commutes : ValueCommutes F
  value_commutes n m f x shape = value_commutes_here F n x shape m f

  pub irreducible_gives_independent_rows : IrreducibleGivesIndependentRows F
  irreducible_gives_independent_rows n x d p v shape irreducible nonzero null =
      null_rows_are_independent F n x shape d p v irreducible nonzero null

  pub fitting_rows_span_null_space : FittingRowsSpanNullSpace F
  fitting_rows_span_null_space n x d p v w shape irreducible fits nonzero null of_w =
      null_rows_span F n x shape d p v irreducible nonzero null fits w of_w
