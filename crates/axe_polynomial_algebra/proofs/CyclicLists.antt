-- Cyclic vectors and divisors of their minimal polynomials, as lists.
use Rattle.std.specs.Prelude.{◌≡◌, ℕ, suc, ◌+◌, ◌<◌, List, length}
use Rattle.axe_algebra.specs.NumberField.{NumberField}
use Rattle.axe_algebra.specs.Field.{Field}
use Rattle.axe_algebra.specs.Vectors.{Matrix, HasShape, times, multiply}
use Rattle.axe_algebra.specs.Spans.{SameSpan}
use Rattle.axe_algebra.specs.Bridge.{field_of, vector_of, matrix_of}
use Rattle.axe_algebra.specs.Lists.{IsVectorOver, IsSquareOver}
use Rattle.axe_algebra.specs.SpansOfLists.{HaveSameSpan}
use Rattle.axe_algebra.proofs.ProductLaws.{times_same}
use Rattle.axe_algebra.proofs.ListEntries.{square_shape, vector_length}
use Rattle.axe_algebra.proofs.Spanning.{span_same}
use Rattle.axe_algebra.proofs.Exchange.{span_of_same_rows}
use Rattle.axe_polynomial_algebra.specs.PolynomialValues
use Rattle.axe_polynomial_algebra.specs.PolynomialValues.{polynomial_value, power_rows}
use Rattle.axe_polynomial_algebra.specs.PolynomialsOfLists.{degree_of, IsMonicOver, Divides, IsPolynomialValue}
use Rattle.axe_polynomial_algebra.specs.PolynomialsOfLists.{IsMinimalPolynomial, Fits}
use Rattle.axe_polynomial_algebra.specs.PolynomialListTheorems.{ListCyclicDivisorFits, ListCyclicRowsSpanValue}
use Rattle.axe_polynomial_algebra.proofs.ListCongruences.{monic_of_list}
use Rattle.axe_polynomial_algebra.proofs.ValuePowers.{power_rows-at, power_rows-add}
use Rattle.axe_polynomial_algebra.proofs.ValueLaws.{times-value}
use Rattle.axe_polynomial_algebra.proofs.ValueLists.{value_square, value_equals}
use Rattle.axe_polynomial_algebra.proofs.MinimalLists.{minimal_here}
use Rattle.axe_polynomial_algebra.proofs.CyclicVectors.{cyclic_divisor_fits, cyclic_rows_span_value}
use mathlib.Core.Path.{refl, sym, ◌∙◌, ap, subst}
use native.Mathlib.Omega.{arith}

module _ (K : NumberField) where
  abbrev F : Field
  F = field_of K

  module _ (n : ℕ) (x : List (List ℕ)) (v g p : List ℕ) (square : IsSquareOver K n x) (over_v : IsVectorOver K n v)
      (minimal : IsMinimalPolynomial K x v g) (cyclic : degree_of g ≡ n) (over : IsMonicOver K p)
      (divides : Divides K p g) where
    abbrev power : Matrix F
    power = power_rows F n (matrix_of K x) (vector_of K v)

    shape : HasShape F n n (matrix_of K x)
    shape = square_shape K n x square

    minimal_of_vector : PolynomialValues.IsMinimalPolynomial F n (matrix_of K x) (vector_of K v) n (vector_of K g)
    minimal_of_vector = subst
        (λ d. PolynomialValues.IsMinimalPolynomial F n (matrix_of K x) (vector_of K v) d (vector_of K g)) cyclic
        (minimal_here K n x v square over_v g minimal)

    fits_here : Fits K x p
    fits_here = subst (λ m. PolynomialValues.Fits F m (matrix_of K x) (degree_of p) (vector_of K p))
        (sym square.length_is)
        (cyclic_divisor_fits F n (matrix_of K x) (vector_of K v) (vector_of K g) (degree_of p) (vector_of K p) shape
        (vector_length K n v over_v.length_is) minimal_of_vector (monic_of_list K p over) divides)

    coefficients : length p ≡ suc (degree_of p)
    coefficients = omega (arith, over.positive)

    -- p(x)
    abbrev value_of_vector : Matrix F
    value_of_vector = polynomial_value F n (suc (degree_of p)) (vector_of K p) (matrix_of K x)

    -- the combination of the rows from place t on is v x^t p(x)
    combination_is : (basis : List (List ℕ)) → ((t : ℕ) → t < n → matrix_of K basis t ≡ power t) → (t : ℕ) →
        t + degree_of p < n →
        times F (length p) (vector_of K p) (λ j. matrix_of K basis (t + j)) ≡ times F n (power t) value_of_vector
    combination_is basis are t inside =
        times_same F (length p) (vector_of K p) (vector_of K p) (λ j. matrix_of K basis (t + j))
        (power_rows F n (matrix_of K x) (power t)) (λ j below. refl)
        (λ j below. are (t + j) (omega (arith, coefficients)) ∙ power_rows-add F n (matrix_of K x) shape (vector_of K v) t j
        ∙ sym (power_rows-at F n (matrix_of K x) (power t) j))
        ∙ ap (λ m. times F m (vector_of K p) (power_rows F n (matrix_of K x) (power t))) coefficients
        ∙ sym (times-value F n (matrix_of K x) (suc (degree_of p)) (vector_of K p) (power t))

    rows_span_here : (value basis rows : List (List ℕ)) → IsPolynomialValue K p x value →
        ((t : ℕ) → t < n → matrix_of K basis t ≡ power t) → length rows + degree_of p ≡ n →
        ((t : ℕ) → t < length rows →
        matrix_of K rows t ≡ times F (length p) (vector_of K p) (λ j. matrix_of K basis (t + j))) →
        HaveSameSpan K rows value
    rows_span_here value basis rows is_value are degrees combine =
        subst (λ (a : Matrix F). SameSpan F (length rows) (matrix_of K rows) (length value) a) (sym value_is)
        (subst (λ m. SameSpan F (length rows) (matrix_of K rows) m value_of_vector) (sym over_value.length_is) (record {
          forth = λ t below. span_same F n value_of_vector (matrix_of K rows t) (times F n (power t) value_of_vector)
              (same_rows t below) (same.forth t below);
          back = λ k below. span_of_same_rows F (length rows) (multiply F n power value_of_vector) (matrix_of K rows)
              (value_of_vector k) (λ t inside. sym (same_rows t inside)) (same.back k below);
        }))
      where
        over_value : IsSquareOver K n value
        over_value = value_square K n x square p value is_value

        value_is : matrix_of K value ≡ value_of_vector
        value_is =
            value_equals K n x square p value is_value
            ∙ ap (λ m. polynomial_value F n m (vector_of K p) (matrix_of K x)) coefficients

        same_rows : (t : ℕ) → t < length rows → matrix_of K rows t ≡ times F n (power t) value_of_vector
        same_rows t below = combine t below ∙ combination_is basis are t (omega (arith, degrees))

        same : SameSpan F (length rows) (multiply F n power value_of_vector) n value_of_vector
        same = cyclic_rows_span_value F n (matrix_of K x) (vector_of K v) (vector_of K g) (degree_of p) (vector_of K p)
            (length rows) shape (vector_length K n v over_v.length_is) minimal_of_vector (monic_of_list K p over)
            divides degrees

  pub list_cyclic_divisor_fits : ListCyclicDivisorFits K
  list_cyclic_divisor_fits n x v g p square over_v minimal cyclic over divides =
      fits_here n x v g p square over_v minimal cyclic over divides

  pub list_cyclic_rows_span_value : ListCyclicRowsSpanValue K
  list_cyclic_rows_span_value n x value basis rows v g p square over_v minimal cyclic over divides is_value size are =
      rows_span_here n x v g p square over_v minimal cyclic over divides value basis rows is_value are
