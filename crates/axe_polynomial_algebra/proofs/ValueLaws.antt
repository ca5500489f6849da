-- Values of polynomials at a square matrix: shape, linearity, Horner's form, and that the value of a product is the
-- product of the values.
use Rattle.std.specs.Prelude.{◌≡◌, ℕ, suc, ◌+◌}
use Rattle.axe_algebra.specs.Field.{Field}
use Rattle.axe_algebra.specs.Vectors.{Vector, Matrix, HasLength, HasShape, zero_vector, add_vectors, scale}
use Rattle.axe_algebra.specs.Vectors.{add_matrices, unit_matrix, sum, times, multiply}
use Rattle.axe_algebra.proofs.FieldLaws.{mul_left_comm}
use Rattle.axe_algebra.proofs.Sums.{sum_same, mul-sum, sum_swap}
use Rattle.axe_algebra.proofs.ProductLaws.{times-at, times_same, times_times, times_zero_rows}
use Rattle.axe_algebra.proofs.ProductLaws.{times_none, times_length, times-add_vectors, times-scale}
use Rattle.axe_polynomial_algebra.specs.Polynomials.{convolution}
use Rattle.axe_polynomial_algebra.specs.PolynomialValues.{matrix_power, power_rows, polynomial_value}
use Rattle.axe_polynomial_algebra.specs.PolynomialValueTheorems.{ValueOfSumIsSum, ValueOfMultipleIsMultiple}
use Rattle.axe_polynomial_algebra.specs.PolynomialValueTheorems.{ValueOfProductIsProduct, ValueByHorner}
use Rattle.axe_polynomial_algebra.proofs.ValueSums.{times_first, times_product}
use Rattle.axe_polynomial_algebra.proofs.ValuePowers.{power_zero, power_suc, power_is_matrix, power-add, power_rows-at}
use Rattle.axe_polynomial_algebra.proofs.ValuePowers.{power_rows-add}
use mathlib.Core.Path.{refl, sym, ◌∙◌, ap, ap₂, fun_ext}

module _ (F : Field) (n : ℕ) (x : Matrix F) where
  -- row i of f(x) is the combination of rows i of the powers with the coefficients of f
  pub value_row : (m : ℕ) (f : Vector F) (i : ℕ) →
      polynomial_value F n m f x i ≡ times F m f (λ k. matrix_power F n x k i)
  unfolding polynomial_value times
  value_row m f i = refl

  pub value_is_matrix : HasShape F n n x → (m : ℕ) (f : Vector F) → HasShape F n n (polynomial_value F n m f x)
  value_is_matrix shape m f = record {
    rows = λ i j past.
        ap (λ (y : Vector F). y j) (value_row m f i
        ∙ times_zero_rows F m f (λ k. matrix_power F n x k i)
        (λ k below. fun_ext λ l. (power_is_matrix F n x shape k).rows i l past));
    columns = λ i j past.
        ap (λ (y : Vector F). y j) (value_row m f i)
        ∙ times_length F m n f (λ k. matrix_power F n x k i) (λ k. (power_is_matrix F n x shape k).columns i) j past;
  }

  -- v f(x) is the combination of v, v x, v x^2, .. with the coefficients of f
  pub times-value : (m : ℕ) (f v : Vector F) →
      times F n v (polynomial_value F n m f x) ≡ times F m f (power_rows F n x v)
  times-value m f v = fun_ext λ j.
      times-at F n v (polynomial_value F n m f x) j
      ∙ sum_same F n (λ t. F.mul (v t) (polynomial_value F n m f x t j))
      (λ t. sum F m (λ k. F.mul (f k) (F.mul (v t) (matrix_power F n x k t j))))
      (λ t below. ap (λ (y : Vector F). F.mul (v t) (y j)) (value_row m f t)
      ∙ ap (F.mul (v t)) (times-at F m f (λ k. matrix_power F n x k t) j)
      ∙ mul-sum F (v t) m (λ k. F.mul (f k) (matrix_power F n x k t j))
      ∙ sum_same F m _ (λ k. F.mul (f k) (F.mul (v t) (matrix_power F n x k t j)))
      (λ k inside. mul_left_comm F (v t) (f k) (matrix_power F n x k t j)))
      ∙ sum_swap F n m (λ t k. F.mul (f k) (F.mul (v t) (matrix_power F n x k t j)))
      ∙ sum_same F m _ (λ k. F.mul (f k) (power_rows F n x v k j))
      (λ k below. sym (mul-sum F (f k) n (λ t. F.mul (v t) (matrix_power F n x k t j)))
      ∙ ap (F.mul (f k))
      (sym (times-at F n v (matrix_power F n x k) j) ∙ ap (λ (y : Vector F). y j) (sym (power_rows-at F n x v k))))
      ∙ sym (times-at F m f (power_rows F n x v) j)

  -- f(x) is linear in f
  pub value-add : (m : ℕ) (f g : Vector F) →
      polynomial_value F n m (add_vectors F f g) x ≡
      add_matrices F (polynomial_value F n m f x) (polynomial_value F n m g x)
  value-add m f g = fun_ext λ i.
      value_row m (add_vectors F f g) i ∙ times-add_vectors F m f g (λ k. matrix_power F n x k i)
      ∙ ap₂ (add_vectors F) (sym (value_row m f i)) (sym (value_row m g i))

  pub value-scale : (m : ℕ) (c : F.Element) (f : Vector F) →
      polynomial_value F n m (scale F c f) x ≡ (λ i. scale F c (polynomial_value F n m f x i))
  value-scale m c f = fun_ext λ i.
      value_row m (scale F c f) i ∙ times-scale F m c f (λ k. matrix_power F n x k i)
      ∙ ap (scale F c) (sym (value_row m f i))

  pub value_none : (f : Vector F) → polynomial_value F n 0 f x ≡ (λ i. zero_vector F)
  value_none f = fun_ext λ i. value_row 0 f i ∙ times_none F f (λ k. matrix_power F n x k i)

  -- Horner's form: the value of a + X f is a 1 + f(x) x
  pub value_horner : (m : ℕ) (f : Vector F) →
      polynomial_value F n (suc m) f x ≡
      add_matrices F (λ i. scale F (f 0) (unit_matrix F n i))
      (multiply F n (polynomial_value F n m (λ k. f (suc k)) x) x)
  value_horner m f = fun_ext λ i.
      value_row (suc m) f i ∙ times_first F m f (λ k. matrix_power F n x k i)
      ∙ ap₂ (add_vectors F) (ap (λ (a : Matrix F). scale F (f 0) (a i)) (power_zero F n x)) (rest i)
    where
      rest : (i : ℕ) →
          times F m (λ k. f (suc k)) (λ k. matrix_power F n x (suc k) i) ≡
          times F n (polynomial_value F n m (λ k. f (suc k)) x i) x
      rest i =
          times_same F m (λ k. f (suc k)) (λ k. f (suc k)) (λ k. matrix_power F n x (suc k) i)
          (λ k. times F n (matrix_power F n x k i) x) (λ t below. refl)
          (λ k below. ap (λ (a : Matrix F). a i) (power_suc F n x k))
          ∙ sym (times_times F n m (λ k. f (suc k)) (λ k. matrix_power F n x k i) x)
          ∙ ap (λ (y : Vector F). times F n y x) (sym (value_row m (λ k. f (suc k)) i))

  -- rows each of which follows from the first by powers of x: combined with f g they are combined with f, times g(x)
  module _ (rows : Matrix F) (follow : (i j : ℕ) → rows (i + j) ≡ times F n (rows i) (matrix_power F n x j)) where
    pub times_product_follows : (a b : ℕ) (f g : Vector F) → HasLength F a f → HasLength F b g →
        times F (a + b) (convolution F f g) rows ≡ times F n (times F a f rows) (polynomial_value F n b g x)
    times_product_follows a b f g of_f of_g =
        times_product F a b f g rows of_f of_g
        ∙ times_same F a f f (λ i. times F b g (λ j. rows (i + j)))
        (λ i. times F n (rows i) (polynomial_value F n b g x)) (λ t below. refl)
        (λ i below.
        times_same F b g g (λ j. rows (i + j)) (power_rows F n x (rows i)) (λ t inside. refl)
        (λ j inside. follow i j ∙ sym (power_rows-at F n x (rows i) j))
        ∙ sym (times-value b g (rows i)))
        ∙ sym (times_times F n a f rows (polynomial_value F n b g x))

  module _ (shape : HasShape F n n x) where
    -- (f g)(x) = f(x) g(x)
    pub value_of_product : (a b : ℕ) (f g : Vector F) → HasLength F a f → HasLength F b g →
        polynomial_value F n (a + b) (convolution F f g) x ≡
        multiply F n (polynomial_value F n a f x) (polynomial_value F n b g x)
    value_of_product a b f g of_f of_g = fun_ext λ i.
        value_row (a + b) (convolution F f g) i
        ∙ times_product_follows (λ k. matrix_power F n x k i)
        (λ j k. ap (λ (p : Matrix F). p i) (power-add F n x shape j k)) a b f g of_f of_g
        ∙ ap (λ (y : Vector F). times F n y (polynomial_value F n b g x)) (sym (value_row a f i))

    -- v (f g)(x) = (v f(x)) g(x)
    pub rows_of_product : (a b : ℕ) (f g v : Vector F) → HasLength F a f → HasLength F b g →
        times F (a + b) (convolution F f g) (power_rows F n x v) ≡
        times F n (times F a f (power_rows F n x v)) (polynomial_value F n b g x)
    rows_of_product a b f g v of_f of_g =
        times_product_follows (power_rows F n x v) (λ i j. power_rows-add F n x shape v i j) a b f g of_f of_g

module _ (F : Field) where
  pub value_of_sum : ValueOfSumIsSum F
  value_of_sum n m f g x = value-add F n x m f g

  pub value_of_multiple : ValueOfMultipleIsMultiple F
  value_of_multiple n m c f x = value-scale F n x m c f

  pub value_of_product_is : ValueOfProductIsProduct F
  value_of_product_is n l m f g x shape = value_of_product F n x shape l m f g

  pub value_by_horner : ValueByHorner F
  value_by_horner n m f x = value_horner F n x m f
