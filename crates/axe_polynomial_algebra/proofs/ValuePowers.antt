-- Powers of a square matrix, and the images of a vector under them.
use Rattle.std.specs.Prelude.{◌≡◌, ℕ, zero, suc, ◌+◌}
use Rattle.axe_algebra.specs.Field.{Field}
use Rattle.axe_algebra.specs.Vectors.{Vector, Matrix, HasLength, HasRowsOfLength, HasShape, unit_matrix}
use Rattle.axe_algebra.specs.Vectors.{times, multiply}
use Rattle.axe_algebra.proofs.ProductLaws.{times_times, times_identity, times_length, multiply_assoc}
use Rattle.axe_algebra.proofs.ProductLaws.{multiply_identity, identity_multiply, multiply_is_matrix, unit_is_matrix}
use Rattle.axe_polynomial_algebra.specs.PolynomialValues.{matrix_power, power_rows}
use mathlib.Core.Path.{refl, sym, ◌∙◌, ap}
use native.Mathlib.Omega.{arith}

module _ (F : Field) (n : ℕ) (x : Matrix F) where
  pub power_zero : matrix_power F n x 0 ≡ unit_matrix F n
  unfolding matrix_power
  power_zero = refl

  pub power_suc : (k : ℕ) → matrix_power F n x (suc k) ≡ multiply F n (matrix_power F n x k) x
  unfolding matrix_power
  power_suc k = refl

  pub power_is_matrix : HasShape F n n x → (k : ℕ) → HasShape F n n (matrix_power F n x k)
  unfolding matrix_power
  power_is_matrix shape zero = unit_is_matrix F n
  power_is_matrix shape (suc k) = multiply_is_matrix F n n n (matrix_power F n x k) x (power_is_matrix shape k) shape

  -- x^(j + k) = x^j x^k
  pub power-add : HasShape F n n x → (j k : ℕ) →
      matrix_power F n x (j + k) ≡ multiply F n (matrix_power F n x j) (matrix_power F n x k)
  power-add shape j zero =
      (let e : j + 0 ≡ j = omega arith in ap (matrix_power F n x) e)
      ∙ sym (multiply_identity F n n (matrix_power F n x j) (power_is_matrix shape j))
      ∙ ap (multiply F n (matrix_power F n x j)) (sym power_zero)
  power-add shape j (suc k) =
      (let e : j + suc k ≡ suc (j + k) = omega arith in ap (matrix_power F n x) e) ∙ power_suc (j + k)
      ∙ ap (λ (a : Matrix F). multiply F n a x) (power-add shape j k)
      ∙ multiply_assoc F n n (matrix_power F n x j) (matrix_power F n x k) x
      ∙ ap (multiply F n (matrix_power F n x j)) (sym (power_suc k))

  pub power_one : HasShape F n n x → matrix_power F n x 1 ≡ x
  power_one shape = power_suc 0 ∙ ap (λ (a : Matrix F). multiply F n a x) power_zero ∙ identity_multiply F n n x shape

  pub power_rows-at : (v : Vector F) (k : ℕ) → power_rows F n x v k ≡ times F n v (matrix_power F n x k)
  unfolding power_rows
  power_rows-at v k = refl

  pub power_rows_zero : (v : Vector F) → HasLength F n v → power_rows F n x v 0 ≡ v
  power_rows_zero v length = power_rows-at v 0 ∙ ap (times F n v) power_zero ∙ times_identity F n v length

  pub power_rows_suc : (v : Vector F) (k : ℕ) → power_rows F n x v (suc k) ≡ times F n (power_rows F n x v k) x
  power_rows_suc v k =
      power_rows-at v (suc k) ∙ ap (times F n v) (power_suc k) ∙ sym (times_times F n n v (matrix_power F n x k) x)
      ∙ ap (λ (y : Vector F). times F n y x) (sym (power_rows-at v k))

  -- v x^(j + k) = (v x^j) x^k
  pub power_rows-add : HasShape F n n x → (v : Vector F) (j k : ℕ) →
      power_rows F n x v (j + k) ≡ times F n (power_rows F n x v j) (matrix_power F n x k)
  power_rows-add shape v j k =
      power_rows-at v (j + k) ∙ ap (times F n v) (power-add shape j k)
      ∙ sym (times_times F n n v (matrix_power F n x j) (matrix_power F n x k))
      ∙ ap (λ (y : Vector F). times F n y (matrix_power F n x k)) (sym (power_rows-at v j))

  pub power_rows_length : HasShape F n n x → (v : Vector F) → HasRowsOfLength F n (power_rows F n x v)
  unfolding power_rows
  power_rows_length shape v k = times_length F n n v (matrix_power F n x k) (power_is_matrix shape k).columns
