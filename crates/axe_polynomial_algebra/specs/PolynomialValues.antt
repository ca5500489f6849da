-- Polynomials at square matrices, and the polynomials that take a vector to zero (Holt and Rees 1994; any linear
-- algebra text).
use Rattle.std.specs.Prelude.{◌≡◌, ℕ, zero, suc, ◌≤◌}
use Rattle.axe_algebra.specs.Field.{Field}
use Rattle.axe_algebra.specs.Vectors.{Vector, Matrix, zero_vector, unit_matrix, sum, times, multiply}
use Rattle.axe_algebra.specs.Spans.{IsIndependent}
use Rattle.axe_algebra.specs.NortonTheorems.{SpansNullSpace}
use Rattle.axe_polynomial_algebra.specs.Polynomials.{IsMonic}

-- the powers of the square matrix x of n rows: power 0 is the identity, and each further one is the one before times x
unfoldable pub matrix_power : (F : Field) → ℕ → Matrix F → ℕ → Matrix F
matrix_power F n x zero = unit_matrix F n
matrix_power F n x (suc k) = multiply F n (matrix_power F n x k) x

-- f(x), for f with m coefficients and a square matrix x of n rows: the sum over t below m of f[t] times power t of x,
-- entry by entry
unfoldable pub polynomial_value : (F : Field) → ℕ → ℕ → Vector F → Matrix F → Matrix F
polynomial_value F n m f x = λ i j. sum F m (λ t. F.mul (f t) (matrix_power F n x t i j))

-- the rows v, v x, v x^2 and so on
unfoldable pub power_rows : (F : Field) → ℕ → Matrix F → Vector F → Matrix F
power_rows F n x v = λ t. times F n v (matrix_power F n x t)

-- f, with m coefficients, annihilates v under x: v f(x) = 0
abbrev pub Annihilates : (F : Field) → ℕ → Matrix F → Vector F → ℕ → Vector F → Type 0
Annihilates F n x v m f = times F n v (polynomial_value F n m f x) ≡ zero_vector F

-- f, of degree d, is the minimal polynomial of v under x: monic with v f(x) = 0, and of least degree among these
pub record IsMinimalPolynomial (F : Field) (n : ℕ) (x : Matrix F) (v : Vector F) (d : ℕ) (f : Vector F) : Type 0 where
  pub monic : IsMonic F d f
  pub annihilates : Annihilates F n x v (suc d) f
  pub least : (e : ℕ) (g : Vector F) → IsMonic F e g → Annihilates F n x v (suc e) g → d ≤ e

-- p, of degree d, fits x: d is the dimension of the null space of p(x), so some d independent rows span it (Holt and
-- Rees 1994)
pub record Fits (F : Field) (n : ℕ) (x : Matrix F) (d : ℕ) (p : Vector F) : Type 0 where
  pub basis : Matrix F
  pub spans : SpansNullSpace F n (polynomial_value F n (suc d) p x) d basis
  pub independent : IsIndependent F d basis
