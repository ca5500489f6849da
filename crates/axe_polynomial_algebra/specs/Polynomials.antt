-- Polynomials over a field: vectors read as lists of coefficients, constant first, each with a length (any algebra
-- text). So a sum, a difference and a multiple of polynomials are those of vectors.
use Rattle.std.specs.Prelude.{◌≡◌, ◌≢◌, ℕ, suc, ◌-◌, ◌<◌}
use Rattle.axe_algebra.specs.Field.{Field}
use Rattle.axe_algebra.specs.Vectors.{Vector, HasLength, add_vectors, sum}

-- f is monic of degree d: its coefficient at d is 1, and all coefficients after that one are 0
pub record IsMonic (F : Field) (d : ℕ) (f : Vector F) : Type 0 where
  pub leads : f d ≡ F.one
  pub length : HasLength F (suc d) f

-- the product of two polynomials: its coefficient at k is the sum over i from 0 to k of p[i] q[k - i]
unfoldable pub convolution : (F : Field) → Vector F → Vector F → Vector F
convolution F p q = λ k. sum F (suc k) (λ i. F.mul (p i) (q (k - i)))

-- p divides f: f is the product of p and a polynomial, which has a length (without one power series would divide, too)
pub record Divides (F : Field) (p f : Vector F) : Type 0 where
  pub quotient : Vector F
  pub size : ℕ
  pub length : HasLength F size quotient
  pub equals : f ≡ convolution F p quotient

-- f is congruent to r modulo p: f is r plus a multiple of p, by a polynomial that has a length
pub record IsCongruent (F : Field) (p f r : Vector F) : Type 0 where
  pub quotient : Vector F
  pub size : ℕ
  pub length : HasLength F size quotient
  pub equals : f ≡ add_vectors F (convolution F p quotient) r

-- f divided by p of degree d, with remainder: f is p times the quotient plus the remainder, of degree less than d
pub record IsDivision (F : Field) (d : ℕ) (p f quotient remainder : Vector F) : Type 0 where
  pub equals : f ≡ add_vectors F (convolution F p quotient) remainder
  pub small : HasLength F d remainder

-- p is irreducible of degree d: monic, of positive degree, and not the product of two monic polynomials of positive
-- degree
pub record IsIrreduciblePolynomial (F : Field) (d : ℕ) (p : Vector F) : Type 0 where
  pub positive : 0 < d
  pub monic : IsMonic F d p
  pub no_product : (m n : ℕ) (a b : Vector F) → 0 < m → 0 < n → IsMonic F m a → IsMonic F n b →
      p ≢ convolution F a b
