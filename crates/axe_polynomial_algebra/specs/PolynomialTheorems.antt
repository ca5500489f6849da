-- What the law functions on polynomials promise, over one field (any algebra text).
use Rattle.std.specs.Prelude.{◌≡◌, ◌↔◌, ℕ, suc, ◌+◌, ◌<◌}
use Rattle.axe_algebra.specs.Field.{Field}
use Rattle.axe_algebra.specs.Vectors.{Vector, HasLength, zero_vector, unit_vector, add_vectors}
use Rattle.axe_polynomial_algebra.specs.Polynomials.{IsMonic, convolution, Divides, IsDivision, IsIrreduciblePolynomial}

module _ (F : Field) where
  -- (p q) r = p (q r)
  abbrev pub ConvolutionIsAssociative : Type 0
  ConvolutionIsAssociative = (p q r : Vector F) →
      convolution F (convolution F p q) r ≡ convolution F p (convolution F q r)

  -- p q = q p
  abbrev pub ConvolutionIsCommutative : Type 0
  ConvolutionIsCommutative = (p q : Vector F) → convolution F p q ≡ convolution F q p

  -- p (q + r) = p q + p r
  abbrev pub ConvolutionDistributes : Type 0
  ConvolutionDistributes = (p q r : Vector F) →
      convolution F p (add_vectors F q r) ≡ add_vectors F (convolution F p q) (convolution F p r)

  -- 1 p = p
  abbrev pub OneIsNeutral : Type 0
  OneIsNeutral = (p : Vector F) → convolution F (unit_vector F 0) p ≡ p

  -- the product of a polynomial of degree at most d and one with n coefficients has d + n coefficients
  abbrev pub ConvolutionHasLength : Type 0
  ConvolutionHasLength = (d n : ℕ) (p q : Vector F) → HasLength F (suc d) p → HasLength F n q →
      HasLength F (d + n) (convolution F p q)

  -- the product of monic polynomials is monic, and their degrees add
  abbrev pub MonicTimesMonicIsMonic : Type 0
  MonicTimesMonicIsMonic = (d e : ℕ) (p q : Vector F) → IsMonic F d p → IsMonic F e q →
      IsMonic F (d + e) (convolution F p q)

  -- f, with n coefficients, divided by p of degree d: a quotient with n coefficients, and a remainder
  pub record DivisionWithRemainder (d n : ℕ) (p f : Vector F) : Type 0 where
    pub quotient : Vector F
    pub remainder : Vector F
    pub length : HasLength F n quotient
    pub division : IsDivision F d p f quotient remainder

  -- a polynomial is divided by a monic one, with remainder
  abbrev pub DivisionExists : Type 0
  DivisionExists =
      (d n : ℕ) (p f : Vector F) → IsMonic F d p → HasLength F n f → DivisionWithRemainder d n p f

  -- in one way
  abbrev pub DivisionIsUnique : Type 0
  DivisionIsUnique = (d m n : ℕ) (p f q r q' r' : Vector F) → IsMonic F d p → HasLength F m q → HasLength F n q' →
      IsDivision F d p f q r → IsDivision F d p f q' r' → (q ≡ q') × (r ≡ r')

  -- p divides f exactly when the remainder is zero
  abbrev pub DividesExactlyWhenRemainderIsZero : Type 0
  DividesExactlyWhenRemainderIsZero = (d n : ℕ) (p f q r : Vector F) → IsMonic F d p → HasLength F n q →
      IsDivision F d p f q r → Divides F p f ↔ (r ≡ zero_vector F)

  -- whether a monic polynomial divides is decidable
  abbrev pub DividesIsDecidable : Type 0
  DividesIsDecidable = (d n : ℕ) (p f : Vector F) → IsMonic F d p → HasLength F n f → Dec (Divides F p f)

  -- what divides a divisor of f divides f
  abbrev pub DividesIsTransitive : Type 0
  DividesIsTransitive = (p q f : Vector F) → Divides F p q → Divides F q f → Divides F p f

  -- the monic cofactor of a divisor p, of degree d, of f, of degree n: f is p times it, and the degrees add
  pub record MonicCofactor (d n : ℕ) (p f : Vector F) : Type 0 where
    pub quotient : Vector F
    pub degree : ℕ
    pub sum : d + degree ≡ n
    pub monic : IsMonic F degree quotient
    pub equals : f ≡ convolution F p quotient

  -- a monic divisor of a monic polynomial has a monic cofactor
  abbrev pub CofactorIsMonic : Type 0
  CofactorIsMonic = (d n : ℕ) (p f : Vector F) → IsMonic F d p → IsMonic F n f → Divides F p f → MonicCofactor d n p f

  -- a monic p of positive degree is irreducible exactly when no monic polynomial of a degree from 1 up to its own, but
  -- not of its own, divides it
  abbrev pub IrreducibleExactlyWithoutDivisors : Type 0
  IrreducibleExactlyWithoutDivisors = (d : ℕ) (p : Vector F) → 0 < d → IsMonic F d p →
      IsIrreduciblePolynomial F d p ↔
      ((m : ℕ) (a : Vector F) → 0 < m → m < d → IsMonic F m a → ¬ (Divides F a p))
