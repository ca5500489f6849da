-- Polynomials that are lists of element numbers, constant first: each word is that of the theory, said of the list's
-- vector.
use Rattle.std.specs.Prelude.{◌≡◌, ℕ, ◌-◌, ◌<◌, ◌≤◌, List, length, get_or, reverse}
use Rattle.std.specs.List.{All, AllPairs, Contains}
use Rattle.axe_algebra.specs.NumberField.{NumberField}
use Rattle.axe_algebra.specs.Bridge.{field_of, vector_of, matrix_of}
use Rattle.axe_algebra.specs.Lists.{AreElements, IsSquareOver}
use Rattle.axe_algebra.specs.Digits.{number_with_digits}
use Rattle.axe_polynomial_algebra.specs.Polynomials
use Rattle.axe_polynomial_algebra.specs.PolynomialValues

-- the degree of a monic polynomial: its coefficients are one more
abbrev pub degree_of : List ℕ → ℕ
degree_of f = length f - 1

-- a monic polynomial of degree at least 1 over the field: the last of its coefficients is 1
pub record IsMonicOver (K : NumberField) (f : List ℕ) : Type 0 where
  pub elements : AreElements K f
  pub positive : 2 ≤ length f
  pub leads : get_or f (degree_of f) 0 ≡ 1

-- the number of a polynomial over q elements: its coefficients as digits in base q, the highest most significant
abbrev pub polynomial_number : ℕ → List ℕ → ℕ
polynomial_number q f = number_with_digits q (reverse f)

-- p divides f
abbrev pub Divides : NumberField → List ℕ → List ℕ → Type 0
Divides K p f = Polynomials.Divides (field_of K) (vector_of K p) (vector_of K f)

-- f is congruent to r modulo p: they differ by a multiple of p
abbrev pub IsCongruent : NumberField → List ℕ → List ℕ → List ℕ → Type 0
IsCongruent K p f r = Polynomials.IsCongruent (field_of K) (vector_of K p) (vector_of K f) (vector_of K r)

-- p is irreducible
pub record IsIrreduciblePolynomial (K : NumberField) (p : List ℕ) : Type 0 where
  pub over : IsMonicOver K p
  pub irreducible : Polynomials.IsIrreduciblePolynomial (field_of K) (degree_of p) (vector_of K p)

-- p is irreducible of degree d
pub record IsIrreducibleOfDegree (K : NumberField) (d : ℕ) (p : List ℕ) : Type 0 where
  pub irreducible : IsIrreduciblePolynomial K p
  pub degree_is : degree_of p ≡ d

-- p is an irreducible divisor of f, of degree d
pub record IsFactorOfDegree (K : NumberField) (f : List ℕ) (d : ℕ) (p : List ℕ) : Type 0 where
  pub irreducible : IsIrreduciblePolynomial K p
  pub divides : Divides K p f
  pub degree_is : degree_of p ≡ d

-- p is an irreducible divisor of f, of degree at most s
pub record IsFactorUpTo (K : NumberField) (f : List ℕ) (s : ℕ) (p : List ℕ) : Type 0 where
  pub irreducible : IsIrreduciblePolynomial K p
  pub divides : Divides K p f
  pub bound : degree_of p ≤ s

-- the list has the polynomials with P, each once: by degree, then by their coefficients read as a number in base q, the
-- highest most significant; for monic polynomials that is the order of their numbers
pub record ListsByNumber (q : ℕ) (P : List ℕ → Type 0) (polynomials : List (List ℕ)) : Type 0 where
  pub each : All P polynomials
  pub all : (p : List ℕ) → P p → Contains polynomials p
  pub ascending : AllPairs (λ p r. polynomial_number q p < polynomial_number q r) polynomials

-- the polynomials are the irreducible ones of degree d
abbrev pub AreIrreduciblesOfDegree : NumberField → ℕ → List (List ℕ) → Type 0
AreIrreduciblesOfDegree K d polynomials = ListsByNumber K.order (IsIrreducibleOfDegree K d) polynomials

-- the polynomials are the irreducible divisors of f of degree d
abbrev pub AreFactorsOfDegree : NumberField → List ℕ → ℕ → List (List ℕ) → Type 0
AreFactorsOfDegree K f d factors = ListsByNumber K.order (IsFactorOfDegree K f d) factors

-- the polynomials are the irreducible divisors of f of degree 1 to s
abbrev pub AreFactorsUpTo : NumberField → List ℕ → ℕ → List (List ℕ) → Type 0
AreFactorsUpTo K f s factors = ListsByNumber K.order (IsFactorUpTo K f s) factors

-- `value`, square of as many rows as x, is f(x)
pub record IsPolynomialValue (K : NumberField) (f : List ℕ) (x value : List (List ℕ)) : Type 0 where
  pub square : IsSquareOver K (length x) value
  pub equals : matrix_of K value ≡
      PolynomialValues.polynomial_value (field_of K) (length x) (length f) (vector_of K f) (matrix_of K x)

-- f annihilates the row v under the matrix x: v f(x) = 0
abbrev pub Annihilates : NumberField → List (List ℕ) → List ℕ → List ℕ → Type 0
Annihilates K x v f =
    PolynomialValues.Annihilates (field_of K) (length x) (matrix_of K x) (vector_of K v) (length f) (vector_of K f)

-- f, of degree at least 1, is the minimal polynomial of the row v under the square matrix x
pub record IsMinimalPolynomial (K : NumberField) (x : List (List ℕ)) (v f : List ℕ) : Type 0 where
  pub over : IsMonicOver K f
  pub minimal : PolynomialValues.IsMinimalPolynomial (field_of K) (length x) (matrix_of K x) (vector_of K v)
      (degree_of f) (vector_of K f)

-- p fits the square matrix x: its degree is the dimension of the null space of p(x)
abbrev pub Fits : NumberField → List (List ℕ) → List ℕ → Type 0
Fits K x p = PolynomialValues.Fits (field_of K) (length x) (matrix_of K x) (degree_of p) (vector_of K p)
