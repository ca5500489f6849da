-- What the law functions on values of polynomials, minimal polynomials and the one-vector rule promise, over one field
-- (Holt and Rees 1994; the first laws are those of any linear algebra text).
use Rattle.std.specs.Prelude.{◌≡◌, ◌≢◌, ◌↔◌, ℕ, suc, ◌+◌, ◌<◌}
use Rattle.axe_algebra.specs.Field.{Field}
use Rattle.axe_algebra.specs.Vectors.{Vector, Matrix, HasLength, HasShape, zero_vector, add_vectors}
use Rattle.axe_algebra.specs.Vectors.{scale, add_matrices, unit_matrix, transposed, times, multiply}
use Rattle.axe_algebra.specs.Spans.{InSpan, IsIndependent, IsNullVector, SameSpan}
use Rattle.axe_algebra.specs.Modules.{Module, HasSquareMatrices, transposed_module, VectorGeneratesAll}
use Rattle.axe_algebra.specs.Words.{Word, IsWordOf, word_value}
use Rattle.axe_algebra.specs.Irreducible.{IsIrreducible}
use Rattle.axe_polynomial_algebra.specs.Polynomials.{IsMonic, convolution, Divides, IsIrreduciblePolynomial}
use Rattle.axe_polynomial_algebra.specs.PolynomialValues.{polynomial_value, power_rows, Annihilates}
use Rattle.axe_polynomial_algebra.specs.PolynomialValues.{IsMinimalPolynomial, Fits}

module _ (F : Field) where
  -- (f + g)(x) = f(x) + g(x)
  abbrev pub ValueOfSumIsSum : Type 0
  ValueOfSumIsSum = (n m : ℕ) (f g : Vector F) (x : Matrix F) →
      polynomial_value F n m (add_vectors F f g) x ≡
      add_matrices F (polynomial_value F n m f x) (polynomial_value F n m g x)

  -- (c f)(x) = c f(x)
  abbrev pub ValueOfMultipleIsMultiple : Type 0
  ValueOfMultipleIsMultiple = (n m : ℕ) (c : F.Element) (f : Vector F) (x : Matrix F) →
      polynomial_value F n m (scale F c f) x ≡ (λ i. scale F c (polynomial_value F n m f x i))

  -- (f g)(x) = f(x) g(x)
  abbrev pub ValueOfProductIsProduct : Type 0
  ValueOfProductIsProduct = (n l m : ℕ) (f g : Vector F) (x : Matrix F) → HasShape F n n x → HasLength F l f →
      HasLength F m g →
      polynomial_value F n (l + m) (convolution F f g) x ≡
      multiply F n (polynomial_value F n l f x) (polynomial_value F n m g x)

  -- f(x) x = x f(x)
  abbrev pub ValueCommutes : Type 0
  ValueCommutes = (n m : ℕ) (f : Vector F) (x : Matrix F) → HasShape F n n x →
      multiply F n (polynomial_value F n m f x) x ≡ multiply F n x (polynomial_value F n m f x)

  -- Horner's form: where the coefficients after the first are those of g, f(x) = f[0] + g(x) x
  abbrev pub ValueByHorner : Type 0
  ValueByHorner = (n m : ℕ) (f : Vector F) (x : Matrix F) →
      polynomial_value F n (suc m) f x ≡
      add_matrices F (λ i. scale F (f 0) (unit_matrix F n i))
      (multiply F n (polynomial_value F n m (λ t. f (suc t)) x) x)

  -- every vector has a minimal polynomial
  abbrev pub MinimalPolynomialExists : Type 0
  MinimalPolynomialExists = (n : ℕ) (x : Matrix F) (v : Vector F) → HasShape F n n x → HasLength F n v →
      (d : ℕ) × (f : Vector F) × IsMinimalPolynomial F n x v d f

  -- and no more than one
  abbrev pub MinimalPolynomialIsUnique : Type 0
  MinimalPolynomialIsUnique = (n : ℕ) (x : Matrix F) (v : Vector F) (d e : ℕ) (f g : Vector F) → HasShape F n n x →
      HasLength F n v → IsMinimalPolynomial F n x v d f → IsMinimalPolynomial F n x v e g → (d ≡ e) × (f ≡ g)

  -- it divides exactly the polynomials that annihilate the vector
  abbrev pub MinimalPolynomialDivides : Type 0
  MinimalPolynomialDivides = (n : ℕ) (x : Matrix F) (v : Vector F) (d : ℕ) (f : Vector F) (m : ℕ) (g : Vector F) →
      HasShape F n n x → HasLength F n v → IsMinimalPolynomial F n x v d f → HasLength F m g →
      Divides F f g ↔ Annihilates F n x v m g

  -- where v, v x, .., v x^(d - 1) are independent and v x^d is their combination with the coefficients c, the monic
  -- polynomial of degree d with the coefficients -c before is minimal
  abbrev pub CombinationGivesMinimalPolynomial : Type 0
  CombinationGivesMinimalPolynomial = (n : ℕ) (x : Matrix F) (v : Vector F) (d : ℕ) (c f : Vector F) →
      IsIndependent F d (power_rows F n x v) → power_rows F n x v d ≡ times F d c (power_rows F n x v) →
      IsMonic F d f → ((t : ℕ) → t < d → f t ≡ F.neg (c t)) → IsMinimalPolynomial F n x v d f

  -- for an irreducible p of degree d and a nonzero v with v p(x) = 0 the rows v, v x, .., v x^(d - 1) are independent
  abbrev pub IrreducibleGivesIndependentRows : Type 0
  IrreducibleGivesIndependentRows = (n : ℕ) (x : Matrix F) (d : ℕ) (p v : Vector F) → HasShape F n n x →
      IsIrreduciblePolynomial F d p → v ≢ zero_vector F → IsNullVector F n (polynomial_value F n (suc d) p x) v →
      IsIndependent F d (power_rows F n x v)

  -- and where p fits x they span the null space of p(x)
  abbrev pub FittingRowsSpanNullSpace : Type 0
  FittingRowsSpanNullSpace = (n : ℕ) (x : Matrix F) (d : ℕ) (p v w : Vector F) → HasShape F n n x →
      IsIrreduciblePolynomial F d p → Fits F n x d p → v ≢ zero_vector F →
      IsNullVector F n (polynomial_value F n (suc d) p x) v → IsNullVector F n (polynomial_value F n (suc d) p x) w →
      InSpan F d (power_rows F n x v) w

  -- where the minimal polynomial of v has as many degrees as x has rows, each monic divisor of it fits x
  abbrev pub CyclicDivisorFits : Type 0
  CyclicDivisorFits = (n : ℕ) (x : Matrix F) (v g : Vector F) (d : ℕ) (p : Vector F) → HasShape F n n x →
      HasLength F n v → IsMinimalPolynomial F n x v n g → IsMonic F d p → Divides F p g → Fits F n x d p

  -- and the rows v p(x), v x p(x) and so on, as many as n exceeds the degree of p, span what the rows of p(x) span
  abbrev pub CyclicRowsSpanValue : Type 0
  CyclicRowsSpanValue = (n : ℕ) (x : Matrix F) (v g : Vector F) (d : ℕ) (p : Vector F) (r : ℕ) → HasShape F n n x →
      HasLength F n v → IsMinimalPolynomial F n x v n g → IsMonic F d p → Divides F p g → r + d ≡ n →
      SameSpan F r (multiply F n (power_rows F n x v) (polynomial_value F n (suc d) p x)) n
      (polynomial_value F n (suc d) p x)

  -- a polynomial at the value of a word is the value of a word
  abbrev pub PolynomialValueIsWordValue : Type 0
  PolynomialValueIsWordValue = (M : Module F) → HasSquareMatrices F M → (word : Word F) → IsWordOf F M word →
      (m : ℕ) (f : Vector F) →
      (other : Word F) × IsWordOf F M other ×
      (word_value F M other ≡ polynomial_value F M.dimension m f (word_value F M word))

  -- the one-vector rule: where an irreducible p fits the value x of a word, one nonzero null vector of p(x) generates
  -- everything, and one null vector of the transpose of p(x) generates everything under the transposes, the module is
  -- irreducible
  abbrev pub OneVectorRule : Type 0
  OneVectorRule = (M : Module F) → HasSquareMatrices F M → (word : Word F) → IsWordOf F M word →
      (d : ℕ) (p : Vector F) → IsIrreduciblePolynomial F d p → Fits F M.dimension (word_value F M word) d p →
      (v : Vector F) → v ≢ zero_vector F →
      IsNullVector F M.dimension (polynomial_value F M.dimension (suc d) p (word_value F M word)) v →
      VectorGeneratesAll F M v →
      (w : Vector F) →
      IsNullVector F M.dimension (transposed F (polynomial_value F M.dimension (suc d) p (word_value F M word))) w →
      VectorGeneratesAll F (transposed_module F M) w →
      IsIrreducible F M
