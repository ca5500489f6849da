-- What the law functions promise of polynomials that are lists of element numbers.
use Rattle.std.specs.Prelude.{◌≡◌, ◌≢◌, ◌↔◌, ℕ, ◌+◌, ◌<◌, List, length}
use Rattle.std.specs.List.{All}
use Rattle.axe_algebra.specs.NumberField.{NumberField}
use Rattle.axe_algebra.specs.Vectors.{zero_vector, times}
use Rattle.axe_algebra.specs.Bridge.{field_of, vector_of, matrix_of}
use Rattle.axe_algebra.specs.Lists.{IsVectorOver, IsMatrixOver, IsSquareOver}
use Rattle.axe_algebra.specs.ListArithmetic.{transpose, transposed_generators}
use Rattle.axe_algebra.specs.SpansOfLists.{HaveSameSpan, IsNullVector, IsNullSpaceBasis}
use Rattle.axe_algebra.specs.ModulesOfLists.{GeneratesEverything, IsIrreducible}
use Rattle.axe_algebra.specs.WordsOfLists.{IsWordOver, IsWordValue}
use Rattle.axe_polynomial_algebra.specs.PolynomialValues.{power_rows}
use Rattle.axe_polynomial_algebra.specs.PolynomialsOfLists.{degree_of, IsMonicOver, polynomial_number, Divides}
use Rattle.axe_polynomial_algebra.specs.PolynomialsOfLists.{IsIrreduciblePolynomial, AreIrreduciblesOfDegree}
use Rattle.axe_polynomial_algebra.specs.PolynomialsOfLists.{AreFactorsOfDegree, AreFactorsUpTo, IsPolynomialValue}
use Rattle.axe_polynomial_algebra.specs.PolynomialsOfLists.{Annihilates, IsMinimalPolynomial, Fits}

module _ (K : NumberField) where
  -- monic polynomials with one number are the same
  abbrev pub NumberTellsThePolynomial : Type 0
  NumberTellsThePolynomial = (f g : List ℕ) → IsMonicOver K f → IsMonicOver K g →
      polynomial_number K.order f ≡ polynomial_number K.order g → f ≡ g

  -- a monic polynomial of a lower degree has a smaller number
  abbrev pub NumbersGoByDegree : Type 0
  NumbersGoByDegree = (f g : List ℕ) → IsMonicOver K f → IsMonicOver K g → degree_of f < degree_of g →
      polynomial_number K.order f < polynomial_number K.order g

  -- whether one polynomial divides another is decidable
  abbrev pub ListDividesIsDecidable : Type 0
  ListDividesIsDecidable = (p f : List ℕ) → IsMonicOver K p → Dec (Divides K p f)

  -- whether a polynomial is irreducible is decidable
  abbrev pub IrreducibleIsDecidable : Type 0
  IrreducibleIsDecidable = (p : List ℕ) → Dec (IsIrreduciblePolynomial K p)

  -- trial division by ascending degree is sound, without dividing out: a monic divisor of f that no irreducible divisor
  -- of f of smaller degree divides is irreducible
  abbrev pub TrialDivisionIsSound : Type 0
  TrialDivisionIsSound = (f p : List ℕ) → IsMonicOver K p → Divides K p f →
      ((r : List ℕ) → IsIrreduciblePolynomial K r → degree_of r < degree_of p → Divides K r f → ¬ (Divides K r p)) →
      IsIrreduciblePolynomial K p

  -- there is a list of the irreducible divisors up to a degree
  abbrev pub FactorsExist : Type 0
  FactorsExist = (f : List ℕ) (s : ℕ) → (factors : List (List ℕ)) × AreFactorsUpTo K f s factors

  -- and no more than one
  abbrev pub FactorsAreUnique : Type 0
  FactorsAreUnique = (f : List ℕ) (s : ℕ) (factors others : List (List ℕ)) → AreFactorsUpTo K f s factors →
      AreFactorsUpTo K f s others → factors ≡ others

  -- there is a list of the irreducible divisors of a degree
  abbrev pub FactorsOfDegreeExist : Type 0
  FactorsOfDegreeExist = (f : List ℕ) (d : ℕ) → (factors : List (List ℕ)) × AreFactorsOfDegree K f d factors

  -- and no more than one
  abbrev pub FactorsOfDegreeAreUnique : Type 0
  FactorsOfDegreeAreUnique = (f : List ℕ) (d : ℕ) (factors others : List (List ℕ)) → AreFactorsOfDegree K f d factors →
      AreFactorsOfDegree K f d others → factors ≡ others

  -- there is a list of the irreducible polynomials of a degree
  abbrev pub IrreduciblesExist : Type 0
  IrreduciblesExist = (d : ℕ) → (polynomials : List (List ℕ)) × AreIrreduciblesOfDegree K d polynomials

  -- and no more than one
  abbrev pub IrreduciblesAreUnique : Type 0
  IrreduciblesAreUnique = (d : ℕ) (polynomials others : List (List ℕ)) → AreIrreduciblesOfDegree K d polynomials →
      AreIrreduciblesOfDegree K d others → polynomials ≡ others

  -- a polynomial has a value at a square matrix
  abbrev pub ListValueExists : Type 0
  ListValueExists = (n : ℕ) (f : List ℕ) (x : List (List ℕ)) → IsSquareOver K n x →
      (value : List (List ℕ)) × IsPolynomialValue K f x value

  -- and no more than one
  abbrev pub ListValueIsUnique : Type 0
  ListValueIsUnique = (f : List ℕ) (x value other : List (List ℕ)) → IsPolynomialValue K f x value →
      IsPolynomialValue K f x other → value ≡ other

  -- a nonzero row has a minimal polynomial under a square matrix
  abbrev pub ListMinimalPolynomialExists : Type 0
  ListMinimalPolynomialExists = (n : ℕ) (x : List (List ℕ)) (v : List ℕ) → IsSquareOver K n x → IsVectorOver K n v →
      vector_of K v ≢ zero_vector (field_of K) → (f : List ℕ) × IsMinimalPolynomial K x v f

  -- and no more than one
  abbrev pub ListMinimalPolynomialIsUnique : Type 0
  ListMinimalPolynomialIsUnique = (n : ℕ) (x : List (List ℕ)) (v f g : List ℕ) → IsSquareOver K n x →
      IsVectorOver K n v → IsMinimalPolynomial K x v f → IsMinimalPolynomial K x v g → f ≡ g

  -- it divides exactly the polynomials that annihilate the row
  abbrev pub ListMinimalPolynomialDivides : Type 0
  ListMinimalPolynomialDivides = (n : ℕ) (x : List (List ℕ)) (v f g : List ℕ) → IsSquareOver K n x →
      IsVectorOver K n v → IsMinimalPolynomial K x v f → Divides K f g ↔ Annihilates K x v g

  -- whether a polynomial fits a square matrix is decidable
  abbrev pub FitsIsDecidable : Type 0
  FitsIsDecidable = (n : ℕ) (x : List (List ℕ)) (p : List ℕ) → IsSquareOver K n x → Dec (Fits K x p)

  -- a polynomial fits a square matrix exactly where the basis of the null space of its value has as many rows as its
  -- degree
  abbrev pub FitsExactlyByNullity : Type 0
  FitsExactlyByNullity = (x : List (List ℕ)) (p : List ℕ) (value basis : List (List ℕ)) → IsMonicOver K p →
      IsPolynomialValue K p x value → IsMatrixOver K (length x) basis → IsNullSpaceBasis K value basis →
      Fits K x p ↔ (length basis ≡ degree_of p)

  -- where the minimal polynomial of a row v has as many degrees as x has rows, each monic divisor of it fits x
  abbrev pub ListCyclicDivisorFits : Type 0
  ListCyclicDivisorFits = (n : ℕ) (x : List (List ℕ)) (v g p : List ℕ) → IsSquareOver K n x → IsVectorOver K n v →
      IsMinimalPolynomial K x v g → degree_of g ≡ n → IsMonicOver K p → Divides K p g → Fits K x p

  -- and the rows v p(x), v x p(x) and so on, as many as n exceeds the degree of p, span what the rows of p(x) span;
  -- they are the combinations, with the coefficients of p, of the rows v x^t from each place on
  abbrev pub ListCyclicRowsSpanValue : Type 0
  ListCyclicRowsSpanValue = (n : ℕ) (x value basis rows : List (List ℕ)) (v g p : List ℕ) → IsSquareOver K n x →
      IsVectorOver K n v → IsMinimalPolynomial K x v g → degree_of g ≡ n → IsMonicOver K p → Divides K p g →
      IsPolynomialValue K p x value → length basis ≡ n →
      ((t : ℕ) → t < n →
      matrix_of K basis t ≡ power_rows (field_of K) n (matrix_of K x) (vector_of K v) t) →
      length rows + degree_of p ≡ n →
      ((t : ℕ) → t < length rows →
      matrix_of K rows t ≡ times (field_of K) (length p) (vector_of K p) (λ j. matrix_of K basis (t + j))) →
      HaveSameSpan K rows value

  -- the one-vector rule: where an irreducible p fits the value x of a word, one nonzero null vector of p(x) generates
  -- everything, and one null vector of the transpose of p(x) generates everything under the transposes, the module is
  -- irreducible (Holt and Rees 1994)
  abbrev pub ListOneVectorRule : Type 0
  ListOneVectorRule = (n : ℕ) (generators : List (List (List ℕ))) → All (IsSquareOver K n) generators →
      (terms : List (ℕ × List ℕ)) → IsWordOver K (length generators) terms →
      (x value : List (List ℕ)) (p : List ℕ) → IsWordValue K n generators terms x →
      IsIrreduciblePolynomial K p → Fits K x p → IsPolynomialValue K p x value →
      (v : List ℕ) → vector_of K v ≢ zero_vector (field_of K) → IsNullVector K value v →
      GeneratesEverything K n generators v →
      (w : List ℕ) → IsNullVector K (transpose n value) w →
      GeneratesEverything K n (transposed_generators n generators) w →
      IsIrreducible K n generators
