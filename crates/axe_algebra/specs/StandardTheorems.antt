-- What the law functions on standard bases and isomorphisms promise, over one field (Parker 1984; Holt and Rees 1994).
use Rattle.std.specs.Prelude.{◌≡◌, ◌≢◌, ℕ, ◌<◌}
use Rattle.axe_algebra.specs.Field.{Field}
use Rattle.axe_algebra.specs.Vectors.{Vector, Matrix, HasLength, HasRowsOfLength, HasShape, zero_vector, unit_vector}
use Rattle.axe_algebra.specs.Vectors.{scale, times, multiply}
use Rattle.axe_algebra.specs.Spans.{IsIndependent, IsInverse, IsNullVector}
use Rattle.axe_algebra.specs.Modules.{Module, HasSquareMatrices, SpansGenerated, VectorGeneratesAll}
use Rattle.axe_algebra.specs.Actions.{IsSubAction}
use Rattle.axe_algebra.specs.Irreducible.{IsIsomorphism, AreIsomorphic}
use Rattle.axe_algebra.specs.Standard.{IsStandardBasis, AreStandardMatrices}
use Rattle.axe_algebra.specs.NortonTheorems.{SpansNullSpace}
use Rattle.axe_algebra.specs.Words.{Word, IsWordOf, word_value}

module _ (F : Field) where
  -- a nonzero vector has a standard basis
  abbrev pub StandardBasisExists : Type 0
  StandardBasisExists = (M : Module F) (v : Vector F) → HasSquareMatrices F M → HasLength F M.dimension v →
      v ≢ zero_vector F →
      (m : ℕ) × (b : Matrix F) × HasRowsOfLength F M.dimension b × IsStandardBasis F M v m b

  -- two standard bases of one vector have equally many rows
  abbrev pub StandardBasisSizeIsUnique : Type 0
  StandardBasisSizeIsUnique = (M : Module F) (v : Vector F) (m m' : ℕ) (b b' : Matrix F) →
      IsStandardBasis F M v m b → IsStandardBasis F M v m' b' → m ≡ m'

  -- and the same rows
  abbrev pub StandardBasisRowsAreUnique : Type 0
  StandardBasisRowsAreUnique = (M : Module F) (v : Vector F) (m m' : ℕ) (b b' : Matrix F) →
      IsStandardBasis F M v m b → IsStandardBasis F M v m' b' → (t : ℕ) → t < m → b t ≡ b' t

  -- two families of standard matrices of one vector have one dimension
  abbrev pub StandardDimensionIsUnique : Type 0
  StandardDimensionIsUnique =
      (M : Module F) (v : Vector F) (A A' : Module F) → AreStandardMatrices F M v A → AreStandardMatrices F M v A' →
      A.dimension ≡ A'.dimension

  -- and are the same
  abbrev pub StandardMatricesAreUnique : Type 0
  StandardMatricesAreUnique =
      (M : Module F) (v : Vector F) (A A' : Module F) → AreStandardMatrices F M v A → AreStandardMatrices F M v A' →
      (i : ℕ) → i < M.count → A.generator i ≡ A'.generator i

  -- a standard basis spans the space that its vector generates
  abbrev pub StandardBasisSpansGeneratedSpace : Type 0
  StandardBasisSpansGeneratedSpace = (M : Module F) → HasSquareMatrices F M → (v : Vector F) →
      HasLength F M.dimension v →
      (m : ℕ) (b : Matrix F) → IsStandardBasis F M v m b → SpansGenerated F M 1 (λ t. v) m b

  -- so that of a vector that generates everything has as many rows as the dimension
  abbrev pub StandardBasisIsSquare : Type 0
  StandardBasisIsSquare =
      (M : Module F) (v : Vector F) → HasSquareMatrices F M → HasLength F M.dimension v → VectorGeneratesAll F M v →
      (m : ℕ) (b : Matrix F) → IsStandardBasis F M v m b → m ≡ M.dimension

  -- an isomorphism carries the standard basis of v to that of its image
  abbrev pub IsomorphismCarriesStandardBasis : Type 0
  IsomorphismCarriesStandardBasis = (M N : Module F) (T : Matrix F) → HasSquareMatrices F M → IsIsomorphism F M N T →
      (v : Vector F) → HasLength F M.dimension v → (m : ℕ) (b : Matrix F) → IsStandardBasis F M v m b →
      IsStandardBasis F N (times F M.dimension v T) m (λ t. times F M.dimension (b t) T)

  -- and keeps the standard matrices
  abbrev pub IsomorphismKeepsStandardMatrices : Type 0
  IsomorphismKeepsStandardMatrices = (M N : Module F) (T : Matrix F) → HasSquareMatrices F M → IsIsomorphism F M N T →
      (v : Vector F) → HasLength F M.dimension v → (A : Module F) → AreStandardMatrices F M v A →
      AreStandardMatrices F N (times F M.dimension v T) A

  -- and carries null vectors of a word's value to null vectors of that word's value in the other module
  abbrev pub IsomorphismCarriesNullVectors : Type 0
  IsomorphismCarriesNullVectors = (M N : Module F) (T : Matrix F) → HasSquareMatrices F M → IsIsomorphism F M N T →
      (word : Word F) → IsWordOf F M word → (x : Vector F) → IsNullVector F M.dimension (word_value F M word) x →
      IsNullVector F N.dimension (word_value F N word) (times F M.dimension x T)

  -- a nonzero multiple of v has the same standard matrices
  abbrev pub MultipleHasTheSameStandardMatrices : Type 0
  MultipleHasTheSameStandardMatrices =
      (M : Module F) (c : F.Element) → c ≢ F.zero → HasSquareMatrices F M → (v : Vector F) → HasLength F M.dimension v →
      (A : Module F) → AreStandardMatrices F M v A → AreStandardMatrices F M (scale F c v) A

  -- modules whose vectors v and w, each generating everything, have the same standard matrices are isomorphic
  abbrev pub SameStandardMatricesAreIsomorphic : Type 0
  SameStandardMatricesAreIsomorphic = (M N : Module F) (v w : Vector F) → HasSquareMatrices F M →
      HasSquareMatrices F N →
      HasLength F M.dimension v → HasLength F N.dimension w → VectorGeneratesAll F M v → VectorGeneratesAll F N w →
      (A : Module F) → AreStandardMatrices F M v A → AreStandardMatrices F N w A → AreIsomorphic F M N

  -- by the inverse of the one basis times the other
  abbrev pub BasesGiveIsomorphism : Type 0
  BasesGiveIsomorphism = (M N : Module F) (v w : Vector F) → HasSquareMatrices F M → HasSquareMatrices F N →
      HasLength F M.dimension v → HasLength F N.dimension w → (b d : Matrix F) (A : Module F) →
      HasShape F M.dimension M.dimension b → HasShape F N.dimension N.dimension d →
      IsStandardBasis F M v M.dimension b → IsSubAction F M M.dimension b A →
      IsStandardBasis F N w N.dimension d → IsSubAction F N N.dimension d A →
      (c : Matrix F) → IsInverse F M.dimension b c → IsIsomorphism F M N (multiply F M.dimension c d)

  -- a standard basis with as many rows as the dimension is an isomorphism from the standard matrices' module to the
  -- module
  abbrev pub StandardBasisIsIsomorphism : Type 0
  StandardBasisIsIsomorphism =
      (M : Module F) (v : Vector F) → HasSquareMatrices F M → HasLength F M.dimension v →
      (b : Matrix F) (A : Module F) →
      HasShape F M.dimension M.dimension b → IsStandardBasis F M v M.dimension b → IsSubAction F M M.dimension b A →
      IsIsomorphism F A M b

  -- the inverse of an isomorphism is one
  abbrev pub InverseIsIsomorphism : Type 0
  InverseIsIsomorphism =
      (M N : Module F) (T S : Matrix F) → HasSquareMatrices F M → HasSquareMatrices F N → IsIsomorphism F M N T →
      IsInverse F M.dimension T S →
      IsIsomorphism F N M S

  -- the product of isomorphisms is one
  abbrev pub ProductIsIsomorphism : Type 0
  ProductIsIsomorphism = (M N L : Module F) (T S : Matrix F) → IsIsomorphism F M N T → IsIsomorphism F N L S →
      IsIsomorphism F M L (multiply F M.dimension T S)

  -- a module is isomorphic to itself
  abbrev pub IsomorphismIsReflexive : Type 0
  IsomorphismIsReflexive = (M : Module F) → HasSquareMatrices F M → AreIsomorphic F M M

  -- isomorphism goes both ways
  abbrev pub IsomorphismIsSymmetric : Type 0
  IsomorphismIsSymmetric = (M N : Module F) → HasSquareMatrices F M → HasSquareMatrices F N → AreIsomorphic F M N →
      AreIsomorphic F N M

  -- and through other modules
  abbrev pub IsomorphismIsTransitive : Type 0
  IsomorphismIsTransitive = (M N L : Module F) → AreIsomorphic F M N → AreIsomorphic F N L → AreIsomorphic F M L

  -- an isomorphism carries nonzero vectors to nonzero vectors
  abbrev pub IsomorphismKeepsNonzero : Type 0
  IsomorphismKeepsNonzero =
      (M N : Module F) (T : Matrix F) → IsIsomorphism F M N T → (v : Vector F) → HasLength F M.dimension v →
      v ≢ zero_vector F → times F M.dimension v T ≢ zero_vector F

  -- the null spaces of a word's values in isomorphic modules have bases of one size
  abbrev pub IsomorphismKeepsNullity : Type 0
  IsomorphismKeepsNullity =
      (M N : Module F) → HasSquareMatrices F M → HasSquareMatrices F N → AreIsomorphic F M N → (word : Word F) →
      IsWordOf F M word →
      (r : ℕ) (b : Matrix F) (s : ℕ) (d : Matrix F) → SpansNullSpace F M.dimension (word_value F M word) r b →
      IsIndependent F r b →
      SpansNullSpace F N.dimension (word_value F N word) s d → IsIndependent F s d → r ≡ s

  -- where no nonzero null vector of a word's value in N has the standard matrices of one in M, the modules are not
  -- isomorphic
  abbrev pub NoMatchIsNotIsomorphic : Type 0
  NoMatchIsNotIsomorphic =
      (M N : Module F) → HasSquareMatrices F M → (word : Word F) → IsWordOf F M word → (v : Vector F) →
      v ≢ zero_vector F →
      IsNullVector F M.dimension (word_value F M word) v → (A : Module F) → AreStandardMatrices F M v A →
      ((y : Vector F) → y ≢ zero_vector F → IsNullVector F N.dimension (word_value F N word) y →
      ¬ (AreStandardMatrices F N y A)) →
      ¬ (AreIsomorphic F M N)

  -- standard matrices of a basis with as many rows as the dimension are those of their own first unit vector
  abbrev pub StandardMatricesOfUnitVector : Type 0
  StandardMatricesOfUnitVector =
      (M : Module F) (v : Vector F) → HasSquareMatrices F M → HasLength F M.dimension v →
      (b : Matrix F) (A : Module F) →
      HasShape F M.dimension M.dimension b → IsStandardBasis F M v M.dimension b → IsSubAction F M M.dimension b A →
      AreStandardMatrices F A (unit_vector F 0) A

  -- which is a null vector of a word's value where v is
  abbrev pub UnitVectorIsNullVector : Type 0
  UnitVectorIsNullVector =
      (M : Module F) (v : Vector F) → HasSquareMatrices F M → HasLength F M.dimension v →
      (b : Matrix F) (A : Module F) →
      HasShape F M.dimension M.dimension b → IsStandardBasis F M v M.dimension b → IsSubAction F M M.dimension b A →
      (word : Word F) → IsWordOf F M word → IsNullVector F M.dimension (word_value F M word) v →
      IsNullVector F A.dimension (word_value F A word) (unit_vector F 0)
