-- What the law functions on words, annihilators and irreducible modules promise, over one field (Norton's criterion:
-- Parker 1984; Holt and Rees 1994).
use Rattle.std.specs.Prelude.{◌≡◌, ◌≢◌, ◌↔◌, ℕ}
use Rattle.axe_algebra.specs.Field.{Field}
use Rattle.axe_algebra.specs.Vectors.{Vector, Matrix, HasLength, HasRowsOfLength, HasShape, zero_vector, scale}
use Rattle.axe_algebra.specs.Vectors.{transposed, times, dot}
use Rattle.axe_algebra.specs.Spans.{InSpan, IsNullVector, SpansZero, SpansAll}
use Rattle.axe_algebra.specs.Modules.{Module, HasSquareMatrices, transposed_module, IsInvariant, InGenerated}
use Rattle.axe_algebra.specs.Modules.{VectorGeneratesAll}
use Rattle.axe_algebra.specs.Words.{Word, IsWordOf, word_value}
use Rattle.axe_algebra.specs.Irreducible.{InAnnihilator, IsIrreducible}

-- the r rows of w, of length n, span the annihilator of the span of k rows of v
pub record SpansAnnihilator (F : Field) (n k : ℕ) (v : Matrix F) (r : ℕ) (w : Matrix F) : Type 0 where
  pub forth : (x : Vector F) → InSpan F r w x → InAnnihilator F n k v x
  pub back : (x : Vector F) → InAnnihilator F n k v x → InSpan F r w x

-- the r rows of b, of length n, span the null space of the matrix a with n rows
pub record SpansNullSpace (F : Field) (n : ℕ) (a : Matrix F) (r : ℕ) (b : Matrix F) : Type 0 where
  pub lengths : HasRowsOfLength F n b
  pub forth : (x : Vector F) → InSpan F r b x → IsNullVector F n a x
  pub back : (x : Vector F) → IsNullVector F n a x → InSpan F r b x

-- the matrix x with n rows has no nonzero null vector in the span of k rows of v
abbrev pub HasNoNullVectorIn : (F : Field) → ℕ → ℕ → Matrix F → Matrix F → Type 0
HasNoNullVectorIn F n k v x = (y : Vector F) → InSpan F k v y → times F n y x ≡ zero_vector F → y ≡ zero_vector F

module _ (F : Field) where
  -- the value of a word is a square matrix of the dimension
  abbrev pub WordValueIsMatrix : Type 0
  WordValueIsMatrix =
      (M : Module F) → HasSquareMatrices F M → (word : Word F) → IsWordOf F M word →
      HasShape F M.dimension M.dimension (word_value F M word)

  -- the value of a word keeps an invariant span
  abbrev pub WordValueKeepsInvariantSpans : Type 0
  WordValueKeepsInvariantSpans = (M : Module F) → HasSquareMatrices F M → (word : Word F) → IsWordOf F M word →
      (k : ℕ) (v : Matrix F) → HasRowsOfLength F M.dimension v → IsInvariant F M k v →
      (x : Vector F) → HasLength F M.dimension x → InSpan F k v x →
      InSpan F k v (times F M.dimension x (word_value F M word))

  -- where it has no nonzero null vector in an invariant span, it maps that span onto itself: each vector of the span is
  -- an image
  abbrev pub WordValueMapsOnto : Type 0
  WordValueMapsOnto = (M : Module F) → HasSquareMatrices F M → (word : Word F) → IsWordOf F M word →
      (k : ℕ) (v : Matrix F) → HasRowsOfLength F M.dimension v → IsInvariant F M k v →
      HasNoNullVectorIn F M.dimension k v (word_value F M word) →
      (y : Vector F) → InSpan F k v y →
      (x : Vector F) × InSpan F k v x × (times F M.dimension x (word_value F M word) ≡ y)

  -- a w with w x^T = 0 is orthogonal to every v x
  abbrev pub NullVectorOfTransposeIsOrthogonal : Type 0
  NullVectorOfTransposeIsOrthogonal =
      (m n : ℕ) (x : Matrix F) (w : Vector F) → times F n w (transposed F x) ≡ zero_vector F →
      (v : Vector F) → dot F n (times F m v x) w ≡ F.zero

  -- the null space of a matrix of n rows, of length k, is spanned by some rows
  abbrev pub NullSpaceHasBasis : Type 0
  NullSpaceHasBasis =
      (k n : ℕ) (a : Matrix F) → HasRowsOfLength F k a → (r : ℕ) × (b : Matrix F) × SpansNullSpace F n a r b

  -- the annihilator of a span is spanned by some rows
  abbrev pub AnnihilatorHasBasis : Type 0
  AnnihilatorHasBasis = (n k : ℕ) (v : Matrix F) → HasRowsOfLength F n v →
      (r : ℕ) × (w : Matrix F) × HasRowsOfLength F n w × SpansAnnihilator F n k v r w

  -- the rows orthogonal to an invariant span have an invariant span under the transposes
  abbrev pub AnnihilatorIsInvariant : Type 0
  AnnihilatorIsInvariant = (M : Module F) → HasSquareMatrices F M → (k : ℕ) (v : Matrix F) → IsInvariant F M k v →
      (r : ℕ) (w : Matrix F) → SpansAnnihilator F M.dimension k v r w → IsInvariant F (transposed_module F M) r w

  -- the annihilator of a proper space is not zero
  abbrev pub AnnihilatorOfProperIsNonzero : Type 0
  AnnihilatorOfProperIsNonzero = (n k : ℕ) (v : Matrix F) → HasRowsOfLength F n v → ¬ (SpansAll F n k v) →
      (r : ℕ) (w : Matrix F) → SpansAnnihilator F n k v r w → ¬ (SpansZero F r w)

  -- the annihilator of a nonzero space is proper
  abbrev pub AnnihilatorOfNonzeroIsProper : Type 0
  AnnihilatorOfNonzeroIsProper = (n k : ℕ) (v : Matrix F) → HasRowsOfLength F n v → ¬ (SpansZero F k v) →
      (r : ℕ) (w : Matrix F) → SpansAnnihilator F n k v r w → ¬ (SpansAll F n r w)

  -- Norton's criterion: where every nonzero null vector of a word's value generates everything, and one null vector of
  -- its transpose generates everything under the transposes, the module is irreducible
  abbrev pub NortonsCriterion : Type 0
  NortonsCriterion = (M : Module F) → HasSquareMatrices F M → (word : Word F) → IsWordOf F M word →
      ((x : Vector F) → x ≢ zero_vector F → IsNullVector F M.dimension (word_value F M word) x →
      VectorGeneratesAll F M x) →
      (w : Vector F) → IsNullVector F M.dimension (transposed F (word_value F M word)) w →
      VectorGeneratesAll F (transposed_module F M) w →
      IsIrreducible F M

  -- a nonzero multiple of a vector generates what the vector generates
  abbrev pub MultipleGeneratesTheSame : Type 0
  MultipleGeneratesTheSame =
      (M : Module F) → HasSquareMatrices F M → (c : F.Element) (v : Vector F) → c ≢ F.zero → HasLength F M.dimension v →
      (x : Vector F) → InGenerated F M 1 (λ t. scale F c v) x ↔ InGenerated F M 1 (λ t. v) x

  -- an invariant span of the transposes gives one of the module: its annihilator
  abbrev pub AnnihilatorOfTransposedSpanIsInvariant : Type 0
  AnnihilatorOfTransposedSpanIsInvariant =
      (M : Module F) → HasSquareMatrices F M → (k : ℕ) (w : Matrix F) → IsInvariant F (transposed_module F M) k w →
      (r : ℕ) (v : Matrix F) → SpansAnnihilator F M.dimension k w r v → IsInvariant F M r v

  -- each nonzero vector of an irreducible module generates everything
  abbrev pub NonzeroVectorGeneratesAll : Type 0
  NonzeroVectorGeneratesAll =
      (M : Module F) → HasSquareMatrices F M → IsIrreducible F M → (v : Vector F) → HasLength F M.dimension v →
      v ≢ zero_vector F → VectorGeneratesAll F M v

  -- the transposes of an irreducible module are an irreducible module
  abbrev pub TransposesAreIrreducible : Type 0
  TransposesAreIrreducible = (M : Module F) → HasSquareMatrices F M → IsIrreducible F M →
      IsIrreducible F (transposed_module F M)
