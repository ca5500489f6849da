-- What the law functions promise, over one field (any linear algebra text).
use Rattle.std.specs.Prelude.{◌≡◌, ℕ, ◌<◌, ◌≤◌, ◌⊎◌, ◌↔◌}
use Rattle.axe_algebra.specs.Field.{Field}
use Rattle.axe_algebra.specs.Vectors.{Vector, Matrix, HasLength, HasRowsOfLength, HasShape, zero_vector, unit_matrix}
use Rattle.axe_algebra.specs.Vectors.{add_matrices, transposed, multiply}
use Rattle.axe_algebra.specs.Spans.{InSpan, IsIndependent, IsDependent, SpanWithin, SameSpan, SpansAll, IsInverse}
use Rattle.axe_algebra.specs.Spans.{IsInvertible, HasZeroNullSpace}
use Rattle.axe_algebra.specs.Reduced.{IsReducedBasis, IsZeroAtPivots, IsRepresentative}

module _ (F : Field) where
  -- (a b) c = a (b c)
  abbrev pub ProductsAreAssociative : Type 0
  ProductsAreAssociative =
      (m n : ℕ) (a b c : Matrix F) → multiply F n (multiply F m a b) c ≡ multiply F m a (multiply F n b c)

  -- (a + b) c = a c + b c
  abbrev pub SumsTimesDistribute : Type 0
  SumsTimesDistribute = (n : ℕ) (a b c : Matrix F) →
      multiply F n (add_matrices F a b) c ≡ add_matrices F (multiply F n a c) (multiply F n b c)

  -- a (b + c) = a b + a c
  abbrev pub TimesSumsDistribute : Type 0
  TimesSumsDistribute = (n : ℕ) (a b c : Matrix F) →
      multiply F n a (add_matrices F b c) ≡ add_matrices F (multiply F n a b) (multiply F n a c)

  -- 1 a = a
  abbrev pub IdentityIsLeftNeutral : Type 0
  IdentityIsLeftNeutral = (m n : ℕ) (a : Matrix F) → HasShape F m n a → multiply F m (unit_matrix F m) a ≡ a

  -- a 1 = a
  abbrev pub IdentityIsRightNeutral : Type 0
  IdentityIsRightNeutral = (m n : ℕ) (a : Matrix F) → HasShape F m n a → multiply F n a (unit_matrix F n) ≡ a

  -- (a b)^T = b^T a^T
  abbrev pub TransposeReversesProducts : Type 0
  TransposeReversesProducts = (n : ℕ) (a b : Matrix F) →
      transposed F (multiply F n a b) ≡ multiply F n (transposed F b) (transposed F a)

  -- k rows of length n are dependent, or independent and at most n
  abbrev pub RowsAreDependentOrFew : Type 0
  RowsAreDependentOrFew =
      (n k : ℕ) (v : Matrix F) → HasRowsOfLength F n v → IsDependent F k v ⊎ (IsIndependent F k v × (k ≤ n))

  -- k independent rows in the span of m rows have k at most m
  abbrev pub Exchange : Type 0
  Exchange = (k : ℕ) (v : Matrix F) (m : ℕ) (w : Matrix F) → IsIndependent F k v → SpanWithin F k v m w → k ≤ m

  -- n independent rows of length n span everything
  abbrev pub EnoughRowsSpanEverything : Type 0
  EnoughRowsSpanEverything = (n : ℕ) (v : Matrix F) → HasRowsOfLength F n v → IsIndependent F n v → SpansAll F n n v

  -- membership in a span is decidable
  abbrev pub MembershipIsDecidable : Type 0
  MembershipIsDecidable =
      (n k : ℕ) (v : Matrix F) (x : Vector F) → HasRowsOfLength F n v → HasLength F n x → Dec (InSpan F k v x)

  -- independent rows of length n with the span of k rows, at most as many
  pub record Basis (n k : ℕ) (v : Matrix F) : Type 0 where
    pub size : ℕ
    pub rows : Matrix F
    pub lengths : HasRowsOfLength F n rows
    pub independent : IsIndependent F size rows
    pub spans : SameSpan F k v size rows
    pub bound : size ≤ k

  -- every span has a basis
  abbrev pub BasisExists : Type 0
  BasisExists = (n k : ℕ) (v : Matrix F) → HasRowsOfLength F n v → Basis n k v

  -- a square matrix has at most one inverse
  abbrev pub InverseIsUnique : Type 0
  InverseIsUnique = (n : ℕ) (a b c : Matrix F) → IsInverse F n a b → IsInverse F n a c → b ≡ c

  -- a square matrix is invertible exactly when its null space is zero
  abbrev pub InvertibleExactlyWhenNullSpaceIsZero : Type 0
  InvertibleExactlyWhenNullSpaceIsZero =
      (n : ℕ) (a : Matrix F) → HasShape F n n a → IsInvertible F n a ↔ HasZeroNullSpace F n a

  -- a square matrix is invertible exactly when its rows are independent
  abbrev pub InvertibleExactlyWhenRowsAreIndependent : Type 0
  InvertibleExactlyWhenRowsAreIndependent =
      (n : ℕ) (a : Matrix F) → HasShape F n n a → IsInvertible F n a ↔ IsIndependent F n a

  -- a square matrix is invertible exactly when its transpose is
  abbrev pub InvertibleExactlyWhenTransposeIs : Type 0
  InvertibleExactlyWhenTransposeIs = (n : ℕ) (a : Matrix F) → IsInvertible F n a ↔ IsInvertible F n (transposed F a)

  -- a right inverse of a square matrix is its inverse
  abbrev pub RightInverseIsInverse : Type 0
  RightInverseIsInverse = (n : ℕ) (a b : Matrix F) → HasShape F n n a → HasShape F n n b →
      multiply F n a b ≡ unit_matrix F n → IsInverse F n a b

  -- a left inverse of a square matrix is its inverse
  abbrev pub LeftInverseIsInverse : Type 0
  LeftInverseIsInverse = (n : ℕ) (a b : Matrix F) → HasShape F n n a → HasShape F n n b →
      multiply F n b a ≡ unit_matrix F n → IsInverse F n a b

  -- the reduced basis of the span of k rows of length n
  pub record ReducedBasis (n k : ℕ) (v : Matrix F) : Type 0 where
    pub size : ℕ
    pub rows : Matrix F
    pub lengths : HasRowsOfLength F n rows
    pub reduced : IsReducedBasis F k v size rows

  -- every span has a reduced basis
  abbrev pub ReducedBasisExists : Type 0
  ReducedBasisExists = (n k : ℕ) (v : Matrix F) → HasRowsOfLength F n v → ReducedBasis n k v

  -- the reduced basis spans the space
  abbrev pub ReducedBasisSpans : Type 0
  ReducedBasisSpans =
      (n k : ℕ) (v : Matrix F) (r : ℕ) (w : Matrix F) → HasRowsOfLength F n v → IsReducedBasis F k v r w →
      SameSpan F k v r w

  -- its rows are independent
  abbrev pub ReducedBasisIsIndependent : Type 0
  ReducedBasisIsIndependent =
      (k : ℕ) (v : Matrix F) (r : ℕ) (w : Matrix F) → IsReducedBasis F k v r w → IsIndependent F r w

  -- two reduced bases of one span have equally many rows
  abbrev pub ReducedBasisSizeIsUnique : Type 0
  ReducedBasisSizeIsUnique = (k : ℕ) (v : Matrix F) (r : ℕ) (w : Matrix F) (s : ℕ) (u : Matrix F) →
      IsReducedBasis F k v r w → IsReducedBasis F k v s u → r ≡ s

  -- and the same rows
  abbrev pub ReducedBasisRowsAreUnique : Type 0
  ReducedBasisRowsAreUnique =
      (n k : ℕ) (v : Matrix F) (r : ℕ) (w : Matrix F) (s : ℕ) (u : Matrix F) → HasRowsOfLength F n v →
      IsReducedBasis F k v r w → IsReducedBasis F k v s u → (t : ℕ) → t < r → w t ≡ u t

  -- a vector of the span that is zero at every pivot is zero
  abbrev pub ZeroAtPivotsIsZero : Type 0
  ZeroAtPivotsIsZero =
      (n k : ℕ) (v : Matrix F) (x : Vector F) → HasRowsOfLength F n v → InSpan F k v x → IsZeroAtPivots F k v x →
      x ≡ zero_vector F

  -- each coset of a span has a vector that is zero at every pivot
  abbrev pub RepresentativeExists : Type 0
  RepresentativeExists =
      (n k : ℕ) (v : Matrix F) (x : Vector F) → HasRowsOfLength F n v → (y : Vector F) × IsRepresentative F k v x y

  -- and only one
  abbrev pub RepresentativeIsUnique : Type 0
  RepresentativeIsUnique = (n k : ℕ) (v : Matrix F) (x y z : Vector F) → HasRowsOfLength F n v →
      IsRepresentative F k v x y → IsRepresentative F k v x z → y ≡ z
