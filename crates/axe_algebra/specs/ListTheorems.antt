-- What the law functions promise of lists: their words are those of vectors and matrices.
use Rattle.std.specs.Prelude.{◌≡◌, ℕ, List, length, ◌↔◌}
use Rattle.axe_algebra.specs.NumberField.{NumberField}
use Rattle.axe_algebra.specs.Vectors.{unit_matrix, add_matrices, transposed, multiply}
use Rattle.axe_algebra.specs.Spans
use Rattle.axe_algebra.specs.Bridge.{field_of, matrix_of}
use Rattle.axe_algebra.specs.Lists.{IsVectorOver, IsMatrixOver, IsSquareOver}
use Rattle.axe_algebra.specs.ListArithmetic.{product, matrix_sum, transpose, identity, combination, IsInverse}
use Rattle.axe_algebra.specs.SpansOfLists.{IsSpanned, IsReducedBasis}

-- the product of two lists is the product of their matrices
abbrev pub ProductOfListsIsProduct : NumberField → Type 0
ProductOfListsIsProduct K =
    (columns : ℕ) (a b : List (List ℕ)) → IsMatrixOver K (length b) a → IsMatrixOver K columns b →
    matrix_of K (product K columns a b) ≡ multiply (field_of K) (length b) (matrix_of K a) (matrix_of K b)

-- the sum of two lists is the sum of their matrices
abbrev pub SumOfListsIsSum : NumberField → Type 0
SumOfListsIsSum K =
    (columns : ℕ) (a b : List (List ℕ)) → length a ≡ length b → IsMatrixOver K columns a → IsMatrixOver K columns b →
    matrix_of K (matrix_sum K columns a b) ≡ add_matrices (field_of K) (matrix_of K a) (matrix_of K b)

-- the transpose of a list is the transpose of its matrix
abbrev pub TransposeOfListIsTranspose : NumberField → Type 0
TransposeOfListIsTranspose K = (columns : ℕ) (a : List (List ℕ)) → IsMatrixOver K columns a →
    matrix_of K (transpose columns a) ≡ transposed (field_of K) (matrix_of K a)

-- the list of the identity is the identity
abbrev pub IdentityOfListsIsIdentity : NumberField → Type 0
IdentityOfListsIsIdentity K = (n : ℕ) → matrix_of K (identity n) ≡ unit_matrix (field_of K) n

-- two lists are inverse to one another exactly when their matrices are
abbrev pub InverseOfListsIsInverse : NumberField → Type 0
InverseOfListsIsInverse K = (n : ℕ) (a b : List (List ℕ)) → IsSquareOver K n a → IsSquareOver K n b →
    IsInverse K n a b ↔ Spans.IsInverse (field_of K) n (matrix_of K a) (matrix_of K b)

-- a list of element numbers is determined by its matrix
abbrev pub ListsAreTheirMatrices : NumberField → Type 0
ListsAreTheirMatrices K =
    (columns : ℕ) (a b : List (List ℕ)) → length a ≡ length b → IsMatrixOver K columns a → IsMatrixOver K columns b →
    matrix_of K a ≡ matrix_of K b → a ≡ b

-- v is the combination of the rows with a list of coefficients
pub record IsCombination (K : NumberField) (n : ℕ) (rows : List (List ℕ)) (v : List ℕ) : Type 0 where
  pub coefficients : List ℕ
  pub over : IsVectorOver K (length rows) coefficients
  pub combines : v ≡ combination K n coefficients rows

-- a vector is spanned exactly when it is a combination with a list of coefficients
abbrev pub SpannedIsCombination : NumberField → Type 0
SpannedIsCombination K = (n : ℕ) (rows : List (List ℕ)) (v : List ℕ) → IsMatrixOver K n rows → IsVectorOver K n v →
    IsSpanned K rows v ↔ IsCombination K n rows v

-- a list of rows has a reduced basis
abbrev pub ReducedBasisOfListExists : NumberField → Type 0
ReducedBasisOfListExists K = (n : ℕ) (rows : List (List ℕ)) → IsMatrixOver K n rows →
    (basis : List (List ℕ)) × IsMatrixOver K n basis × IsReducedBasis K rows basis

-- and no more than one (any linear algebra text)
abbrev pub ReducedBasisOfListIsUnique : NumberField → Type 0
ReducedBasisOfListIsUnique K =
    (n : ℕ) (rows a b : List (List ℕ)) → IsMatrixOver K n rows → IsMatrixOver K n a → IsMatrixOver K n b →
    IsReducedBasis K rows a → IsReducedBasis K rows b → a ≡ b
