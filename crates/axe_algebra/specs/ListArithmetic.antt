-- Sums, products, transposes, inverses and conjugates of matrices that are lists of rows, entry by entry.
use Rattle.std.specs.Prelude.{◌≡◌, ℕ, zero, suc, List, map, length, get_or, cond, eqb}
use Rattle.axe_algebra.specs.NumberField.{NumberField}
use Rattle.axe_algebra.specs.Lists.{entry, listed, table, IsSquareOver}

-- the sum of f 0 to f (n - 1)
unfoldable pub number_sum : NumberField → (ℕ → ℕ) → ℕ → ℕ
number_sum K f zero = 0
number_sum K f (suc n) = K.add (number_sum K f n) (f n)

-- entry i, j of the product of a and b: the sum over t below n of a[i][t] b[t][j] (any linear algebra text)
unfoldable pub product_entry : NumberField → List (List ℕ) → List (List ℕ) → ℕ → ℕ → ℕ → ℕ
product_entry K a b n i j = number_sum K (λ t. K.mul (entry a i t) (entry b t j)) n

-- the product of a, whose rows are as long as b has rows, and b, which has so many columns
unfoldable pub product : NumberField → ℕ → List (List ℕ) → List (List ℕ) → List (List ℕ)
product K columns a b = table (length a) columns (product_entry K a b (length b))

-- the sum of two matrices of one shape, entry by entry
unfoldable pub matrix_sum : NumberField → ℕ → List (List ℕ) → List (List ℕ) → List (List ℕ)
matrix_sum K columns a b = table (length a) columns (λ i j. K.add (entry a i j) (entry b i j))

-- the transpose: entry i, j is entry j, i of the matrix with so many columns
unfoldable pub transpose : ℕ → List (List ℕ) → List (List ℕ)
transpose columns a = table columns (length a) (λ i j. entry a j i)

-- the identity matrix: 1 where row and column agree, 0 elsewhere
unfoldable pub identity : ℕ → List (List ℕ)
identity n = table n n (λ i j. cond (eqb i j) 1 0)

-- entry j of the vector v times the matrix b: the sum over t below n of v[t] b[t][j]
unfoldable pub combination_entry : NumberField → List ℕ → List (List ℕ) → ℕ → ℕ → ℕ
combination_entry K v b n j = number_sum K (λ t. K.mul (get_or v t 0) (entry b t j)) n

-- the vector v times the matrix b with so many columns: the combination of b's rows with the coefficients v
unfoldable pub combination : NumberField → ℕ → List ℕ → List (List ℕ) → List ℕ
combination K columns v b = listed columns (combination_entry K v b (length b))

-- a b = b a = 1, the identity of n rows: where both are square of n rows, b is the inverse of a
pub record IsInverse (K : NumberField) (n : ℕ) (a b : List (List ℕ)) : Type 0 where
  pub right : product K n a b ≡ identity n
  pub left : product K n b a ≡ identity n

-- the generators of the transposed module
abbrev pub transposed_generators : ℕ → List (List (List ℕ)) → List (List (List ℕ))
transposed_generators n generators = map (transpose n) generators

-- c is the conjugate p g p^-1 of g, where each matrix is read with n rows and columns
pub record IsConjugate (K : NumberField) (n : ℕ) (p g c : List (List ℕ)) : Type 0 where
  pub inverse : List (List ℕ)
  pub square : IsSquareOver K n inverse
  pub inverts : IsInverse K n p inverse
  pub equals : c ≡ product K n (product K n p g) inverse
