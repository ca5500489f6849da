-- Vectors and matrices over a field: functions of one and of two indices, with lengths beside them (any linear algebra
-- text). So sums, products and spans are plain equations.
use Rattle.std.specs.Prelude.{◌≡◌, ℕ, zero, suc, ◌≤◌, cond, eqb, ltb}
use Rattle.axe_algebra.specs.Field.{Field}

-- a vector: its entries by their index
abbrev pub Vector : Field → Type 0
Vector F = ℕ → F.Element

-- a matrix: its entries by row and column; row i is the vector a i
abbrev pub Matrix : Field → Type 0
Matrix F = ℕ → ℕ → F.Element

-- the vector has length n: its entries from n on are 0
abbrev pub HasLength : (F : Field) → ℕ → Vector F → Type 0
HasLength F n v = (j : ℕ) → n ≤ j → v j ≡ F.zero

-- each row has length n
abbrev pub HasRowsOfLength : (F : Field) → ℕ → Matrix F → Type 0
HasRowsOfLength F n a = (i : ℕ) → HasLength F n (a i)

-- a matrix of m rows and n columns: all other entries are 0
pub record HasShape (F : Field) (m n : ℕ) (a : Matrix F) : Type 0 where
  pub rows : (i j : ℕ) → m ≤ i → a i j ≡ F.zero
  pub columns : HasRowsOfLength F n a

-- the zero vector
abbrev pub zero_vector : (F : Field) → Vector F
zero_vector F = λ j. F.zero

-- the unit vector: 1 at i, 0 elsewhere
unfoldable pub unit_vector : (F : Field) → ℕ → Vector F
unit_vector F i = λ j. cond (eqb i j) F.one F.zero

-- the identity matrix with n rows: row i is the unit vector of i
unfoldable pub unit_matrix : (F : Field) → ℕ → Matrix F
unit_matrix F n = λ i j. cond (ltb i n) (unit_vector F i j) F.zero

-- the sum of two vectors, entry by entry
abbrev pub add_vectors : (F : Field) → Vector F → Vector F → Vector F
add_vectors F v w = λ j. F.add (v j) (w j)

-- the difference of two vectors, entry by entry
abbrev pub subtract : (F : Field) → Vector F → Vector F → Vector F
subtract F v w = λ j. F.add (v j) (F.neg (w j))

-- a multiple of a vector, entry by entry
abbrev pub scale : (F : Field) → F.Element → Vector F → Vector F
scale F c v = λ j. F.mul c (v j)

-- the sum of two matrices, entry by entry
abbrev pub add_matrices : (F : Field) → Matrix F → Matrix F → Matrix F
add_matrices F a b = λ i j. F.add (a i j) (b i j)

-- the transpose: entry i, j is entry j, i
abbrev pub transposed : (F : Field) → Matrix F → Matrix F
transposed F a = λ i j. a j i

-- the sum of f 0 to f (n - 1)
unfoldable pub sum : (F : Field) → ℕ → (ℕ → F.Element) → F.Element
sum F zero f = F.zero
sum F (suc n) f = F.add (sum F n f) (f n)

-- the vector c times the matrix of the first n rows of a, which is the combination of these rows with coefficients c:
-- entry j is the sum over t below n of c[t] a[t][j]
unfoldable pub times : (F : Field) → ℕ → Vector F → Matrix F → Vector F
times F n c a = λ j. sum F n (λ t. F.mul (c t) (a t j))

-- the product of a and the matrix of the first n rows of b: entry i, j is the sum over t below n of a[i][t] b[t][j]
abbrev pub multiply : (F : Field) → ℕ → Matrix F → Matrix F → Matrix F
multiply F n a b = λ i. times F n (a i) b

-- v times w transposed: the sum of the products of their first n entries
unfoldable pub dot : (F : Field) → ℕ → Vector F → Vector F → F.Element
dot F n v w = sum F n (λ t. F.mul (v t) (w t))
