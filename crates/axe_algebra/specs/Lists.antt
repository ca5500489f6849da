-- Vectors and matrices as lists of element numbers, as the contracts of code speak of them: a vector is the list of its
-- entries, a matrix the list of its rows, beside its number of columns where that is asked for.
use Rattle.std.specs.Prelude.{◌≡◌, ℕ, ◌<◌, List, [], map, length, get_or, cond, eqb}
use Rattle.std.specs.List.{range_with_len, All}
use Rattle.axe_algebra.specs.NumberField.{NumberField}
use Rattle.axe_algebra.specs.Bridge.{field_of}
use Rattle.axe_algebra.specs.Vectors.{Vector, Matrix}

-- entry i, j of a list of rows, and 0 outside it (any linear algebra text)
abbrev pub entry : List (List ℕ) → ℕ → ℕ → ℕ
entry rows i j = get_or (get_or rows i []) j 0

-- the list of f 0 to f (n - 1)
abbrev pub listed : {A : Type 0} → ℕ → (ℕ → A) → List A
listed n f = map f (range_with_len 0 n)

-- the matrix of `rows` rows and `columns` columns with f i j as its entry i, j
abbrev pub table : ℕ → ℕ → (ℕ → ℕ → ℕ) → List (List ℕ)
table rows columns f = listed rows (λ i. listed columns (f i))

-- the numbers of the first n entries of a vector
abbrev pub entries_of : (K : NumberField) → ℕ → Vector (field_of K) → List ℕ
entries_of K n v = listed n (λ j. (v j).0)

-- the rows of the numbers of the first m by n entries of a matrix
abbrev pub rows_of : (K : NumberField) → ℕ → ℕ → Matrix (field_of K) → List (List ℕ)
rows_of K m n a = table m n (λ i j. (a i j).0)

-- the unit vector of length n with 1 at i
abbrev pub unit_row : ℕ → ℕ → List ℕ
unit_row n i = listed n (λ j. cond (eqb i j) 1 0)

-- the entries are elements of the field
abbrev pub AreElements : NumberField → List ℕ → Type 0
AreElements K entries = All (λ number. number < K.order) entries

-- a vector of length n over the field
pub record IsVectorOver (K : NumberField) (n : ℕ) (entries : List ℕ) : Type 0 where
  pub length_is : length entries ≡ n
  pub elements : AreElements K entries

-- a matrix over the field: rows of so many columns
abbrev pub IsMatrixOver : NumberField → ℕ → List (List ℕ) → Type 0
IsMatrixOver K columns rows = All (IsVectorOver K columns) rows

-- a square matrix of n rows over the field
pub record IsSquareOver (K : NumberField) (n : ℕ) (rows : List (List ℕ)) : Type 0 where
  pub length_is : length rows ≡ n
  pub matrix : IsMatrixOver K n rows

-- a module: a dimension of at least 1 and square generators of that dimension (Parker 1984)
pub record IsModuleOver (K : NumberField) (dimension : ℕ) (generators : List (List (List ℕ))) : Type 0 where
  pub positive : 0 < dimension
  pub square : All (IsSquareOver K dimension) generators
