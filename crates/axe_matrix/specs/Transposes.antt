-- Transposes that are written part by part.
use Rattle.std.specs.Prelude.{◌≡◌, ◌≢◌, ℕ, ◌<◌, ◌≤◌, ◌∷◌, [], List, length, map, slice_index, slice_set}
use Rattle.axe_algebra.specs.Lists.{entry}
use Rattle.axe_layer.specs.Words.{digit_of_words}
use Rattle.axe_row.specs.Planes.{coefficients_at}
use Rattle.axe_row.specs.Words.{HasWords}
use Rattle.axe_matrix.specs.Matrices.{MatrixValue, row_of}

-- the matrix of the coefficients of x^k of a matrix's entries, for a power of x below the degree of its field
abbrev pub coefficients_of : ℕ → MatrixValue → MatrixValue
coefficients_of k m = record m { rows = map (coefficients_at m.order k) m.rows }

-- the matrix after is the one before with another entry f i j at each place i, j in the rows from `top` on and before
-- `bottom` and in the columns from `left` on and before `right`, as far as the matrix goes
pub record HasEntries (f : ℕ → ℕ → ℕ) (top bottom left right : ℕ) (before after : MatrixValue) : Type 0 where
  pub order : after.order ≡ before.order
  pub cols : after.cols ≡ before.cols
  pub count : length after.rows ≡ length before.rows
  pub written : (i j : ℕ) → i < length before.rows → j < before.cols → top ≤ i → i < bottom → left ≤ j → j < right →
      entry after.rows i j ≡ f i j
  pub kept : (i j : ℕ) → i < length before.rows → j < before.cols →
      (top ≤ i → i < bottom → left ≤ j → j < right → ⊥) → entry after.rows i j ≡ entry before.rows i j

-- the matrix after is the one before with another coefficient f i j of x^k in the entries of these rows and columns
pub record HasCoefficients (k : ℕ) (f : ℕ → ℕ → ℕ) (top bottom left right : ℕ) (before after : MatrixValue)
    : Type 0 where
  pub power : HasEntries f top bottom left right (coefficients_of k before) (coefficients_of k after)
  pub others : (h : ℕ) → h ≢ k → coefficients_of h after ≡ coefficients_of h before

-- the matrix after is the one before with the coefficients of x^k of the transpose of m in these rows and columns
abbrev pub HasTransposed : ℕ → MatrixValue → ℕ → ℕ → ℕ → ℕ → MatrixValue → MatrixValue → Type 0
HasTransposed k m top bottom left right before after =
    HasCoefficients k (λ i j. entry (coefficients_of k m).rows j i) top bottom left right before after

-- a matrix over the field of m, and of the shape of its transpose
pub record IsShapedAsTranspose (m transpose : MatrixValue) : Type 0 where
  pub order : transpose.order ≡ m.order
  pub cols : transpose.cols ≡ length m.rows
  pub count : length transpose.rows ≡ m.cols

-- the entries of a matrix in these rows and columns are 0
abbrev pub AreZerosWithin : ℕ → ℕ → ℕ → ℕ → MatrixValue → Type 0
AreZerosWithin top bottom left right m =
    (i j : ℕ) → i < length m.rows → j < m.cols → top ≤ i → i < bottom → left ≤ j → j < right → entry m.rows i j ≡ 0

-- the digit in row i and column j of a block of two layers, the ones and the twos, each of which has a word for each
-- row
abbrev pub digit_of_block : List ℕ → List ℕ → ℕ → ℕ → ℕ
digit_of_block ones twos i j = digit_of_words (slice_index ones i ∷ slice_index twos i ∷ []) j

-- the matrix after is the one before with the digits of two words as word k of the coefficients of x^j in row i
pub record HasRowWords (j i k : ℕ) (words : List ℕ) (before after : MatrixValue) : Type 0 where
  pub order : after.order ≡ before.order
  pub cols : after.cols ≡ before.cols
  pub row : HasWords j k words (row_of before i) (row_of after i)
  pub rows : after.rows ≡ slice_set before.rows i (row_of after i).entries
