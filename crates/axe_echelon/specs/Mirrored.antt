-- Vectors read from the last entry to the first.
use Rattle.std.specs.Prelude.{◌≡◌, ◌≢◌, ℕ, ◌+◌, ◌-◌, ◌<◌, ◌≤◌, List, length, reverse, slice_index}
use Rattle.axe_algebra.specs.Field.{Field}
use Rattle.axe_algebra.specs.Vectors.{Vector, Matrix, HasLength}
use Rattle.axe_algebra.specs.Bridge.{matrix_of}
use Rattle.axe_algebra.specs.Irreducible.{InAnnihilator}
use Rattle.axe_field.specs.NumberFields.{number_field, gf}
use Rattle.axe_layer.specs.Words.{digit_of_words}
use Rattle.axe_row.specs.Planes.{coefficients_at}
use Rattle.axe_row.specs.Rows.{RowValue}
use Rattle.axe_matrix.specs.Matrices.{MatrixValue, IsMatrix}
use native.Mathlib.Decide.{dec_lt}

-- entry j of a vector of length n whose entries are read from the last to the first, by whether there is one
unfoldable pub mirrored_entry : (F : Field) (n : ℕ) (x : Vector F) (j : ℕ) → Dec (j < n) → F.Element
mirrored_entry F n x j (yes inside) = x (n - 1 - j)
mirrored_entry F n x j (no past) = F.zero

-- a vector of length n, read from the last entry to the first
unfoldable pub mirrored : (F : Field) → ℕ → Vector F → Vector F
unfolding mirrored_entry
mirrored F n x = λ j. mirrored_entry F n x j (dec_lt j n)

-- a row vector with its entries in the opposite order
abbrev pub mirrored_row : RowValue → RowValue
mirrored_row row = record { order = row.order; entries = reverse row.entries }

-- the digits of two words are the 64 of a list that end before an index; where there are fewer, the first digits are 0
pub record AreDigitsBefore (digits : List ℕ) (end : ℕ) (words : List ℕ) : Type 0 where
  pub are_last : (i : ℕ) → i < 64 → 64 ≤ end + i → digit_of_words words i ≡ slice_index digits (end + i - 64)
  pub zeros : (i : ℕ) → end + i < 64 → digit_of_words words i ≡ 0

-- the row vector after is the one before with the coefficients of x^k of another in the opposite order
pub record HasMirroredCoefficients (k : ℕ) (row before after : RowValue) : Type 0 where
  pub order : after.order ≡ before.order
  pub as_long : length after.entries ≡ length before.entries
  pub written : coefficients_at row.order k after.entries ≡ coefficients_at row.order k (reverse row.entries)
  pub kept : (i : ℕ) → i ≢ k → coefficients_at row.order i after.entries ≡ coefficients_at row.order i before.entries

-- the other matrix has the rows of m, each read from the last entry to the first
pub record IsMirrored (m other : MatrixValue) : Type 0 where
  pub field : other.order ≡ m.order
  pub columns : other.cols ≡ m.cols
  pub count : length other.rows ≡ length m.rows
  pub rows : matrix_of (number_field m.order) other.rows ≡
      (λ t. mirrored (gf m.order) m.cols (matrix_of (number_field m.order) m.rows t))
  pub well_formed : IsMatrix other

-- x has length n, and is orthogonal to r rows of w when it is read from the last entry to the first
pub record IsOrthogonalMirrored (F : Field) (n r : ℕ) (w : Matrix F) (x : Vector F) : Type 0 where
  pub length : HasLength F n x
  pub orthogonal : InAnnihilator F n r w (mirrored F n x)
