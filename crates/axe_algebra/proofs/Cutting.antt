-- Matrices cut to a size: the entries outside become 0.
use Rattle.std.specs.Prelude.{◌≡◌, ℕ, ◌<◌, ◌≤◌, cond, ltb}
use Rattle.axe_algebra.specs.Field.{Field}
use Rattle.axe_algebra.specs.Vectors.{Vector, Matrix, HasLength, HasShape, times}
use Rattle.axe_algebra.specs.Spans.{SpanWithin}
use Rattle.axe_algebra.proofs.Exchange.{cut, cut_below, cut_length, times_cut}
use Rattle.axe_algebra.proofs.Spanning.{coefficient_rows, coefficient_rows_combine}
use Rattle.std.proofs.lemmas.Bool.{lt-ltb, le-ltb}
use mathlib.Core.Path.{sym, ◌∙◌, ap, fun_ext}
use native.Mathlib.Omega.{arith}
use native.Mathlib.Decide.{dec_lt}

-- the matrix of m rows and n columns with the entries of a
unfoldable pub cut_matrix : (F : Field) → ℕ → ℕ → Matrix F → Matrix F
cut_matrix F m n a = λ i j. cond (ltb i m) (cut F n (a i) j) F.zero

module _ (F : Field) where
  -- a vector of length n is its own cut
  pub cut_same : (n : ℕ) (v : Vector F) → HasLength F n v → cut F n v ≡ v
  cut_same n v length = fun_ext λ j. at j (dec_lt j n)
    where
      at : (j : ℕ) → Dec (j < n) → cut F n v j ≡ v j
      at j (yes below) = cut_below F n v j below
      at j (no past) = cut_length F n v j (omega arith) ∙ sym (length j (omega arith))

  pub cut_matrix_row : (m n : ℕ) (a : Matrix F) (i : ℕ) → i < m → cut_matrix F m n a i ≡ cut F n (a i)
  unfolding cut_matrix
  cut_matrix_row m n a i below = fun_ext λ j. ap (λ b. cond b (cut F n (a i) j) F.zero) (lt-ltb i m below)

  pub cut_is_matrix : (m n : ℕ) (a : Matrix F) → HasShape F m n (cut_matrix F m n a)
  unfolding cut_matrix
  cut_is_matrix m n a = record { rows = past_rows; columns = λ i j past. past_columns i j past (dec_lt i m) }
    where
      past_rows : (i j : ℕ) → m ≤ i → cond (ltb i m) (cut F n (a i) j) F.zero ≡ F.zero
      past_rows i j past = ap (λ b. cond b (cut F n (a i) j) F.zero) (le-ltb i m past)

      past_columns : (i j : ℕ) → n ≤ j → Dec (i < m) → cond (ltb i m) (cut F n (a i) j) F.zero ≡ F.zero
      past_columns i j past (yes below) = ap (λ b. cond b (cut F n (a i) j) F.zero) (lt-ltb i m below) ∙ cut_length F n (a i) j past
      past_columns i j past (no above) = past_rows i j (omega arith)

  -- a matrix of m rows and n columns is its own cut
  pub cut_matrix_same : (m n : ℕ) (a : Matrix F) → HasShape F m n a → cut_matrix F m n a ≡ a
  cut_matrix_same m n a shape = fun_ext λ i. row i (dec_lt i m)
    where
      row : (i : ℕ) → Dec (i < m) → cut_matrix F m n a i ≡ a i
      row i (yes below) = cut_matrix_row m n a i below ∙ cut_same n (a i) (shape.columns i)
      row i (no past) = fun_ext λ j. (cut_is_matrix m n a).rows i j (omega arith) ∙ sym (shape.rows i j (omega arith))

  -- m rows of w in the span of k rows of v: the matrix of their coefficients
  pub coefficient_matrix : (m : ℕ) (w : Matrix F) (k : ℕ) (v : Matrix F) → SpanWithin F m w k v →
      (a : Matrix F) × HasShape F m k a × ((t : ℕ) → t < m → w t ≡ times F k (a t) v)
  coefficient_matrix m w k v within = (cut_matrix F m k a, cut_is_matrix m k a, combine)
    where
      a : Matrix F
      a = coefficient_rows F m w k v within

      combine : (t : ℕ) → t < m → w t ≡ times F k (cut_matrix F m k a t) v
      combine t below =
          coefficient_rows_combine F m w k v within t below ∙ sym (times_cut F k (a t) v)
          ∙ ap (λ (c : Vector F). times F k c v) (sym (cut_matrix_row m k a t below))
