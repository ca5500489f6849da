-- Square matrices: invertible exactly when the null space is zero, exactly when the transpose is.
use Rattle.std.specs.Prelude.{◌≡◌, ◌≢◌, ℕ, ◌<◌, ◌≤◌, ◌⊎◌}
use Rattle.axe_algebra.specs.Field.{Field}
use Rattle.axe_algebra.specs.Vectors.{Vector, Matrix, HasLength, HasShape, zero_vector, unit_vector, unit_matrix, transposed, times, multiply}
use Rattle.axe_algebra.specs.Spans.{IsIndependent, IsDependent, IsInverse, IsInvertible, IsNullVector, HasZeroNullSpace, SpansAll}
use Rattle.axe_algebra.specs.Theorems.{InvertibleExactlyWhenNullSpaceIsZero, InvertibleExactlyWhenRowsAreIndependent, InvertibleExactlyWhenTransposeIs}
use Rattle.axe_algebra.proofs.ProductLaws.{times_times, times_zero, times_identity, identity_row, identity_past, unit_length, multiply_assoc, multiply_identity, identity_multiply, transposed_multiply, transposed_is_matrix, transposed_unit, multiply_is_matrix}
use Rattle.axe_algebra.proofs.Elimination.{eliminate}
use Rattle.axe_algebra.proofs.Exchange.{cut, cut_below, cut_length, times_cut, square_rows_span}
use mathlib.Core.Logic.{inl, inr}
use mathlib.Core.Path.{refl, sym, ◌∙◌, ap, fun_ext}
use native.Mathlib.Omega.{arith}
use native.Mathlib.Decide.{dec_lt}

module _ (F : Field) where
  open F use {Element, zero as 𝟘}

  -- v = v a b where a b = 1
  cancel_right : (n : ℕ) (a b : Matrix F) (v : Vector F) → HasLength F n v → multiply F n a b ≡ unit_matrix F n →
      v ≡ times F n (times F n v a) b
  cancel_right n a b v length one =
      sym (times_identity F n v length) ∙ ap (times F n v) (sym one) ∙ sym (times_times F n n v a b)

  -- a right inverse makes the null space zero
  pub zero_null_space_of_right : (n : ℕ) (a b : Matrix F) → multiply F n a b ≡ unit_matrix F n → HasZeroNullSpace F n a
  zero_null_space_of_right n a b one v null =
      cancel_right n a b v null.length one ∙ ap (λ (x : Vector F). times F n x b) null.vanishes ∙ times_zero F n b

  pub zero_null_space_of_inverse : (n : ℕ) (a : Matrix F) → IsInvertible F n a → HasZeroNullSpace F n a
  zero_null_space_of_inverse n a invertible = zero_null_space_of_right n a invertible.inverse invertible.inverts.right

  -- where the null space is zero the rows are independent, and the other way round
  pub rows_of_zero_null_space : (n : ℕ) (a : Matrix F) → HasZeroNullSpace F n a → IsIndependent F n a
  rows_of_zero_null_space n a none = record {
    only_zero = λ c vanishes t below.
        sym (cut_below F n c t below)
        ∙ ap (λ (x : Vector F). x t) (none (cut F n c) (record { length = cut_length F n c; vanishes = times_cut F n c a ∙ vanishes }));
  }

  pub zero_null_space_of_rows : (n : ℕ) (a : Matrix F) → IsIndependent F n a → HasZeroNullSpace F n a
  zero_null_space_of_rows n a independent v null = fun_ext λ t. at t (dec_lt t n)
    where
      at : (t : ℕ) → Dec (t < n) → v t ≡ 𝟘
      at t (yes below) = independent.only_zero v null.vanishes t below
      at t (no past) = null.length t (omega arith)

  -- rows that span everything have a left inverse
  solution : (n : ℕ) (a : Matrix F) → SpansAll F n n a → (i : ℕ) → Dec (i < n) → Vector F
  solution n a all i (yes below) = cut F n (all (unit_vector F i) (unit_length F n i below)).coefficients
  solution n a all i (no past) = zero_vector F

  pub left_inverse : (n : ℕ) (a : Matrix F) → SpansAll F n n a → Matrix F
  left_inverse n a all i = solution n a all i (dec_lt i n)

  pub left_inverse_is_matrix : (n : ℕ) (a : Matrix F) (all : SpansAll F n n a) → HasShape F n n (left_inverse n a all)
  unfolding left_inverse solution
  left_inverse_is_matrix n a all = record { rows = λ i j past. row i j past (dec_lt i n); columns = λ i. column i (dec_lt i n) }
    where
      row : (i j : ℕ) → n ≤ i → (d : Dec (i < n)) → solution n a all i d j ≡ 𝟘
      row i j past (yes below) = absurd (omega arith)
      row i j past (no above) = refl

      column : (i : ℕ) (d : Dec (i < n)) → HasLength F n (solution n a all i d)
      column i (yes below) = cut_length F n (all (unit_vector F i) (unit_length F n i below)).coefficients
      column i (no above) = λ j past. refl

  pub left_inverse_inverts : (n : ℕ) (a : Matrix F) (all : SpansAll F n n a) → multiply F n (left_inverse n a all) a ≡ unit_matrix F n
  unfolding left_inverse solution
  left_inverse_inverts n a all = fun_ext λ i. row i (dec_lt i n)
    where
      row : (i : ℕ) (d : Dec (i < n)) → times F n (solution n a all i d) a ≡ unit_matrix F n i
      row i (yes below) =
          times_cut F n (all (unit_vector F i) (unit_length F n i below)).coefficients a
          ∙ sym (all (unit_vector F i) (unit_length F n i below)).combines ∙ sym (identity_row F n i below)
      row i (no past) = times_zero F n a ∙ sym (identity_past F n i (omega arith))

  left_inverse_of_zero_null_space : (n : ℕ) (a : Matrix F) → HasShape F n n a → HasZeroNullSpace F n a →
      (b : Matrix F) × HasShape F n n b × (multiply F n b a ≡ unit_matrix F n)
  left_inverse_of_zero_null_space n a shape none =
      let all : SpansAll F n n a = square_rows_span F n a shape.columns (rows_of_zero_null_space n a none) in
      (left_inverse n a all, left_inverse_is_matrix n a all, left_inverse_inverts n a all)

  -- a left and a right inverse are the same
  left_is_right : (n : ℕ) (a b c : Matrix F) → HasShape F n n b → HasShape F n n c → multiply F n b a ≡ unit_matrix F n →
      multiply F n a c ≡ unit_matrix F n → b ≡ c
  left_is_right n a b c shape_b shape_c left right =
      sym (multiply_identity F n n b shape_b) ∙ ap (multiply F n b) (sym right) ∙ sym (multiply_assoc F n n b a c)
      ∙ ap (λ (x : Matrix F). multiply F n x c) left ∙ identity_multiply F n n c shape_c

  -- a one-sided inverse is two-sided
  pub two_sided : (n : ℕ) (a b : Matrix F) → HasShape F n n a → HasShape F n n b → multiply F n a b ≡ unit_matrix F n → IsInverse F n a b
  two_sided n a b shape_a shape_b right = from_left (left_inverse_of_zero_null_space n a shape_a (zero_null_space_of_right n a b right))
    where
      from_left : (c : Matrix F) × HasShape F n n c × (multiply F n c a ≡ unit_matrix F n) → IsInverse F n a b
      from_left (c, shape_c, left) = record {
        shape = shape_b;
        left = ap (λ (x : Matrix F). multiply F n x a) (sym (left_is_right n a c b shape_c shape_b left right)) ∙ left;
        right = right;
      }

  pub inverse_sym : (n : ℕ) (a b : Matrix F) → HasShape F n n a → IsInverse F n a b → IsInverse F n b a
  inverse_sym n a b shape inverts = record { shape = shape; left = inverts.right; right = inverts.left }

  pub left_two_sided : (n : ℕ) (a b : Matrix F) → HasShape F n n a → HasShape F n n b → multiply F n b a ≡ unit_matrix F n → IsInverse F n a b
  left_two_sided n a b shape_a shape_b left = inverse_sym n b a shape_b (two_sided n b a shape_b shape_a left)

  pub inverse_is_unique : (n : ℕ) (a b c : Matrix F) → IsInverse F n a b → IsInverse F n a c → b ≡ c
  inverse_is_unique n a b c first second = left_is_right n a b c first.shape second.shape first.left second.right

  -- where the null space is zero the matrix is invertible
  pub inverse_of_zero_null_space : (n : ℕ) (a : Matrix F) → HasShape F n n a → HasZeroNullSpace F n a → IsInvertible F n a
  inverse_of_zero_null_space n a shape none = from_left (left_inverse_of_zero_null_space n a shape none)
    where
      from_left : (b : Matrix F) × HasShape F n n b × (multiply F n b a ≡ unit_matrix F n) → IsInvertible F n a
      from_left (b, shape_b, left) = record { inverse = b; inverts = left_two_sided n a b shape shape_b left }

  pub invertible_of_rows : (n : ℕ) (a : Matrix F) → HasShape F n n a → IsIndependent F n a → IsInvertible F n a
  invertible_of_rows n a shape independent = inverse_of_zero_null_space n a shape (zero_null_space_of_rows n a independent)

  pub rows_of_invertible : (n : ℕ) (a : Matrix F) → IsInvertible F n a → IsIndependent F n a
  rows_of_invertible n a invertible = rows_of_zero_null_space n a (zero_null_space_of_inverse n a invertible)

  -- a square matrix has a nonzero null vector, or an inverse
  pub null_vector_or_inverse : (n : ℕ) (a : Matrix F) → HasShape F n n a →
      ((v : Vector F) × (v ≢ zero_vector F) × IsNullVector F n a v) ⊎ IsInvertible F n a
  null_vector_or_inverse n a shape = cases (eliminate F n n a shape.columns)
    where
      cases : IsDependent F n a ⊎ (IsIndependent F n a × (n ≤ n)) → ((v : Vector F) × (v ≢ zero_vector F) × IsNullVector F n a v) ⊎ IsInvertible F n a
      cases (inl d) = inl (
        cut F n d.coefficients,
        (λ e. d.nonzero (sym (cut_below F n d.coefficients d.place d.place-below) ∙ ap (λ (x : Vector F). x d.place) e)),
        record { length = cut_length F n d.coefficients; vanishes = times_cut F n d.coefficients a ∙ d.vanishes },
      )
      cases (inr (independent, bound)) = inr (invertible_of_rows n a shape independent)

  -- the transpose of an invertible matrix is invertible
  pub transposed_inverts : (n : ℕ) (a b : Matrix F) → IsInverse F n a b → IsInverse F n (transposed F a) (transposed F b)
  transposed_inverts n a b inverts = record {
    shape = transposed_is_matrix F n n b inverts.shape;
    left = sym (transposed_multiply F n a b) ∙ ap (transposed F) inverts.right ∙ transposed_unit F n;
    right = sym (transposed_multiply F n b a) ∙ ap (transposed F) inverts.left ∙ transposed_unit F n;
  }

  pub transposed_inverse : (n : ℕ) (a : Matrix F) → IsInvertible F n a → IsInvertible F n (transposed F a)
  transposed_inverse n a invertible = record {
    inverse = transposed F invertible.inverse;
    inverts = transposed_inverts n a invertible.inverse invertible.inverts;
  }

  -- the product of invertible matrices
  pub inverse_of_product : (n : ℕ) (a b c d : Matrix F) → HasShape F n n a → HasShape F n n b → IsInverse F n a c → IsInverse F n b d →
      IsInverse F n (multiply F n a b) (multiply F n d c)
  inverse_of_product n a b c d shape_a shape_b first second = record {
    shape = multiply_is_matrix F n n n d c second.shape first.shape;
    left =
        multiply_assoc F n n d c (multiply F n a b) ∙ ap (multiply F n d) (sym (multiply_assoc F n n c a b)
        ∙ ap (λ (x : Matrix F). multiply F n x b) first.left ∙ identity_multiply F n n b shape_b) ∙ second.left;
    right =
        multiply_assoc F n n a b (multiply F n d c) ∙ ap (multiply F n a) (sym (multiply_assoc F n n b d c)
        ∙ ap (λ (x : Matrix F). multiply F n x c) second.right ∙ identity_multiply F n n c first.shape) ∙ first.right;
  }

  pub null_space_criterion : InvertibleExactlyWhenNullSpaceIsZero F
  null_space_criterion n a shape = (zero_null_space_of_inverse n a, inverse_of_zero_null_space n a shape)

  pub rows_criterion : InvertibleExactlyWhenRowsAreIndependent F
  rows_criterion n a shape = (rows_of_invertible n a, invertible_of_rows n a shape)

  pub transpose_criterion : InvertibleExactlyWhenTransposeIs F
  transpose_criterion n a = (transposed_inverse n a, transposed_inverse n (transposed F a))
