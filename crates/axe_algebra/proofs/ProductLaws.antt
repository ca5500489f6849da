-- The laws of vectors times matrices and of products of matrices.
use Rattle.std.specs.Prelude.{◌≡◌, ◌≢◌, ℕ, suc, ◌<◌, ◌≤◌, cond}
use Rattle.axe_algebra.specs.Field.{Field}
use Rattle.axe_algebra.specs.Vectors.{Vector, Matrix, HasLength, HasRowsOfLength, HasShape, zero_vector, unit_vector, unit_matrix, add_vectors, subtract, scale, add_matrices, transposed, sum, times, multiply, dot}
use Rattle.axe_algebra.proofs.FieldLaws.{mul-zero, zero-mul, add-mul, one-mul, mul_left_comm, neg-mul}
use Rattle.axe_algebra.proofs.Sums.{sum_same, sum_zeros, sum-add, mul-sum, sum-mul, neg-sum, sum_swap, sum_one, sum_longer}
use Rattle.std.proofs.lemmas.Bool.{eq-eqb, ne_eqb, lt-ltb, le-ltb}
use mathlib.Core.Path.{refl, sym, ◌∙◌, ap, ap₂, fun_ext}
use native.Mathlib.Omega.{arith}
use native.Mathlib.Decide.{ℕ_discrete, dec_lt}

module _ (F : Field) where
  open F use {Element, zero as 𝟘, one as 𝟙, add as ◌⊕◌, mul as ◌⊗◌, neg}

  infixl 60 ◌⊕◌
  infixl 70 ◌⊗◌
  pub times-at : (n : ℕ) (c : Vector F) (a : Matrix F) (j : ℕ) → times F n c a j ≡ sum F n (λ t. c t ⊗ a t j)
  unfolding times
  times-at n c a j = refl

  pub dot-at : (n : ℕ) (v w : Vector F) → dot F n v w ≡ sum F n (λ t. v t ⊗ w t)
  unfolding dot
  dot-at n v w = refl

  -- only the first n coefficients and rows count
  pub times_same : (n : ℕ) (c d : Vector F) (a b : Matrix F) → ((t : ℕ) → t < n → c t ≡ d t) → ((t : ℕ) → t < n → a t ≡ b t) →
      times F n c a ≡ times F n d b
  unfolding times
  times_same n c d a b coefficients rows =
      fun_ext λ j. sum_same F n (λ t. c t ⊗ a t j) (λ t. d t ⊗ b t j)
      (λ t below. ap₂ ◌⊗◌ (coefficients t below) (ap (λ (x : Vector F). x j) (rows t below)))

  pub times-add_vectors : (n : ℕ) (c d : Vector F) (a : Matrix F) →
      times F n (add_vectors F c d) a ≡ add_vectors F (times F n c a) (times F n d a)
  unfolding times
  times-add_vectors n c d a =
      fun_ext λ j. sum_same F n _ (λ t. c t ⊗ a t j ⊕ d t ⊗ a t j) (λ t below. add-mul F (c t) (d t) (a t j))
      ∙ sum-add F n (λ t. c t ⊗ a t j) (λ t. d t ⊗ a t j)

  pub times-add_matrices : (n : ℕ) (c : Vector F) (a b : Matrix F) →
      times F n c (add_matrices F a b) ≡ add_vectors F (times F n c a) (times F n c b)
  unfolding times
  times-add_matrices n c a b =
      fun_ext λ j. sum_same F n _ (λ t. c t ⊗ a t j ⊕ c t ⊗ b t j) (λ t below. F.mul-add (c t) (a t j) (b t j))
      ∙ sum-add F n (λ t. c t ⊗ a t j) (λ t. c t ⊗ b t j)

  pub times-subtract : (n : ℕ) (c d : Vector F) (a : Matrix F) →
      times F n (subtract F c d) a ≡ subtract F (times F n c a) (times F n d a)
  unfolding times
  times-subtract n c d a =
      fun_ext λ j. sum_same F n _ (λ t. c t ⊗ a t j ⊕ neg (d t ⊗ a t j))
      (λ t below. add-mul F (c t) (neg (d t)) (a t j) ∙ ap (λ x. c t ⊗ a t j ⊕ x) (neg-mul F (d t) (a t j)))
      ∙ sum-add F n (λ t. c t ⊗ a t j) (λ t. neg (d t ⊗ a t j))
      ∙ ap (λ x. sum F n (λ t. c t ⊗ a t j) ⊕ x) (sym (neg-sum F n (λ t. d t ⊗ a t j)))

  pub times-scale : (n : ℕ) (s : Element) (c : Vector F) (a : Matrix F) → times F n (scale F s c) a ≡ scale F s (times F n c a)
  unfolding times
  times-scale n s c a =
      fun_ext λ j. sum_same F n _ (λ t. s ⊗ (c t ⊗ a t j)) (λ t below. F.mul_assoc s (c t) (a t j))
      ∙ sym (mul-sum F s n (λ t. c t ⊗ a t j))

  pub times-scaled_rows : (n : ℕ) (s : Element) (c : Vector F) (a : Matrix F) →
      times F n c (λ t. scale F s (a t)) ≡ scale F s (times F n c a)
  unfolding times
  times-scaled_rows n s c a =
      fun_ext λ j. sum_same F n _ (λ t. s ⊗ (c t ⊗ a t j)) (λ t below. mul_left_comm F (c t) s (a t j))
      ∙ sym (mul-sum F s n (λ t. c t ⊗ a t j))

  pub times_zero : (n : ℕ) (a : Matrix F) → times F n (zero_vector F) a ≡ zero_vector F
  unfolding times
  times_zero n a = fun_ext λ j. sum_zeros F n (λ t. 𝟘 ⊗ a t j) (λ t below. zero-mul F (a t j))

  pub times_zero_coefficients : (n : ℕ) (c : Vector F) (a : Matrix F) → ((t : ℕ) → t < n → c t ≡ 𝟘) → times F n c a ≡ zero_vector F
  times_zero_coefficients n c a zeros = times_same n c (zero_vector F) a a zeros (λ t below. refl) ∙ times_zero n a

  pub times_zero_rows : (n : ℕ) (c : Vector F) (a : Matrix F) → ((t : ℕ) → t < n → a t ≡ zero_vector F) → times F n c a ≡ zero_vector F
  unfolding times
  times_zero_rows n c a zeros = fun_ext λ j. sum_zeros F n (λ t. c t ⊗ a t j)
      (λ t below. ap (λ (x : Vector F). c t ⊗ x j) (zeros t below) ∙ mul-zero F (c t))

  -- (c a) b = c (a b)
  pub times_times : (n m : ℕ) (c : Vector F) (a b : Matrix F) →
      times F n (times F m c a) b ≡ times F m c (multiply F n a b)
  unfolding times
  times_times n m c a b = fun_ext λ j.
      sum_same F n _ (λ t. sum F m (λ s. c s ⊗ (a s t ⊗ b t j)))
      (λ t below. sum-mul F m (λ s. c s ⊗ a s t) (b t j)
      ∙ sum_same F m _ (λ s. c s ⊗ (a s t ⊗ b t j)) (λ s inside. F.mul_assoc (c s) (a s t) (b t j)))
      ∙ sum_swap F n m (λ t s. c s ⊗ (a s t ⊗ b t j))
      ∙ sum_same F m _ (λ s. c s ⊗ sum F n (λ t. a s t ⊗ b t j)) (λ s inside. sym (mul-sum F (c s) n (λ t. a s t ⊗ b t j)))

  pub unit_at : (i : ℕ) → unit_vector F i i ≡ 𝟙
  unfolding unit_vector
  unit_at i = ap (λ b. cond b 𝟙 𝟘) (eq-eqb i i refl)

  pub unit_off : (i j : ℕ) → i ≢ j → unit_vector F i j ≡ 𝟘
  unfolding unit_vector
  unit_off i j other = ap (λ b. cond b 𝟙 𝟘) (ne_eqb i j other)

  pub unit_length : (n p : ℕ) → p < n → HasLength F n (unit_vector F p)
  unit_length n p below j past = unit_off p j (omega arith)

  -- the unit vector of p times a is row p of a
  pub times_unit : (n p : ℕ) (a : Matrix F) → p < n → times F n (unit_vector F p) a ≡ a p
  unfolding times
  times_unit n p a below = fun_ext λ j.
      sum_one F n p (λ t. unit_vector F p t ⊗ a t j) below
      (λ t inside other. ap (λ x. x ⊗ a t j) (unit_off p t (λ e. other (sym e))) ∙ zero-mul F (a t j))
      ∙ ap (λ x. x ⊗ a p j) (unit_at p) ∙ one-mul F (a p j)

  pub identity_row : (n i : ℕ) → i < n → unit_matrix F n i ≡ unit_vector F i
  unfolding unit_matrix
  identity_row n i below = fun_ext λ j. ap (λ b. cond b (unit_vector F i j) 𝟘) (lt-ltb i n below)

  pub identity_past : (n i : ℕ) → n ≤ i → unit_matrix F n i ≡ zero_vector F
  unfolding unit_matrix
  identity_past n i past = fun_ext λ j. ap (λ b. cond b (unit_vector F i j) 𝟘) (le-ltb i n past)

  pub unit_is_matrix : (n : ℕ) → HasShape F n n (unit_matrix F n)
  unit_is_matrix n = record {
    rows = λ i j past. ap (λ (x : Vector F). x j) (identity_past n i past);
    columns = λ i j past. entry_past i j past (dec_lt i n);
  }
    where
      entry_past : (i j : ℕ) → n ≤ j → Dec (i < n) → unit_matrix F n i j ≡ 𝟘
      entry_past i j past (yes below) = ap (λ (x : Vector F). x j) (identity_row n i below) ∙ unit_length n i below j past
      entry_past i j past (no above) = ap (λ (x : Vector F). x j) (identity_past n i (omega arith))

  -- v times the identity
  pub times_identity : (n : ℕ) (v : Vector F) → HasLength F n v → times F n v (unit_matrix F n) ≡ v
  unfolding times
  times_identity n v length = fun_ext λ j. at j (dec_lt j n)
    where
      at : (j : ℕ) → Dec (j < n) → sum F n (λ t. v t ⊗ unit_matrix F n t j) ≡ v j
      at j (yes below) =
          sum_one F n j (λ t. v t ⊗ unit_matrix F n t j) below
          (λ t inside other. ap (λ (x : Vector F). v t ⊗ x j) (identity_row n t inside) ∙ ap (λ x. v t ⊗ x) (unit_off t j other) ∙ mul-zero F (v t))
          ∙ ap (λ (x : Vector F). v j ⊗ x j) (identity_row n j below) ∙ ap (λ x. v j ⊗ x) (unit_at j) ∙ F.mul-one (v j)
      at j (no above) =
          sum_zeros F n (λ t. v t ⊗ unit_matrix F n t j)
          (λ t inside. ap (λ x. v t ⊗ x) ((unit_is_matrix n).columns t j (omega arith)) ∙ mul-zero F (v t))
          ∙ sym (length j (omega arith))

  pub times_length : (n m : ℕ) (v : Vector F) (a : Matrix F) → HasRowsOfLength F m a → HasLength F m (times F n v a)
  unfolding times
  times_length n m v a rows j past = sum_zeros F n (λ t. v t ⊗ a t j) (λ t below. ap (λ x. v t ⊗ x) (rows t j past) ∙ mul-zero F (v t))

  -- further coefficients that are zero
  pub times_longer : (n m : ℕ) (c : Vector F) (a : Matrix F) → n ≤ m → ((t : ℕ) → n ≤ t → t < m → c t ≡ 𝟘) → times F m c a ≡ times F n c a
  unfolding times
  times_longer n m c a within zeros = fun_ext λ j.
      sum_longer F n m (λ t. c t ⊗ a t j) within (λ t from below. ap (λ x. x ⊗ a t j) (zeros t from below) ∙ zero-mul F (a t j))

  pub times_more : (n : ℕ) (c : Vector F) (a : Matrix F) → times F (suc n) c a ≡ add_vectors F (times F n c a) (scale F (c n) (a n))
  unfolding times sum
  times_more n c a = refl

  pub times_none : (c : Vector F) (a : Matrix F) → times F 0 c a ≡ zero_vector F
  unfolding times sum
  times_none c a = refl

  pub multiply_assoc : (m n : ℕ) (a b c : Matrix F) → multiply F n (multiply F m a b) c ≡ multiply F m a (multiply F n b c)
  multiply_assoc m n a b c = fun_ext λ i. times_times n m (a i) b c

  pub multiply_identity : (m n : ℕ) (a : Matrix F) → HasShape F m n a → multiply F n a (unit_matrix F n) ≡ a
  multiply_identity m n a shape = fun_ext λ i. times_identity n (a i) (shape.columns i)

  pub identity_multiply : (m n : ℕ) (a : Matrix F) → HasShape F m n a → multiply F m (unit_matrix F m) a ≡ a
  identity_multiply m n a shape = fun_ext λ i. row i (dec_lt i m)
    where
      row : (i : ℕ) → Dec (i < m) → times F m (unit_matrix F m i) a ≡ a i
      row i (yes below) = ap (λ c. times F m c a) (identity_row m i below) ∙ times_unit m i a below
      row i (no above) =
          ap (λ c. times F m c a) (identity_past m i (omega arith)) ∙ times_zero m a ∙ fun_ext λ j. sym (shape.rows i j (omega arith))

  pub transposed_multiply : (n : ℕ) (a b : Matrix F) →
      transposed F (multiply F n a b) ≡ multiply F n (transposed F b) (transposed F a)
  unfolding times
  transposed_multiply n a b = fun_ext λ i. fun_ext λ j.
      sum_same F n (λ t. a j t ⊗ b t i) (λ t. b t i ⊗ a j t) (λ t below. F.mul_comm (a j t) (b t i))

  pub multiply-add_left : (n : ℕ) (a b c : Matrix F) →
      multiply F n (add_matrices F a b) c ≡ add_matrices F (multiply F n a c) (multiply F n b c)
  multiply-add_left n a b c = fun_ext λ i. times-add_vectors n (a i) (b i) c

  pub multiply-add_right : (n : ℕ) (a b c : Matrix F) →
      multiply F n a (add_matrices F b c) ≡ add_matrices F (multiply F n a b) (multiply F n a c)
  multiply-add_right n a b c = fun_ext λ i. times-add_matrices n (a i) b c

  pub multiply_is_matrix : (m n k : ℕ) (a b : Matrix F) → HasShape F m n a → HasShape F n k b → HasShape F m k (multiply F n a b)
  multiply_is_matrix m n k a b left right = record {
    rows = λ i j past. ap (λ (x : Vector F). x j) (times_zero_coefficients n (a i) b (λ t below. left.rows i t past));
    columns = λ i. times_length n k (a i) b right.columns;
  }

  pub transposed_is_matrix : (m n : ℕ) (a : Matrix F) → HasShape F m n a → HasShape F n m (transposed F a)
  transposed_is_matrix m n a shape = record { rows = λ i j past. shape.columns j i past; columns = λ i j past. shape.rows j i past }

  pub transposed_unit : (n : ℕ) → transposed F (unit_matrix F n) ≡ unit_matrix F n
  transposed_unit n = fun_ext λ i. fun_ext λ j. entry i j (ℕ_discrete i j) (dec_lt i n) (dec_lt j n)
    where
      entry : (i j : ℕ) → Dec (i ≡ j) → Dec (i < n) → Dec (j < n) → unit_matrix F n j i ≡ unit_matrix F n i j
      entry i j (yes e) _ _ = ap (λ (k : ℕ). unit_matrix F n k i) (sym e) ∙ ap (λ (k : ℕ). unit_matrix F n i k) e
      entry i j (no other) (yes a) (yes b) =
          ap (λ (x : Vector F). x i) (identity_row n j b) ∙ unit_off j i (λ e. other (sym e))
          ∙ sym (ap (λ (x : Vector F). x j) (identity_row n i a) ∙ unit_off i j other)
      entry i j (no other) (no a) _ =
          (unit_is_matrix n).columns j i (omega arith) ∙ sym ((unit_is_matrix n).rows i j (omega arith))
      entry i j (no other) (yes a) (no b) =
          (unit_is_matrix n).rows j i (omega arith) ∙ sym ((unit_is_matrix n).columns i j (omega arith))

  pub dot_comm : (n : ℕ) (v w : Vector F) → dot F n v w ≡ dot F n w v
  unfolding dot
  dot_comm n v w = sum_same F n (λ t. v t ⊗ w t) (λ t. w t ⊗ v t) (λ t below. F.mul_comm (v t) (w t))

  -- (v a) w^T = v (w a^T)^T
  pub dot_times : (n m : ℕ) (v : Vector F) (a : Matrix F) (w : Vector F) →
      dot F m (times F n v a) w ≡ dot F n v (times F m w (transposed F a))
  unfolding dot times
  dot_times n m v a w =
      ap (λ (x : Vector F). x 0) (times_times m n v a (λ t j. w t))
      ∙ sum_same F n _ (λ s. v s ⊗ sum F m (λ t. w t ⊗ a s t))
      (λ s below. ap (λ x. v s ⊗ x) (sum_same F m (λ t. a s t ⊗ w t) (λ t. w t ⊗ a s t) (λ t inside. F.mul_comm (a s t) (w t))))
