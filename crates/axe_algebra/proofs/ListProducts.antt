-- Sums, products, transposes and identities of lists are those of their matrices.
use Rattle.std.specs.Prelude.{◌≡◌, ℕ, ◌<◌, List, length, get_or, cond, eqb, true, false, Bool}
use Rattle.axe_algebra.specs.NumberField.{NumberField}
use Rattle.axe_algebra.specs.Field.{Field}
use Rattle.axe_algebra.specs.Vectors.{Vector, HasShape, unit_vector, unit_matrix, add_matrices, transposed, sum, times, multiply}
use Rattle.axe_algebra.specs.Bridge.{field_of, element, vector_of, matrix_of}
use Rattle.axe_algebra.specs.Lists.{entry, IsVectorOver, IsMatrixOver}
use Rattle.axe_algebra.specs.ListArithmetic.{number_sum, product_entry, product, matrix_sum, transpose, identity, combination_entry, combination}
use Rattle.axe_algebra.proofs.FieldLaws.{zero-add}
use Rattle.axe_algebra.proofs.Sums.{sum_same}
use Rattle.axe_algebra.proofs.ProductLaws.{times-at, times_length, multiply_is_matrix, transposed_is_matrix, unit_is_matrix, identity_row, unit_at, unit_off}
use Rattle.axe_algebra.proofs.ElementNumbers.{zero-below, element_zero, element_one, element_add, element_mul, element_number_sum, number_sum-below, entry-below}
use Rattle.axe_algebra.proofs.ListEntries.{listed_over, table_over, table_length, matrix_entry-below, matrix_shape, rows_length, vector_of_listed, matrix_of_table}
use Rattle.std.proofs.lemmas.Bool.{eq-eqb, ne_eqb}
use mathlib.Core.Path.{refl, sym, ◌∙◌, ap, ap₂}
use native.Mathlib.Omega.{arith}
use native.Mathlib.Decide.{ℕ_discrete}

module _ (K : NumberField) where
  abbrev F : Field
  F = field_of K

  -- a sum of products of numbers is that of the elements
  pub element_sum_of_products : (n : ℕ) (f g : ℕ → ℕ) → ((t : ℕ) → t < n → f t < K.order) → ((t : ℕ) → t < n → g t < K.order) →
      element K (number_sum K (λ t. K.mul (f t) (g t)) n) ≡ sum F n (λ t. F.mul (element K (f t)) (element K (g t)))
  element_sum_of_products n f g f-below g-below =
      element_number_sum K n (λ t. K.mul (f t) (g t)) (λ t below. K.mul-below (f t) (g t) (f-below t below) (g-below t below))
      ∙ sum_same F n _ _ (λ t below. element_mul K (f t) (g t) (f-below t below) (g-below t below))

  -- products
  pub product_entry-below : (n p : ℕ) (a b : List (List ℕ)) (i j : ℕ) → IsMatrixOver K n a → IsMatrixOver K p b → product_entry K a b n i j < K.order
  unfolding product_entry
  product_entry-below n p a b i j over_a over_b =
      number_sum-below K n (λ t. K.mul (entry a i t) (entry b t j))
      (λ t below. K.mul-below (entry a i t) (entry b t j) (matrix_entry-below K n a i t over_a) (matrix_entry-below K p b t j over_b))

  pub element_product_entry : (n p : ℕ) (a b : List (List ℕ)) (i j : ℕ) → IsMatrixOver K n a → IsMatrixOver K p b →
      element K (product_entry K a b n i j) ≡ multiply F n (matrix_of K a) (matrix_of K b) i j
  unfolding product_entry
  element_product_entry n p a b i j over_a over_b =
      element_sum_of_products n (entry a i) (λ t. entry b t j) (λ t below. matrix_entry-below K n a i t over_a)
      (λ t below. matrix_entry-below K p b t j over_b)
      ∙ sym (times-at F n (matrix_of K a i) (matrix_of K b) j)

  pub matrix_of_product : (p : ℕ) (a b : List (List ℕ)) → IsMatrixOver K (length b) a → IsMatrixOver K p b →
      matrix_of K (product K p a b) ≡ multiply F (length b) (matrix_of K a) (matrix_of K b)
  unfolding product
  matrix_of_product p a b over_a over_b =
      matrix_of_table K (length a) p (product_entry K a b (length b)) _
      (multiply_is_matrix F (length a) (length b) p (matrix_of K a) (matrix_of K b) (matrix_shape K (length b) a over_a) (matrix_shape K p b over_b))
      (λ i j below inside. element_product_entry (length b) p a b i j over_a over_b)

  pub product_over : (p : ℕ) (a b : List (List ℕ)) → IsMatrixOver K (length b) a → IsMatrixOver K p b → IsMatrixOver K p (product K p a b)
  unfolding product
  product_over p a b over_a over_b =
      table_over K (length a) p (product_entry K a b (length b)) (λ i j below inside. product_entry-below (length b) p a b i j over_a over_b)

  pub product_length : (p : ℕ) (a b : List (List ℕ)) → length (product K p a b) ≡ length a
  unfolding product
  product_length p a b = table_length (length a) p (product_entry K a b (length b))

  -- a vector times a matrix
  pub vector_of_combination : (p : ℕ) (v : List ℕ) (b : List (List ℕ)) → IsVectorOver K (length b) v → IsMatrixOver K p b →
      vector_of K (combination K p v b) ≡ times F (length b) (vector_of K v) (matrix_of K b)
  unfolding combination combination_entry
  vector_of_combination p v b over_v over_b =
      vector_of_listed K p (combination_entry K v b (length b)) _
      (times_length F (length b) p (vector_of K v) (matrix_of K b) (rows_length K p b over_b))
      (λ j inside.
      element_sum_of_products (length b) (λ t. get_or v t 0) (λ t. entry b t j) (λ t below. entry-below K v t over_v.elements)
      (λ t below. matrix_entry-below K p b t j over_b)
      ∙ sym (times-at F (length b) (vector_of K v) (matrix_of K b) j))

  pub combination_over : (p : ℕ) (v : List ℕ) (b : List (List ℕ)) → IsVectorOver K (length b) v → IsMatrixOver K p b → IsVectorOver K p (combination K p v b)
  unfolding combination combination_entry
  combination_over p v b over_v over_b =
      listed_over K p (combination_entry K v b (length b)) (λ j inside.
      number_sum-below K (length b) (λ t. K.mul (get_or v t 0) (entry b t j))
      (λ t below. K.mul-below (get_or v t 0) (entry b t j) (entry-below K v t over_v.elements) (matrix_entry-below K p b t j over_b)))

  -- sums
  pub matrix_of_sum : (n : ℕ) (a b : List (List ℕ)) → length a ≡ length b → IsMatrixOver K n a → IsMatrixOver K n b →
      matrix_of K (matrix_sum K n a b) ≡ add_matrices F (matrix_of K a) (matrix_of K b)
  unfolding matrix_sum
  matrix_of_sum n a b lengths over_a over_b =
      matrix_of_table K (length a) n (λ i j. K.add (entry a i j) (entry b i j)) _ shape
      (λ i j below inside. element_add K (entry a i j) (entry b i j) (matrix_entry-below K n a i j over_a) (matrix_entry-below K n b i j over_b))
    where
      sa : HasShape F (length a) n (matrix_of K a)
      sa = matrix_shape K n a over_a

      sb : HasShape F (length b) n (matrix_of K b)
      sb = matrix_shape K n b over_b

      shape : HasShape F (length a) n (add_matrices F (matrix_of K a) (matrix_of K b))
      shape = record {
        rows = λ i j past. ap₂ F.add (sa.rows i j past) (sb.rows i j (omega arith)) ∙ zero-add F F.zero;
        columns = λ i j past. ap₂ F.add (sa.columns i j past) (sb.columns i j past) ∙ zero-add F F.zero;
      }

  -- transposes
  pub matrix_of_transpose : (n : ℕ) (a : List (List ℕ)) → IsMatrixOver K n a → matrix_of K (transpose n a) ≡ transposed F (matrix_of K a)
  unfolding transpose
  matrix_of_transpose n a over =
      matrix_of_table K n (length a) (λ i j. entry a j i) _
      (transposed_is_matrix F (length a) n (matrix_of K a) (matrix_shape K n a over)) (λ i j below inside. refl)

  pub transpose_over : (n : ℕ) (a : List (List ℕ)) → IsMatrixOver K n a → IsMatrixOver K (length a) (transpose n a)
  unfolding transpose
  transpose_over n a over = table_over K n (length a) (λ i j. entry a j i) (λ i j below inside. matrix_entry-below K n a j i over)

  -- identities
  pub element_of_delta : (i j : ℕ) → element K (cond (eqb i j) 1 0) ≡ unit_vector F i j
  element_of_delta i j = cases (ℕ_discrete i j)
    where
      cases : Dec (i ≡ j) → element K (cond (eqb i j) 1 0) ≡ unit_vector F i j
      cases (yes e) =
          ap (λ b. element K (cond b 1 0)) (eq-eqb i j e) ∙ element_one K
          ∙ sym (unit_at F i) ∙ ap (unit_vector F i) e
      cases (no other) =
          ap (λ b. element K (cond b 1 0)) (ne_eqb i j other) ∙ element_zero K ∙ sym (unit_off F i j other)

  pub matrix_of_identity : (n : ℕ) → matrix_of K (identity n) ≡ unit_matrix F n
  unfolding identity
  matrix_of_identity n =
      matrix_of_table K n n (λ i j. cond (eqb i j) 1 0) _ (unit_is_matrix F n)
      (λ i j below inside. element_of_delta i j ∙ ap (λ (x : Vector F). x j) (sym (identity_row F n i below)))

  pub identity_over : (n : ℕ) → IsMatrixOver K n (identity n)
  unfolding identity
  identity_over n = table_over K n n (λ i j. cond (eqb i j) 1 0) (λ i j below inside. delta-below (eqb i j))
    where
      delta-below : (b : Bool) → cond b 1 0 < K.order
      delta-below true = omega (arith, K.one-below)
      delta-below false = zero-below K

  pub identity_length : (n : ℕ) → length (identity n) ≡ n
  unfolding identity
  identity_length n = table_length n n (λ i j. cond (eqb i j) 1 0)
