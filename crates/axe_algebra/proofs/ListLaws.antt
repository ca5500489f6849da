-- The laws of products of lists, and inverses of lists as inverses of their matrices.
use Rattle.std.specs.Prelude.{◌≡◌, ℕ, List, length}
use Rattle.axe_algebra.specs.NumberField.{NumberField}
use Rattle.axe_algebra.specs.Field.{Field}
use Rattle.axe_algebra.specs.Vectors.{Matrix, unit_matrix, multiply}
use Rattle.axe_algebra.specs.Spans
use Rattle.axe_algebra.specs.Bridge.{field_of, matrix_of}
use Rattle.axe_algebra.specs.Lists.{rows_of, IsMatrixOver, IsSquareOver}
use Rattle.axe_algebra.specs.ListArithmetic.{product, identity, IsInverse}
use Rattle.axe_algebra.specs.ListTheorems.{InverseOfListsIsInverse}
use Rattle.axe_algebra.proofs.ProductLaws.{multiply_assoc, multiply_identity}
use Rattle.axe_algebra.proofs.ListEntries.{table_length, matrix_shape, square_shape, matrix_of_rows, rows_over, same_matrix}
use Rattle.axe_algebra.proofs.ListProducts.{matrix_of_product, product_over, product_length, matrix_of_identity, identity_over, identity_length}
use mathlib.Core.Path.{sym, ◌∙◌, ap, subst}

module _ (K : NumberField) where
  abbrev F : Field
  F = field_of K

  -- products of lists by the number of rows of the second factor
  pub matrix_of_product_of : (m p : ℕ) (a b : List (List ℕ)) → length b ≡ m → IsMatrixOver K m a → IsMatrixOver K p b →
      matrix_of K (product K p a b) ≡ multiply F m (matrix_of K a) (matrix_of K b)
  matrix_of_product_of m p a b same over_a over_b =
      matrix_of_product K p a b (subst (λ n. IsMatrixOver K n a) (sym same) over_a) over_b
      ∙ ap (λ n. multiply F n (matrix_of K a) (matrix_of K b)) same

  pub product_over_of : (m p : ℕ) (a b : List (List ℕ)) → length b ≡ m → IsMatrixOver K m a → IsMatrixOver K p b → IsMatrixOver K p (product K p a b)
  product_over_of m p a b same over_a over_b = product_over K p a b (subst (λ n. IsMatrixOver K n a) (sym same) over_a) over_b

  -- (a b) c = a (b c)
  pub product_assoc : (n p : ℕ) (a b c : List (List ℕ)) → IsMatrixOver K (length b) a → IsMatrixOver K n b → length c ≡ n → IsMatrixOver K p c →
      product K p (product K n a b) c ≡ product K p a (product K p b c)
  product_assoc n p a b c over_a over_b same over_c =
      same_matrix K p (product K p (product K n a b) c) (product K p a (product K p b c))
      (product_length K p (product K n a b) c ∙ product_length K n a b ∙ sym (product_length K p a (product K p b c)))
      (product_over_of n p (product K n a b) c same over_ab over_c)
      (product_over_of (length b) p a (product K p b c) (product_length K p b c) over_a over_bc)
      (matrix_of_product_of n p (product K n a b) c same over_ab over_c
      ∙ ap (λ (x : Matrix F). multiply F n x (matrix_of K c)) (matrix_of_product K n a b over_a over_b)
      ∙ multiply_assoc F (length b) n (matrix_of K a) (matrix_of K b) (matrix_of K c)
      ∙ ap (multiply F (length b) (matrix_of K a)) (sym (matrix_of_product_of n p b c same over_b over_c))
      ∙ sym (matrix_of_product_of (length b) p a (product K p b c) (product_length K p b c) over_a over_bc))
    where
      over_ab : IsMatrixOver K n (product K n a b)
      over_ab = product_over K n a b over_a over_b

      over_bc : IsMatrixOver K p (product K p b c)
      over_bc = product_over_of n p b c same over_b over_c

  -- a 1 = a and 1 a = a
  pub product_identity : (n : ℕ) (a : List (List ℕ)) → IsMatrixOver K n a → product K n a (identity n) ≡ a
  product_identity n a over =
      same_matrix K n (product K n a (identity n)) a (product_length K n a (identity n))
      (product_over_of n n a (identity n) (identity_length K n) over (identity_over K n)) over
      (matrix_of_product_of n n a (identity n) (identity_length K n) over (identity_over K n)
      ∙ ap (multiply F n (matrix_of K a)) (matrix_of_identity K n)
      ∙ multiply_identity F (length a) n (matrix_of K a) (matrix_shape K n a over))

  -- the inverse of a list is the inverse of its matrix
  pub inverse_of_lists : (n : ℕ) (a b : List (List ℕ)) → IsSquareOver K n a → IsSquareOver K n b → IsInverse K n a b →
      Spans.IsInverse F n (matrix_of K a) (matrix_of K b)
  inverse_of_lists n a b square_a square_b inverts = record {
    shape = square_shape K n b square_b;
    left = sym (matrix_of_product_of n n b a square_a.length_is square_b.matrix square_a.matrix) ∙ ap (matrix_of K) inverts.left ∙ matrix_of_identity K n;
    right = sym (matrix_of_product_of n n a b square_b.length_is square_a.matrix square_b.matrix) ∙ ap (matrix_of K) inverts.right ∙ matrix_of_identity K n;
  }

  same_as_identity : (n : ℕ) (a b : List (List ℕ)) → IsSquareOver K n a → IsSquareOver K n b →
      multiply F n (matrix_of K a) (matrix_of K b) ≡ unit_matrix F n → product K n a b ≡ identity n
  same_as_identity n a b square_a square_b one =
      same_matrix K n (product K n a b) (identity n) (product_length K n a b ∙ square_a.length_is ∙ sym (identity_length K n))
      (product_over_of n n a b square_b.length_is square_a.matrix square_b.matrix) (identity_over K n)
      (matrix_of_product_of n n a b square_b.length_is square_a.matrix square_b.matrix ∙ one ∙ sym (matrix_of_identity K n))

  pub lists_of_inverse : (n : ℕ) (a b : List (List ℕ)) → IsSquareOver K n a → IsSquareOver K n b →
      Spans.IsInverse F n (matrix_of K a) (matrix_of K b) → IsInverse K n a b
  lists_of_inverse n a b square_a square_b inverts = record {
    right = same_as_identity n a b square_a square_b inverts.right;
    left = same_as_identity n b a square_b square_a inverts.left;
  }

  -- where the matrix of a list is invertible, a list is the inverse
  pub inverse_list : (n : ℕ) (a : List (List ℕ)) → IsSquareOver K n a → Spans.IsInvertible F n (matrix_of K a) →
      (b : List (List ℕ)) × IsSquareOver K n b × IsInverse K n a b
  inverse_list n a square invertible = (b, square_b, lists_of_inverse n a b square square_b same)
    where
      b : List (List ℕ)
      b = rows_of K n n invertible.inverse

      square_b : IsSquareOver K n b
      square_b = record { length_is = table_length n n (λ i j. (invertible.inverse i j).0); matrix = rows_over K n n invertible.inverse }

      same : Spans.IsInverse F n (matrix_of K a) (matrix_of K b)
      same = subst (λ x. Spans.IsInverse F n (matrix_of K a) x) (sym (matrix_of_rows K n n invertible.inverse invertible.inverts.shape)) invertible.inverts

  pub inverse_exactly : InverseOfListsIsInverse K
  inverse_exactly n a b square_a square_b = (inverse_of_lists n a b square_a square_b, lists_of_inverse n a b square_a square_b)
