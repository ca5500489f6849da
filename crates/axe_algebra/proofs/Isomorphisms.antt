-- Two modules with the same standard matrices are isomorphic, by the one basis times the inverse of the other.
use Rattle.std.specs.Prelude.{◌≡◌, ℕ, ◌<◌, ◌≤◌}
use Rattle.axe_algebra.specs.Field.{Field}
use Rattle.axe_algebra.specs.Vectors.{Vector, Matrix, HasLength, HasShape, unit_matrix, times, multiply}
use Rattle.axe_algebra.specs.Spans.{SpanWithin, IsIndependent, SpansAll, IsInverse, IsInvertible}
use Rattle.axe_algebra.specs.Modules.{Module, HasSquareMatrices, VectorGeneratesAll}
use Rattle.axe_algebra.specs.Actions.{IsSubAction}
use Rattle.axe_algebra.specs.Irreducible.{IsIsomorphism, AreIsomorphic}
use Rattle.axe_algebra.specs.Standard.{IsStandardBasis, AreStandardMatrices}
use Rattle.axe_algebra.proofs.ProductLaws.{times_same, times_zero_coefficients, times_identity, unit_is_matrix, multiply_assoc, multiply_identity, identity_multiply, multiply_is_matrix}
use Rattle.axe_algebra.proofs.Spanning.{span_same, span_row}
use Rattle.axe_algebra.proofs.Spaces.{independent_at_most}
use Rattle.axe_algebra.proofs.Exchange.{cut, cut_below, cut_length, times_cut, exchange}
use Rattle.axe_algebra.proofs.SquareMatrices.{invertible_of_rows, inverse_sym, inverse_of_product}
use Rattle.axe_algebra.proofs.Cutting.{cut_same, cut_matrix, cut_is_matrix, cut_matrix_row, cut_matrix_same}
use Rattle.axe_algebra.proofs.Generated.{generated_within}
use Rattle.axe_algebra.proofs.StandardBases.{standard_basis_is_invariant}
use Rattle.axe_algebra.proofs.StandardImages.{standard_row_length}
use mathlib.Core.Path.{refl, sym, ◌∙◌, ap, subst, fun_ext}
use native.Mathlib.Omega.{arith}
use native.Mathlib.Decide.{dec_lt}

module _ (F : Field) where
  -- the rows of the identity are independent
  pub unit_rows_independent : (n : ℕ) → IsIndependent F n (unit_matrix F n)
  unit_rows_independent n = record {
    only_zero = λ c vanishes t below.
        sym (cut_below F n c t below)
        ∙ ap (λ (x : Vector F). x t)
        (sym (times_identity F n (cut F n c) (cut_length F n c)) ∙ times_cut F n c (unit_matrix F n) ∙ vanishes);
  }

  -- the standard basis of a vector that generates everything spans everything
  pub standard_basis_spans_all : (M : Module F) (v : Vector F) → HasSquareMatrices F M → HasLength F M.dimension v → VectorGeneratesAll F M v →
      (m : ℕ) (b : Matrix F) → IsStandardBasis F M v m b → SpansAll F M.dimension m b
  standard_basis_spans_all M v is length generates m b S x long =
      generated_within F M is 1 (λ t. v) (λ t. length) m b (standard_basis_is_invariant F M v m b S)
      (λ t below. span_same F m b v (b 0) (sym S.first) (span_row F m b 0 S.nonempty)) x (generates x long)

  -- so it has as many rows as the dimension
  pub standard_basis_is_square : (M : Module F) (v : Vector F) → HasSquareMatrices F M → HasLength F M.dimension v → VectorGeneratesAll F M v →
      (m : ℕ) (b : Matrix F) → IsStandardBasis F M v m b → m ≡ M.dimension
  standard_basis_is_square M v is length generates m b S =
      omega (arith, at_least, independent_at_most F M.dimension m B (cut_is_matrix F m M.dimension b).columns independent)
    where
      B : Matrix F
      B = cut_matrix F m M.dimension b

      row : (t : ℕ) → t < m → B t ≡ b t
      row t below = cut_matrix_row F m M.dimension b t below ∙ cut_same F M.dimension (b t) (standard_row_length F M v is length m b S t below)

      independent : IsIndependent F m B
      independent = record {
        only_zero = λ c vanishes. S.independent.only_zero c (times_same F m c c b B (λ t below. refl) (λ t below. sym (row t below)) ∙ vanishes);
      }

      spans : SpanWithin F M.dimension (unit_matrix F M.dimension) m B
      spans t below =
          let within = standard_basis_spans_all M v is length generates m b S (unit_matrix F M.dimension t) ((unit_is_matrix F M.dimension).columns t) in
          record {
            coefficients = within.coefficients;
            combines = within.combines ∙ times_same F m within.coefficients within.coefficients b B (λ s inside. refl) (λ s inside. sym (row s inside));
          }

      at_least : M.dimension ≤ m
      at_least =
          exchange F M.dimension (unit_matrix F M.dimension) m B (unit_rows_independent M.dimension) spans

  -- the matrix of a standard basis with as many rows as the dimension is invertible
  pub standard_basis_is_invertible : (M : Module F) (v : Vector F) (n : ℕ) (b : Matrix F) → M.dimension ≡ n → HasSquareMatrices F M →
      HasLength F M.dimension v → IsStandardBasis F M v n b → IsInvertible F n (cut_matrix F n n b)
  standard_basis_is_invertible M v n b same is length S =
      invertible_of_rows F n (cut_matrix F n n b) (cut_is_matrix F n n b)
      (record {
        only_zero = λ c vanishes. S.independent.only_zero c
            (times_same F n c c b (cut_matrix F n n b) (λ t below. refl)
            (λ t below. sym (cut_matrix_row F n n b t below
            ∙ cut_same F n (b t) (subst (λ k. HasLength F k (b t)) same (standard_row_length F M v is length n b S t below))))
            ∙ vanishes);
      })

  -- b g = a b for the rows of a basis and the matrices of its sub action
  sub_action_multiplies : (M : Module F) (n : ℕ) (b : Matrix F) (A : Module F) → M.dimension ≡ n → HasSquareMatrices F M →
      ((t : ℕ) → t < n → HasLength F n (b t)) → IsSubAction F M n b A → (i : ℕ) → i < M.count →
      multiply F n (cut_matrix F n n b) (M.generator i) ≡ multiply F n (A.generator i) (cut_matrix F n n b)
  sub_action_multiplies M n b A same is lengths S i below = fun_ext λ t. at t (dec_lt t n)
    where
      B : Matrix F
      B = cut_matrix F n n b

      row : (t : ℕ) → t < n → B t ≡ b t
      row t inside = cut_matrix_row F n n b t inside ∙ cut_same F n (b t) (lengths t inside)

      at : (t : ℕ) → Dec (t < n) → times F n (B t) (M.generator i) ≡ times F n (A.generator i t) B
      at t (yes inside) =
          ap (λ (x : Vector F). times F n x (M.generator i)) (row t inside)
          ∙ ap (λ (k : ℕ). times F k (b t) (M.generator i)) (sym same)
          ∙ S.acts i t below inside
          ∙ times_same F n (A.generator i t) (A.generator i t) b B (λ s inside. refl) (λ s inside. sym (row s inside))
      at t (no past) =
          times_zero_coefficients F n (B t) (M.generator i) (λ s inside. (cut_is_matrix F n n b).rows t s (omega arith))
          ∙ sym (times_zero_coefficients F n (A.generator i t) B (λ s inside. (S.square i below).rows t s (omega arith)))

  -- with b g = a b, d h = a d and c the inverse of b: (c d) h = g (c d)
  intertwining : (n : ℕ) (a b c d g h : Matrix F) → HasShape F n n a → HasShape F n n g → IsInverse F n b c →
      multiply F n b g ≡ multiply F n a b → multiply F n d h ≡ multiply F n a d →
      multiply F n (multiply F n c d) h ≡ multiply F n g (multiply F n c d)
  intertwining n a b c d g h of_a of_g inverts first second =
      multiply_assoc F n n c d h ∙ ap (multiply F n c) second ∙ sym (multiply_assoc F n n c a d)
      ∙ ap (λ (x : Matrix F). multiply F n x d) (sym moved) ∙ multiply_assoc F n n g c d
    where
      moved : multiply F n g c ≡ multiply F n c a
      moved =
          ap (λ (x : Matrix F). multiply F n x c) (sym (identity_multiply F n n g of_g) ∙ ap (λ (x : Matrix F). multiply F n x g) (sym inverts.left))
          ∙ ap (λ (x : Matrix F). multiply F n x c) (multiply_assoc F n n c b g ∙ ap (multiply F n c) first)
          ∙ multiply_assoc F n n c (multiply F n a b) c
          ∙ ap (multiply F n c) (multiply_assoc F n n a b c ∙ ap (multiply F n a) inverts.right ∙ multiply_identity F n n a of_a)

  -- where standard bases of two vectors, as many rows as the dimensions, have one sub action, the inverse of the one basis
  -- times the other is an isomorphism
  pub isomorphism_of_square_bases : (M N : Module F) (v w : Vector F) → HasSquareMatrices F M → HasSquareMatrices F N → HasLength F M.dimension v → HasLength F N.dimension w →
      (m n : ℕ) (b d : Matrix F) (A : Module F) → m ≡ M.dimension → n ≡ N.dimension →
      IsStandardBasis F M v m b → IsSubAction F M m b A → IsStandardBasis F N w n d → IsSubAction F N n d A →
      (c : Matrix F) → IsInverse F M.dimension (cut_matrix F M.dimension M.dimension b) c →
      IsIsomorphism F M N (multiply F M.dimension c (cut_matrix F M.dimension M.dimension d))
  isomorphism_of_square_bases M N v w is_M is_N length_v length_w m n b d A square square' S acts S' acts' c inverts = record {
    dimension = sym same;
    count = sym acts.count ∙ acts'.count;
    shape = multiply_is_matrix F M.dimension M.dimension M.dimension c D inverts.shape (cut_is_matrix F M.dimension M.dimension d);
    invertible = record {
      inverse = multiply F M.dimension D_inverse.inverse B;
      inverts = inverse_of_product F M.dimension c D B D_inverse.inverse inverts.shape (cut_is_matrix F M.dimension M.dimension d)
          (inverse_sym F M.dimension B c (cut_is_matrix F M.dimension M.dimension b) inverts) D_inverse.inverts;
    };
    intertwines = λ i below.
        let below' = subst (λ k. i < k) (sym acts.count ∙ acts'.count) below in
        intertwining M.dimension (A.generator i) B c D (M.generator i) (N.generator i)
        (at_M.square i below) (is_M.square i below) inverts
        (sub_action_multiplies M M.dimension b A refl is_M lengths_b at_M i below)
        (sub_action_multiplies N M.dimension d A same is_N lengths_d at_N i below');
  }
    where
      B : Matrix F
      B = cut_matrix F M.dimension M.dimension b

      D : Matrix F
      D = cut_matrix F M.dimension M.dimension d

      n_is : n ≡ M.dimension
      n_is = sym acts'.dimension ∙ acts.dimension ∙ square

      same : N.dimension ≡ M.dimension
      same = sym square' ∙ n_is

      at_M : IsSubAction F M M.dimension b A
      at_M = subst (λ k. IsSubAction F M k b A) square acts

      at_N : IsSubAction F N M.dimension d A
      at_N = subst (λ k. IsSubAction F N k d A) n_is acts'

      S_at : IsStandardBasis F M v M.dimension b
      S_at = subst (λ k. IsStandardBasis F M v k b) square S

      S'_at : IsStandardBasis F N w M.dimension d
      S'_at = subst (λ k. IsStandardBasis F N w k d) n_is S'

      lengths_b : (t : ℕ) → t < M.dimension → HasLength F M.dimension (b t)
      lengths_b = standard_row_length F M v is_M length_v M.dimension b S_at

      lengths_d : (t : ℕ) → t < M.dimension → HasLength F M.dimension (d t)
      lengths_d t below = subst (λ k. HasLength F k (d t)) same (standard_row_length F N w is_N length_w M.dimension d S'_at t below)

      D_inverse : IsInvertible F M.dimension D
      D_inverse = standard_basis_is_invertible N w M.dimension d same is_N length_w S'_at

  -- the same of bases that are matrices
  pub isomorphism_of_bases : (M N : Module F) (v w : Vector F) → HasSquareMatrices F M → HasSquareMatrices F N → HasLength F M.dimension v → HasLength F N.dimension w →
      (b d : Matrix F) (A : Module F) → HasShape F M.dimension M.dimension b → HasShape F N.dimension N.dimension d →
      IsStandardBasis F M v M.dimension b → IsSubAction F M M.dimension b A → IsStandardBasis F N w N.dimension d → IsSubAction F N N.dimension d A →
      (c : Matrix F) → IsInverse F M.dimension b c → IsIsomorphism F M N (multiply F M.dimension c d)
  isomorphism_of_bases M N v w is_M is_N length_v length_w b d A shape_b shape_d S acts S' acts' c inverts =
      subst (λ (x : Matrix F). IsIsomorphism F M N (multiply F M.dimension c x))
      (cut_matrix_same F M.dimension M.dimension d (subst (λ k. HasShape F k k d) (sym acts'.dimension ∙ acts.dimension) shape_d))
      (isomorphism_of_square_bases M N v w is_M is_N length_v length_w M.dimension N.dimension b d A refl refl S acts S' acts' c
      (subst (λ (x : Matrix F). IsInverse F M.dimension x c) (sym (cut_matrix_same F M.dimension M.dimension b shape_b)) inverts))

  -- modules with vectors that generate everything and have the same standard matrices are isomorphic
  pub isomorphic_of_standard_matrices : (M N : Module F) (v w : Vector F) → HasSquareMatrices F M → HasSquareMatrices F N → HasLength F M.dimension v → HasLength F N.dimension w →
      VectorGeneratesAll F M v → VectorGeneratesAll F N w → (A : Module F) → AreStandardMatrices F M v A → AreStandardMatrices F N w A → AreIsomorphic F M N
  isomorphic_of_standard_matrices M N v w is_M is_N length_v length_w generates_v generates_w A S S' = record {
    matrix = multiply F M.dimension inverse.inverse (cut_matrix F M.dimension M.dimension S'.basis);
    isomorphism = isomorphism_of_square_bases M N v w is_M is_N length_v length_w S.size S'.size S.basis S'.basis A square
        (standard_basis_is_square N w is_N length_w generates_w S'.size S'.basis S'.standard)
        S.standard S.acts S'.standard S'.acts inverse.inverse inverse.inverts;
  }
    where
      square : S.size ≡ M.dimension
      square = standard_basis_is_square M v is_M length_v generates_v S.size S.basis S.standard

      inverse : IsInvertible F M.dimension (cut_matrix F M.dimension M.dimension S.basis)
      inverse = standard_basis_is_invertible M v M.dimension S.basis refl is_M length_v (subst (λ k. IsStandardBasis F M v k S.basis) square S.standard)

  -- a standard basis with as many rows as the dimension is an isomorphism from the module to its standard matrices
  pub standard_basis_is_isomorphism : (M : Module F) (v : Vector F) → HasSquareMatrices F M → HasLength F M.dimension v → (b : Matrix F) (A : Module F) →
      HasShape F M.dimension M.dimension b → IsStandardBasis F M v M.dimension b → IsSubAction F M M.dimension b A → IsIsomorphism F A M b
  standard_basis_is_isomorphism M v is length b A shape S acts = record {
    dimension = acts.dimension;
    count = acts.count;
    shape = subst (λ k. HasShape F k k b) (sym acts.dimension) shape;
    invertible = subst (λ k. IsInvertible F k b) (sym acts.dimension)
        (subst (IsInvertible F M.dimension) (cut_matrix_same F M.dimension M.dimension b shape)
        (standard_basis_is_invertible M v M.dimension b refl is length S));
    intertwines = λ i below.
        subst (λ k. multiply F k b (M.generator i) ≡ multiply F k (A.generator i) b) (sym acts.dimension)
        (subst (λ (x : Matrix F). multiply F M.dimension x (M.generator i) ≡ multiply F M.dimension (A.generator i) x)
        (cut_matrix_same F M.dimension M.dimension b shape)
        (sub_action_multiplies M M.dimension b A refl is (standard_row_length F M v is length M.dimension b S) acts i
        (subst (λ k. i < k) acts.count below)));
  }
