-- Isomorphism is an equivalence of modules.
use Rattle.std.specs.Prelude.{◌≡◌, ℕ, ◌<◌}
use Rattle.axe_algebra.specs.Field.{Field}
use Rattle.axe_algebra.specs.Vectors.{Matrix, HasShape, unit_matrix, multiply}
use Rattle.axe_algebra.specs.Spans.{IsInverse, IsInvertible}
use Rattle.axe_algebra.specs.Modules.{Module, HasSquareMatrices}
use Rattle.axe_algebra.specs.Irreducible.{IsIsomorphism, AreIsomorphic}
use Rattle.axe_algebra.proofs.ProductLaws.{multiply_assoc, multiply_identity, identity_multiply, multiply_is_matrix, unit_is_matrix}
use Rattle.axe_algebra.proofs.SquareMatrices.{inverse_sym, inverse_of_product}
use mathlib.Core.Path.{refl, sym, ◌∙◌, ap, subst}

module _ (F : Field) where
  -- the identity is an isomorphism
  pub identity_is_isomorphism : (M : Module F) → HasSquareMatrices F M → IsIsomorphism F M M (unit_matrix F M.dimension)
  identity_is_isomorphism M is = record {
    dimension = refl;
    count = refl;
    shape = unit_is_matrix F M.dimension;
    invertible = record {
      inverse = unit_matrix F M.dimension;
      inverts = record { shape = unit_is_matrix F M.dimension; left = square; right = square };
    };
    intertwines = λ i below.
        identity_multiply F M.dimension M.dimension (M.generator i) (is.square i below)
        ∙ sym (multiply_identity F M.dimension M.dimension (M.generator i) (is.square i below));
  }
    where
      square : multiply F M.dimension (unit_matrix F M.dimension) (unit_matrix F M.dimension) ≡ unit_matrix F M.dimension
      square = multiply_identity F M.dimension M.dimension (unit_matrix F M.dimension) (unit_is_matrix F M.dimension)

  -- t h = g t gives s g = h s for the inverse s of t
  inverse_intertwines : (n : ℕ) (t s g h : Matrix F) → HasShape F n n g → HasShape F n n h → IsInverse F n t s →
      multiply F n t h ≡ multiply F n g t → multiply F n s g ≡ multiply F n h s
  inverse_intertwines n t s g h of_g of_h inverts e =
      ap (multiply F n s) (sym (multiply_identity F n n g of_g) ∙ ap (multiply F n g) (sym inverts.right) ∙ sym (multiply_assoc F n n g t s)
      ∙ ap (λ (x : Matrix F). multiply F n x s) (sym e) ∙ multiply_assoc F n n t h s)
      ∙ sym (multiply_assoc F n n s t (multiply F n h s))
      ∙ ap (λ (x : Matrix F). multiply F n x (multiply F n h s)) inverts.left
      ∙ identity_multiply F n n (multiply F n h s) (multiply_is_matrix F n n n h s of_h inverts.shape)

  -- the inverse of an isomorphism is one
  pub inverse_is_isomorphism : (M N : Module F) (T S : Matrix F) → HasSquareMatrices F M → HasSquareMatrices F N → IsIsomorphism F M N T → IsInverse F M.dimension T S →
      IsIsomorphism F N M S
  inverse_is_isomorphism M N T S is_M is_N iso inverts = record {
    dimension = sym iso.dimension;
    count = sym iso.count;
    shape = subst (λ n. HasShape F n n S) iso.dimension inverts.shape;
    invertible = record { inverse = T; inverts = subst (λ n. IsInverse F n S T) iso.dimension (inverse_sym F M.dimension T S iso.shape inverts) };
    intertwines = λ i below.
        let below_too = subst (λ n. i < n) (sym iso.count) below in
        subst (λ n. multiply F n S (M.generator i) ≡ multiply F n (N.generator i) S) iso.dimension
        (inverse_intertwines M.dimension T S (M.generator i) (N.generator i) (is_M.square i below_too)
        (subst (λ n. HasShape F n n (N.generator i)) (sym iso.dimension) (is_N.square i below)) inverts (iso.intertwines i below_too));
  }

  -- the product of isomorphisms is one
  pub product_is_isomorphism : (M N L : Module F) (T S : Matrix F) → IsIsomorphism F M N T → IsIsomorphism F N L S →
      IsIsomorphism F M L (multiply F M.dimension T S)
  product_is_isomorphism M N L T S first second = record {
    dimension = first.dimension ∙ second.dimension;
    count = first.count ∙ second.count;
    shape = multiply_is_matrix F M.dimension M.dimension M.dimension T S first.shape shape;
    invertible = record {
      inverse = multiply F M.dimension invertible.inverse first.invertible.inverse;
      inverts = inverse_of_product F M.dimension T S first.invertible.inverse invertible.inverse first.shape shape first.invertible.inverts invertible.inverts;
    };
    intertwines = λ i below.
        let below_too = subst (λ n. i < n) first.count below in
        let moved = subst (λ n. multiply F n S (L.generator i) ≡ multiply F n (N.generator i) S) (sym first.dimension) (second.intertwines i below_too) in
        multiply_assoc F M.dimension M.dimension T S (L.generator i)
        ∙ ap (multiply F M.dimension T) moved ∙ sym (multiply_assoc F M.dimension M.dimension T (N.generator i) S)
        ∙ ap (λ (x : Matrix F). multiply F M.dimension x S) (first.intertwines i below)
        ∙ multiply_assoc F M.dimension M.dimension (M.generator i) T S;
  }
    where
      shape : HasShape F M.dimension M.dimension S
      shape = subst (λ n. HasShape F n n S) (sym first.dimension) second.shape

      invertible : IsInvertible F M.dimension S
      invertible = subst (λ n. IsInvertible F n S) (sym first.dimension) second.invertible

  -- modules are isomorphic to themselves, both ways, and through others
  pub isomorphic_refl : (M : Module F) → HasSquareMatrices F M → AreIsomorphic F M M
  isomorphic_refl M is = record { matrix = unit_matrix F M.dimension; isomorphism = identity_is_isomorphism M is }

  pub isomorphic_sym : (M N : Module F) → HasSquareMatrices F M → HasSquareMatrices F N → AreIsomorphic F M N → AreIsomorphic F N M
  isomorphic_sym M N is_M is_N iso = record {
    matrix = iso.isomorphism.invertible.inverse;
    isomorphism = inverse_is_isomorphism M N iso.matrix iso.isomorphism.invertible.inverse is_M is_N iso.isomorphism iso.isomorphism.invertible.inverts;
  }

  pub isomorphic_trans : (M N L : Module F) → AreIsomorphic F M N → AreIsomorphic F N L → AreIsomorphic F M L
  isomorphic_trans M N L first second = record {
    matrix = multiply F M.dimension first.matrix second.matrix;
    isomorphism = product_is_isomorphism M N L first.matrix second.matrix first.isomorphism second.isomorphism;
  }
