-- A module that is isomorphic to an irreducible one is irreducible; an invertible basis is an isomorphism from the action on it.
use Rattle.std.specs.Prelude.{◌≡◌, ℕ, ◌<◌, ◌⊎◌}
use Rattle.axe_algebra.specs.Field.{Field}
use Rattle.axe_algebra.specs.Vectors.{Vector, Matrix, HasLength, HasRowsOfLength, HasShape, zero_vector, times}
use Rattle.axe_algebra.specs.Spans.{InSpan, IsInvertible, SpansZero, SpansAll}
use Rattle.axe_algebra.specs.Modules.{Module, IsInvariant, image}
use Rattle.axe_algebra.specs.Actions.{IsSubAction}
use Rattle.axe_algebra.specs.Irreducible.{IsIrreducible, IsIsomorphism}
use Rattle.axe_algebra.proofs.ProductLaws.{times_times, times_identity, times_zero, times_length, times_same}
use mathlib.Core.Logic.{inl, inr}
use mathlib.Core.Path.{refl, sym, ◌∙◌, ap, subst, fun_ext}
use native.Mathlib.Omega.{arith}
use native.Mathlib.Decide.{dec_lt}

module _ (F : Field) (M N : Module F) (T : Matrix F) (iso : IsIsomorphism F M N T) where
  -- T is invertible for the dimension of M
  back : (x : Vector F) → HasLength F M.dimension x → x ≡ times F M.dimension (times F M.dimension x T) iso.invertible.inverse
  back x long =
      sym (times_identity F M.dimension x long) ∙ ap (times F M.dimension x) (sym iso.invertible.inverts.right)
      ∙ sym (times_times F M.dimension M.dimension x T iso.invertible.inverse)

  -- the images of the rows under T
  images : Matrix F → Matrix F
  images v = λ t. times F M.dimension (v t) T

  images_combine : (k : ℕ) (c : Vector F) (v : Matrix F) → times F k c (images v) ≡ times F M.dimension (times F k c v) T
  unfolding images
  images_combine k c v = sym (times_times F M.dimension k c v T)

  images_invariant : (k : ℕ) (v : Matrix F) → IsInvariant F M k v → IsInvariant F N k (images v)
  unfolding images
  images_invariant k v invariant = record {
    images = λ t i inside below.
        let small : i < M.count = subst (λ c. i < c) (sym iso.count) below in
        let in_span : InSpan F k v (image F M (v t) i) = invariant.images t i inside small in
        record {
          coefficients = in_span.coefficients;
          combines =
              ap (λ d. times F d (times F M.dimension (v t) T) (N.generator i)) (sym iso.dimension)
              ∙ times_times F M.dimension M.dimension (v t) T (N.generator i)
              ∙ ap (times F M.dimension (v t)) (iso.intertwines i small)
              ∙ sym (times_times F M.dimension M.dimension (v t) (M.generator i) T)
              ∙ ap (λ (x : Vector F). times F M.dimension x T) in_span.combines
              ∙ sym (images_combine k in_span.coefficients v);
        };
  }

  pub irreducible_of_isomorphic : IsIrreducible F N → IsIrreducible F M
  unfolding images
  irreducible_of_isomorphic irreducible = record {
    spans = λ k v long invariant. cases k v long (irreducible.spans k (images v)
        (λ t. subst (λ d. HasLength F d (images v t)) iso.dimension (times_length F M.dimension M.dimension (v t) T iso.shape.columns)) (images_invariant k v invariant));
  }
    where
      cases : (k : ℕ) (v : Matrix F) → HasRowsOfLength F M.dimension v → SpansZero F k (images v) ⊎ SpansAll F N.dimension k (images v) →
          SpansZero F k v ⊎ SpansAll F M.dimension k v
      cases k v long (inl zeros) = inl λ t below.
          back (v t) (long t) ∙ ap (λ (x : Vector F). times F M.dimension x iso.invertible.inverse) (zeros t below)
          ∙ times_zero F M.dimension iso.invertible.inverse
      cases k v long (inr all) = inr λ x length.
          let in_span : InSpan F k (images v) (times F M.dimension x T) = all (times F M.dimension x T)
          (subst (λ d. HasLength F d (times F M.dimension x T)) iso.dimension (times_length F M.dimension M.dimension x T iso.shape.columns)) in
          record {
            coefficients = in_span.coefficients;
            combines =
                back x length
                ∙ ap (λ (y : Vector F). times F M.dimension y iso.invertible.inverse) (in_span.combines ∙ images_combine k in_span.coefficients v)
                ∙ sym (back (times F k in_span.coefficients v) (times_length F k M.dimension in_span.coefficients v long));
          }

module _ (F : Field) where
  -- a square invertible basis is an isomorphism from the action on it
  pub basis_is_isomorphism : (D A : Module F) (n : ℕ) (T : Matrix F) → D.dimension ≡ n → A.dimension ≡ n → HasShape F n n T → IsInvertible F n T →
      IsSubAction F D n T A → IsIsomorphism F A D T
  basis_is_isomorphism D A n T of_D of_A shape invertible action = record {
    dimension = of_A ∙ sym of_D;
    count = action.count;
    shape = subst (λ k. HasShape F k k T) (sym of_A) shape;
    invertible = subst (λ k. IsInvertible F k T) (sym of_A) invertible;
    intertwines = λ i below. fun_ext λ t. row i t (subst (λ c. i < c) action.count below) (dec_lt t n);
  }
    where
      row : (i t : ℕ) → i < D.count → Dec (t < n) → times F A.dimension (T t) (D.generator i) ≡ times F A.dimension (A.generator i t) T
      row i t below (yes inside) =
          ap (λ k. times F k (T t) (D.generator i)) (of_A ∙ sym of_D) ∙ action.acts i t below inside
          ∙ ap (λ k. times F k (A.generator i t) T) (sym of_A)
      row i t below (no past) =
          times_same F A.dimension (T t) (zero_vector F) (D.generator i) (D.generator i) (λ s small. shape.rows t s (omega arith)) (λ s small. refl)
          ∙ times_zero F A.dimension (D.generator i) ∙ sym (times_zero F A.dimension T)
          ∙ sym (times_same F A.dimension (A.generator i t) (zero_vector F) T T (λ s small. (action.square i below).rows t s (omega arith)) (λ s small. refl))
