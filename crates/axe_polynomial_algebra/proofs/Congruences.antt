-- Congruence modulo a polynomial: multiples of it are added, and a short rest tells whether it divides.
use Rattle.std.specs.Prelude.{◌≡◌, ◌↔◌, ℕ, suc, ◌+◌}
use Rattle.axe_algebra.specs.Field.{Field}
use Rattle.axe_algebra.specs.Vectors.{Vector, HasLength, zero_vector, unit_vector, add_vectors, subtract, scale}
use Rattle.axe_algebra.proofs.FieldLaws.{zero-add, mul-zero, neg-zero, add_swap}
use Rattle.axe_algebra.proofs.ProductLaws.{unit_length}
use Rattle.axe_polynomial_algebra.specs.Polynomials.{IsMonic, convolution, Divides, IsCongruent}
use Rattle.axe_polynomial_algebra.proofs.ConvolutionLaws.{convolution-add, convolution-subtract, convolution-zero}
use Rattle.axe_polynomial_algebra.proofs.Dividing.{plus_zero, moved_multiple, moved_multiple-product, divides_when_zero}
use mathlib.Core.Path.{refl, sym, ◌∙◌, ap, ap₂, fun_ext}
use native.Mathlib.Omega.{arith}

module _ (F : Field) where
  open F use {Element, zero as 𝟘, add as ◌⊕◌, mul as ◌⊗◌, neg}

  infixl 60 ◌⊕◌
  infixl 70 ◌⊗◌
  pub congruent_itself : (p f : Vector F) → IsCongruent F p f f
  congruent_itself p f = record {
    quotient = zero_vector F;
    size = 0;
    length = λ j past. refl;
    equals = fun_ext λ j. sym (zero-add F (f j)) ∙ ap (λ (y : Vector F). y j ⊕ f j) (sym (convolution-zero F p));
  }

  pub congruent_trans : (p f r s : Vector F) → IsCongruent F p f r → IsCongruent F p r s → IsCongruent F p f s
  congruent_trans p f r s one other = record {
    quotient = add_vectors F one.quotient other.quotient;
    size = one.size + other.size;
    length = λ j past. ap₂ ◌⊕◌ (one.length j (omega arith)) (other.length j (omega arith)) ∙ F.add-zero 𝟘;
    equals =
        one.equals ∙ ap (add_vectors F (convolution F p one.quotient)) other.equals
        ∙ (fun_ext λ j. sym (F.add_assoc (convolution F p one.quotient j) (convolution F p other.quotient j) (s j)))
        ∙ ap (λ (y : Vector F). add_vectors F y s) (sym (convolution-add F p one.quotient other.quotient));
  }

  -- c x^k p is added to the rest
  pub congruent_with_multiple : (p f r : Vector F) (k : ℕ) (c : Element) → IsCongruent F p f r →
      IsCongruent F p f (add_vectors F r (moved_multiple F k c p))
  congruent_with_multiple p f r k c congruent = record {
    quotient = subtract F q top;
    size = congruent.size + suc k;
    length = λ j past.
        ap₂ (λ x y. x ⊕ neg y) (congruent.length j (omega arith))
        (ap (λ y. c ⊗ y) (unit_length F (suc k) k (omega arith) j (omega arith)) ∙ mul-zero F c)
        ∙ ap (λ y. 𝟘 ⊕ y) (neg-zero F) ∙ F.add-zero 𝟘;
    equals =
        congruent.equals ∙ (fun_ext λ j. entry (convolution F p q j) (convolution F p top j) (r j))
        ∙ ap₂ (add_vectors F) (sym (convolution-subtract F p q top))
        (ap (add_vectors F r) (sym (moved_multiple-product F k c p)));
  }
    where
      q : Vector F
      q = congruent.quotient

      top : Vector F
      top = scale F c (unit_vector F k)

      entry : (a b s : Element) → a ⊕ s ≡ (a ⊕ neg b) ⊕ (s ⊕ b)
      entry a b s =
          sym (F.add-zero (a ⊕ s)) ∙ ap (λ y. a ⊕ s ⊕ y) (sym (F.add-neg b) ∙ F.add_comm b (neg b))
          ∙ add_swap F a s (neg b) b

  -- a rest that is shorter than the monic p is zero exactly where p divides
  pub divides_by_rest : (d : ℕ) (p f r : Vector F) → IsMonic F d p → IsCongruent F p f r → HasLength F d r →
      Divides F p f ↔ (r ≡ zero_vector F)
  divides_by_rest d p f r monic congruent small =
      divides_when_zero F d congruent.size p f congruent.quotient r monic congruent.length
      (record { equals = congruent.equals; small = small })

  pub zero_rest_divides : (p f r : Vector F) → IsCongruent F p f r → r ≡ zero_vector F → Divides F p f
  zero_rest_divides p f r congruent e = record {
    quotient = congruent.quotient;
    size = congruent.size;
    length = congruent.length;
    equals = congruent.equals ∙ ap (add_vectors F (convolution F p congruent.quotient)) e
        ∙ plus_zero F (convolution F p congruent.quotient);
  }
