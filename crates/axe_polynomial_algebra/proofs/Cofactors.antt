-- Divisors of monic polynomials: they are monic with their cofactors, and irreducible is that there are no proper ones.
use Rattle.std.specs.Prelude.{◌≡◌, ◌≢◌, ℕ, zero, suc, ◌+◌, ◌<◌, ◌⊎◌}
use Rattle.axe_algebra.specs.Field.{Field}
use Rattle.axe_algebra.specs.Vectors.{Vector, HasLength, zero_vector, unit_vector}
use Rattle.axe_algebra.proofs.FieldLaws.{one-mul}
use Rattle.axe_algebra.proofs.ProductLaws.{unit_length}
use Rattle.axe_polynomial_algebra.specs.Polynomials.{IsMonic, convolution, Divides, IsIrreduciblePolynomial}
use Rattle.axe_polynomial_algebra.specs.PolynomialTheorems.{MonicCofactor, CofactorIsMonic, DividesIsTransitive}
use Rattle.axe_polynomial_algebra.specs.PolynomialTheorems.{IrreducibleExactlyWithoutDivisors}
use Rattle.axe_polynomial_algebra.proofs.ConvolutionLaws.{convolution_assoc, convolution_comm, convolution-zero}
use Rattle.axe_polynomial_algebra.proofs.ConvolutionLaws.{convolution_length, top_of_product, monic_times_monic}
use Rattle.axe_polynomial_algebra.proofs.ConvolutionLaws.{one_is_neutral}
use Rattle.axe_polynomial_algebra.proofs.Dividing.{longer, shorter}
use mathlib.Core.Logic.{inl, inr}
use mathlib.Core.Path.{refl, sym, ◌∙◌, ap, subst, fun_ext}
use native.Mathlib.Omega.{arith}
use native.Mathlib.Decide.{dec_lt}

module _ (F : Field) where
  open F use {Element, zero as 𝟘, one as 𝟙, mul as ◌⊗◌}

  infixl 70 ◌⊗◌
  -- a polynomial with a length is zero or has a degree: a place of its last coefficient other than 0
  pub zero_or_degree : (n : ℕ) (f : Vector F) → HasLength F n f →
      (f ≡ zero_vector F) ⊎ ((e : ℕ) × (f e ≢ 𝟘) × HasLength F (suc e) f)
  zero_or_degree zero f length = inl (fun_ext λ j. length j (omega arith))
  zero_or_degree (suc n) f length = cases (zero_or_degree n f) (F.is_discrete (f n) 𝟘)
    where
      Found : Type 0
      Found = (f ≡ zero_vector F) ⊎ ((e : ℕ) × (f e ≢ 𝟘) × HasLength F (suc e) f)

      cases : (HasLength F n f → Found) → Dec (f n ≡ 𝟘) → Found
      cases before (yes last) = before (shorter F n f length last)
      cases before (no nonzero) = inr (n, nonzero, length)

  -- a monic polynomial has one degree
  pub monic_degree : (d e : ℕ) (f : Vector F) → IsMonic F d f → IsMonic F e f → d ≡ e
  monic_degree d e f one other = cases (dec_lt d e) (dec_lt e d)
    where
      cases : Dec (d < e) → Dec (e < d) → d ≡ e
      cases (yes below) _ = absurd (F.one-not-zero (sym other.leads ∙ one.length e (omega arith)))
      cases (no _) (yes above) = absurd (F.one-not-zero (sym one.leads ∙ other.length d (omega arith)))
      cases (no a) (no b) = omega arith

  pub monic_nonzero : (d : ℕ) (f : Vector F) → IsMonic F d f → f ≢ zero_vector F
  monic_nonzero d f monic e = F.one-not-zero (sym monic.leads ∙ ap (λ (y : Vector F). y d) e)

  pub cofactor_is_monic : CofactorIsMonic F
  cofactor_is_monic d n p f of_p of_f divides = cases (zero_or_degree divides.size divides.quotient divides.length)
    where
      q : Vector F
      q = divides.quotient

      cases : (q ≡ zero_vector F) ⊎ ((e : ℕ) × (q e ≢ 𝟘) × HasLength F (suc e) q) → MonicCofactor F d n p f
      cases (inl e) = absurd (monic_nonzero n f of_f (divides.equals ∙ ap (convolution F p) e ∙ convolution-zero F p))
      cases (inr (e, nonzero, length)) = record {
        quotient = q;
        degree = e;
        sum = degrees;
        monic = record { leads = sym top ∙ ap f degrees ∙ of_f.leads; length = length };
        equals = divides.equals;
      }
        where
          top : f (d + e) ≡ q e
          top =
              ap (λ (y : Vector F). y (d + e)) divides.equals ∙ top_of_product F d e p q of_p.length length
              ∙ ap (λ y. y ⊗ q e) of_p.leads ∙ one-mul F (q e)

          degrees : d + e ≡ n
          degrees = compare (dec_lt (d + e) n) (dec_lt n (d + e))
            where
              compare : Dec (d + e < n) → Dec (n < d + e) → d + e ≡ n
              compare (yes below) _ = absurd (F.one-not-zero (sym of_f.leads ∙ ap (λ (y : Vector F). y n) divides.equals
                  ∙ convolution_length F d (suc e) p q of_p.length length n (omega arith)))
              compare (no _) (yes above) = absurd (nonzero (sym top ∙ of_f.length (d + e) (omega arith)))
              compare (no a) (no b) = omega arith

  pub divides_trans : DividesIsTransitive F
  divides_trans p q f one other = record {
    quotient = convolution F one.quotient other.quotient;
    size = one.size + other.size;
    length = convolution_length F one.size other.size one.quotient other.quotient
        (longer F one.size (suc one.size) one.quotient (omega arith) one.length) other.length;
    equals =
        other.equals ∙ ap (λ (y : Vector F). convolution F y other.quotient) one.equals
        ∙ convolution_assoc F p one.quotient other.quotient;
  }

  pub divides_itself : (p : Vector F) → Divides F p p
  divides_itself p = record {
    quotient = unit_vector F 0;
    size = 1;
    length = unit_length F 1 0 (omega arith);
    equals = sym (one_is_neutral F p) ∙ convolution_comm F (unit_vector F 0) p;
  }

  -- each factor of a product of monic polynomials divides it
  pub left_divides : (n : ℕ) (a b : Vector F) → IsMonic F n b → Divides F a (convolution F a b)
  left_divides n a b monic = record { quotient = b; size = suc n; length = monic.length; equals = refl }

  pub right_divides : (m : ℕ) (a b : Vector F) → IsMonic F m a → Divides F b (convolution F a b)
  right_divides m a b monic = record {
    quotient = a;
    size = suc m;
    length = monic.length;
    equals =
        convolution_comm F a b;
  }

  pub irreducible_without_divisors : IrreducibleExactlyWithoutDivisors F
  irreducible_without_divisors d p positive monic = (forth, back)
    where
      forth : IsIrreduciblePolynomial F d p → (m : ℕ) (a : Vector F) → 0 < m → m < d → IsMonic F m a → ¬ (Divides F a p)
      forth irreducible m a above below of_a divides =
          irreducible.no_product m c.degree a c.quotient above (omega (arith, c.sum)) of_a c.monic c.equals
        where
          c : MonicCofactor F m d a p
          c = cofactor_is_monic m d a p of_a monic divides

      back : ((m : ℕ) (a : Vector F) → 0 < m → m < d → IsMonic F m a → ¬ (Divides F a p)) →
          IsIrreduciblePolynomial F d p
      back none = record {
        positive = positive;
        monic = monic;
        no_product = λ m n a b above above_n of_a of_b equals.
            let degrees : d ≡ m + n =
            monic_degree d (m + n) p monic
            (subst (IsMonic F (m + n)) (sym equals) (monic_times_monic F m n a b of_a of_b)) in
            none m a above (omega arith) of_a (subst (Divides F a) (sym equals) (left_divides n a b of_b));
      }
