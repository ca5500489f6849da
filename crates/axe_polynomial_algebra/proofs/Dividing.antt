-- Division with remainder by a monic polynomial: it is there, it is the only one, and it decides what divides.
use Rattle.std.specs.Prelude.{◌≡◌, ◌↔◌, ℕ, zero, suc, ◌+◌, ◌-◌, ◌<◌, ◌≤◌, ◌⊎◌}
use Rattle.axe_algebra.specs.Field.{Field}
use Rattle.axe_algebra.specs.Vectors.{Vector, HasLength, zero_vector, unit_vector, add_vectors, subtract, scale}
use Rattle.axe_algebra.specs.Reduced.{LeadsAt}
use Rattle.axe_algebra.proofs.FieldLaws.{zero-add, neg-add, neg-zero, mul-zero, one-mul, add_swap, add_cancel}
use Rattle.axe_algebra.proofs.FieldLaws.{same_of_difference}
use Rattle.axe_algebra.proofs.ProductLaws.{unit_length}
use Rattle.axe_algebra.proofs.Elimination.{is_zero_or_leads}
use Rattle.axe_polynomial_algebra.specs.Polynomials.{IsMonic, convolution, Divides}
use Rattle.axe_polynomial_algebra.specs.PolynomialTheorems.{DivisionWithRemainder, DivisionExists, DivisionIsUnique}
use Rattle.axe_polynomial_algebra.specs.PolynomialTheorems.{DividesExactlyWhenRemainderIsZero, DividesIsDecidable}
use Rattle.axe_polynomial_algebra.proofs.ConvolutionLaws.{convolution_comm, convolution-add, convolution-subtract}
use Rattle.axe_polynomial_algebra.proofs.ConvolutionLaws.{convolution-scale, convolution-zero}
use Rattle.axe_polynomial_algebra.proofs.ConvolutionLaws.{unit_product_at, top_of_product}
use mathlib.Core.Logic.{inl, inr}
use mathlib.Core.Path.{refl, sym, ◌∙◌, ap, ap₂, subst, fun_ext}
use native.Mathlib.Omega.{arith}
use native.Mathlib.Decide.{ℕ_discrete, dec_lt}

module _ (F : Field) where
  open F use {Element, zero as 𝟘, one as 𝟙, add as ◌⊕◌, mul as ◌⊗◌, neg}

  infixl 60 ◌⊕◌
  infixl 70 ◌⊗◌
  -- a polynomial plus zero, and plus what was taken from it
  pub plus_zero : (f : Vector F) → add_vectors F f (zero_vector F) ≡ f
  plus_zero f = fun_ext λ j. F.add-zero (f j)

  pub taken_back : (f g : Vector F) → add_vectors F (subtract F f g) g ≡ f
  taken_back f g = fun_ext λ j.
      F.add_assoc (f j) (neg (g j)) (g j) ∙ ap (λ y. f j ⊕ y) (neg-add F (g j)) ∙ F.add-zero (f j)

  pub longer : (m n : ℕ) (f : Vector F) → m ≤ n → HasLength F m f → HasLength F n f
  longer m n f within length j past = length j (omega arith)

  pub shorter : (m : ℕ) (f : Vector F) → HasLength F (suc m) f → f m ≡ 𝟘 → HasLength F m f
  shorter m f length last j past = at (ℕ_discrete j m)
    where
      at : Dec (j ≡ m) → f j ≡ 𝟘
      at (yes e) = ap f e ∙ last
      at (no other) = length j (omega arith)

  -- c x^k p
  pub moved_multiple : ℕ → Element → Vector F → Vector F
  moved_multiple k c p = convolution F p (scale F c (unit_vector F k))

  pub moved_multiple-product : (k : ℕ) (c : Element) (p : Vector F) →
      moved_multiple k c p ≡ convolution F p (scale F c (unit_vector F k))
  unfolding moved_multiple
  moved_multiple-product k c p = refl

  pub moved_multiple-is : (k : ℕ) (c : Element) (p : Vector F) →
      moved_multiple k c p ≡ scale F c (convolution F (unit_vector F k) p)
  unfolding moved_multiple
  moved_multiple-is k c p = convolution-scale F c p (unit_vector F k)
      ∙ ap (scale F c) (convolution_comm F p (unit_vector F k))

  -- its coefficient at k + j is that of p at j, times c
  pub moved_multiple_at : (k : ℕ) (c : Element) (p : Vector F) (j : ℕ) → moved_multiple k c p (k + j) ≡ c ⊗ p j
  moved_multiple_at k c p j =
      ap (λ (y : Vector F). y (k + j)) (moved_multiple-is k c p) ∙ ap (λ y. c ⊗ y) (unit_product_at F k p j)

  -- f less the multiple of p that takes its last coefficient away has one coefficient less
  pub reduced_length : (d k : ℕ) (p f : Vector F) → IsMonic F d p → HasLength F (suc (k + d)) f →
      HasLength F (k + d) (subtract F f (moved_multiple k (f (k + d)) p))
  reduced_length d k p f monic length = shorter (k + d) (subtract F f (moved_multiple k (f (k + d)) p)) past_last last
    where
      c : Element
      c = f (k + d)

      past_last : HasLength F (suc (k + d)) (subtract F f (moved_multiple k c p))
      past_last j past =
          let place : j ≡ k + (j - k) = omega arith in
          ap₂ (λ x y. x ⊕ neg y) (length j past)
          (ap (moved_multiple k c p) place ∙ moved_multiple_at k c p (j - k)
          ∙ ap (λ y. c ⊗ y) (monic.length (j - k) (omega arith)) ∙ mul-zero F c)
          ∙ ap (λ y. 𝟘 ⊕ y) (neg-zero F) ∙ F.add-zero 𝟘

      last : c ⊕ neg (moved_multiple k c p (k + d)) ≡ 𝟘
      last =
          ap (λ y. c ⊕ neg y) (moved_multiple_at k c p d ∙ ap (λ y. c ⊗ y) monic.leads ∙ F.mul-one c) ∙ F.add-neg c

  pub divide : DivisionExists F
  divide d zero p f monic length = record {
    quotient = zero_vector F;
    remainder = f;
    length = λ j past. refl;
    division = record {
      equals = sym (ap (λ (y : Vector F). add_vectors F y f) (convolution-zero F p) ∙ fun_ext λ j. zero-add F (f j));
      small = longer 0 d f (omega arith) length;
    };
  }
  divide d (suc m) p f monic length = cases (divide d m p) (dec_lt m d)
    where
      cases : ((g : Vector F) → IsMonic F d p → HasLength F m g → DivisionWithRemainder F d m p g) → Dec (m < d) →
          DivisionWithRemainder F d (suc m) p f
      cases before (yes small) = record {
        quotient = zero_vector F;
        remainder = f;
        length = λ j past. refl;
        division = record {
          equals = sym
              (ap (λ (y : Vector F). add_vectors F y f) (convolution-zero F p) ∙ fun_ext λ j. zero-add F (f j));
          small = longer (suc m) d f (omega arith) length;
        };
      }
      cases before (no large) = record {
        quotient = add_vectors F rest.quotient top;
        remainder = rest.remainder;
        length = λ j past. ap₂ ◌⊕◌ (rest.length j (omega arith))
            (ap (λ y. c ⊗ y) (unit_length F (suc m) k (omega arith) j past) ∙ mul-zero F c) ∙ F.add-zero 𝟘;
        division = record { equals = equals; small = rest.division.small };
      }
        where
          k : ℕ
          k = m - d

          place : k + d ≡ m
          place = omega arith

          c : Element
          c = f (k + d)

          top : Vector F
          top = scale F c (unit_vector F k)

          g : Vector F
          g = subtract F f (moved_multiple k c p)

          rest : DivisionWithRemainder F d m p g
          rest = before g monic (subst (λ n. HasLength F n g) place
              (reduced_length d k p f monic (subst (λ n. HasLength F (suc n) f) (sym place) length)))

          equals : f ≡ add_vectors F (convolution F p (add_vectors F rest.quotient top)) rest.remainder
          equals =
              sym (taken_back f (moved_multiple k c p))
              ∙ ap₂ (add_vectors F) rest.division.equals (moved_multiple-product k c p)
              ∙ (fun_ext λ j.
              F.add_assoc (convolution F p rest.quotient j) (rest.remainder j) (convolution F p top j)
              ∙ ap (λ y. convolution F p rest.quotient j ⊕ y) (F.add_comm (rest.remainder j) (convolution F p top j))
              ∙ sym (F.add_assoc (convolution F p rest.quotient j) (convolution F p top j) (rest.remainder j)))
              ∙ ap (λ (y : Vector F). add_vectors F y rest.remainder) (sym (convolution-add F p rest.quotient top))

  -- a multiple of a monic polynomial that is shorter than it is zero
  pub small_multiple_is_zero : (d n : ℕ) (p q : Vector F) → IsMonic F d p → HasLength F n q →
      HasLength F d (convolution F p q) → q ≡ zero_vector F
  small_multiple_is_zero d zero p q monic length small = fun_ext λ j. length j (omega arith)
  small_multiple_is_zero d (suc m) p q monic length small =
      small_multiple_is_zero d m p q monic (shorter m q length last) small
    where
      last : q m ≡ 𝟘
      last =
          sym (one-mul F (q m)) ∙ ap (λ y. y ⊗ q m) (sym monic.leads)
          ∙ sym (top_of_product F d m p q monic.length length)
          ∙ small (d + m) (omega arith)

  pub division_is_unique : DivisionIsUnique F
  division_is_unique d m n p f q r q' r' monic of_q of_q' one other = (same_quotient, same_remainder)
    where
      entry : (a b s s' : Element) → a ⊕ s ≡ b ⊕ s' → a ⊕ neg b ≡ s' ⊕ neg s
      entry a b s s' e =
          sym (F.add-zero (a ⊕ neg b)) ∙ ap (λ y. a ⊕ neg b ⊕ y) (sym (F.add-neg s)) ∙ add_swap F a (neg b) s (neg s)
          ∙ ap (λ y. y ⊕ (neg b ⊕ neg s)) e ∙ add_swap F b s' (neg b) (neg s) ∙ ap (λ y. y ⊕ (s' ⊕ neg s)) (F.add-neg b)
          ∙ zero-add F (s' ⊕ neg s)

      difference : convolution F p (subtract F q q') ≡ subtract F r' r
      difference =
          convolution-subtract F p q q'
          ∙ fun_ext λ j. entry (convolution F p q j) (convolution F p q' j) (r j) (r' j)
          (ap (λ (y : Vector F). y j) (sym one.equals ∙ other.equals))

      is_small : HasLength F d (subtract F r' r)
      is_small j past = ap₂ (λ x y. x ⊕ neg y) (other.small j past) (one.small j past) ∙ F.add-neg 𝟘

      lengths : HasLength F (m + n) (subtract F q q')
      lengths j past = ap₂ (λ x y. x ⊕ neg y) (of_q j (omega arith)) (of_q' j (omega arith)) ∙ F.add-neg 𝟘

      zero_difference : subtract F q q' ≡ zero_vector F
      zero_difference = small_multiple_is_zero d (m + n) p (subtract F q q') monic lengths
          (subst (HasLength F d) (sym difference) is_small)

      same_quotient : q ≡ q'
      same_quotient = fun_ext λ j. same_of_difference F (q j) (q' j) (ap (λ (y : Vector F). y j) zero_difference)

      same_remainder : r ≡ r'
      same_remainder = fun_ext λ j.
          add_cancel F (convolution F p q j) (r j) (r' j)
          (ap (λ (y : Vector F). y j) (sym one.equals ∙ other.equals)
          ∙ ap (λ (y : Vector F). convolution F p y j ⊕ r' j) (sym same_quotient))

  pub divides_when_zero : DividesExactlyWhenRemainderIsZero F
  divides_when_zero d n p f q r monic length division = (forth, back)
    where
      forth : Divides F p f → r ≡ zero_vector F
      forth divides =
          sym (division_is_unique d divides.size n p f divides.quotient (zero_vector F) q r monic divides.length length
          (record {
            equals = divides.equals
                ∙ sym (plus_zero (convolution F p divides.quotient));
            small = λ j past. refl;
          }) division).1

      back : r ≡ zero_vector F → Divides F p f
      back e = record {
        quotient = q;
        size = n;
        length = length;
        equals = division.equals ∙ ap (add_vectors F (convolution F p q)) e ∙ plus_zero (convolution F p q);
      }

  -- whether a vector with a length is zero
  pub is_zero_or_not : (n : ℕ) (f : Vector F) → HasLength F n f → Dec (f ≡ zero_vector F)
  is_zero_or_not n f length = cases (is_zero_or_leads F n f length)
    where
      cases : (f ≡ zero_vector F) ⊎ ((j : ℕ) × (j < n) × LeadsAt F f j) → Dec (f ≡ zero_vector F)
      cases (inl e) = yes e
      cases (inr (j, below, leads)) = no λ e. leads.nonzero (ap (λ (y : Vector F). y j) e)

  pub divides_or_not : DividesIsDecidable F
  divides_or_not d n p f monic length = cases (is_zero_or_not d division.remainder division.division.small)
    where
      division : DivisionWithRemainder F d n p f
      division = divide d n p f monic length

      criterion : Divides F p f ↔ (division.remainder ≡ zero_vector F)
      criterion = divides_when_zero d n p f division.quotient division.remainder monic division.length division.division

      cases : Dec (division.remainder ≡ zero_vector F) → Dec (Divides F p f)
      cases (yes e) = yes (criterion.1 e)
      cases (no other) = no λ divides. other (criterion.0 divides)
