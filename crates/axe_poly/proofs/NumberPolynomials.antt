-- Polynomials and their numbers: monic polynomials, and what divides.
use Rattle.std.specs.Prelude.{◌≡◌, ℕ, zero, suc, ◌+◌, ◌-◌, ◌*◌, ◌/◌, ◌%◌, ◌^◌, ◌<◌, ◌≤◌, List, length, get_or}
use Rattle.axe_algebra.specs.Bridge.{element, vector_of}
use Rattle.axe_algebra.specs.Field.{Field}
use Rattle.axe_algebra.specs.NumberField.{NumberField}
use Rattle.axe_algebra.specs.Vectors.{Vector}
use Rattle.axe_algebra.proofs.Digits.{pow-positive}
use Rattle.axe_algebra.proofs.ElementNumbers.{element_zero, same_number, zero-below}
use Rattle.axe_algebra.proofs.ListEntries.{vector_past}
use Rattle.axe_field.specs.NumberFields.{number_field, gf}
use Rattle.axe_field.specs.Order.{Order, order_number}
use Rattle.axe_field.proofs.NumberFields.{number_field-order}
use Rattle.axe_polynomial_algebra.specs.Polynomials.{convolution, IsMonic}
use Rattle.axe_polynomial_algebra.specs.PolynomialTheorems.{MonicCofactor}
use Rattle.axe_polynomial_algebra.specs.PolynomialsOfLists.{degree_of, IsMonicOver, polynomial_number, Divides}
use Rattle.axe_polynomial_algebra.proofs.Cofactors.{cofactor_is_monic}
use Rattle.axe_polynomial_algebra.proofs.ConvolutionLaws.{monic_times_monic}
use Rattle.axe_polynomial_algebra.proofs.ListCongruences.{monic_of_list}
use Rattle.axe_polynomial_algebra.proofs.ProperDivisors.{ListOfMonic, list_of_monic}
use Rattle.axe_poly.specs.Numbering.{polynomial_with_number}
use Rattle.axe_poly.specs.Sieve.{polynomial_of_number, IsProductNumber}
use Rattle.axe_poly.proofs.NumberLaws.{polynomial_length, polynomial_degree, polynomial_is_monic, coefficient_at}
use Rattle.axe_poly.proofs.NumberLaws.{number_of_monic, monic_by_number, digits_are, number_of_polynomial}
use mathlib.Core.Path.{sym, ◌∙◌, ap, subst, fun_ext}
use native.Mathlib.Nat.{pow-suc, mul-le-mul_left, pow-le-pow_right, div-eq_of_lt, zero-mod}
use native.Mathlib.Omega.{arith}
use native.Mathlib.Decide.{dec_le}

-- a number is below each power with an exponent above it
below_own_power : (q x : ℕ) → 1 < q → x < q ^ suc x
below_own_power q zero above = pow-positive q 1 (omega (arith, above))
below_own_power q (suc x) above =
    omega (arith, below_own_power q x above, pow-suc q (suc x), mul-le-mul_left (q ^ suc x) above)

module _ (o : Order) where
  abbrev K : NumberField
  K = number_field o

  abbrev F : Field
  F = gf o

  pub same_order : K.order ≡ order_number o
  same_order = number_field-order o

  some-order : 0 < order_number o
  some-order = omega (arith, K.one-below, same_order)

  digit-below : (x j : ℕ) → x / order_number o ^ j % order_number o < K.order
  digit-below x j = omega (arith, some-order, same_order)

  digit_of : (n x j : ℕ) → j ≤ n →
      get_or (polynomial_with_number K.order n x) j 0 ≡ x / order_number o ^ j % order_number o
  digit_of n x j inside = coefficient_at K.order n x j inside ∙ ap (λ b. x / b ^ j % b) same_order

  -- ---- monic polynomials and their numbers
  below_next : (d x : ℕ) → x < 2 * K.order ^ d → x < K.order ^ suc d
  below_next d x small = omega (
    arith,
    small,
    pow-suc K.order d,
    mul-le-mul_left (K.order ^ d) (let e : 2 ≤ K.order = omega (arith, K.one-below) in e),
  )

  -- the coefficients of the polynomial with a number are its digits
  pub digits_of_number : (n x : ℕ) → x < K.order ^ suc n →
      vector_of K (polynomial_with_number K.order n x) ≡ polynomial_of_number o x
  digits_of_number n x small = fun_ext λ j. at j (dec_le j n)
    where
      above : (j : ℕ) → ¬ (j ≤ n) → x / order_number o ^ j % order_number o ≡ 0
      above j past = ap (λ y. y % order_number o) (div-eq_of_lt (omega (arith, bound, more)))
          ∙ zero-mod (order_number o)
        where
          bound : x < order_number o ^ suc n
          bound = subst (λ q. x < q ^ suc n) same_order small

          more : order_number o ^ suc n ≤ order_number o ^ j
          more = pow-le-pow_right some-order (let e : suc n ≤ j = omega (arith, past) in e)

      at : (j : ℕ) → Dec (j ≤ n) → vector_of K (polynomial_with_number K.order n x) j ≡ polynomial_of_number o x j
      at j (yes inside) = ap (element K) (digit_of n x j inside)
      at j (no past) =
          vector_past K (polynomial_with_number K.order n x) j (omega (arith, past, polynomial_length K.order n x))
          ∙ sym (ap (element K) (above j past) ∙ element_zero K)

  -- numbers with one polynomial are the same
  pub same_numbers : (x y : ℕ) → polynomial_of_number o x ≡ polynomial_of_number o y → x ≡ y
  same_numbers x y same =
      sym (number_of_polynomial K.order n x (zero-below K) (below x (omega arith)))
      ∙ ap (polynomial_number K.order)
      (digits_are K.order n y (polynomial_with_number K.order n x) (polynomial_length K.order n x) each)
      ∙ number_of_polynomial K.order n y (zero-below K) (below y (omega arith))
    where
      n : ℕ
      n = x + y

      below : (z : ℕ) → z ≤ n → z < K.order ^ suc n
      below z small = omega (arith, small, below_own_power K.order n K.one-below)

      each : (j : ℕ) → j < length (polynomial_with_number K.order n x) →
          get_or (polynomial_with_number K.order n x) j 0 ≡ y / K.order ^ j % K.order
      each j inside =
          digit_of n x j (omega (arith, inside, polynomial_length K.order n x))
          ∙ same_number K (x / order_number o ^ j % order_number o) (y / order_number o ^ j % order_number o)
          (digit-below x j) (digit-below y j) (ap (λ (v : Vector F). v j) same)
          ∙ ap (λ b. y / b ^ j % b) (sym same_order)

  pub product_is_one : (p : List ℕ) (c x y : ℕ) → IsProductNumber o p c x → IsProductNumber o p c y → x ≡ y
  product_is_one p c x y one other = same_numbers x y (one.equals ∙ sym other.equals)

  -- the polynomial with a number is monic of degree d
  pub record IsMonicNumber (d x : ℕ) : Type 0 where
    pub from : K.order ^ d ≤ x
    pub to : x < 2 * K.order ^ d

  pub monic_of_number : (d x : ℕ) → 0 < d → IsMonicNumber d x → IsMonic F d (polynomial_of_number o x)
  monic_of_number d x positive is =
      subst (IsMonic F d) (digits_of_number d x (below_next d x is.to))
      (subst (λ n. IsMonic F n (vector_of K (polynomial_with_number K.order d x))) (polynomial_degree K d x)
      (monic_of_list K (polynomial_with_number K.order d x) (polynomial_is_monic K d x (omega arith) is.from is.to)))

  -- a monic polynomial has a number
  pub record NumberOfMonic (d : ℕ) (a : Vector F) : Type 0 where
    pub number : ℕ
    pub monic : IsMonicNumber d number
    pub digits_are_its : polynomial_of_number o number ≡ a

  pub number_of_vector : (d : ℕ) (a : Vector F) → 0 < d → IsMonic F d a → NumberOfMonic d a
  number_of_vector d a positive monic = record {
    number = number;
    monic = range;
    digits_are_its = sym (digits_of_number d number (below_next d number range.to))
        ∙ ap (vector_of K) (sym (monic_by_number K d f.list f.over f.degree_is)) ∙ f.vector_is;
  }
    where
      f : ListOfMonic K d a
      f = list_of_monic K d a positive monic

      number : ℕ
      number = polynomial_number K.order f.list

      range : IsMonicNumber d number
      range = record {
        from = (number_of_monic K d f.list f.over f.degree_is).0;
        to = (number_of_monic K d f.list f.over f.degree_is).1;
      }

  pub monic_number : (d x : ℕ) → 0 < d → IsMonic F d (polynomial_of_number o x) → IsMonicNumber d x
  monic_number d x positive monic = subst (IsMonicNumber d) (same_numbers found.number x found.digits_are_its) found.monic
    where
      found : NumberOfMonic d (polynomial_of_number o x)
      found = number_of_vector d (polynomial_of_number o x) positive monic

  module _ (p : List ℕ) (d : ℕ) (over : IsMonicOver K p) (smaller : degree_of p < d) where
    -- the degree of a cofactor
    abbrev pub rest : ℕ
    rest = d - degree_of p

    degrees : degree_of p + rest ≡ d
    degrees = omega (arith, smaller)

    -- the product with a monic polynomial is monic
    pub product_is_monic : (c x : ℕ) → IsMonicNumber rest c → IsProductNumber o p c x → IsMonicNumber d x
    product_is_monic c x monic product = monic_number d x (omega (arith, smaller))
        (subst (IsMonic F d) (sym product.equals)
        (subst (λ n. IsMonic F n (convolution F (vector_of K p) (polynomial_of_number o c))) degrees
        (monic_times_monic F (degree_of p) rest (vector_of K p) (polynomial_of_number o c) (monic_of_list K p over)
        (monic_of_number rest c (omega (arith, smaller)) monic))))

    -- and p divides it
    pub product_is_multiple : (c x : ℕ) → IsMonicNumber rest c → IsProductNumber o p c x →
        Divides K p (polynomial_with_number K.order d x)
    product_is_multiple c x monic product = record {
      quotient = polynomial_of_number o c;
      size = suc rest;
      length = (monic_of_number rest c (omega (arith, smaller)) monic).length;
      equals = digits_of_number d x (below_next d x (product_is_monic c x monic product).to) ∙ product.equals;
    }

    -- a monic multiple of p is the product with a monic polynomial
    pub record Cofactor (x : ℕ) : Type 0 where
      pub cofactor : ℕ
      pub monic : IsMonicNumber rest cofactor
      pub product : IsProductNumber o p cofactor x

    pub multiple_is_product : (x : ℕ) → IsMonicNumber d x → Divides K p (polynomial_with_number K.order d x) →
        Cofactor x
    multiple_is_product x monic divides = record {
      cofactor = c.number;
      monic = c.monic;
      product = record {
        equals = sym (digits_of_number d x (below_next d x monic.to)) ∙ quotient.equals
            ∙ ap (convolution F (vector_of K p)) (sym c.digits_are_its);
      };
    }
      where
        f : List ℕ
        f = polynomial_with_number K.order d x

        of_f : IsMonic F d (vector_of K f)
        of_f = subst (IsMonic F d) (sym (digits_of_number d x (below_next d x monic.to)))
            (monic_of_number d x (omega (arith, smaller)) monic)

        quotient : MonicCofactor F (degree_of p) d (vector_of K p) (vector_of K f)
        quotient = cofactor_is_monic F (degree_of p) d (vector_of K p) (vector_of K f) (monic_of_list K p over) of_f
            divides

        degree : quotient.degree ≡ rest
        degree = omega (arith, quotient.sum)

        c : NumberOfMonic rest quotient.quotient
        c = number_of_vector rest quotient.quotient (omega (arith, smaller))
            (subst (λ n. IsMonic F n quotient.quotient) degree quotient.monic)
