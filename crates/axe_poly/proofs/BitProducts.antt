-- Products of polynomials over two elements: the exclusive or of moved numbers.
use Rattle.std.specs.Prelude.{◌≡◌, ℕ, zero, suc, ◌+◌, ◌-◌, ◌*◌, ◌%◌, ◌^◌, ◌<◌, ◌≤◌, List, [], length, get_or, take}
use Rattle.std.specs.Int.{bit_at}
use Rattle.std.specs.Int.Bits.{bit_xor}
use Rattle.std.proofs.Math.Nat.{pow-le-pow_right}
use Rattle.std.proofs.Math.Pow.{pow-lt}
use Rattle.std.proofs.lemmas.List.{get_or-take, take_all, length-take-le}
use Rattle.std.proofs.lemmas.Nat.Bits.{bit_at_xor, bit_at-lt, bit_at-zero}
use Rattle.std.proofs.lemmas.Nat.Bits.{bit_at_cat_low, bit_at_cat_high}
use Rattle.axe_algebra.specs.Bridge.{element, vector_of}
use Rattle.axe_algebra.specs.Field.{Field}
use Rattle.axe_algebra.specs.NumberField.{NumberField}
use Rattle.axe_algebra.specs.Vectors.{Vector, zero_vector, unit_vector, add_vectors}
use Rattle.axe_algebra.proofs.Digits.{pow-positive}
use Rattle.axe_algebra.proofs.ElementNumbers.{element_zero, element_one, element_add}
use Rattle.axe_algebra.proofs.FieldLaws.{zero-add}
use Rattle.axe_algebra.proofs.ListEntries.{vector_past, vector_length}
use Rattle.axe_algebra.proofs.ProductLaws.{unit_at, unit_off}
use Rattle.axe_field.specs.Arithmetic.{field_add, number_of, polynomial_sum, polynomial_of, coefficients}
use Rattle.axe_field.specs.NumberFields.{number_field, gf}
use Rattle.axe_field.specs.Order.{Two}
use Rattle.axe_field.proofs.NumberFields.{number_field-order, number_field-add}
use Rattle.axe_polynomial_algebra.specs.Polynomials.{convolution}
use Rattle.axe_polynomial_algebra.proofs.ConvolutionLaws.{unit_product_at, unit_product_before, add-convolution}
use Rattle.axe_polynomial_algebra.proofs.ConvolutionLaws.{product_of_zero}
use Rattle.axe_poly.specs.Sieve.{polynomial_of_number, IsProductNumber}
use mathlib.Core.Path.{refl, sym, ◌∙◌, ap, ap₂, subst, fun_ext}
use native.Mathlib.Nat.{pow-suc, mul_assoc}
use native.Mathlib.Omega.{arith}
use native.Mathlib.Decide.{ℕ_discrete, dec_lt}

abbrev K : NumberField
K = number_field Two

abbrev F : Field
F = gf Two

two_elements : K.order ≡ 2
two_elements = number_field-order Two

bit-below : (x j : ℕ) → bit_at x j < K.order
bit-below x j = omega (arith, bit_at-lt x j, two_elements)

-- ---- sums and moves
bits_sum : (a b : ℕ) → a < 2 → b < 2 → (a + b) % 2 ≡ field_add Two a b
unfolding field_add number_of polynomial_sum polynomial_of coefficients
bits_sum zero zero _ _ = refl
bits_sum zero (suc zero) _ _ = refl
bits_sum (suc zero) zero _ _ = refl
bits_sum (suc zero) (suc zero) _ _ = refl
bits_sum (suc (suc a)) b small _ = absurd (omega (arith, small))
bits_sum a (suc (suc b)) _ small = absurd (omega (arith, small))

-- the exclusive or of two numbers is that of the sum of their polynomials
pub bits-xor : (a b : ℕ) →
    polynomial_of_number Two (bit_xor a b) ≡ add_vectors F (polynomial_of_number Two a) (polynomial_of_number Two b)
bits-xor a b = fun_ext λ j.
    ap (element K)
    (bit_at_xor a b j ∙ bits_sum (bit_at a j) (bit_at b j) (bit_at-lt a j) (bit_at-lt b j)
    ∙ sym (number_field-add Two (bit_at a j) (bit_at b j)))
    ∙ element_add K (bit_at a j) (bit_at b j) (bit-below a j) (bit-below b j)

-- a number moved up by i places is that of x^i times its polynomial
pub bits-moved : (c i : ℕ) →
    polynomial_of_number Two (c * 2 ^ i) ≡ convolution F (unit_vector F i) (polynomial_of_number Two c)
bits-moved c i = fun_ext λ j. at j (dec_lt j i)
  where
    plain : c * 2 ^ i + 0 ≡ c * 2 ^ i
    plain = omega arith

    at : (j : ℕ) → Dec (j < i) →
        polynomial_of_number Two (c * 2 ^ i) j ≡ convolution F (unit_vector F i) (polynomial_of_number Two c) j
    at j (yes below) =
        ap (element K) (ap (λ x. bit_at x j) (sym plain) ∙ bit_at_cat_low c i 0 j below ∙ bit_at-zero j)
        ∙ element_zero K ∙ sym (unit_product_before F i (polynomial_of_number Two c) j below)
    at j (no past) =
        let place : i + (j - i) ≡ j = omega arith in
        ap (element K)
        (ap (λ x. bit_at x j) (sym plain)
        ∙ bit_at_cat_high c i 0 j (pow-positive 2 i (omega arith)) (omega arith))
        ∙ sym (unit_product_at F i (polynomial_of_number Two c) (j - i))
        ∙ ap (convolution F (unit_vector F i) (polynomial_of_number Two c)) place

pub bits_none : polynomial_of_number Two 0 ≡ zero_vector F
bits_none = fun_ext λ j. ap (element K) (bit_at-zero j) ∙ element_zero K

-- ---- a product, coefficient by coefficient
first_longer : (p : List ℕ) (i : ℕ) → i < length p → get_or p i 0 ≡ 1 →
    vector_of K (take (i + 1) p) ≡ add_vectors F (vector_of K (take i p)) (unit_vector F i)
first_longer p i inside one = fun_ext λ j. at j (dec_lt j i) (ℕ_discrete j i)
  where
    at : (j : ℕ) → Dec (j < i) → Dec (j ≡ i) →
        vector_of K (take (i + 1) p) j ≡ F.add (vector_of K (take i p) j) (unit_vector F i j)
    at j (yes below) _ =
        ap (element K) (get_or-take (i + 1) p j 0 (omega arith) ∙ sym (get_or-take i p j 0 below))
        ∙ sym (F.add-zero (vector_of K (take i p) j))
        ∙ ap (F.add (vector_of K (take i p) j)) (sym (unit_off F i j (omega arith)))
    at j (no _) (yes same) =
        ap (λ t. vector_of K (take (i + 1) p) t) same
        ∙ ap (element K) (get_or-take (i + 1) p i 0 (omega arith) ∙ one) ∙ element_one K
        ∙ sym (zero-add F F.one)
        ∙ ap₂ F.add (sym (vector_past K (take i p) i (omega (arith, length-take-le i p (omega arith)))))
        (sym (unit_at F i))
        ∙ ap (λ t. F.add (vector_of K (take i p) t) (unit_vector F i t)) (sym same)
    at j (no not_below) (no other) =
        vector_past K (take (i + 1) p) j (omega (arith, length-take-le (i + 1) p (omega arith)))
        ∙ sym (zero-add F F.zero)
        ∙ ap₂ F.add (sym (vector_past K (take i p) j (omega (arith, length-take-le i p (omega arith)))))
        (sym (unit_off F i j (omega arith)))

first_same : (p : List ℕ) (i : ℕ) → i < length p → get_or p i 0 ≡ 0 →
    vector_of K (take (i + 1) p) ≡ vector_of K (take i p)
first_same p i inside none = fun_ext λ j. at j (dec_lt j i) (ℕ_discrete j i)
  where
    at : (j : ℕ) → Dec (j < i) → Dec (j ≡ i) → vector_of K (take (i + 1) p) j ≡ vector_of K (take i p) j
    at j (yes below) _ = ap (element K) (get_or-take (i + 1) p j 0 (omega arith) ∙ sym (get_or-take i p j 0 below))
    at j (no _) (yes same) =
        ap (λ t. vector_of K (take (i + 1) p) t) same
        ∙ ap (element K) (get_or-take (i + 1) p i 0 (omega arith) ∙ none) ∙ element_zero K
        ∙ sym (vector_past K (take i p) i (omega (arith, length-take-le i p (omega arith))))
        ∙ ap (λ t. vector_of K (take i p) t) (sym same)
    at j (no not_below) (no other) =
        vector_past K (take (i + 1) p) j (omega (arith, length-take-le (i + 1) p (omega arith)))
        ∙ sym (vector_past K (take i p) j (omega (arith, length-take-le i p (omega arith))))

pub product_none : (p : List ℕ) (c x : ℕ) → x ≡ 0 → IsProductNumber Two (take 0 p) c x
product_none p c x none = record {
  equals = ap (polynomial_of_number Two) none ∙ bits_none
      ∙ sym (product_of_zero F (vector_of K []) (polynomial_of_number Two c) (vector_length K 0 [] refl));
}

pub product_more : (p : List ℕ) (c i x moved y : ℕ) → i < length p → get_or p i 0 ≡ 1 → moved ≡ c * 2 ^ i →
    y ≡ bit_xor x moved → IsProductNumber Two (take i p) c x → IsProductNumber Two (take (i + 1) p) c y
product_more p c i x moved y inside one moved_is y_is h = record {
  equals =
      ap (polynomial_of_number Two) (y_is ∙ ap (bit_xor x) moved_is) ∙ bits-xor x (c * 2 ^ i)
      ∙ ap₂ (add_vectors F) h.equals (bits-moved c i)
      ∙ sym (add-convolution F (vector_of K (take i p)) (unit_vector F i) (polynomial_of_number Two c))
      ∙ ap (λ (v : Vector F). convolution F v (polynomial_of_number Two c)) (sym (first_longer p i inside one));
}

pub product_same : (p : List ℕ) (c i x y : ℕ) → i < length p → get_or p i 0 ≡ 0 → y ≡ x →
    IsProductNumber Two (take i p) c x → IsProductNumber Two (take (i + 1) p) c y
product_same p c i x y inside none y_is h = record {
  equals = ap (polynomial_of_number Two) y_is ∙ h.equals
      ∙ ap (λ (v : Vector F). convolution F v (polynomial_of_number Two c)) (sym (first_same p i inside none));
}

pub product_all : (p : List ℕ) (c i x : ℕ) → length p ≤ i → IsProductNumber Two (take i p) c x → IsProductNumber Two p c x
product_all p c i x long h = subst (λ (f : List ℕ). IsProductNumber Two f c x) (take_all i p long) h

-- moved up by one more place
pub moved_next : (c i moved : ℕ) → moved ≡ c * 2 ^ i → moved * 2 ≡ c * 2 ^ (i + 1)
moved_next c i moved is =
    ap (λ n. n * 2) is ∙ mul_assoc c (2 ^ i) 2
    ∙ ap (λ n. c * n) (sym (pow-suc 2 i) ∙ (let e : suc i ≡ i + 1 = omega arith in ap (λ k. 2 ^ k) e))

pub below_power : (i n : ℕ) → i < n → 2 ^ i < 2 ^ n
below_power i n small = pow-lt small

pub at_most_power : (i n : ℕ) → i ≤ n → 2 ^ i ≤ 2 ^ n
at_most_power i n small = pow-le-pow_right (omega arith) small
