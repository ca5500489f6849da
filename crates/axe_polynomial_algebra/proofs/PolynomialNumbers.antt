-- The numbers of polynomials: they tell monic polynomials, go by degree first, and those of one degree follow each
-- other.
use Rattle.std.specs.Prelude.{◌≡◌, ℕ, suc, ◌+◌, ◌-◌, ◌*◌, ◌^◌, ◌<◌, ◌≤◌, List, [], ◌∷◌, ◌++◌, length, get_or}
use Rattle.std.specs.Prelude.{reverse}
use Rattle.std.proofs.lemmas.List.{reverse-append, reverse-reverse, length-reverse, get_or-reverse, length-append}
use Rattle.std.proofs.lemmas.List.Elements.{All-cons, All-tail}
use Rattle.axe_algebra.specs.NumberField.{NumberField}
use Rattle.axe_algebra.specs.Lists.{AreElements}
use Rattle.axe_algebra.specs.Digits.{digits, number_with_digits}
use Rattle.axe_algebra.proofs.ElementNumbers.{zero-below}
use Rattle.axe_algebra.proofs.Digits.{digits_length, digits-below, number_with_digits-below, digits_of_their_number}
use Rattle.axe_algebra.proofs.Digits.{number_of_its_digits}
use Rattle.axe_polynomial_algebra.specs.PolynomialsOfLists.{degree_of, IsMonicOver, polynomial_number}
use Rattle.axe_polynomial_algebra.specs.PolynomialListTheorems.{NumberTellsThePolynomial, NumbersGoByDegree}
use mathlib.Core.Path.{sym, ◌∙◌, ap, ap₂, subst}
use native.Mathlib.Omega.{arith}
use native.Mathlib.Decide.{dec_lt}
use native.Mathlib.Nat.{pow-zero, pow-suc, mul_assoc, mul_comm, mul-add, mul-one, one-mul, pow-le-pow_right}

-- ---- numbers entry by entry

number_with_last : (q : ℕ) (ds : List ℕ) (c : ℕ) → number_with_digits q (ds ++ c ∷ []) ≡ c + q * number_with_digits q ds
unfolding number_with_digits
number_with_last q [] c = ap (λ n. c * n + 0) (pow-zero q) ∙ ap (λ n. n + 0) (mul-one c)
    ∙ (let e : q * 0 ≡ 0 = omega arith in ap (λ n. c + n) (sym e))
number_with_last q (d ∷ ds) c =
    ap₂ (λ a b. d * q ^ a + b) (length-append ds (c ∷ [])) (number_with_last q ds c)
    ∙ ap (λ n. n + (c + q * number_with_digits q ds)) moved
    ∙ (let e : q * (d * q ^ length ds) + (c + q * number_with_digits q ds) ≡ c +
    (q * (d * q ^ length ds) + q * number_with_digits q ds) = omega arith in e)
    ∙ ap (λ n. c + n) (sym (mul-add q (d * q ^ length ds) (number_with_digits q ds)))
  where
    moved : d * q ^ (length ds + 1) ≡ q * (d * q ^ length ds)
    moved =
        (let e : length ds + 1 ≡ suc (length ds) = omega arith in ap (λ n. d * q ^ n) e)
        ∙ ap (λ n. d * n) (pow-suc q (length ds)) ∙ sym (mul_assoc d (q ^ length ds) q) ∙ mul_comm (d * q ^ length ds) q

-- the constant and the others
pub number_cons : (q c : ℕ) (f : List ℕ) → polynomial_number q (c ∷ f) ≡ c + q * polynomial_number q f
number_cons q c f = ap (number_with_digits q) (reverse-append (c ∷ []) f) ∙ number_with_last q (reverse f) c

-- the highest coefficient and the others
pub number_push : (q : ℕ) (f : List ℕ) (c : ℕ) →
    polynomial_number q (f ++ c ∷ []) ≡ c * q ^ length f + polynomial_number q f
unfolding number_with_digits
number_push q f c =
    ap (number_with_digits q) (reverse-append f (c ∷ []))
    ∙ ap (λ n. c * q ^ n + number_with_digits q (reverse f)) (length-reverse f)

-- ---- monic polynomials by their degree and a number below q^degree

-- the monic polynomial of degree d whose other coefficients are the digits of a number, the constant least significant
pub monic_by_number : ℕ → ℕ → ℕ → List ℕ
monic_by_number q d low = reverse (1 ∷ digits q d low)

elements_of_reverse : (K : NumberField) (xs : List ℕ) → AreElements K xs → AreElements K (reverse xs)
elements_of_reverse K xs all k d below =
    let inside : k < length xs = omega (arith, length-reverse xs) in
    subst (λ n. n < K.order) (sym (get_or-reverse xs k d inside)) (all (length xs - 1 - k) d (omega arith))

module _ (K : NumberField) where
  -- the leading 1 and the others
  monic_digits : (f : List ℕ) → IsMonicOver K f →
      (rest : List ℕ) × (reverse f ≡ 1 ∷ rest) × AreElements K rest × (length rest ≡ degree_of f)
  monic_digits f over =
      from (reverse f) (omega (arith, over.positive, length-reverse f))
      (get_or-reverse f 0 0 (omega (arith, over.positive))
      ∙ (let e : length f - 1 - 0 ≡ degree_of f = omega arith in ap (λ i. get_or f i 0) e) ∙ over.leads)
      (elements_of_reverse K f over.elements)
    where
      from : (ds : List ℕ) → length ds ≡ suc (degree_of f) → get_or ds 0 0 ≡ 1 → AreElements K ds →
          (rest : List ℕ) × (ds ≡ 1 ∷ rest) × AreElements K rest × (length rest ≡ degree_of f)
      from [] size lead all = absurd (omega arith)
      from (d ∷ rest) size lead all =
          (rest, ap (λ c. c ∷ rest) lead, All-tail (λ (digit : ℕ). digit < K.order) d rest all, omega arith)

  -- the number of a monic polynomial of degree d is q^d and a number below q^d
  pub number_of_monic : (f : List ℕ) → IsMonicOver K f →
      (low : ℕ) × (low < K.order ^ degree_of f) × (polynomial_number K.order f ≡ K.order ^ degree_of f + low)
  unfolding number_with_digits
  number_of_monic f over = from (monic_digits f over)
    where
      q : ℕ
      q = K.order

      from : (rest : List ℕ) × (reverse f ≡ 1 ∷ rest) × AreElements K rest × (length rest ≡ degree_of f) →
          (low : ℕ) × (low < q ^ degree_of f) × (polynomial_number q f ≡ q ^ degree_of f + low)
      from (rest, is, all, size) = (
        number_with_digits q rest,
        subst (λ n. number_with_digits q rest < q ^ n) size (number_with_digits-below q rest all),
        ap (number_with_digits q) is
            ∙ ap (λ n. n + number_with_digits q rest) (one-mul (q ^ length rest) ∙ ap (λ n. q ^ n) size),
      )

  -- any polynomial with m coefficients has a number below q^m
  pub number-below : (f : List ℕ) → AreElements K f → polynomial_number K.order f < K.order ^ length f
  number-below f all =
      subst (λ n. polynomial_number K.order f < K.order ^ n) (length-reverse f)
      (number_with_digits-below K.order (reverse f) (elements_of_reverse K f all))

  pub numbers_by_degree : NumbersGoByDegree K
  numbers_by_degree f g of_f of_g below = from (number_of_monic g of_g)
    where
      q : ℕ
      q = K.order

      powers : q ^ length f ≤ q ^ degree_of g
      powers = pow-le-pow_right (zero-below K) (omega (arith, of_f.positive))

      from : (low : ℕ) × (low < q ^ degree_of g) × (polynomial_number q g ≡ q ^ degree_of g + low) →
          polynomial_number q f < polynomial_number q g
      from (low, small, is) = let n : polynomial_number q f < q ^ length f = number-below f of_f.elements in omega
          (arith, powers)

  pub number_tells : NumberTellsThePolynomial K
  number_tells f g of_f of_g same = cases (dec_lt (degree_of f) (degree_of g)) (dec_lt (degree_of g) (degree_of f))
    where
      q : ℕ
      q = K.order

      cases : Dec (degree_of f < degree_of g) → Dec (degree_of g < degree_of f) → f ≡ g
      cases (yes below) _ = absurd
          (let n : polynomial_number q f < polynomial_number q g = numbers_by_degree f g of_f of_g below in omega arith)
      cases (no _) (yes above) = absurd
          (let n : polynomial_number q g < polynomial_number q f = numbers_by_degree g f of_g of_f above in omega arith)
      cases (no a) (no b) = sym (reverse-reverse f) ∙ ap (λ (ds : List ℕ). reverse ds) reversed ∙ reverse-reverse g
        where
          lengths : length (reverse f) ≡ length (reverse g)
          lengths = omega (arith, length-reverse f, length-reverse g, of_f.positive, of_g.positive)

          reversed : reverse f ≡ reverse g
          reversed =
              sym (digits_of_their_number q (reverse f) (elements_of_reverse K f of_f.elements))
              ∙ ap₂ (λ m n. digits q m n) lengths same
              ∙ digits_of_their_number q (reverse g) (elements_of_reverse K g of_g.elements)

  pub monic_by_number-degree : (d low : ℕ) → degree_of (monic_by_number K.order d low) ≡ d
  unfolding monic_by_number
  monic_by_number-degree d low = omega (arith, length-reverse (1 ∷ digits K.order d low), digits_length K.order d low)

  pub monic_by_number-over : (d low : ℕ) → 0 < d → IsMonicOver K (monic_by_number K.order d low)
  unfolding monic_by_number
  monic_by_number-over d low positive = record {
    elements = elements_of_reverse K ds (All-cons (λ (digit : ℕ). digit < K.order) 1 (digits K.order d low) K.one-below
        (digits-below K.order d low (zero-below K)));
    positive = omega (arith, length-reverse ds, digits_length K.order d low);
    leads =
        (let e : degree_of (reverse ds) ≡ length ds - 1 = omega (arith, length-reverse ds) in ap
        (λ i. get_or (reverse ds) i 0) e)
        ∙ get_or-reverse ds (length ds - 1) 0 (omega (arith, digits_length K.order d low))
        ∙ (let e : length ds - 1 - (length ds - 1) ≡ 0 = omega arith in ap (λ i. get_or ds i 0) e);
  }
    where
      ds : List ℕ
      ds = 1 ∷ digits K.order d low

  pub monic_by_number-number : (d low : ℕ) → low < K.order ^ d →
      polynomial_number K.order (monic_by_number K.order d low) ≡ K.order ^ d + low
  unfolding monic_by_number number_with_digits
  monic_by_number-number d low small =
      ap (number_with_digits K.order) (reverse-reverse (1 ∷ digits K.order d low))
      ∙ ap₂ (λ m n. m + n)
      (one-mul (K.order ^ length (digits K.order d low)) ∙ ap (λ n. K.order ^ n) (digits_length K.order d low))
      (number_of_its_digits K.order d low (zero-below K) small)

  -- so each monic polynomial is one of these
  pub is_by_number : (f : List ℕ) → IsMonicOver K f →
      (low : ℕ) × (low < K.order ^ degree_of f) × (f ≡ monic_by_number K.order (degree_of f) low)
  is_by_number f over = from (number_of_monic f over)
    where
      from : (low : ℕ) × (low < K.order ^ degree_of f) × (polynomial_number K.order f ≡ K.order ^ degree_of f + low) →
          (low : ℕ) × (low < K.order ^ degree_of f) × (f ≡ monic_by_number K.order (degree_of f) low)
      from (low, small, is) = (
        low,
        small,
        number_tells f (monic_by_number K.order (degree_of f) low) over
            (monic_by_number-over (degree_of f) low (omega (arith, over.positive)))
            (is ∙ sym (monic_by_number-number (degree_of f) low small)),
      )
