-- What a sieve marks: the multiples of one polynomial, of the first ones of a table, and so the reducible polynomials.
use Rattle.std.specs.Prelude.{◌≡◌, ℕ, suc, ◌+◌, ◌-◌, ◌*◌, ◌^◌, ◌<◌, ◌≤◌, ◌↔◌, ◌⊎◌, List, [], length, get_or, set}
use Rattle.std.specs.Prelude.{Bool, true, false, IsTrue, replicate}
use Rattle.std.proofs.Common.{inl, inr, get_or-set_same, get_or-set_other}
use Rattle.std.proofs.lemmas.Bool.{false≢true}
use Rattle.std.proofs.lemmas.List.{length-set, length-replicate, get_or-replicate}
use Rattle.axe_algebra.specs.NumberField.{NumberField}
use Rattle.axe_field.specs.NumberFields.{number_field}
use Rattle.axe_field.specs.Order.{Order, Two, Three, Four, Five, Seven, Eight, Nine, order_number}
use Rattle.axe_field.proofs.NumberFields.{number_field-order}
use Rattle.axe_polynomial_algebra.specs.PolynomialsOfLists.{degree_of, IsMonicOver, Divides, IsIrreduciblePolynomial}
use Rattle.axe_polynomial_algebra.proofs.ProperDivisors.{irreducible_or_not}
use Rattle.axe_poly.specs.Numbering.{polynomial_with_number}
use Rattle.axe_poly.specs.Sieve.{IsProductNumber, IsProductNumberBelow, MarksProducts, MarksMultiples, monic_at}
use Rattle.axe_poly.specs.Sieve.{AreMarkedByFirst, AreReducibleMarks}
use Rattle.axe_poly.specs.Tables.{IrreduciblesValue, AreIrreducibles}
use Rattle.axe_poly.proofs.NumberPolynomials.{same_order, product_is_one, IsMonicNumber, Cofactor}
use Rattle.axe_poly.proofs.NumberPolynomials.{product_is_monic, product_is_multiple, multiple_is_product}
use Rattle.axe_poly.proofs.NumberLaws.{polynomial_is_monic, polynomial_degree}
use Rattle.axe_poly.proofs.TrialLaws.{irreducible_by_first, reducible_of_table}
use mathlib.Core.Path.{refl, sym, ◌∙◌, ap, subst}
use native.Mathlib.Nat.{pow-suc, mul-le-mul_left, mul-le-mul_right}
use native.Mathlib.Omega.{arith}
use native.Mathlib.Decide.{ℕ_discrete, dec_lt}

-- the field of two elements is told by its order
pub order_is_two : (o : Order) → order_number o ≡ 2 → o ≡ Two
order_is_two Two e = refl
order_is_two Three e = absurd (omega arith)
order_is_two Four e = absurd (omega arith)
order_is_two Five e = absurd (omega arith)
order_is_two Seven e = absurd (omega arith)
order_is_two Eight e = absurd (omega arith)
order_is_two Nine e = absurd (omega arith)

-- ---- the products of one polynomial
pub products_none : (o : Order) (p : List ℕ) (start first : ℕ) (marks : List Bool) → MarksProducts o p start first first marks marks
products_none o p start first marks = record { long = refl; each = λ index inside. (inl, before index) }
  where
    before : (index : ℕ) → IsTrue (get_or marks index false) ⊎ IsProductNumberBelow o p first first (start + index) →
        IsTrue (get_or marks index false)
    before index (inl was) = was
    before index (inr (c, from, to, product)) = absurd (omega arith)

pub products_none_from : (o : Order) (p : List ℕ) (start first bound : ℕ) (marks : List Bool) → bound ≡ first →
    MarksProducts o p start first bound marks marks
products_none_from o p start first bound marks is =
    subst (λ k. MarksProducts o p start first k marks marks) (sym is) (products_none o p start first marks)

pub products_more : (o : Order) (p : List ℕ) (start first c x place : ℕ) (before now after : List Bool) → first ≤ c →
    IsProductNumber o p c x → x ≡ start + place → place < length now → after ≡ set now place true →
    MarksProducts o p start first c before now → MarksProducts o p start first (c + 1) before after
products_more o p start first c x place before now after from product x_is inside after_is h = record {
  long = ap length after_is ∙ length-set now place true ∙ h.long;
  each = λ index within. each index within (ℕ_discrete index place);
}
  where
    Told : ℕ → ℕ → List Bool → Type 0
    Told bound index marks =
        IsTrue (get_or marks index false)
        ↔ (IsTrue (get_or before index false) ⊎ IsProductNumberBelow o p first bound (start + index))

    each : (index : ℕ) → index < length before → Dec (index ≡ place) → Told (c + 1) index after
    each index within (yes same) = (λ _. inr (c, from, omega arith, found), λ _. marked)
      where
        found : IsProductNumber o p c (start + index)
        found = subst (IsProductNumber o p c) (x_is ∙ ap (λ k. start + k) (sym same)) product

        marked : get_or after index false ≡ true
        marked = ap (λ (marks : List Bool). get_or marks index false) after_is
            ∙ ap (λ k. get_or (set now place true) k false) same ∙ get_or-set_same now place true false inside
    each index within (no other) = (λ marked. more (told.0 (sym same ∙ marked)), λ known. same ∙ told.1 (less known))
      where
        told : Told c index now
        told = h.each index within

        same : get_or after index false ≡ get_or now index false
        same = ap (λ (marks : List Bool). get_or marks index false) after_is
            ∙ get_or-set_other now place index true false other

        Known : ℕ → Type 0
        Known bound = IsTrue (get_or before index false) ⊎ IsProductNumberBelow o p first bound (start + index)

        more : Known c → Known (c + 1)
        more (inl was) = inl was
        more (inr (k, low, high, is)) = inr (k, low, omega arith, is)

        less_at : (k : ℕ) → first ≤ k → k < c + 1 → IsProductNumber o p k (start + index) → Dec (k ≡ c) → Known c
        less_at k low high is (yes last) =
            let one : start + index ≡ x = product_is_one o p c (start + index) x
            (subst (λ n. IsProductNumber o p n (start + index)) last is) product in
            absurd (other (omega (arith, one, x_is)))
        less_at k low high is (no earlier) = inr (k, low, omega arith, is)

        less : Known (c + 1) → Known c
        less (inl was) = inl was
        less (inr (k, low, high, is)) = less_at k low high is (ℕ_discrete k c)

-- ---- the cofactors of one polynomial, by their numbers
-- those that have a digit more
pub cofactor_with_digit : (q k rest first higher digit : ℕ) → rest ≡ suc k → first ≡ q ^ rest → q ^ k ≤ higher →
    higher < 2 * q ^ k → digit < q → (first ≤ higher * q + digit) × (higher * q + digit < 2 * first)
cofactor_with_digit q k rest first higher digit rest_is first_is from to inside = (
  omega (arith, power, mul-le-mul_right q from),
  omega (arith, power, twice (q ^ k) q, suc_times higher q, mul-le-mul_right q above, inside),
)
  where
    power : first ≡ q ^ k * q
    power = first_is ∙ ap (λ n. q ^ n) rest_is ∙ pow-suc q k

    above : suc higher ≤ 2 * q ^ k
    above = omega (arith, to)

    twice : (x q : ℕ) → 2 * x * q ≡ x * q + x * q
    twice x q = grind arith

    suc_times : (x q : ℕ) → suc x * q ≡ x * q + q
    suc_times x q = grind arith

pub first_of_power : (field o : Order) (p : List ℕ) (d first : ℕ) → IsMonicOver (number_field o) p →
    degree_of p < d → field ≡ o → first ≡ order_number field ^ (d + 1 - length p) →
    first ≡ order_number o ^ (d - degree_of p)
first_of_power field o p d first over smaller same is =
    is ∙ ap (λ r. order_number r ^ (d + 1 - length p)) same
    ∙ (let e : d + 1 - length p ≡ d - degree_of p = omega (arith, smaller, over.positive) in
    ap (λ k. order_number o ^ k) e)

pub higher_has_digits : (o : Order) (k rest higher : ℕ) → rest ≡ suc k → higher < 2 * order_number o ^ k →
    higher < order_number o ^ rest
higher_has_digits o k rest higher rest_is small = omega (
  arith,
  small,
  ap (λ n. order_number o ^ n) rest_is,
  pow-suc (order_number o) k,
  mul-le-mul_left (order_number o ^ k)
      (let e : 2 ≤ order_number o = omega (arith, (number_field o).one-below, same_order o) in e),
)

module _ (o : Order) (p : List ℕ) (d count first : ℕ) (over : IsMonicOver (number_field o) p)
    (smaller : degree_of p < d) (count_is : count ≡ order_number o ^ d)
    (first_is : first ≡ order_number o ^ (d - degree_of p)) where
  power_of_order : (k : ℕ) → (number_field o).order ^ k ≡ order_number o ^ k
  power_of_order k = ap (λ q. q ^ k) (same_order o)

  pub cofactor_is_monic : (c : ℕ) → first ≤ c → c < 2 * first → IsMonicNumber o (d - degree_of p) c
  cofactor_is_monic c from to = record {
    from = omega (arith, first_is, power_of_order (d - degree_of p), from);
    to = omega (arith, first_is, power_of_order (d - degree_of p), to);
  }

  -- the number of a product has a mark
  pub product_has_mark : (c x : ℕ) → first ≤ c → c < 2 * first → IsProductNumber o p c x →
      (count ≤ x) × (x < count + count)
  product_has_mark c x from to product = (
    omega (arith, count_is, power_of_order d, monic.from),
    omega (arith, count_is, power_of_order d, monic.to),
  )
    where
      monic : IsMonicNumber o d x
      monic = product_is_monic o p d over smaller c x (cofactor_is_monic c from to) product

-- the first cofactor, where its last digit is left out
pub first_with_digit : (o : Order) (p : List ℕ) (d first : ℕ) → IsMonicOver (number_field o) p → degree_of p < d →
    first ≡ order_number o ^ (d - length p) → first * order_number o ≡ order_number o ^ (d - degree_of p)
first_with_digit o p d first over smaller is =
    ap (λ x. x * order_number o) is ∙ sym (pow-suc (order_number o) (d - length p))
    ∙ (let e : suc (d - length p) ≡ d - degree_of p = omega (arith, smaller, over.positive) in
    ap (λ k. order_number o ^ k) e)

-- where the cofactor has a digit more
pub digit_has_mark : (o : Order) (p : List ℕ) (d count higher digit x : ℕ) → IsMonicOver (number_field o) p →
    degree_of p < d → count ≡ order_number o ^ d → order_number o ^ (d - length p) ≤ higher →
    higher < 2 * order_number o ^ (d - length p) → digit < order_number o →
    IsProductNumber o p (higher * order_number o + digit) x → (count ≤ x) × (x < count + count)
digit_has_mark o p d count higher digit x over smaller count_is from to inside product =
    product_has_mark o p d count (order_number o ^ (d - degree_of p)) over smaller count_is refl
    (higher * order_number o + digit) x bounds.0 bounds.1 product
  where
    bounds : (order_number o ^ (d - degree_of p) ≤ higher * order_number o + digit)
        × (higher * order_number o + digit < 2 * order_number o ^ (d - degree_of p))
    bounds = cofactor_with_digit (order_number o) (d - length p) (d - degree_of p) (order_number o ^ (d - degree_of p))
        higher digit (omega (arith, smaller, over.positive)) refl from to inside

-- the products with all monic polynomials of the degree that is left are the monic multiples
pub products_all : (o : Order) (p : List ℕ) (d first bound : ℕ) (before after : List Bool) →
    IsMonicOver (number_field o) p → degree_of p < d →
    first ≡ (number_field o).order ^ (d - degree_of p) → bound ≡ 2 * first →
    length before ≡ (number_field o).order ^ d →
    MarksProducts o p (length before) first bound before after → MarksMultiples (number_field o) p d before after
products_all o p d first bound before after over smaller first_is bound_is long h = record {
  long = h.long;
  each = λ index within. (
    λ marked. forth index (h.each index within).0 marked,
    λ known. (h.each index within).1 (back index within known),
  );
}
  where
    K : NumberField
    K = number_field o

    place : (index : ℕ) → length before + index ≡ K.order ^ d + index
    place index = ap (λ n. n + index) long

    Divided : ℕ → Type 0
    Divided index = IsTrue (get_or before index false) ⊎ Divides K p (monic_at K d index)

    Known : ℕ → Type 0
    Known index = IsTrue (get_or before index false) ⊎ IsProductNumberBelow o p first bound (length before + index)

    from_product : (index : ℕ) → Known index → Divided index
    from_product index (inl was) = inl was
    from_product index (inr (c, low, high, product)) =
        inr (product_is_multiple o p d over smaller c (K.order ^ d + index)
        (record { from = omega (arith, first_is, low); to = omega (arith, first_is, bound_is, high) })
        (subst (IsProductNumber o p c) (place index) product))

    forth : (index : ℕ) → (IsTrue (get_or after index false) → Known index) → IsTrue (get_or after index false) →
        Divided index
    forth index told marked = from_product index (told marked)

    of_divisor : (index : ℕ) → index < length before → Divides K p (monic_at K d index) → Known index
    of_divisor index within divides =
        inr (
          found.cofactor,
          omega (arith, first_is, found.monic.from),
          omega (arith, first_is, bound_is, found.monic.to),
          subst (IsProductNumber o p found.cofactor) (sym (place index)) found.product,
        )
      where
        found : Cofactor o p d over smaller (K.order ^ d + index)
        found = multiple_is_product o p d over smaller (K.order ^ d + index)
            (record { from = omega arith; to = omega (arith, long, within) }) divides

    back : (index : ℕ) → index < length before → Divided index → Known index
    back index within (inl was) = inl was
    back index within (inr divides) = of_divisor index within divides

-- ---- the multiples of the first polynomials of a table
module _ (t : IrreduciblesValue) where
  abbrev K : NumberField
  K = number_field t.order

  -- the i-th polynomial of the table divides the one at an index
  abbrev HasDivisor : ℕ → ℕ → Type 0
  HasDivisor count index =
      (i : ℕ) × (i < count) × Divides K (get_or t.polynomials i []) (monic_at K (t.degree + 1) index)

  pub first_none : (marks : List Bool) → marks ≡ replicate (K.order ^ (t.degree + 1)) false →
      AreMarkedByFirst t 0 marks
  first_none marks is = record {
    long = ap (length {A = Bool}) is ∙ length-replicate (K.order ^ (t.degree + 1)) false;
    each = λ index within. (λ marked. absurd (false≢true (sym (plain index within) ∙ marked)), nothing index);
  }
    where
      long : length marks ≡ K.order ^ (t.degree + 1)
      long = ap (length {A = Bool}) is ∙ length-replicate (K.order ^ (t.degree + 1)) false

      plain : (index : ℕ) → index < length marks → get_or marks index false ≡ false
      plain index within = ap (λ (xs : List Bool). get_or xs index false) is
          ∙ get_or-replicate (K.order ^ (t.degree + 1)) index false false (omega (arith, long, within))

      nothing : (index : ℕ) → HasDivisor 0 index → IsTrue (get_or marks index false)
      nothing index (i, below, divides) = absurd (omega arith)

  pub first_more : (count d : ℕ) (o : Order) (p : List ℕ) (before after : List Bool) → o ≡ t.order →
      d ≡ t.degree + 1 → p ≡ get_or t.polynomials count [] → MarksMultiples (number_field o) p d before after →
      AreMarkedByFirst t count before → AreMarkedByFirst t (count + 1) after
  first_more count d o p before after same_field next p_is marked_more h = record {
    long = more.long ∙ h.long;
    each = λ index within. each index (omega (arith, more.long, within));
  }
    where
      more : MarksMultiples K p (t.degree + 1) before after
      more = subst (λ n. MarksMultiples K p n before after) next
          (subst (λ r. MarksMultiples (number_field r) p d before after) same_field marked_more)

      Told : ℕ → ℕ → List Bool → Type 0
      Told bound index marks = IsTrue (get_or marks index false) ↔ HasDivisor bound index

      each : (index : ℕ) → index < length before → Told (count + 1) index after
      each index within = (λ marked. forth (told.0 marked), λ divided. told.1 (back divided))
        where
          Now : Type 0
          Now = IsTrue (get_or before index false) ⊎ Divides K p (monic_at K (t.degree + 1) index)

          told : IsTrue (get_or after index false) ↔ Now
          told = more.each index within

          was : Told count index before
          was = h.each index within

          longer : HasDivisor count index → HasDivisor (count + 1) index
          longer (i, below, divides) = (i, omega arith, divides)

          forth : Now → HasDivisor (count + 1) index
          forth (inl marked) = longer (was.0 marked)
          forth (inr divides) = (
            count,
            omega arith,
            subst (λ (f : List ℕ). Divides K f (monic_at K (t.degree + 1) index)) p_is divides,
          )

          back_at : (i : ℕ) → i < count + 1 →
              Divides K (get_or t.polynomials i []) (monic_at K (t.degree + 1) index) → Dec (i < count) → Now
          back_at i below divides (yes earlier) = inl (was.1 (i, earlier, divides))
          back_at i below divides (no last) =
              let e : i ≡ count = omega arith in
              inr (subst (λ (f : List ℕ). Divides K f (monic_at K (t.degree + 1) index))
              (ap (λ k. get_or t.polynomials k []) e ∙ sym p_is) divides)

          back : HasDivisor (count + 1) index → Now
          back (i, below, divides) = back_at i below divides (dec_lt i count)

  -- the reducible ones are the multiples of the first ones of the table: of all, or of those before one that has more
  -- than half the next degree
  pub first_all : (count : ℕ) (marks : List Bool) → AreIrreducibles t → count ≤ length t.polynomials →
      (count < length t.polynomials → let p = get_or t.polynomials count [] in
      t.degree + 1 < degree_of p + degree_of p) →
      AreMarkedByFirst t count marks → AreReducibleMarks K (t.degree + 1) marks
  first_all count marks table few ends h = record {
    long = h.long;
    each = λ index within. each index (omega (arith, h.long, within)) within;
  }
    where
      f : ℕ → List ℕ
      f index = monic_at K (t.degree + 1) index

      degree : (index : ℕ) → degree_of (f index) ≡ t.degree + 1
      degree index = polynomial_degree K (t.degree + 1) (K.order ^ (t.degree + 1) + index)

      each : (index : ℕ) → index < K.order ^ (t.degree + 1) → index < length marks →
          IsTrue (get_or marks index false) ↔ ¬ (IsIrreduciblePolynomial K (f index))
      each index below within = (
        λ marked. forth (told.0 marked),
        λ reducible. back reducible (get_or marks index false) refl,
      )
        where
          told : IsTrue (get_or marks index false) ↔ HasDivisor count index
          told = h.each index within

          over : IsMonicOver K (f index)
          over = polynomial_is_monic K (t.degree + 1) (K.order ^ (t.degree + 1) + index) (omega arith) (omega arith)
              (omega (arith, below))

          forth : HasDivisor count index → ¬ (IsIrreduciblePolynomial K (f index))
          forth (i, early, divides) =
              reducible_of_table K t.degree t.polynomials table (f index) i (degree index) (omega (arith, early, few))
              divides

          back : ¬ (IsIrreduciblePolynomial K (f index)) → (mark : Bool) → get_or marks index false ≡ mark →
              IsTrue (get_or marks index false)
          back reducible true is = is
          back reducible false is =
              absurd (reducible (irreducible_by_first K t.degree t.polynomials table (f index) count over (degree index)
              few ends (λ i early divides. false≢true (sym is ∙ told.1 (i, early, divides)))))

  -- what the mark of a number tells
  module _ (number : ℕ) (marks : List Bool) (h : AreReducibleMarks K (t.degree + 1) marks)
      (above : order_number t.order ^ (t.degree + 1) ≤ number)
      (below : number < 2 * order_number t.order ^ (t.degree + 1)) where
    same_power : K.order ^ (t.degree + 1) ≡ order_number t.order ^ (t.degree + 1)
    same_power = ap (λ q. q ^ (t.degree + 1)) (number_field-order t.order)

    pub has_mark : (length marks ≤ number) × (number - length marks < length marks)
    has_mark = (omega (arith, h.long, same_power, above), omega (arith, h.long, same_power, above, below))

    told : IsTrue (get_or marks (number - length marks) false)
        ↔ ¬ (IsIrreduciblePolynomial K (polynomial_with_number K.order (t.degree + 1) number))
    told = subst
        (λ n. IsTrue (get_or marks (number - length marks) false)
        ↔ ¬ (IsIrreduciblePolynomial K (polynomial_with_number K.order (t.degree + 1) n)))
        (let e : K.order ^ (t.degree + 1) + (number - length marks) ≡ number = omega (arith, h.long, has_mark.0) in e)
        (h.each (number - length marks) has_mark.1)

    pub marked_is_reducible : get_or marks (number - length marks) false ≡ true →
        ¬ (IsIrreduciblePolynomial K (polynomial_with_number K.order (t.degree + 1) number))
    marked_is_reducible = told.0

    pub unmarked_is_irreducible : get_or marks (number - length marks) false ≡ false →
        IsIrreduciblePolynomial K (polynomial_with_number K.order (t.degree + 1) number)
    unmarked_is_irreducible unmarked =
        cases (irreducible_or_not K (polynomial_with_number K.order (t.degree + 1) number))
      where
        cases : Dec (IsIrreduciblePolynomial K (polynomial_with_number K.order (t.degree + 1) number)) →
            IsIrreduciblePolynomial K (polynomial_with_number K.order (t.degree + 1) number)
        cases (yes is) = is
        cases (no reducible) = absurd (false≢true (sym unmarked ∙ told.1 reducible))
