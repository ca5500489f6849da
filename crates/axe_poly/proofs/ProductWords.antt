-- The product of a polynomial and one with a number, in one word: digit by digit from the highest on, the lanes move up
-- and a multiple of the polynomial is added.
use Rattle.std.specs.Prelude.{◌≡◌, ℕ, zero, suc, ◌+◌, ◌*◌, ◌-◌, ◌/◌, ◌%◌, ◌^◌, ◌<◌, ◌≤◌, min, List, length, get_or}
use Rattle.std.specs.Prelude.{bit_and}
use Rattle.std.proofs.lemmas.List.{get_or_past}
use Rattle.std.proofs.lemmas.Nat.{div-mul-add, mod-mul-add}
use Rattle.std.proofs.Math.Nat.{div-lt_iff_lt-mul}
use Rattle.std.proofs.lemmas.List.FromFn.{length-map-range_with_len}
use Rattle.axe_algebra.specs.Bridge.{element, vector_of}
use Rattle.axe_algebra.specs.Field.{Field}
use Rattle.axe_algebra.specs.NumberField.{NumberField}
use Rattle.axe_algebra.specs.Vectors.{Vector, zero_vector}
use Rattle.axe_algebra.proofs.ElementNumbers.{element_zero, element_add, element_mul, same_number}
use Rattle.axe_algebra.proofs.FieldLaws.{zero-add, zero-mul, mul-zero}
use Rattle.axe_algebra.proofs.ListEntries.{vector_past}
use Rattle.axe_field.specs.Arithmetic.{field_add, field_mul}
use Rattle.axe_field.specs.NumberFields.{number_field, gf}
use Rattle.axe_field.specs.Order.{Order, Two, Three, Four, Five, Seven, Eight, Nine, order_number, prime_of}
use Rattle.axe_field.proofs.NumberFields.{number_field-order}
use Rattle.axe_polynomial_algebra.specs.Polynomials.{convolution}
use Rattle.axe_polynomial_algebra.specs.PolynomialsOfLists.{degree_of, IsMonicOver}
use Rattle.axe_polynomial_algebra.proofs.ConvolutionLaws.{product_first, product_last, convolution-zero}
use Rattle.axe_poly.specs.Limits.{greatest_degree}
use Rattle.axe_poly.specs.Lanes.{part_base, lane_base, code, meaning, packed, term, IsLane, window}
use Rattle.axe_poly.specs.Lanes.{AreCodes, AreMeanings}
use Rattle.axe_poly.specs.Sieve.{polynomial_of_number, IsProductNumber, IsProductWord}
use Rattle.axe_poly.specs.Sieve.{AreScalings, IsNumberOfLanes}
use Rattle.axe_poly.proofs.CodeLaws.{sum_is_lane, meaning-below, weight-zero, meaning-zero, code-zero}
use Rattle.axe_poly.proofs.PackLaws.{moved, packed_zeros, packed_below, lane_at, power_of_power, masked}
use Rattle.axe_poly.proofs.WindowLaws.{window_at, window_past, next_word, light_enough, word_fits}
use Rattle.axe_poly.proofs.WindowLaws.{base-positive, entry_is_element, terms_small}
use mathlib.Core.Path.{refl, sym, ◌∙◌, ap, ap₂, subst, fun_ext}
use native.Mathlib.Nat.{pow-suc, pow-zero, div-one, div-div-eq-div-mul, mul-le-mul_left, mul_comm, zero-div, zero-mod}
use native.Mathlib.Nat.{mul-le-mul_right, mod-lt, div-eq_of_lt, pow-le-pow_right}
use native.Mathlib.Omega.{arith}
use native.Mathlib.Decide.{dec_lt}

module _ (o : Order) where
  abbrev K : NumberField
  K = number_field o

  abbrev F : Field
  F = gf o

  -- the sum of two elements, and the product
  sum_is : (a b : ℕ) → a < order_number o → b < order_number o →
      element K (field_add o a b) ≡ F.add (element K a) (element K b)
  unfolding number_field
  sum_is a b = element_add K a b

  product_is : (a b : ℕ) → a < order_number o → b < order_number o →
      element K (field_mul o a b) ≡ F.mul (element K a) (element K b)
  unfolding number_field
  product_is a b = element_mul K a b

  product_small : (a b : ℕ) → a < order_number o → b < order_number o → field_mul o a b < order_number o
  unfolding number_field
  product_small a b = K.mul-below a b

  pub zero-order : 0 < order_number o
  zero-order = omega (arith, K.one-below, number_field-order o)

  plus_none : (a : ℕ) → a < order_number o → field_add o a 0 ≡ a
  unfolding number_field
  plus_none a = K.add-zero a

  in_order : (a : ℕ) → a < order_number o → a < K.order
  in_order a inside = omega (arith, inside, number_field-order o)

  times_none : (a : ℕ) → a < order_number o → field_mul o a 0 ≡ 0
  times_none a inside =
      same_number K (field_mul o a 0) 0 (in_order _ (product_small a 0 inside zero-order)) (in_order 0 zero-order)
      (product_is a 0 inside zero-order ∙ ap (F.mul (element K a)) (element_zero K) ∙ mul-zero F (element K a)
      ∙ sym (element_zero K))

  module _ (p : List ℕ) (over : IsMonicOver K p) where
    entry-below : (j : ℕ) → get_or p j 0 < order_number o
    entry-below j = cases (dec_lt j (length p))
      where
        cases : Dec (j < length p) → get_or p j 0 < order_number o
        cases (yes inside) = entry_is_element o p j over.elements inside
        cases (no past) = omega (arith, get_or_past p j 0 (omega arith), zero-order)

    -- lanes after one digit more
    module _ (n : ℕ) (lanes : ℕ → ℕ) (a : ℕ) (element-below : a < order_number o)
        (small : degree_of p ≤ greatest_degree o)
        (each : (j : ℕ) → j < n → IsLane o (lanes j) (meaning o (lanes j)) ((prime_of o - 1) * min (j + 1) (length p)))
      where
        abbrev next : ℕ → ℕ
        next = λ j. moved 0 lanes j + term o p a j

        abbrev elements : ℕ → ℕ
        elements = moved 0 (λ i. meaning o (lanes i))

        elements-below : (j : ℕ) → j < suc n → elements j < order_number o
        unfolding moved
        elements-below zero inside = zero-order
        elements-below (suc i) inside = meaning-below o (lanes i) (each i (omega (arith, inside))).below

        moved_lane : (j : ℕ) → j < suc n →
            IsLane o (moved 0 lanes j) (elements j) ((prime_of o - 1) * min j (length p))
        unfolding moved
        moved_lane zero inside = record {
          means = meaning-zero o;
          light = omega (arith, weight-zero o);
          below = base-positive o;
        }
        moved_lane (suc i) inside =
            subst (λ k. IsLane o (lanes i) (meaning o (lanes i)) ((prime_of o - 1) * min k (length p)))
            (let e : i + 1 ≡ suc i = omega arith in e) (each i (omega (arith, inside)))

        light : (j : ℕ) → j < length p → (prime_of o - 1) * j + (prime_of o - 1) < part_base o
        light j within = omega (
          arith,
          light_enough o (degree_of p - 1) (omega (arith, small, over.positive)),
          times_more (prime_of o - 1) j,
          mul-le-mul_left (prime_of o - 1)
              (let e : j + 1 ≤ degree_of p - 1 + 2 = omega (arith, within, over.positive) in e),
        )
          where
            times_more : (u j : ℕ) → u * j + u ≡ u * (j + 1)
            times_more u j = grind arith

        next_lane : (j : ℕ) → j < suc n → Dec (j < length p) →
            IsLane o (next j) (field_add o (elements j) (field_mul o a (get_or p j 0)))
            ((prime_of o - 1) * min (j + 1) (length p))
        unfolding term
        next_lane j inside (yes within) =
            subst (IsLane o (next j) (field_add o (elements j) (field_mul o a (get_or p j 0)))) bound
            (sum_is_lane o (moved 0 lanes j) (elements j) (field_mul o a (get_or p j 0)) ((prime_of o - 1) * j)
            (subst (λ k. IsLane o (moved 0 lanes j) (elements j) ((prime_of o - 1) * k))
            (let e : min j (length p) ≡ j = omega arith in e) (moved_lane j inside))
            (product_small a (get_or p j 0) element-below (entry-below j)) (light j within))
          where
            bound : (prime_of o - 1) * j + (prime_of o - 1) ≡ (prime_of o - 1) * min (j + 1) (length p)
            bound = times_more (prime_of o - 1) j
                ∙ ap (λ k. (prime_of o - 1) * k) (let e : j + 1 ≡ min (j + 1) (length p) = omega arith in e)
              where
                times_more : (u j : ℕ) → u * j + u ≡ u * (j + 1)
                times_more u j = grind arith
        next_lane j inside (no past) =
            let was = moved_lane j inside in
            let none : next j ≡ moved 0 lanes j = ap (λ x. moved 0 lanes j + x)
            (ap (code o) product_none ∙ code-zero o)
            ∙ (let e : moved 0 lanes j + 0 ≡ moved 0 lanes j = omega arith in e) in
            subst (λ x. IsLane o x (field_add o (elements j) (field_mul o a (get_or p j 0)))
            ((prime_of o - 1) * min (j + 1) (length p))) (sym none)
            (subst (λ e. IsLane o (moved 0 lanes j) e ((prime_of o - 1) * min (j + 1) (length p)))
            (sym (ap (field_add o (elements j)) product_none ∙ plus_none (elements j) (elements-below j inside)))
            (subst (λ k. IsLane o (moved 0 lanes j) (elements j) ((prime_of o - 1) * k))
            (let e : min j (length p) ≡ min (j + 1) (length p) = omega arith in e) was))
          where
            product_none : field_mul o a (get_or p j 0) ≡ 0
            product_none = ap (field_mul o a) (get_or_past p j 0 (omega arith)) ∙ times_none a element-below

        pub each_next : (j : ℕ) → j < suc n →
            IsLane o (next j) (meaning o (next j)) ((prime_of o - 1) * min (j + 1) (length p))
        each_next j inside =
            let lane = next_lane j inside (dec_lt j (length p)) in
            record { means = refl; light = lane.light; below = lane.below }

        -- what they stand for: the variable times what they stood for, and the multiple of p
        module _ (c : ℕ) (long : degree_of p ≤ n) (digit : a ≡ c % order_number o)
            (rest : vector_of K (window o n lanes)
            ≡ convolution F (vector_of K p) (polynomial_of_number o (c / order_number o))) where
          abbrev Q : Vector F
          Q = polynomial_of_number o c

          lowest : Q 0 ≡ element K a
          lowest = ap (λ x. element K (x % order_number o)) (ap (λ t. c / t) (pow-zero (order_number o)) ∙ div-one c)
              ∙ ap (element K) (sym digit)

          higher : (k : ℕ) → Q (suc k) ≡ polynomial_of_number o (c / order_number o) k
          higher k = ap (λ x. element K (x % order_number o))
              (ap (λ t. c / t)
              (pow-suc (order_number o) k ∙ (let e : order_number o ^ k * order_number o
              ≡ order_number o * order_number o ^ k = mul_comm _ _ in e))
              ∙ sym (div-div-eq-div-mul c (order_number o) (order_number o ^ k)))

          product_later : (k : ℕ) → convolution F (vector_of K p) Q (suc k)
              ≡ F.add (vector_of K (window o n lanes) k) (F.mul (vector_of K p (suc k)) (element K a))
          product_later k =
              product_last F (vector_of K p) Q k
              ∙ ap₂ F.add
              (ap (λ (v : Vector F). convolution F (vector_of K p) v k) (fun_ext higher)
              ∙ sym (ap (λ (v : Vector F). v k) rest))
              (ap (F.mul (vector_of K p (suc k))) lowest)

          swapped : (j : ℕ) → element K (field_mul o a (get_or p j 0)) ≡ F.mul (vector_of K p j) (element K a)
          swapped j = product_is a (get_or p j 0) element-below (entry-below j)
              ∙ F.mul_comm (element K a) (vector_of K p j)

          at : (j : ℕ) → Dec (j < suc n) →
              vector_of K (window o (suc n) next) j ≡ convolution F (vector_of K p) Q j
          unfolding moved
          at zero (yes inside) =
              ap (element K)
              (window_at o (suc n) next 0 inside ∙ (next_lane 0 inside (dec_lt 0 (length p))).means)
              ∙ sum_is 0 (field_mul o a (get_or p 0 0)) zero-order (product_small a (get_or p 0 0) element-below (entry-below 0))
              ∙ ap₂ F.add (element_zero K) (swapped 0)
              ∙ zero-add F (F.mul (vector_of K p 0) (element K a))
              ∙ ap (F.mul (vector_of K p 0)) (sym lowest) ∙ sym (product_first F (vector_of K p) Q)
          at (suc k) (yes inside) =
              ap (element K)
              (window_at o (suc n) next (suc k) inside ∙ (next_lane (suc k) inside (dec_lt (suc k) (length p))).means)
              ∙ sum_is (meaning o (lanes k)) (field_mul o a (get_or p (suc k) 0))
              (meaning-below o (lanes k) (each k (omega (arith, inside))).below)
              (product_small a (get_or p (suc k) 0) element-below (entry-below (suc k)))
              ∙ ap₂ F.add (ap (element K) (sym (window_at o n lanes k (omega (arith, inside))))) (swapped (suc k))
              ∙ sym (product_later k)
          at zero (no past) = absurd (omega (arith, past))
          at (suc k) (no past) =
              vector_past K (window o (suc n) next) (suc k) (omega (arith, past, length-map-range_with_len (λ i. meaning o (next i)) 0 (suc n)))
              ∙ sym (product_later k
              ∙ ap₂ F.add
              (vector_past K (window o n lanes) k (omega (arith, past, length-map-range_with_len (λ i. meaning o (lanes i)) 0 n)))
              (ap (λ y. F.mul y (element K a)) (vector_past K p (suc k) (omega (arith, past, long)))
              ∙ zero-mul F (element K a))
              ∙ zero-add F F.zero)

          pub rest_next : vector_of K (window o (suc n) next) ≡ convolution F (vector_of K p) Q
          rest_next = fun_ext λ j. at j (dec_lt j (suc n))

    -- the word of a multiple of p, with more lanes
    packed_longer : (a n more : ℕ) → a < order_number o → length p ≤ n → n ≡ length p + more →
        packed (lane_base o) n (term o p a) ≡ packed (lane_base o) (length p) (term o p a)
    unfolding packed term
    packed_longer a n more inside long is = ap (λ k. packed (lane_base o) k (term o p a)) is ∙ by_count more
      where
        by_count : (m : ℕ) →
            packed (lane_base o) (length p + m) (term o p a) ≡ packed (lane_base o) (length p) (term o p a)
        by_count zero = (let e : length p + 0 ≡ length p = omega arith in ap (λ k. packed (lane_base o) k (term o p a)) e)
        by_count (suc m) =
            (let e : length p + suc m ≡ suc (length p + m) = omega arith in
            ap (λ k. packed (lane_base o) k (term o p a)) e)
            ∙ ap (λ x. packed (lane_base o) (length p + m) (term o p a) + x * lane_base o ^ (length p + m))
            (ap (code o) (ap (field_mul o a) (get_or_past p (length p + m) 0 (omega arith)) ∙ times_none a inside)
            ∙ code-zero o)
            ∙ nothing (packed (lane_base o) (length p + m) (term o p a)) (lane_base o ^ (length p + m)) ∙ by_count m
          where
            nothing : (x y : ℕ) → x + 0 * y ≡ x
            nothing x y = grind arith

    -- a digit more
    pub word_next : (scalings : List ℕ) (n c word t new : ℕ) → degree_of p ≤ greatest_degree o →
        AreScalings o p scalings → degree_of p ≤ n → t ≡ c % order_number o →
        new ≡ word * lane_base o + get_or scalings t 0 → IsProductWord o p (c / order_number o) n word →
        IsProductWord o p c (suc n) new
    word_next scalings n c word t new small are long t_is new_is h = record {
      lanes = next n h.lanes a inside small h.each;
      packed_is = new_is
          ∙ ap₂ (λ x y. x * lane_base o + y) h.packed_is
          (ap (λ k. get_or scalings k 0) t_is ∙ are.each a inside
          ∙ sym (packed_longer a (suc n) (suc n - length p) inside (omega (arith, long, over.positive))
          (omega (arith, long, over.positive))))
          ∙ (let e : packed (lane_base o) n h.lanes * lane_base o + packed (lane_base o) (suc n) (term o p a)
          ≡ packed (lane_base o) n h.lanes * lane_base o + 0 + packed (lane_base o) (suc n) (term o p a) = omega arith in e)
          ∙ sym (next_word (lane_base o) n 0 h.lanes (term o p a));
      each = each_next n h.lanes a inside small h.each;
      rest = rest_next n h.lanes a inside small h.each c long refl h.rest;
    }
      where
        a : ℕ
        a = c % order_number o

        inside : a < order_number o
        inside = omega (arith, zero-order)

    pub word_start : (n c : ℕ) → c ≡ 0 → IsProductWord o p c n 0
    word_start n c none = record {
      lanes = λ j. 0;
      packed_is = sym (packed_zeros (lane_base o) n);
      each = λ j below. record { means = refl; light = omega (arith, weight-zero o); below = base-positive o };
      rest = fun_ext (λ j. at j (dec_lt j n))
          ∙ sym (ap (convolution F (vector_of K p)) zero_number ∙ convolution-zero F (vector_of K p));
    }
      where
        zero_number : polynomial_of_number o c ≡ zero_vector F
        zero_number = fun_ext λ j.
            ap (λ x. element K (x / order_number o ^ j % order_number o)) none
            ∙ ap (λ x. element K (x % order_number o)) (zero-div (order_number o ^ j))
            ∙ ap (element K) (zero-mod (order_number o)) ∙ element_zero K

        at : (j : ℕ) → Dec (j < n) → vector_of K (window o n (λ i. 0)) j ≡ F.zero
        at j (yes inside) = ap (element K) (window_at o n (λ i. 0) j inside ∙ meaning-zero o) ∙ element_zero K
        at j (no past) = ap (element K) (window_past o n (λ i. 0) j (omega (arith, past))) ∙ element_zero K

    pub word_small : (n c word : ℕ) → n ≤ greatest_degree o + 1 → IsProductWord o p c n word → word < 2 ^ 52
    word_small n c word few h = omega (
      arith,
      h.packed_is,
      packed_below (lane_base o) n h.lanes (λ j below. (h.each j below).below),
      word_fits o n few,
    )

-- ---- the number of what lanes stand for
module _ (o : Order) where
  pub number_start : (from word : ℕ) → IsNumberOfLanes o from 0 word 0
  number_start from word = record {
    each = λ j below. absurd (omega (arith, below));
    small = omega (arith, pow-zero (order_number o));
  }

  pub number_next : (from count word number a new : ℕ) → a ≡ meaning o (word / lane_base o ^ from % lane_base o) →
      new ≡ number * order_number o + a → IsNumberOfLanes o (suc from) count word number →
      IsNumberOfLanes o from (suc count) word new
  number_next from count word number a new a_is new_is h = record {
    each = each;
    small = omega (
      arith,
      new_is,
      inside,
      pow-suc (order_number o) count,
      mul-le-mul_right (order_number o) h.small,
      suc_times number (order_number o),
    );
  }
    where
      suc_times : (x y : ℕ) → suc x * y ≡ x * y + y
      suc_times x y = grind arith

      inside : a < order_number o
      inside = subst (λ x. x < order_number o) (sym a_is)
          (meaning-below o (word / lane_base o ^ from % lane_base o)
          (mod-lt (word / lane_base o ^ from) (base-positive o)))

      each : (j : ℕ) → j < suc count →
          new / order_number o ^ j % order_number o ≡ meaning o (word / lane_base o ^ (from + j) % lane_base o)
      each zero below =
          ap (λ x. x % order_number o)
          (ap (λ t. new / t) (pow-zero (order_number o)) ∙ div-one new ∙ new_is)
          ∙ mod-mul-add number (order_number o) a inside ∙ a_is
          ∙ (let e : from ≡ from + 0 = omega arith in
          ap (λ k. meaning o (word / lane_base o ^ k % lane_base o)) e)
      each (suc j) below =
          ap (λ x. x % order_number o)
          (ap (λ t. new / t)
          (pow-suc (order_number o) j ∙ mul_comm (order_number o ^ j) (order_number o))
          ∙ sym (div-div-eq-div-mul new (order_number o) (order_number o ^ j))
          ∙ ap (λ x. x / order_number o ^ j)
          (ap (λ x. x / order_number o) new_is ∙ div-mul-add number (order_number o) a inside))
          ∙ h.each j (omega (arith, below))
          ∙ (let e : suc from + j ≡ from + suc j = omega arith in
          ap (λ k. meaning o (word / lane_base o ^ k % lane_base o)) e)

  -- the number of the product
  pub number_of_product : (p : List ℕ) (c n word number : ℕ) → IsProductWord o p c n word →
      IsNumberOfLanes o 0 n word number → IsProductNumber o p c number
  number_of_product p c n word number h is = record { equals = fun_ext (λ j. at j (dec_lt j n)) ∙ h.rest }
    where
      at : (j : ℕ) → Dec (j < n) →
          polynomial_of_number o number j ≡ vector_of (number_field o) (window o n h.lanes) j
      at j (yes inside) = ap (element (number_field o))
          (is.each j inside
          ∙ (let e : 0 + j ≡ j = omega arith in ap (λ k. meaning o (word / lane_base o ^ k % lane_base o)) e)
          ∙ ap (meaning o)
          (ap (λ x. x / lane_base o ^ j % lane_base o) h.packed_is
          ∙ lane_at (lane_base o) n j h.lanes (λ i below. (h.each i below).below) inside)
          ∙ sym (window_at o n h.lanes j inside))
      at j (no past) = ap (element (number_field o))
          (ap (λ x. x % order_number o) (div-eq_of_lt (omega (arith, is.small, more)))
          ∙ zero-mod (order_number o) ∙ sym (window_past o n h.lanes j (omega (arith, past))))
        where
          more : order_number o ^ n ≤ order_number o ^ j
          more = pow-le-pow_right (zero-order o) (let e : n ≤ j = omega (arith, past) in e)

  order-greatest : (o : Order) → order_number o ^ (greatest_degree o + 1) ≤ 36864
  order-greatest Two = omega arith
  order-greatest Three = omega arith
  order-greatest Four = omega arith
  order-greatest Five = omega arith
  order-greatest Seven = omega arith
  order-greatest Eight = omega arith
  order-greatest Nine = omega arith

  pub number_small : (count : ℕ) → count ≤ greatest_degree o + 1 → order_number o ^ count ≤ 36864
  number_small count few = omega (arith, order-greatest o, pow-le-pow_right (zero-order o) few)

-- ---- the steps of the loops
pub higher_small : (q count c higher : ℕ) → 0 < q → 0 < count → c < q ^ count → higher ≡ c / q → higher < q ^ (count - 1)
higher_small q count c higher positive some small is = omega (
  arith,
  is,
  (div-lt_iff_lt-mul {k = q} {x = c} {y = q ^ (count - 1)} positive).1 (omega (
    arith,
    small,
    pow-suc q (count - 1),
    (let e : suc (count - 1) ≡ count = omega (arith, some) in ap (λ k. q ^ k) e),
  )),
)

-- the product with a cofactor that has a digit more, and its number
pub product_with_digit : (o : Order) (p scalings : List ℕ) (d higher digit word new number : ℕ) →
    IsMonicOver (number_field o) p → degree_of p < d → d ≤ greatest_degree o → AreScalings o p scalings →
    digit < order_number o → IsProductWord o p higher (degree_of p + (d + 1 - length p)) word →
    new ≡ word * lane_base o + get_or scalings digit 0 → IsNumberOfLanes o 0 (d + 1) new number →
    IsProductNumber o p (higher * order_number o + digit) number
product_with_digit o p scalings d higher digit word new number over smaller fits are inside h new_is is =
    number_of_product o p (higher * order_number o + digit) (suc d) new number
    (word_next o p over scalings d (higher * order_number o + digit) word digit new
    (omega (arith, smaller, fits)) are (omega (arith, smaller))
    (sym (mod-mul-add higher (order_number o) digit inside)) new_is
    (subst (λ c. IsProductWord o p c d word) (sym (div-mul-add higher (order_number o) digit inside))
    (subst (λ n. IsProductWord o p higher n word)
    (let e : degree_of p + (d + 1 - length p) ≡ d = omega (arith, smaller, over.positive) in e) h)))
    (subst (λ n. IsNumberOfLanes o 0 n new number) (let e : d + 1 ≡ suc d = omega arith in e) is)

pub lane_read : (o : Order) (meanings : List ℕ) (word bits k base t : ℕ) → AreMeanings o meanings →
    2 ^ bits ≡ lane_base o → base ≡ lane_base o →
    t ≡ get_or meanings (bit_and (word / 2 ^ (bits * k)) (base - 1)) 0 →
    t ≡ meaning o (word / lane_base o ^ k % lane_base o)
lane_read o meanings word bits k base t are bits_is base_is is =
    is
    ∙ ap (λ j. get_or meanings j 0) (masked (word / 2 ^ (bits * k)) bits base (bits_is ∙ sym base_is))
    ∙ ap₂ (λ b d. get_or meanings (word / d % b) 0) base_is
    (power_of_power 2 bits k ∙ ap (λ b. b ^ k) bits_is)
    ∙ are.each (word / lane_base o ^ k % lane_base o) (mod-lt (word / lane_base o ^ k) (base-positive o))

pub bits_within : (o : Order) (bits k : ℕ) → k ≤ greatest_degree o + 1 → 2 ^ bits ≡ lane_base o → bits * k < 64
bits_within o bits k few bits_is = cases (dec_lt (bits * k) 64)
  where
    power : 2 ^ (bits * k) ≡ lane_base o ^ k
    power = power_of_power 2 bits k ∙ ap (λ b. b ^ k) bits_is

    cases : Dec (bits * k < 64) → bits * k < 64
    cases (yes below) = below
    cases (no past) =
        let long : 64 ≤ bits * k = omega (arith, past) in
        let two : 0 < 2 = omega arith in
        let e : 2 ^ 64 ≤ 2 ^ (bits * k) = pow-le-pow_right two long in
        absurd (omega (arith, e, power, word_fits o k few))

pub scaling_small : (o : Order) (p scalings : List ℕ) (t : ℕ) → IsMonicOver (number_field o) p →
    degree_of p ≤ greatest_degree o → AreScalings o p scalings → t < order_number o → get_or scalings t 0 < 2 ^ 53
scaling_small o p scalings t monic small are inside = omega (
  arith,
  are.each t inside,
  terms_small o p t (length p) monic.elements inside (omega arith) (omega (arith, small, monic.positive)),
)

-- the word of a multiple, with its leading coefficient
pub scaling_is : (o : Order) (p codes : List ℕ) (a t x top base : ℕ) → IsMonicOver (number_field o) p →
    AreCodes o codes → a < order_number o → t ≡ a → base ≡ lane_base o →
    x ≡ packed (lane_base o) (length p - 1) (term o p a) → top ≡ base ^ (length p - 1) →
    x + get_or codes t 0 * top ≡ packed (lane_base o) (length p) (term o p a)
unfolding packed term number_field
scaling_is o p codes a t x top base monic are inside t_is base_is x_is top_is =
    ap₂ (λ u v. u + v) x_is
    (ap₂ (λ u v. u * v)
    (ap (λ k. get_or codes k 0) t_is ∙ are.each a inside
    ∙ ap (code o) (sym ((number_field o).mul-one a inside) ∙ ap (field_mul o a) (sym monic.leads)))
    (top_is ∙ ap (λ b. b ^ (length p - 1)) base_is))
    ∙ (let e : suc (length p - 1) ≡ length p = omega (arith, monic.positive) in
    ap (λ k. packed (lane_base o) k (term o p a)) e)

-- what is put into the table
pub record IsScaling (o : Order) (p : List ℕ) (a word : ℕ) : Type 0 where
  pub is : word ≡ packed (lane_base o) (length p) (term o p a)
  pub small : word < 2 ^ 53

pub scaling_of : (lanes o : Order) (p codes : List ℕ) (a t x top base end : ℕ) → o ≡ lanes →
    IsMonicOver (number_field lanes) p → degree_of p ≤ greatest_degree lanes → AreCodes lanes codes → a < end →
    end ≡ order_number o → t ≡ a → base ≡ lane_base o → x ≡ packed (lane_base o) (length p - 1) (term o p a) →
    top ≡ base ^ (length p - 1) → IsScaling o p a (x + get_or codes t 0 * top)
scaling_of lanes o p codes a t x top base end same monic small are before end_is t_is base_is x_is top_is = record {
  is = sum;
  small = omega (
    arith,
    sum,
    terms_small o p a (length p) over.elements inside (omega arith)
        (subst (λ r. length p ≤ greatest_degree r + 1) (sym same) (omega (arith, small, monic.positive))),
  );
}
  where
    over : IsMonicOver (number_field o) p
    over = subst (λ r. IsMonicOver (number_field r) p) (sym same) monic

    inside : a < order_number o
    inside = omega (arith, before, end_is)

    sum : x + get_or codes t 0 * top ≡ packed (lane_base o) (length p) (term o p a)
    sum = scaling_is o p codes a t x top base over (subst (λ r. AreCodes r codes) (sym same) are) inside t_is base_is
        x_is top_is
