-- A window of lanes that goes down over the coefficients of a polynomial.
use Rattle.std.specs.Prelude.{◌≡◌, ℕ, zero, suc, ◌+◌, ◌*◌, ◌-◌, ◌/◌, ◌%◌, ◌^◌, ◌<◌, ◌≤◌, List, length, get_or, take, ◌++◌}
use Rattle.std.specs.Prelude.{bit_and}
use Rattle.std.specs.List.{All}
use Rattle.std.proofs.Math.Nat.{mod-eq_of_lt, mod-eq-sub-div-mul}
use Rattle.std.proofs.lemmas.Nat.{and_mask, one_shl}
use Rattle.std.proofs.lemmas.List.{get_or_past, get_or-take, length-take-le, get_or_append_left, get_or-append-add}
use Rattle.std.proofs.lemmas.List.Elements.{All-take, All-append}
use Rattle.std.proofs.lemmas.List.FromFn.{get_or-map-range_with_len, length-map-range_with_len}
use Rattle.axe_algebra.specs.Bridge.{field_of, element, vector_of}
use Rattle.axe_algebra.specs.Lists.{AreElements}
use Rattle.axe_field.specs.Arithmetic.{field_add, field_mul, field_neg}
use Rattle.axe_field.specs.NumberFields.{number_field}
use Rattle.axe_field.specs.Order.{Order, Two, Three, Four, Five, Seven, Eight, Nine, order_number, prime_of}
use Rattle.axe_polynomial_algebra.specs.Polynomials
use Rattle.axe_polynomial_algebra.specs.PolynomialsOfLists.{degree_of, IsMonicOver, Divides, IsCongruent}
use Rattle.axe_polynomial_algebra.proofs.ListCongruences.{congruent_list_itself, congruent_in_place}
use Rattle.axe_polynomial_algebra.proofs.ListCongruences.{zero_list_divides, divides_zero_list}
use Rattle.axe_poly.specs.Limits.{greatest_degree}
use Rattle.axe_poly.specs.Lanes.{part_base, lane_base, code, meaning, packed, term, IsLane, window, IsWindow, AreCodes, AreMeanings, AreMultiples}
use Rattle.axe_poly.proofs.CodeLaws.{code_is_lane, sum_is_lane, meaning-below, weight-zero, meaning-zero}
use Rattle.axe_poly.proofs.PackLaws.{moved, packed_sum, packed_moved, packed_zeros, packed_below, packed_top, lane_at, power_of_power}
use Rattle.axe_poly.proofs.PackLaws.{masked}
use mathlib.Core.Path.{refl, sym, ◌∙◌, ap, ap₂, subst, fun_ext}
use native.Mathlib.Nat.{mul-le-mul_left, mul-le-mul_right, pow-le-pow_right, pow-suc, mod-lt}
use native.Mathlib.Omega.{arith}
use native.Mathlib.Decide.{dec_lt, ℕ_discrete}

-- entries of coefficients followed by a window
module _ (f : List ℕ) (k : ℕ) (inside : k ≤ length f) (w : List ℕ) where
  pub entry_before : (j : ℕ) → j < k → get_or (take k f ++ w) j 0 ≡ get_or f j 0
  entry_before j below =
      get_or_append_left (take k f) w 0 j (omega (arith, below, length-take-le k f inside)) ∙ get_or-take k f j 0 below

  pub entry_of_window : (j : ℕ) → get_or (take k f ++ w) (k + j) 0 ≡ get_or w j 0
  entry_of_window j =
      ap (λ n. get_or (take k f ++ w) (n + j) 0) (sym (length-take-le k f inside)) ∙ get_or-append-add (take k f) w j 0

pub window_at : (o : Order) (n : ℕ) (lanes : ℕ → ℕ) (j : ℕ) → j < n →
    get_or (window o n lanes) j 0 ≡ meaning o (lanes j)
window_at o n lanes j inside = get_or-map-range_with_len (λ i. meaning o (lanes i)) 0 n j j 0 inside (let e : 0 + j ≡ j = omega arith in e)

pub window_past : (o : Order) (n : ℕ) (lanes : ℕ → ℕ) (j : ℕ) → n ≤ j → get_or (window o n lanes) j 0 ≡ 0
window_past o n lanes j past =
    get_or_past (window o n lanes) j 0 (omega (arith, past, length-map-range_with_len (λ i. meaning o (lanes i)) 0 n))

pub window_elements : (o : Order) (n : ℕ) (lanes : ℕ → ℕ) → ((j : ℕ) → j < n → lanes j < lane_base o) →
    All (λ a. a < order_number o) (window o n lanes)
window_elements o n lanes small j d inside =
    let within : j < n = omega (arith, inside, length-map-range_with_len (λ i. meaning o (lanes i)) 0 n) in
    subst (λ a. a < order_number o)
    (sym (get_or-map-range_with_len (λ i. meaning o (lanes i)) 0 n j j d within
    (let e : 0 + j ≡ j = omega arith in e)))
    (meaning-below o (lanes j) (small j within))

-- the lanes after one coefficient more
pub next_lanes : Order → List ℕ → ℕ → ℕ → (ℕ → ℕ) → ℕ → ℕ
next_lanes o p c a lanes j = moved (code o a) lanes j + term o p c j

times_one : (u : ℕ) → u * (0 + 1) ≡ u
times_one u = grind arith

times_next : (u j : ℕ) → u * (j + 1) + u ≡ u * (j + 2)
times_next u j = grind arith

pub next_word : (w n a : ℕ) (lanes terms : ℕ → ℕ) →
    packed w (suc n) (λ j. moved a lanes j + terms j) ≡ packed w n lanes * w + a + packed w (suc n) terms
next_word w n a lanes terms =
    packed_sum w (suc n) (moved a lanes) terms
    ∙ ap (λ x. x + packed w (suc n) terms)
    (packed_moved w n a lanes ∙ (let e : a + packed w n lanes * w ≡ packed w n lanes * w + a = omega arith in e))

module _ (o : Order) (p : List ℕ) (n a : ℕ) (lanes : ℕ → ℕ)
    (each : (j : ℕ) → j < suc n → IsLane o (lanes j) (meaning o (lanes j)) ((prime_of o - 1) * (j + 2)))
    (element : a < order_number o) (light_enough : (prime_of o - 1) * (n + 2) < part_base o) where
  abbrev elements : ℕ → ℕ
  elements = moved a (λ i. meaning o (lanes i))

  pub moved_lane : (j : ℕ) → j < suc n →
      IsLane o (moved (code o a) lanes j) (elements j) ((prime_of o - 1) * (j + 1))
  unfolding moved
  moved_lane zero inside =
      subst (IsLane o (code o a) a) (sym (times_one (prime_of o - 1))) (code_is_lane o a element)
  moved_lane (suc i) inside =
      subst (IsLane o (lanes i) (meaning o (lanes i)))
      (ap (λ t. (prime_of o - 1) * t) (let e : i + 2 ≡ suc i + 1 = omega arith in e)) (each i (omega (arith, inside)))

  pub next_lane : (c j : ℕ) → j < suc n → field_mul o c (get_or p j 0) < order_number o →
      IsLane o (next_lanes o p c a lanes j) (field_add o (elements j) (field_mul o c (get_or p j 0)))
      ((prime_of o - 1) * (j + 2))
  unfolding next_lanes term
  next_lane c j inside product =
      subst (IsLane o (moved (code o a) lanes j + code o (field_mul o c (get_or p j 0)))
      (field_add o (elements j) (field_mul o c (get_or p j 0)))) (times_next (prime_of o - 1) j)
      (sum_is_lane o (moved (code o a) lanes j) (elements j) (field_mul o c (get_or p j 0))
      ((prime_of o - 1) * (j + 1)) (moved_lane j inside) product
      (omega (
        arith,
        light_enough,
        times_next (prime_of o - 1) j,
        mul-le-mul_left (prime_of o - 1) (let e : j + 2 ≤ n + 2 = omega (arith, inside) in e),
      )))

module _ (o : Order) (p f : List ℕ) (n k : ℕ) (lanes : ℕ → ℕ) (monic : IsMonicOver (number_field o) p)
    (degree : degree_of p ≡ suc n) (over : AreElements (number_field o) f) (inside : suc k ≤ length f)
    (each : (j : ℕ) → j < suc n → IsLane o (lanes j) (meaning o (lanes j)) ((prime_of o - 1) * (j + 2)))
    (light_enough : (prime_of o - 1) * (n + 2) < part_base o) where
  abbrev a : ℕ
  a = get_or f k 0

  abbrev lead : ℕ
  lead = meaning o (lanes n)

  abbrev c : ℕ
  c = field_neg o lead

  abbrev next : ℕ → ℕ
  next = next_lanes o p c a lanes

  a-below : a < order_number o
  unfolding number_field
  a-below = over k 0 inside

  lead-below : lead < order_number o
  lead-below = meaning-below o (lanes n) (each n (omega arith)).below

  c-below : c < order_number o
  unfolding number_field
  c-below = (number_field o).neg-below lead lead-below

  product-below : (j : ℕ) → j < length p → field_mul o c (get_or p j 0) < order_number o
  unfolding number_field
  product-below j within = (number_field o).mul-below c (get_or p j 0) c-below (monic.elements j 0 within)

  pub each_next : (j : ℕ) → j < suc n → IsLane o (next j) (meaning o (next j)) ((prime_of o - 1) * (j + 2))
  each_next j within =
      let lane = next_lane o p n a lanes each a-below light_enough c j within
      (product-below j (omega (arith, within, degree, monic.positive))) in
      record { means = refl; light = lane.light; below = lane.below }

  before_at : (j : ℕ) → j < suc (suc n) →
      get_or (take (suc k) f ++ window o (suc n) lanes) (k + j) 0 ≡ moved a (λ i. meaning o (lanes i)) j
  unfolding moved
  before_at zero within =
      ap (λ i. get_or (take (suc k) f ++ window o (suc n) lanes) i 0) (let e : k + 0 ≡ k = omega arith in e)
      ∙ entry_before f (suc k) inside (window o (suc n) lanes) k (omega arith)
  before_at (suc i) within =
      ap (λ t. get_or (take (suc k) f ++ window o (suc n) lanes) t 0) (let e : k + suc i ≡ suc k + i = omega arith in e)
      ∙ entry_of_window f (suc k) inside (window o (suc n) lanes) i
      ∙ window_at o (suc n) lanes i (omega (arith, within))

  within_at : (j : ℕ) → j < length p → Dec (j < suc n) →
      get_or (take k f ++ window o (suc n) next) (k + j) 0
      ≡ field_add o (get_or (take (suc k) f ++ window o (suc n) lanes) (k + j) 0) (field_mul o c (get_or p j 0))
  unfolding moved number_field
  within_at j below (yes low) =
      entry_of_window f k (omega (arith, inside)) (window o (suc n) next) j
      ∙ window_at o (suc n) next j low
      ∙ (next_lane o p n a lanes each a-below light_enough c j low (product-below j below)).means
      ∙ ap (λ x. field_add o x (field_mul o c (get_or p j 0))) (sym (before_at j (omega (arith, low))))
  within_at j below (no high) =
      let top : j ≡ suc n = omega (arith, below, high, degree, monic.positive) in
      let leads : get_or p j 0 ≡ 1 = ap (λ i. get_or p i 0) (top ∙ sym degree) ∙ monic.leads in
      entry_of_window f k (omega (arith, inside)) (window o (suc n) next) j
      ∙ window_past o (suc n) next j (omega (arith, high))
      ∙ sym ((number_field o).add-neg lead lead-below)
      ∙ ap₂ (field_add o)
      (sym (before_at j (omega (arith, top)) ∙ ap (λ i. moved a (λ t. meaning o (lanes t)) i) top))
      (sym ((number_field o).mul-one c c-below) ∙ ap (field_mul o c) (sym leads))

  after_at : (j : ℕ) → k + length p ≤ j →
      get_or (take k f ++ window o (suc n) next) j 0 ≡ get_or (take (suc k) f ++ window o (suc n) lanes) j 0
  after_at j past =
      let low : k + (j - k) ≡ j = omega (arith, past) in
      let high : suc k + (j - suc k) ≡ j = omega (arith, past, monic.positive) in
      ap (λ i. get_or (take k f ++ window o (suc n) next) i 0) (sym low)
      ∙ entry_of_window f k (omega (arith, inside)) (window o (suc n) next) (j - k)
      ∙ window_past o (suc n) next (j - k) (omega (arith, past, degree, monic.positive))
      ∙ sym (ap (λ i. get_or (take (suc k) f ++ window o (suc n) lanes) i 0) (sym high)
      ∙ entry_of_window f (suc k) inside (window o (suc n) lanes) (j - suc k)
      ∙ window_past o (suc n) lanes (j - suc k) (omega (arith, past, degree, monic.positive)))

  -- the congruence goes on
  pub congruent_next : IsCongruent (number_field o) p f (take (suc k) f ++ window o (suc n) lanes) →
      IsCongruent (number_field o) p f (take k f ++ window o (suc n) next)
  unfolding number_field
  congruent_next rest =
      congruent_in_place (number_field o) p f (take (suc k) f ++ window o (suc n) lanes)
      (take k f ++ window o (suc n) next) k c monic.elements
      (All-append (λ x. x < order_number o) (take (suc k) f) (window o (suc n) lanes)
      (All-take (λ x. x < order_number o) (suc k) f over)
      (window_elements o (suc n) lanes (λ j within. (each j within).below)))
      c-below
      (λ j below. entry_before f k (omega (arith, inside)) (window o (suc n) next) j below
      ∙ sym (entry_before f (suc k) inside (window o (suc n) lanes) j (omega (arith, below))))
      (λ j below. within_at j below (dec_lt j (suc n))) after_at rest

-- the top lane of a word, and the others
pub record IsSplit (o : Order) (n word : ℕ) : Type 0 where
  pub top : word / lane_base o ^ n < lane_base o
  pub within : word / lane_base o ^ n * lane_base o ^ n ≤ word
  pub others : word - word / lane_base o ^ n * lane_base o ^ n < lane_base o ^ n

pub window_split : (o : Order) (p f : List ℕ) (n k word : ℕ) → IsWindow o p f (suc n) k word → IsSplit o n word
unfolding packed
window_split o p f n k word h =
    let small : (j : ℕ) → j < suc n → h.lanes j < lane_base o = λ j below. (h.each j below).below in
    let below : packed (lane_base o) n h.lanes < lane_base o ^ n =
    packed_below (lane_base o) n h.lanes (λ j below. small j (omega (arith, below))) in
    let top : word / lane_base o ^ n ≡ h.lanes n =
    ap (λ x. x / lane_base o ^ n) h.packed_is
    ∙ packed_top (lane_base o) n h.lanes (λ j below. small j (omega (arith, below))) in
    let product : word / lane_base o ^ n * lane_base o ^ n ≡ h.lanes n * lane_base o ^ n =
    ap (λ x. x * lane_base o ^ n) top in
    record {
      top = omega (arith, top, small n (omega arith));
      within = omega (arith, product, h.packed_is);
      others = omega (arith, product, h.packed_is, below);
    }

-- a window goes down by one coefficient
pub window_next : (o : Order) (p f : List ℕ) (n k word lead new : ℕ) → IsMonicOver (number_field o) p →
    degree_of p ≡ suc n → AreElements (number_field o) f → suc k ≤ length f →
    (prime_of o - 1) * (n + 2) < part_base o → IsWindow o p f (suc n) (suc k) word → lead ≡ word / lane_base o ^ n →
    new ≡ (word - lead * lane_base o ^ n) * lane_base o + code o (get_or f k 0)
    + packed (lane_base o) (suc n) (term o p (field_neg o (meaning o lead))) → IsWindow o p f (suc n) k new
unfolding packed next_lanes moved
window_next o p f n k word lead new monic degree over inside light h lead_is new_is = record {
  lanes = next_lanes o p c (get_or f k 0) h.lanes;
  packed_is =
      new_is ∙ ap₂ (λ x y. x * lane_base o + code o (get_or f k 0)
      + packed (lane_base o) (suc n) (term o p (field_neg o (meaning o y)))) others top
      ∙ sym (next_word (lane_base o) n (code o (get_or f k 0)) h.lanes (term o p c));
  each = each_next o p f n k h.lanes monic degree over inside h.each light;
  rest = congruent_next o p f n k h.lanes monic degree over inside h.each light h.rest;
}
  where
    c : ℕ
    c = field_neg o (meaning o (h.lanes n))

    top : lead ≡ h.lanes n
    top = lead_is ∙ ap (λ x. x / lane_base o ^ n) h.packed_is
        ∙ packed_top (lane_base o) n h.lanes (λ j below. (h.each j (omega (arith, below))).below)

    others : word - lead * lane_base o ^ n ≡ packed (lane_base o) n h.lanes
    others =
        let product : lead * lane_base o ^ n ≡ h.lanes n * lane_base o ^ n = ap (λ x. x * lane_base o ^ n) top in
        omega (arith, product, h.packed_is)

-- the bounds within which nothing is carried
light-greatest : (o : Order) → (prime_of o - 1) * (greatest_degree o + 1) < part_base o
light-greatest Two = omega arith
light-greatest Three = omega arith
light-greatest Four = omega arith
light-greatest Five = omega arith
light-greatest Seven = omega arith
light-greatest Eight = omega arith
light-greatest Nine = omega arith

pub light_enough : (o : Order) (n : ℕ) → suc n ≤ greatest_degree o → (prime_of o - 1) * (n + 2) < part_base o
light_enough o n small =
    omega (
      arith,
      light-greatest o,
      mul-le-mul_left (prime_of o - 1) (let e : n + 2 ≤ greatest_degree o + 1 = omega (arith, small) in e),
    )

word-greatest : (o : Order) → lane_base o ^ (greatest_degree o + 1) ≤ 2 ^ 52
word-greatest Two = omega arith
word-greatest Three = omega arith
word-greatest Four = omega arith
word-greatest Five = omega arith
word-greatest Seven = omega arith
word-greatest Eight = omega arith
word-greatest Nine = omega arith

pub base-positive : (o : Order) → 0 < lane_base o
base-positive Two = omega arith
base-positive Three = omega arith
base-positive Four = omega arith
base-positive Five = omega arith
base-positive Seven = omega arith
base-positive Eight = omega arith
base-positive Nine = omega arith

pub word_fits : (o : Order) (n : ℕ) → n ≤ greatest_degree o + 1 → lane_base o ^ n ≤ 2 ^ 52
word_fits o n small = omega (arith, word-greatest o, pow-le-pow_right (base-positive o) small)

base-small : (o : Order) → lane_base o ≤ 512
base-small Two = omega arith
base-small Three = omega arith
base-small Four = omega arith
base-small Five = omega arith
base-small Seven = omega arith
base-small Eight = omega arith
base-small Nine = omega arith

-- before the first coefficient the lanes are 0
pub window_start : (o : Order) (p f : List ℕ) (n : ℕ) → IsWindow o p f n (length f) 0
window_start o p f n = record {
  lanes = λ j. 0;
  packed_is = sym (packed_zeros (lane_base o) n);
  each = λ j below. record { means = refl; light = omega (arith, weight-zero o); below = base-positive o };
  rest = subst (λ v. Polynomials.IsCongruent (field_of (number_field o)) (vector_of (number_field o) p)
      (vector_of (number_field o) f) v)
      (fun_ext λ j. ap (element (number_field o)) (same j (dec_lt j (length f))))
      (congruent_list_itself (number_field o) p f);
}
  where
    same : (j : ℕ) → Dec (j < length f) → get_or f j 0 ≡ get_or (take (length f) f ++ window o n (λ i. 0)) j 0
    same j (yes below) = sym (entry_before f (length f) (omega arith) (window o n (λ i. 0)) j below)
    same j (no past) =
        let place : length f + (j - length f) ≡ j = omega (arith, past) in
        get_or_past f j 0 (omega (arith, past))
        ∙ sym (ap (λ i. get_or (take (length f) f ++ window o n (λ t. 0)) i 0) (sym place)
        ∙ entry_of_window f (length f) (omega arith) (window o n (λ i. 0)) (j - length f)
        ∙ zero_in_window (j - length f) (dec_lt (j - length f) n))
      where
        zero_in_window : (i : ℕ) → Dec (i < n) → get_or (window o n (λ t. 0)) i 0 ≡ 0
        zero_in_window i (yes inside) = window_at o n (λ t. 0) i inside ∙ meaning-zero o
        zero_in_window i (no beyond) = window_past o n (λ t. 0) i (omega (arith, beyond))

-- a lane of the word
pub lane_of_window : (o : Order) (p f : List ℕ) (n k word : ℕ) (h : IsWindow o p f n k word) (j : ℕ) → j < n →
    word / lane_base o ^ j % lane_base o ≡ h.lanes j
lane_of_window o p f n k word h j inside =
    ap (λ x. x / lane_base o ^ j % lane_base o) h.packed_is
    ∙ lane_at (lane_base o) n j h.lanes (λ i below. (h.each i below).below) inside

-- at the end p divides exactly where all lanes stand for 0
pub divides_of_window : (o : Order) (p f : List ℕ) (word : ℕ) → IsWindow o p f (length p - 1) 0 word →
    ((j : ℕ) → j < length p - 1 → meaning o (word / lane_base o ^ j % lane_base o) ≡ 0) → Divides (number_field o) p f
divides_of_window o p f word h zeros =
    zero_list_divides (number_field o) p f (window o (length p - 1) h.lanes) h.rest
    (λ j inside.
    let below : j < length p - 1 = omega
    (arith, inside, length-map-range_with_len (λ i. meaning o (h.lanes i)) 0 (length p - 1)) in
    window_at o (length p - 1) h.lanes j below
    ∙ ap (meaning o) (sym (lane_of_window o p f (length p - 1) 0 word h j below)) ∙ zeros j below)

pub window_of_divides : (o : Order) (p f : List ℕ) (word : ℕ) → IsMonicOver (number_field o) p →
    IsWindow o p f (length p - 1) 0 word → Divides (number_field o) p f → (j : ℕ) → j < length p - 1 →
    meaning o (word / lane_base o ^ j % lane_base o) ≡ 0
unfolding number_field
window_of_divides o p f word monic h divides j below =
    ap (meaning o) (lane_of_window o p f (length p - 1) 0 word h j below)
    ∙ sym (window_at o (length p - 1) h.lanes j below)
    ∙ divides_zero_list (number_field o) p f (window o (length p - 1) h.lanes) monic
    (window_elements o (length p - 1) h.lanes (λ i small. (h.each i small).below)) h.rest
    (λ i past inside. absurd (omega
    (arith, past, inside, length-map-range_with_len (λ t. meaning o (h.lanes t)) 0 (length p - 1)))) divides j

-- what tables of codes and meanings have
pub code_in_table : (o : Order) (codes : List ℕ) (t a : ℕ) → AreCodes o codes → t ≡ a → a < order_number o →
    get_or codes t 0 ≡ code o a
code_in_table o codes t a are is below = ap (λ x. get_or codes x 0) is ∙ are.each a below

pub entry_is_element : (o : Order) (xs : List ℕ) (k : ℕ) → AreElements (number_field o) xs → k < length xs →
    get_or xs k 0 < order_number o
unfolding number_field
entry_is_element o xs k all inside = all k 0 inside

code-small : (o : Order) (a : ℕ) → a < order_number o → code o a < 512
code-small o a below = omega (arith, (code_is_lane o a below).below, base-small o)

pub code_in_table-small : (o : Order) (codes : List ℕ) (t a : ℕ) → AreCodes o codes → t ≡ a → a < order_number o →
    get_or codes t 0 < 512
code_in_table-small o codes t a are is below =
    omega (arith, code_in_table o codes t a are is below, code-small o a below)

product_is_element : (o : Order) (c b : ℕ) → c < order_number o → b < order_number o → field_mul o c b < order_number o
unfolding number_field
product_is_element o c b = (number_field o).mul-below c b

-- the word of one more term
pub record IsTermAdded (o : Order) (p : List ℕ) (c i word place x base : ℕ) : Type 0 where
  pub word_is : word + x * place ≡ packed (lane_base o) (i + 1) (term o p c)
  pub place_is : place * base ≡ lane_base o ^ (i + 1)
  pub word_small : word + x * place < 2 ^ 53
  pub place_small : place * base < 2 ^ 53

pub terms_small : (o : Order) (p : List ℕ) (c n : ℕ) → AreElements (number_field o) p → c < order_number o →
    n ≤ length p → n ≤ greatest_degree o + 1 → packed (lane_base o) n (term o p c) < 2 ^ 53
unfolding term
terms_small o p c n over element short small =
    omega (
      arith,
      word_fits o n small,
      packed_below (lane_base o) n (term o p c)
          (λ j below. (code_is_lane o (field_mul o c (get_or p j 0))
          (product_is_element o c (get_or p j 0) element (entry_is_element o p j over (omega (arith, below, short))))).below),
    )

pub term_added : (o : Order) (p : List ℕ) (c i word place x base : ℕ) → IsMonicOver (number_field o) p →
    degree_of p ≤ greatest_degree o → c < order_number o → i < length p - 1 → base ≡ lane_base o →
    word ≡ packed (lane_base o) i (term o p c) → place ≡ lane_base o ^ i →
    x ≡ code o (field_mul o c (get_or p i 0)) → IsTermAdded o p c i word place x base
unfolding packed term
term_added o p c i word place x base monic small element inside base_is word_is place_is x_is = record {
  word_is = sum;
  place_is = power;
  word_small = omega (
    arith,
    sum,
    terms_small o p c (i + 1) monic.elements element
        (omega (arith, inside)) (omega (arith, inside, small)),
  );
  place_small = omega (arith, power, word_fits o (i + 1) (omega (arith, inside, small)));
}
  where
    next : suc i ≡ i + 1
    next = omega arith

    sum : word + x * place ≡ packed (lane_base o) (i + 1) (term o p c)
    sum = (λ t. word_is t + x_is t * place_is t) ∙ ap (λ m. packed (lane_base o) m (term o p c)) next

    power : place * base ≡ lane_base o ^ (i + 1)
    power = ap₂ (λ a b. a * b) place_is base_is ∙ sym (pow-suc (lane_base o) i) ∙ ap (λ m. lane_base o ^ m) next

pub multiple_small : (o : Order) (p multiples : List ℕ) (t a : ℕ) → IsMonicOver (number_field o) p →
    degree_of p ≤ greatest_degree o → AreMultiples o p multiples → t ≡ a → a < order_number o →
    get_or multiples t 0 < 2 ^ 53
unfolding number_field
multiple_small o p multiples t a monic small are is below =
    omega (
      arith,
      ap (λ x. get_or multiples x 0) is,
      are.each a below,
      terms_small o p (field_neg o a) (length p - 1) monic.elements ((number_field o).neg-below a below)
          (omega arith) (omega (arith, small)),
    )

-- one step of the rule
pub record IsWithinWord (o : Order) (p : List ℕ) (word bits top base : ℕ) : Type 0 where
  pub lead : word / 2 ^ (bits * (length p - 2)) < lane_base o
  pub lead_small : word / 2 ^ (bits * (length p - 2)) < 512
  pub within : word / 2 ^ (bits * (length p - 2)) * top ≤ word
  pub word_small : word < 2 ^ 53
  pub others : (word - word / 2 ^ (bits * (length p - 2)) * top) * base < 2 ^ 53

lead_of_bits : (o : Order) (bits n word : ℕ) → 2 ^ bits ≡ lane_base o → word / 2 ^ (bits * n) ≡ word / lane_base o ^ n
lead_of_bits o bits n word bits_is = ap (λ y. word / y) (power_of_power 2 bits n ∙ ap (λ b. b ^ n) bits_is)

pub step_within : (o : Order) (p f : List ℕ) (k word bits top base : ℕ) → IsMonicOver (number_field o) p →
    degree_of p ≤ greatest_degree o → 2 ^ bits ≡ lane_base o → base ≡ lane_base o → top ≡ base ^ (length p - 2) →
    IsWindow o p f (length p - 1) k word → IsWithinWord o p word bits top base
step_within o p f k word bits top base monic small bits_is base_is top_is h = record {
  lead = omega (arith, lead_is, split.top);
  lead_small = omega (arith, lead_is, split.top, base-small o);
  within = omega (arith, product, split.within);
  word_small = omega (
    arith,
    h.packed_is,
    packed_below (lane_base o) (length p - 1) h.lanes
        (λ j below. (h.each j below).below),
    word_fits o (length p - 1) (omega (arith, small)),
  );
  others = omega (arith, moved_up, word_fits o (suc n) (omega (arith, small, monic.positive)), next_power);
}
  where
    n : ℕ
    n = length p - 2

    long : length p - 1 ≡ suc n
    long = omega (arith, monic.positive)

    split : IsSplit o n word
    split = window_split o p f n k word (subst (λ t. IsWindow o p f t k word) long h)

    lead_is : word / 2 ^ (bits * (length p - 2)) ≡ word / lane_base o ^ n
    lead_is = lead_of_bits o bits n word bits_is

    product : word / 2 ^ (bits * (length p - 2)) * top ≡ word / lane_base o ^ n * lane_base o ^ n
    product = ap₂ (λ a b. a * b) lead_is (top_is ∙ ap (λ b. b ^ n) base_is)

    rest : ℕ
    rest = word - word / lane_base o ^ n * lane_base o ^ n

    next_power : lane_base o ^ n * lane_base o ≡ lane_base o ^ suc n
    next_power = sym (pow-suc (lane_base o) n)

    moved_up : (word - word / 2 ^ (bits * (length p - 2)) * top) * base ≤ lane_base o ^ n * lane_base o
    moved_up =
        let same : (word - word / 2 ^ (bits * (length p - 2)) * top) * base ≡ rest * lane_base o =
        (λ t. (word - product t) * base_is t) in
        omega (
          arith,
          same,
          mul-le-mul_right (lane_base o)
              (let e : rest ≤ lane_base o ^ n = omega (arith, split.others) in e),
        )

pub remainder_next : (o : Order) (p f : List ℕ) (step word bits top base x m : ℕ) → IsMonicOver (number_field o) p →
    degree_of p ≤ greatest_degree o → AreElements (number_field o) f → 2 ^ bits ≡ lane_base o →
    base ≡ lane_base o → top ≡ base ^ (length p - 2) → step < length f →
    IsWindow o p f (length p - 1) (length f - step) word → x ≡ code o (get_or f (length f - 1 - step) 0) →
    m ≡ packed (lane_base o) (length p - 1)
    (term o p (field_neg o (meaning o (word / 2 ^ (bits * (length p - 2)))))) →
    IsWindow o p f (length p - 1) (length f - (step + 1))
    ((word - word / 2 ^ (bits * (length p - 2)) * top) * base + x + m)
remainder_next o p f step word bits top base x m monic small over bits_is base_is top_is inside h x_is m_is =
    subst (λ t. IsWindow o p f t k ((word - highest * top) * base + x + m)) (sym long)
    (window_next o p f n k word highest ((word - highest * top) * base + x + m) monic long over
    (omega (arith, inside)) (light_enough o n (omega (arith, long, small)))
    (subst (λ t. IsWindow o p f t (suc k) word) long
    (subst (λ t. IsWindow o p f (length p - 1) t word)
    (let e : length f - step ≡ suc k = omega (arith, inside) in e) h))
    (lead_of_bits o bits n word bits_is)
    (λ i. (word - highest * (top_is ∙ ap (λ b. b ^ n) base_is) i) * base_is i
    + (x_is ∙ ap (λ t. code o (get_or f t 0))
    (let e : length f - 1 - step ≡ k = omega (arith, inside) in e)) i
    + (m_is ∙ ap (λ t. packed (lane_base o) t (term o p (field_neg o (meaning o highest)))) long) i))
  where
    n : ℕ
    n = length p - 2

    k : ℕ
    k = length f - (step + 1)

    highest : ℕ
    highest = word / 2 ^ (bits * (length p - 2))

    long : length p - 1 ≡ suc n
    long = omega (arith, monic.positive)

-- the lowest lane of what is left of a word
pub lane_value : (o : Order) (meanings : List ℕ) (word i left bits base : ℕ) → AreMeanings o meanings →
    left ≡ word / lane_base o ^ i → 2 ^ bits ≡ lane_base o → base ≡ lane_base o →
    get_or meanings (bit_and left (base - 1)) 0 ≡ meaning o (word / lane_base o ^ i % lane_base o)
lane_value o meanings word i left bits base are left_is bits_is base_is =
    ap (λ t. get_or meanings t 0) (masked left bits base (bits_is ∙ sym base_is) ∙ ap₂ (λ a b. a % b) left_is base_is)
    ∙ are.each (word / lane_base o ^ i % lane_base o) (mod-lt (word / lane_base o ^ i) (base-positive o))

pub zeros_next : (o : Order) (word i : ℕ) →
    ((j : ℕ) → j < i → meaning o (word / lane_base o ^ j % lane_base o) ≡ 0) →
    meaning o (word / lane_base o ^ i % lane_base o) ≡ 0 → (j : ℕ) → j < i + 1 →
    meaning o (word / lane_base o ^ j % lane_base o) ≡ 0
zeros_next o word i before here j below = cases (ℕ_discrete j i)
  where
    cases : Dec (j ≡ i) → meaning o (word / lane_base o ^ j % lane_base o) ≡ 0
    cases (yes same) = ap (λ t. meaning o (word / lane_base o ^ t % lane_base o)) same ∙ here
    cases (no other) = before j (omega (arith, below, other))

pub term_of_table : (o : Order) (p codes : List ℕ) (c i word place t base : ℕ) → AreCodes o codes →
    IsMonicOver (number_field o) p → degree_of p ≤ greatest_degree o → c < order_number o → i < length p - 1 →
    base ≡ lane_base o → word ≡ packed (lane_base o) i (term o p c) → place ≡ lane_base o ^ i →
    t ≡ field_mul o c (get_or p i 0) → IsTermAdded o p c i word place (get_or codes t 0) base
term_of_table o p codes c i word place t base are monic small element inside base_is word_is place_is is =
    term_added o p c i word place (get_or codes t 0) base monic small element inside base_is word_is place_is
    (code_in_table o codes t (field_mul o c (get_or p i 0)) are is
    (product_is_element o c (get_or p i 0) element (entry_is_element o p i monic.elements (omega (arith, inside)))))

pub bits_small : (o : Order) (p : List ℕ) (bits : ℕ) → degree_of p ≤ greatest_degree o → 2 ^ bits ≡ lane_base o →
    bits * (length p - 2) < 64
bits_small o p bits small bits_is = cases (dec_lt (bits * (length p - 2)) 64)
  where
    power : 2 ^ (bits * (length p - 2)) ≡ lane_base o ^ (length p - 2)
    power = power_of_power 2 bits (length p - 2) ∙ ap (λ b. b ^ (length p - 2)) bits_is

    cases : Dec (bits * (length p - 2) < 64) → bits * (length p - 2) < 64
    cases (yes below) = below
    cases (no past) =
        let long : 64 ≤ bits * (length p - 2) = omega (arith, past) in
        let two : 0 < 2 = omega arith in
        let e : 2 ^ 64 ≤ 2 ^ (bits * (length p - 2)) = pow-le-pow_right two long in
        absurd (omega (arith, e, power, word_fits o (length p - 2) (omega (arith, small))))

-- a lane has fewer bits than a word
pub lane_bits-small : (o : Order) (bits : ℕ) → 2 ^ bits ≡ lane_base o → bits < 64
lane_bits-small o bits bits_is = cases (dec_lt bits 64)
  where
    cases : Dec (bits < 64) → bits < 64
    cases (yes below) = below
    cases (no past) =
        let long : 64 ≤ bits = omega (arith, past) in
        let two : 0 < 2 = omega arith in
        let e : 2 ^ 64 ≤ 2 ^ bits = pow-le-pow_right two long in
        absurd (omega (arith, e, bits_is, base-small o))

pub one_lane : (o : Order) (bits : ℕ) → 2 ^ bits ≡ lane_base o → 1 * 2 ^ bits % 2 ^ 64 ≡ lane_base o
one_lane o bits bits_is = one_shl bits 64 (lane_bits-small o bits bits_is) ∙ bits_is

-- the lanes below the highest one, by a mask, and moved up
pub others_moved : (o : Order) (p : List ℕ) (word bits : ℕ) → degree_of p ≤ greatest_degree o → 2 ^ bits ≡ lane_base o →
    IsWithinWord o p word bits (lane_base o ^ (length p - 2)) (lane_base o) →
    bit_and word (1 * 2 ^ (bits * (length p - 2)) % 2 ^ 64 - 1) * 2 ^ bits % 2 ^ 64
    ≡ (word - word / 2 ^ (bits * (length p - 2)) * lane_base o ^ (length p - 2)) * lane_base o
others_moved o p word bits small bits_is within =
    ap (λ x. x % 2 ^ 64) (ap₂ (λ x y. x * y) others bits_is) ∙ mod-eq_of_lt (omega (arith, within.others))
  where
    places : ℕ
    places = bits * (length p - 2)

    others : bit_and word (1 * 2 ^ places % 2 ^ 64 - 1) ≡ word - word / 2 ^ places * lane_base o ^ (length p - 2)
    others = ap (λ t. bit_and word (t - 1)) (one_shl places 64 (bits_small o p bits small bits_is))
        ∙ and_mask word places ∙ mod-eq-sub-div-mul word (2 ^ places)
        ∙ ap (λ t. word - word / 2 ^ places * t)
        (power_of_power 2 bits (length p - 2) ∙ ap (λ b. b ^ (length p - 2)) bits_is)

pub order-small : (o : Order) → order_number o ≤ 9
order-small Two = omega arith
order-small Three = omega arith
order-small Four = omega arith
order-small Five = omega arith
order-small Seven = omega arith
order-small Eight = omega arith
order-small Nine = omega arith

-- the element that the top lane stands for
pub lead_element : (o : Order) (meanings : List ℕ) (lead : ℕ) → AreMeanings o meanings → lead < lane_base o →
    get_or meanings lead 0 < order_number o
lead_element o meanings lead are inside = omega (arith, are.each lead inside, meaning-below o lead inside)

pub element_small : (o : Order) (a t : ℕ) → a < order_number o → t ≡ a → t < 9
element_small o a t below is = omega (arith, below, is, order-small o)

pub multiple_of_lead : (o : Order) (p meanings multiples : List ℕ) (lead t : ℕ) → AreMeanings o meanings →
    AreMultiples o p multiples → lead < lane_base o → t ≡ get_or meanings lead 0 →
    get_or multiples t 0 ≡ packed (lane_base o) (length p - 1) (term o p (field_neg o (meaning o lead)))
multiple_of_lead o p meanings multiples lead t are have inside is =
    ap (λ x. get_or multiples x 0) (is ∙ are.each lead inside)
    ∙ have.each (meaning o lead) (meaning-below o lead inside)
