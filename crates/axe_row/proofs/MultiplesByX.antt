-- Multiples of rows by x and by its powers, plane by plane.
use Rattle.std.proofs.Common.{◌≡◌, ◌≢◌, ℕ, zero, suc, ◌+◌, ◌-◌, ◌*◌, ◌%◌, ◌<◌, Bool, true, false, ◌&&◌, ◌||◌, eqb, ltb, List, [], ◌∷◌, length, get_or, cond, refl, sym, ap, ap₂, subst, ◌∙◌, arith, inl, inr, lit<, add-one}
use Rattle.std.specs.List.{All}
use Rattle.std.proofs.lemmas.Bool.{and_parts, or_cases, eqb-true, ltb-true}
use Rattle.std.proofs.lemmas.List.{ext_get_or, get_or_past, get_or-map, length-map}
use Rattle.axe_algebra.specs.Lists.{entry}
use Rattle.axe_field.specs.Arithmetic.{coefficients, number_of, polynomial_sum, polynomial_multiple, polynomial_negative, polynomial_product, without_leading, polynomial_remainder, polynomial_of, field_mul}
use Rattle.axe_field.specs.CheckedLaws.{passes_below, at_one, from_one, field_mul-below, field_mul_assoc}
use Rattle.axe_field.specs.NumberFields.{number_field}
use Rattle.axe_field.specs.Order.{Order, Two, Three, Four, Five, Seven, Eight, Nine, order_number, prime_of, degree_of, IsElement}
use Rattle.axe_field.specs.Planes.{monomial, coefficients_of_multiple, matrix_of_multiplication, coefficient, element_of}
use Rattle.axe_field.proofs.CoefficientLaws.{coefficient-below, element_of-coefficients, matrix_of_multiplication-below}
use Rattle.axe_field.proofs.Laws.{field_zero-mul}
use Rattle.axe_field.proofs.Orders.{one_is_element}
use Rattle.axe_lane.specs.Bytes as lane
use Rattle.axe_lane.specs.Bytes.{AreDigits}
use Rattle.axe_layer.specs.Digits.{digits_with_multiple}
use Rattle.axe_plane.specs.Planes.{prime_of_plane, digits_of, IsPlane, IsPlaneOf}
use Rattle.axe_plane.specs.declared.Plane.{Plane}
use Rattle.axe_layer.proofs.DigitLaws.{AreDigits-sum, length-digits_with_multiple, get_or-digits_with_multiple}
use Rattle.axe_row.specs.Operations.{multiple, multiple_row, power_of_x}
use Rattle.axe_row.specs.Planes.{ArePlanes, IsAddable, AreRotated}
use Rattle.axe_row.specs.Rows.{RowValue, IsRow}
use Rattle.axe_row.proofs.OperationLaws.{length-multiple, get_or-multiple_row}
use Rattle.axe_row.proofs.RowPlanes.{entries_of, length-entries, entries-at, element_at, prime-positive, element_of-zeros}
use Rattle.axe_row.proofs.PlaneSums.{present, addable_one}
use Rattle.axe_row.proofs.PrimeRows.{multiple_is_below, row_by_one}
use Rattle.axe_row.proofs.RowWords.{degree_small}

-- ---- degrees

pub degree-positive : (o : Order) → 0 < degree_of o
degree-positive Two = lit< tt
degree-positive Three = lit< tt
degree-positive Four = lit< tt
degree-positive Five = lit< tt
degree-positive Seven = lit< tt
degree-positive Eight = lit< tt
degree-positive Nine = lit< tt

-- x is an element where the degree is above 1
pub x_is_element : (o : Order) → 1 < degree_of o → IsElement o (prime_of o)
x_is_element Two h = absurd (omega arith)
x_is_element Three h = absurd (omega arith)
x_is_element Four h = lit< tt
x_is_element Five h = absurd (omega arith)
x_is_element Seven h = absurd (omega arith)
x_is_element Eight h = lit< tt
x_is_element Nine h = lit< tt

-- the order that a row is seen with is that of its field
pub degree_along : (o : Order) (entries : List ℕ) (self : RowValue) → record { order = o; entries = entries } ≡ self →
    1 < degree_of self.order → 1 < degree_of o
degree_along o entries self e h = subst (λ (r : RowValue). 1 < degree_of r.order) (sym e) h

-- ---- one element times x

-- the coefficient of x^j of x^n, where n is the degree
abbrev pub top_factor : Order → ℕ → ℕ
top_factor o j = entry (matrix_of_multiplication o (prime_of o)) (degree_of o - 1) j

-- the coefficient of the highest power of x
abbrev pub top_coefficient : Order → ℕ → ℕ
top_coefficient o a = cond (eqb (degree_of o) 3) (coefficient o a 2) (coefficient o a 1)

multiplies_by_x : Order → ℕ → Bool
multiplies_by_x o a =
    eqb (degree_of o) 1
    || (eqb (coefficient o (field_mul o (prime_of o) a) 0) ((top_factor o 0 * top_coefficient o a) % prime_of o)
    && (eqb (coefficient o (field_mul o (prime_of o) a) 1) ((coefficient o a 0 + top_factor o 1 * top_coefficient o a) % prime_of o)
    && (ltb (degree_of o) 3
    || eqb (coefficient o (field_mul o (prime_of o) a) 2) ((coefficient o a 1 + top_factor o 2 * top_coefficient o a) % prime_of o))))

multiplies_by_x-all : (o : Order) → at_one multiplies_by_x o ≡ true
unfolding at_one passes_below multiplies_by_x monomial coefficients_of_multiple matrix_of_multiplication coefficients number_of polynomial_sum polynomial_multiple polynomial_negative polynomial_product without_leading polynomial_remainder polynomial_of field_mul
multiplies_by_x-all Two = refl
multiplies_by_x-all Three = refl
multiplies_by_x-all Four = refl
multiplies_by_x-all Five = refl
multiplies_by_x-all Seven = refl
multiplies_by_x-all Eight = refl
multiplies_by_x-all Nine = refl

-- the coefficients of x a
record HasTimesX (o : Order) (a : ℕ) : Type 0 where
  constant : coefficient o (field_mul o (prime_of o) a) 0 ≡ (top_factor o 0 * top_coefficient o a) % prime_of o
  linear : coefficient o (field_mul o (prime_of o) a) 1 ≡ (coefficient o a 0 + top_factor o 1 * top_coefficient o a) % prime_of o
  quadratic : degree_of o ≡ 3 →
      coefficient o (field_mul o (prime_of o) a) 2 ≡ (coefficient o a 1 + top_factor o 2 * top_coefficient o a) % prime_of o

times_x : (o : Order) (a : ℕ) → 1 < degree_of o → IsElement o a → HasTimesX o a
unfolding multiplies_by_x
times_x o a some ha =
    elim (or_cases (eqb (degree_of o) 1) _ (from_one multiplies_by_x o (multiplies_by_x-all o) a ha)) [
      | inl one ↦ let same : degree_of o ≡ 1 = eqb-true (degree_of o) 1 one in absurd (omega (arith, same, some))
      | inr rest ↦
          let first = and_parts _ _ rest in
          let second = and_parts _ _ first.1 in
          record {
            constant = eqb-true _ _ first.0;
            linear = eqb-true _ _ second.0;
            quadratic = λ three. elim (or_cases (ltb (degree_of o) 3) _ second.1) [
              | inl less ↦ let below : degree_of o < 3 = ltb-true (degree_of o) 3 less in absurd (omega (arith, below, three))
              | inr last ↦ eqb-true _ _ last
            ];
          }
    ]

-- ---- planes that were moved to the next powers

-- the element at an index
abbrev number_at : Order → Plane → Plane → Plane → ℕ → ℕ
number_at o c l q e = element_of o (get_or (digits_of c) e 0) (get_or (digits_of l) e 0) (get_or (digits_of q) e 0)

pub record HasTurned (o : Order) (n : ℕ) (c l q c' l' q' : Plane) : Type 0 where
  pub some : 1 < degree_of o
  pub before : ArePlanes o n c l q
  pub top : IsPlaneOf (prime_of o) (cond (ltb (degree_of o - 1) (degree_of o)) n 0) c'
  pub middle : IsPlaneOf (prime_of o) (cond (ltb 1 (degree_of o)) n 0) l'
  pub last : IsPlaneOf (prime_of o) (cond (ltb 2 (degree_of o)) n 0) q'
  pub top_at : (e : ℕ) → get_or (digits_of c') e 0 ≡ top_coefficient o (number_at o c l q e)
  pub middle_at : (e : ℕ) → get_or (digits_of l') e 0 ≡ coefficient o (number_at o c l q e) 0
  pub last_at : degree_of o ≡ 3 → (e : ℕ) → get_or (digits_of q') e 0 ≡ coefficient o (number_at o c l q e) 1

pub turned : (o : Order) (n d : ℕ) (c l q c' l' q' : Plane) → d ≡ degree_of o → 1 < degree_of o → ArePlanes o n c l q →
    AreRotated d c l q c' l' q' → HasTurned o n c l q c' l' q'
turned Two n d c l q c' l' q' ed some h r = absurd (omega arith)
turned Three n d c l q c' l' q' ed some h r = absurd (omega arith)
turned Four n d c l q c' l' q' ed some h r =
    let both = r.by_two (λ e. omega (arith, ed, e)) in
    record {
      some = some;
      before = h;
      top = subst (IsPlaneOf 2 n) (sym both.0) h.linear;
      middle = subst (IsPlaneOf 2 n) (sym r.linear) h.constant;
      last = subst (IsPlaneOf 2 0) (sym both.1) h.quadratic;
      top_at = λ e. ap (λ p. get_or (digits_of p) e 0) both.0 ∙ sym (element_at Four n c l q e h).second;
      middle_at = λ e. ap (λ p. get_or (digits_of p) e 0) r.linear ∙ sym (element_at Four n c l q e h).first;
      last_at = λ three. absurd (omega arith);
    }
turned Five n d c l q c' l' q' ed some h r = absurd (omega arith)
turned Seven n d c l q c' l' q' ed some h r = absurd (omega arith)
turned Eight n d c l q c' l' q' ed some h r =
    let both = r.by_three ed in
    record {
      some = some;
      before = h;
      top = subst (IsPlaneOf 2 n) (sym both.0) h.quadratic;
      middle = subst (IsPlaneOf 2 n) (sym r.linear) h.constant;
      last = subst (IsPlaneOf 2 n) (sym both.1) h.linear;
      top_at = λ e. ap (λ p. get_or (digits_of p) e 0) both.0 ∙ sym (element_at Eight n c l q e h).third;
      middle_at = λ e. ap (λ p. get_or (digits_of p) e 0) r.linear ∙ sym (element_at Eight n c l q e h).first;
      last_at = λ three e. ap (λ p. get_or (digits_of p) e 0) both.1 ∙ sym (element_at Eight n c l q e h).second;
    }
turned Nine n d c l q c' l' q' ed some h r =
    let both = r.by_two (λ e. omega (arith, ed, e)) in
    record {
      some = some;
      before = h;
      top = subst (IsPlaneOf 3 n) (sym both.0) h.linear;
      middle = subst (IsPlaneOf 3 n) (sym r.linear) h.constant;
      last = subst (IsPlaneOf 3 0) (sym both.1) h.quadratic;
      top_at = λ e. ap (λ p. get_or (digits_of p) e 0) both.0 ∙ sym (element_at Nine n c l q e h).second;
      middle_at = λ e. ap (λ p. get_or (digits_of p) e 0) r.linear ∙ sym (element_at Nine n c l q e h).first;
      last_at = λ three. absurd (omega arith);
    }

-- ---- what is added to them

pub factor_is : (o : Order) (d x j : ℕ) (m : List (List ℕ)) → d ≡ degree_of o → x ≡ prime_of o → m ≡ matrix_of_multiplication o x →
    entry m (d - 1) j ≡ top_factor o j
factor_is o d x j m ed ex em =
    ap (λ (y : List (List ℕ)). entry y (d - 1) j) em ∙ ap (λ k. entry (matrix_of_multiplication o k) (d - 1) j) ex
    ∙ ap (λ k. entry (matrix_of_multiplication o (prime_of o)) (k - 1) j) ed

row_within : (o : Order) → degree_of o - 1 < 3
row_within o = omega (arith, degree_small o)

pub middle_addable : (o : Order) (n f : ℕ) (c l q c' l' q' : Plane) → HasTurned o n c l q c' l' q' → f ≡ top_factor o 1 → IsAddable l' f c'
middle_addable o n f c l q c' l' q' h ef =
    addable_one o n (prime_of o) (degree_of o - 1) 1 f l' c' (row_within o) (lit< tt) (x_is_element o h.some) h.middle h.top ef

pub last_addable : (o : Order) (n f : ℕ) (c l q c' l' q' : Plane) → HasTurned o n c l q c' l' q' → f ≡ top_factor o 2 → IsAddable q' f c'
last_addable o n f c l q c' l' q' h ef =
    addable_one o n (prime_of o) (degree_of o - 1) 2 f q' c' (row_within o) (lit< tt) (x_is_element o h.some) h.last h.top ef

pub top_factor_is_digit : (o : Order) (n f : ℕ) (c l q c' l' q' : Plane) → HasTurned o n c l q c' l' q' → f ≡ top_factor o 0 →
    f < prime_of_plane c'
top_factor_is_digit o n f c l q c' l' q' h ef =
    subst (λ r. f < r) (sym h.top.prime)
    (subst (λ k. k < prime_of o) (sym ef)
    (matrix_of_multiplication-below o (prime_of o) (degree_of o - 1) 0 (x_is_element o h.some) (row_within o) (lit< tt)))

-- a plane plus a multiple of another, and a plane times a factor
plane_plus : (p n f : ℕ) (plane after : Plane) (b : List ℕ) → 0 < p → IsPlaneOf p n plane →
    IsPlane (prime_of_plane plane) (digits_with_multiple (prime_of_plane plane) (digits_of plane) f b) after →
    IsPlaneOf p n after × (digits_of after ≡ digits_with_multiple p (digits_of plane) f b)
plane_plus p n f plane after b positive h e =
    let digits_are : digits_of after ≡ digits_with_multiple p (digits_of plane) f b =
    e.digits_are ∙ ap (λ r. digits_with_multiple r (digits_of plane) f b) h.prime in (
      record {
        prime = e.prime ∙ h.prime;
        long = ap length digits_are ∙ length-digits_with_multiple p (digits_of plane) f b ∙ h.long;
        digits = subst (AreDigits p) (sym digits_are) (AreDigits-sum p (digits_of plane) f b positive);
      },
      digits_are,
    )

plane_times : (p n f : ℕ) (plane after : Plane) → 0 < p → IsPlaneOf p n plane →
    IsPlane (prime_of_plane plane) (lane.multiple_modulo (prime_of_plane plane) f (digits_of plane)) after →
    IsPlaneOf p n after × (digits_of after ≡ lane.multiple_modulo p f (digits_of plane))
plane_times p n f plane after positive h e =
    let digits_are : digits_of after ≡ lane.multiple_modulo p f (digits_of plane) =
    e.digits_are ∙ ap (λ r. lane.multiple_modulo r f (digits_of plane)) h.prime in (
      record {
        prime = e.prime ∙ h.prime;
        long = ap length digits_are ∙ length-map (digits_of plane) _ ∙ h.long;
        digits = subst (AreDigits p) (sym digits_are) (multiple_is_below p f (digits_of plane) positive);
      },
      digits_are,
    )

-- the planes after the multiplication by x
pub record AreTimesX (o : Order) (c l q c' l' q' : Plane) (f0 f1 f2 : ℕ) : Type 0 where
  pub first : f0 ≡ top_factor o 0
  pub second : f1 ≡ top_factor o 1
  pub third : f2 ≡ top_factor o 2
  pub constant : IsPlane (prime_of_plane c) (lane.multiple_modulo (prime_of_plane c) f0 (digits_of c)) c'
  pub linear : IsPlane (prime_of_plane l) (digits_with_multiple (prime_of_plane l) (digits_of l) f1 (digits_of c)) l'
  pub quadratic : IsPlane (prime_of_plane q) (digits_with_multiple (prime_of_plane q) (digits_of q) f2 (digits_of c)) q'

top_plane : (o : Order) (n : ℕ) (plane : Plane) → IsPlaneOf (prime_of o) (cond (ltb (degree_of o - 1) (degree_of o)) n 0) plane →
    IsPlaneOf (prime_of o) n plane
top_plane o n plane h =
    subst (λ m. IsPlaneOf (prime_of o) m plane) (present (degree_of o - 1) (degree_of o) n (omega (arith, degree-positive o))) h

pub times_x_planes : (o : Order) (n f0 f1 f2 : ℕ) (c l q c' l' q' c2 l2 q2 : Plane) → HasTurned o n c l q c' l' q' →
    AreTimesX o c' l' q' c2 l2 q2 f0 f1 f2 → ArePlanes o n c2 l2 q2
times_x_planes o n f0 f1 f2 c l q c' l' q' c2 l2 q2 h t = record {
  constant = (plane_times (prime_of o) n f0 c' c2 (prime-positive o) (top_plane o n c' h.top) t.constant).0;
  linear = (plane_plus (prime_of o) _ f1 l' l2 (digits_of c') (prime-positive o) h.middle t.linear).0;
  quadratic = (plane_plus (prime_of o) _ f2 q' q2 (digits_of c') (prime-positive o) h.last t.quadratic).0;
}

-- the digit of a plane that may not be there
last_digit : (b : Bool) (p n f : ℕ) (a t : List ℕ) (e v : ℕ) → length a ≡ cond b n 0 → e < n → v < cond b p 1 →
    (b ≡ true → (get_or a e 0 + f * get_or t e 0) % p ≡ v) → get_or (digits_with_multiple p a f t) e 0 ≡ v
last_digit true p n f a t e v long inside below is =
    let here : e < length a = omega (arith, long) in get_or-digits_with_multiple p a f t e here ∙ is refl
last_digit false p n f a t e v long inside below is =
    let none : v ≡ 0 = omega arith in
    let past : length (digits_with_multiple p a f t) ≡ 0 = length-digits_with_multiple p a f t ∙ long in
    get_or_past (digits_with_multiple p a f t) e 0 (omega (arith, past)) ∙ sym none

pub times_x_entries : (o : Order) (n f0 f1 f2 : ℕ) (c l q c' l' q' c2 l2 q2 : Plane) → HasTurned o n c l q c' l' q' →
    AreTimesX o c' l' q' c2 l2 q2 f0 f1 f2 → entries_of o c2 l2 q2 ≡ multiple (number_field o) (prime_of o) (entries_of o c l q)
times_x_entries o n f0 f1 f2 c l q c' l' q' c2 l2 q2 h t =
    ext_get_or 0 (entries_of o c2 l2 q2) (multiple (number_field o) p (entries_of o c l q))
    (length-entries o (digits_of c2) (digits_of l2) (digits_of q2) ∙ (after).constant.long
    ∙ sym (length-multiple (number_field o) p (entries_of o c l q) ∙ length-entries o (digits_of c) (digits_of l) (digits_of q) ∙ h.before.constant.long))
    (λ e inside. at e (omega (arith, length-entries o (digits_of c2) (digits_of l2) (digits_of q2), (after).constant.long)))
  where
    p : ℕ
    p = prime_of o

    after : ArePlanes o n c2 l2 q2
    after = times_x_planes o n f0 f1 f2 c l q c' l' q' c2 l2 q2 h t

    top : IsPlaneOf (prime_of o) n c'
    top = top_plane o n c' h.top

    middle : IsPlaneOf (prime_of o) n l'
    middle = subst (λ m. IsPlaneOf (prime_of o) m l') (present 1 (degree_of o) n h.some) h.middle

    is_three : ltb 2 (degree_of o) ≡ true → degree_of o ≡ 3
    is_three b = let above : 2 < degree_of o = ltb-true 2 (degree_of o) b in omega (arith, above, degree_small o)

    at : (e : ℕ) → e < n → get_or (entries_of o c2 l2 q2) e 0 ≡ get_or (multiple (number_field o) p (entries_of o c l q)) e 0
    at e small =
        let a = number_at o c l q e in
        let x = field_mul o (prime_of o) a in
        let ha : IsElement o a = (element_at o n c l q e h.before).element in
        let hx : IsElement o x = field_mul-below o (prime_of o) a (x_is_element o h.some) ha in
        let has : HasTimesX o a = times_x o a h.some ha in
        let here : e < length (digits_of c2) = omega (arith, (after).constant.long) in
        let before : e < length (digits_of c) = omega (arith, h.before.constant.long) in
        let within : e < length (entries_of o c l q) = omega (arith, length-entries o (digits_of c) (digits_of l) (digits_of q)) in
        let at_top : e < length (digits_of c') = omega (arith, (top).long) in
        let at_middle : e < length (digits_of l') = omega (arith, (middle).long) in
        let constant : get_or (digits_of c2) e 0 ≡ coefficient o x 0 =
        ap (λ (y : List ℕ). get_or y e 0) (plane_times (prime_of o) n f0 c' c2 (prime-positive o) top t.constant).1
        ∙ get_or-map (λ y. (f0 * y) % prime_of o) (digits_of c') e 0 0 at_top
        ∙ ap₂ (λ y z. (y * z) % prime_of o) t.first (h.top_at e) ∙ sym has.constant in
        let linear : get_or (digits_of l2) e 0 ≡ coefficient o x 1 =
        ap (λ (y : List ℕ). get_or y e 0) (plane_plus (prime_of o) n f1 l' l2 (digits_of c') (prime-positive o) middle t.linear).1
        ∙ get_or-digits_with_multiple (prime_of o) (digits_of l') f1 (digits_of c') e at_middle
        ∙ ap (λ y. (get_or (digits_of l') e 0 + y) % prime_of o) (ap₂ (λ y z. y * z) t.second (h.top_at e))
        ∙ ap (λ y. (y + top_factor o 1 * top_coefficient o a) % prime_of o) (h.middle_at e) ∙ sym has.linear in
        let quadratic : get_or (digits_of q2) e 0 ≡ coefficient o x 2 =
        ap (λ (y : List ℕ). get_or y e 0) (plane_plus (prime_of o) _ f2 q' q2 (digits_of c') (prime-positive o) h.last t.quadratic).1
        ∙ last_digit (ltb 2 (degree_of o)) (prime_of o) n f2 (digits_of q') (digits_of c') e (coefficient o x 2) h.last.long small
        (coefficient-below o x 2 hx (lit< tt)) (λ b.
        ap (λ y. (get_or (digits_of q') e 0 + y) % prime_of o) (ap₂ (λ y z. y * z) t.third (h.top_at e))
        ∙ ap (λ y. (y + top_factor o 2 * top_coefficient o a) % prime_of o) (h.last_at (is_three b) e) ∙ sym (has.quadratic (is_three b))) in
        entries-at o (digits_of c2) (digits_of l2) (digits_of q2) e 0 here
        ∙ ap (λ y. element_of o y (get_or (digits_of l2) e 0) (get_or (digits_of q2) e 0)) constant
        ∙ ap₂ (element_of o (coefficient o x 0)) linear quadratic
        ∙ element_of-coefficients o x hx
        ∙ sym (get_or-multiple_row o (prime_of o) (entries_of o c l q) e within
        ∙ ap (field_mul o (prime_of o)) (entries-at o (digits_of c) (digits_of l) (digits_of q) e 0 before))

pub row_times_x : (o : Order) (c l q c2 l2 q2 : Plane) (self : RowValue) → record { order = o; entries = entries_of o c l q } ≡ self →
    entries_of o c2 l2 q2 ≡ multiple (number_field o) (prime_of o) (entries_of o c l q) →
    ◌≡◌ {A = RowValue} (record { order = o; entries = entries_of o c2 l2 q2 }) (multiple_row (prime_of self.order) self)
row_times_x o c l q c2 l2 q2 self self_is e =
    ap (λ (x : List ℕ). record { order = o; entries = x }) e ∙ ap (λ (s : RowValue). multiple_row (prime_of s.order) s) self_is

-- ---- multiples by 0

pub zeroed_planes : (o : Order) (n : ℕ) (c l q c' l' q' : Plane) → ArePlanes o n c l q →
    IsPlane (prime_of_plane c) (lane.multiple_modulo (prime_of_plane c) 0 (digits_of c)) c' →
    IsPlane (prime_of_plane l) (lane.multiple_modulo (prime_of_plane l) 0 (digits_of l)) l' →
    IsPlane (prime_of_plane q) (lane.multiple_modulo (prime_of_plane q) 0 (digits_of q)) q' → ArePlanes o n c' l' q'
zeroed_planes o n c l q c' l' q' h hc hl hq = record {
  constant = (plane_times (prime_of o) n 0 c c' (prime-positive o) h.constant hc).0;
  linear = (plane_times (prime_of o) _ 0 l l' (prime-positive o) h.linear hl).0;
  quadratic = (plane_times (prime_of o) _ 0 q q' (prime-positive o) h.quadratic hq).0;
}

none_mod : (o : Order) → 0 % prime_of o ≡ 0
none_mod Two = refl
none_mod Three = refl
none_mod Four = refl
none_mod Five = refl
none_mod Seven = refl
none_mod Eight = refl
none_mod Nine = refl

zeroed_digit : (o : Order) (a : List ℕ) (e : ℕ) → get_or (lane.multiple_modulo (prime_of o) 0 a) e 0 ≡ 0
zeroed_digit o [] e = get_or_past [] e 0 (omega arith)
zeroed_digit o (x ∷ a) zero = let nothing : 0 * x ≡ 0 = omega arith in ap (λ y. y % prime_of o) nothing ∙ none_mod o
zeroed_digit o (x ∷ a) (suc e) = zeroed_digit o a e

pub zeroed_entries : (o : Order) (n : ℕ) (c l q c' l' q' : Plane) → ArePlanes o n c l q →
    IsPlane (prime_of_plane c) (lane.multiple_modulo (prime_of_plane c) 0 (digits_of c)) c' →
    IsPlane (prime_of_plane l) (lane.multiple_modulo (prime_of_plane l) 0 (digits_of l)) l' →
    IsPlane (prime_of_plane q) (lane.multiple_modulo (prime_of_plane q) 0 (digits_of q)) q' →
    entries_of o c' l' q' ≡ multiple (number_field o) 0 (entries_of o c l q)
zeroed_entries o n c l q c' l' q' h hc hl hq =
    let long : length (digits_of c') ≡ n = (zeroed_planes o n c l q c' l' q' h hc hl hq).constant.long in
    let digit : (m e : ℕ) (plane after : Plane) → IsPlaneOf (prime_of o) m plane →
    IsPlane (prime_of_plane plane) (lane.multiple_modulo (prime_of_plane plane) 0 (digits_of plane)) after → get_or (digits_of after) e 0 ≡ 0 =
    λ m e plane after hp is. ap (λ (y : List ℕ). get_or y e 0) (plane_times (prime_of o) m 0 plane after (prime-positive o) hp is).1
    ∙ zeroed_digit o (digits_of plane) e in
    ext_get_or 0 (entries_of o c' l' q') (multiple (number_field o) 0 (entries_of o c l q))
    (length-entries o (digits_of c') (digits_of l') (digits_of q') ∙ long
    ∙ sym (length-multiple (number_field o) 0 (entries_of o c l q) ∙ length-entries o (digits_of c) (digits_of l) (digits_of q) ∙ h.constant.long))
    (λ e inside.
    let here : e < length (digits_of c') = omega (arith, length-entries o (digits_of c') (digits_of l') (digits_of q')) in
    let before : e < length (digits_of c) = omega (arith, long, h.constant.long) in
    let within : e < length (entries_of o c l q) = omega (arith, length-entries o (digits_of c) (digits_of l) (digits_of q)) in
    entries-at o (digits_of c') (digits_of l') (digits_of q') e 0 here
    ∙ ap (λ y. element_of o y (get_or (digits_of l') e 0) (get_or (digits_of q') e 0)) (digit _ e c c' h.constant hc)
    ∙ ap₂ (element_of o 0) (digit _ e l l' h.linear hl) (digit _ e q q' h.quadratic hq)
    ∙ element_of-zeros o
    ∙ sym (get_or-multiple_row o 0 (entries_of o c l q) e within
    ∙ ap (field_mul o 0) (entries-at o (digits_of c) (digits_of l) (digits_of q) e 0 before)
    ∙ field_zero-mul o (number_at o c l q e) (element_at o n c l q e h).element))

pub row_zeroed : (o : Order) (c l q c2 l2 q2 : Plane) (self : RowValue) → record { order = o; entries = entries_of o c l q } ≡ self →
    entries_of o c2 l2 q2 ≡ multiple (number_field o) 0 (entries_of o c l q) →
    ◌≡◌ {A = RowValue} (record { order = o; entries = entries_of o c2 l2 q2 }) (multiple_row 0 self)
row_zeroed o c l q c2 l2 q2 self self_is e =
    ap (λ (x : List ℕ). record { order = o; entries = x }) e ∙ ap (multiple_row 0) self_is

pub zero_below : (o : Order) (n : ℕ) (plane : Plane) → IsPlaneOf (prime_of o) n plane → 0 < prime_of_plane plane
zero_below o n plane h = subst (λ p. 0 < p) (sym h.prime) (prime-positive o)

-- ---- powers of x

pub power_of_x-element : (o : Order) (k : ℕ) → 1 < degree_of o → IsElement o (power_of_x o k)
unfolding power_of_x
power_of_x-element o zero some = one_is_element o
power_of_x-element o (suc k) some = field_mul-below o (prime_of o) (power_of_x o k) (x_is_element o some) (power_of_x-element o k some)

-- a multiple of a multiple
multiple_twice : (o : Order) (a b : ℕ) (s : List ℕ) → IsElement o a → IsElement o b → All (IsElement o) s →
    multiple (number_field o) a (multiple (number_field o) b s) ≡ multiple (number_field o) (field_mul o a b) s
multiple_twice o a b s ha hb hs =
    ext_get_or 0 (multiple (number_field o) a (multiple (number_field o) b s)) (multiple (number_field o) (field_mul o a b) s)
    (length-multiple (number_field o) a (multiple (number_field o) b s) ∙ length-multiple (number_field o) b s
    ∙ sym (length-multiple (number_field o) (field_mul o a b) s)) (λ e inside.
    let once : e < length (multiple (number_field o) b s) = omega (arith, length-multiple (number_field o) a (multiple (number_field o) b s)) in
    let here : e < length s = omega (arith, once, length-multiple (number_field o) b s) in
    get_or-multiple_row o a (multiple (number_field o) b s) e once
    ∙ ap (field_mul o a) (get_or-multiple_row o b s e here)
    ∙ sym (field_mul_assoc o a b (get_or s e 0) ha hb (hs e 0 here))
    ∙ sym (get_or-multiple_row o (field_mul o a b) s e here))

-- a row times x^k
pub record IsTimesPower (k : ℕ) (before row : RowValue) : Type 0 where
  pub start : IsRow before
  pub multiple : row ≡ multiple_row (power_of_x before.order k) before
  pub well_formed : IsRow row

pub IsTimesPower-none : (before : RowValue) → IsRow before → IsTimesPower 0 before before
unfolding power_of_x
IsTimesPower-none before h = record {
  start = h;
  multiple = row_by_one before 1 h refl;
  well_formed = h;
}

pub IsTimesPower-more : (k : ℕ) (before row next : RowValue) → 1 < degree_of before.order → IsTimesPower k before row →
    next ≡ multiple_row (prime_of row.order) row → IsRow next → IsTimesPower (k + 1) before next
unfolding power_of_x
IsTimesPower-more k before row next some t e well_formed = record {
  start = t.start;
  multiple =
      e ∙ ap (λ (r : RowValue). multiple_row (prime_of r.order) r) t.multiple
      ∙ ap (λ (s : List ℕ). record { order = before.order; entries = s })
      (multiple_twice before.order (prime_of before.order) (power_of_x before.order k) before.entries
      (x_is_element before.order some) (power_of_x-element before.order k some) t.start.elements)
      ∙ ap (λ j. multiple_row (power_of_x before.order j) before) (sym (add-one k));
  well_formed = well_formed;
}

-- ---- the exponents of elements

pub exponents : Order → List ℕ
exponents Two = []
exponents Three = []
exponents Four = 0 ∷ 0 ∷ 1 ∷ 2 ∷ 0 ∷ 0 ∷ 0 ∷ 0 ∷ 0 ∷ []
exponents Five = []
exponents Seven = []
exponents Eight = 0 ∷ 0 ∷ 1 ∷ 3 ∷ 2 ∷ 6 ∷ 4 ∷ 5 ∷ 0 ∷ []
exponents Nine = 0 ∷ 0 ∷ 4 ∷ 1 ∷ 2 ∷ 7 ∷ 5 ∷ 3 ∷ 6 ∷ []

pub exponents_of_four : (o : Order) (q : ℕ) → q ≡ order_number o → q ≡ 4 → 0 ∷ 0 ∷ 1 ∷ 2 ∷ 0 ∷ 0 ∷ 0 ∷ 0 ∷ 0 ∷ [] ≡ exponents o
unfolding exponents
exponents_of_four Two q e is = absurd (omega arith)
exponents_of_four Three q e is = absurd (omega arith)
exponents_of_four Four q e is = refl
exponents_of_four Five q e is = absurd (omega arith)
exponents_of_four Seven q e is = absurd (omega arith)
exponents_of_four Eight q e is = absurd (omega arith)
exponents_of_four Nine q e is = absurd (omega arith)

pub exponents_of_eight : (o : Order) (q : ℕ) → q ≡ order_number o → q ≡ 8 → 0 ∷ 0 ∷ 1 ∷ 3 ∷ 2 ∷ 6 ∷ 4 ∷ 5 ∷ 0 ∷ [] ≡ exponents o
unfolding exponents
exponents_of_eight Two q e is = absurd (omega arith)
exponents_of_eight Three q e is = absurd (omega arith)
exponents_of_eight Four q e is = absurd (omega arith)
exponents_of_eight Five q e is = absurd (omega arith)
exponents_of_eight Seven q e is = absurd (omega arith)
exponents_of_eight Eight q e is = refl
exponents_of_eight Nine q e is = absurd (omega arith)

pub exponents_of_nine : (o : Order) (q : ℕ) → q ≡ order_number o → 1 < degree_of o → q ≢ 4 → q ≢ 8 → 0 ∷ 0 ∷ 4 ∷ 1 ∷ 2 ∷ 7 ∷ 5 ∷ 3 ∷ 6 ∷ [] ≡ exponents o
unfolding exponents
exponents_of_nine Two q e some four eight = absurd (omega arith)
exponents_of_nine Three q e some four eight = absurd (omega arith)
exponents_of_nine Four q e some four eight = absurd (four e)
exponents_of_nine Five q e some four eight = absurd (omega arith)
exponents_of_nine Seven q e some four eight = absurd (omega arith)
exponents_of_nine Eight q e some four eight = absurd (eight e)
exponents_of_nine Nine q e some four eight = refl

is_that_power : Order → ℕ → Bool
is_that_power o a = eqb (degree_of o) 1 || (eqb a 0 || eqb (power_of_x o (get_or (exponents o) a 0)) a)

is_that_power-all : (o : Order) → at_one is_that_power o ≡ true
unfolding at_one passes_below is_that_power exponents power_of_x coefficients number_of polynomial_sum polynomial_multiple polynomial_negative polynomial_product without_leading polynomial_remainder polynomial_of field_mul
is_that_power-all Two = refl
is_that_power-all Three = refl
is_that_power-all Four = refl
is_that_power-all Five = refl
is_that_power-all Seven = refl
is_that_power-all Eight = refl
is_that_power-all Nine = refl

pub power_is : (o : Order) (a b : ℕ) (es : List ℕ) → 1 < degree_of o → IsElement o a → a ≢ 0 → b ≡ a → es ≡ exponents o →
    power_of_x o (get_or es b 0) ≡ a
unfolding is_that_power
power_is o a b es some ha nonzero same e =
    ap₂ (λ (s : List ℕ) k. power_of_x o (get_or s k 0)) e same
    ∙ elim (or_cases (eqb (degree_of o) 1) _ (from_one is_that_power o (is_that_power-all o) a ha)) [
      | inl one ↦ let same : degree_of o ≡ 1 = eqb-true (degree_of o) 1 one in absurd (omega (arith, same, some))
      | inr rest ↦ elim (or_cases (eqb a 0) _ rest) [
        | inl none ↦ absurd (nonzero (eqb-true a 0 none))
        | inr found ↦ eqb-true _ _ found
      ]
    ]
