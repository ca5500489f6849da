-- Rows over the prime fields: their entries are the digits of the plane of constants, and sums and products are those of
-- numbers modulo the prime.
use Rattle.std.proofs.Common.{◌≡◌, ℕ, zero, suc, ◌+◌, ◌*◌, ◌%◌, ◌<◌, List, length, get_or, set, map, cond, ltb, Option, Some, None, MatchOption, refl, sym, ap, ap₂, subst, ◌∙◌, arith, lit<, add-one}
use Rattle.std.specs.List.{All}
use Rattle.std.proofs.lemmas.List.Elements.{All-map}
use Rattle.std.proofs.lemmas.Bool.{le-ltb}
use Rattle.std.proofs.lemmas.List.{ext_get_or, get_or_past, length-map, length-set, get_or-map}
use Rattle.std.proofs.Math.Nat.{add-mod, mod-lt}
use Rattle.axe_algebra.specs.Lists.{entry}
use Rattle.axe_field.specs.Arithmetic.{field_add, field_mul}
use Rattle.axe_field.specs.CheckedLaws.{field_add-below, field_mul-below, field_mul_comm, field_mul-one}
use Rattle.axe_field.specs.NumberFields.{number_field}
use Rattle.axe_field.specs.Order.{Order, Two, Three, Four, Five, Seven, Eight, Nine, order_number, prime_of, degree_of, IsElement}
use Rattle.axe_field.specs.Planes.{coefficient, element_of, matrix_of_multiplication}
use Rattle.axe_field.proofs.CoefficientLaws.{coefficient-add, coefficient-mul, coefficient-below, element_of-coefficients, matrix_of_multiplication-first}
use Rattle.axe_field.proofs.Orders.{one_is_element}
use Rattle.axe_lane.specs.Bytes as lane
use Rattle.axe_lane.specs.Entries as entries
use Rattle.axe_lane.specs.Bytes.{AreDigits}
use Rattle.axe_layer.specs.Digits.{digits_with_multiple}
use Rattle.axe_plane.specs.Planes.{prime_of_plane, digits_of, IsPlane, IsPlaneOf}
use Rattle.axe_plane.specs.declared.Plane.{Plane}
use Rattle.axe_layer.proofs.DigitLaws.{AreDigits-set, AreDigits-sum, digit-below, length-digits_with_multiple, get_or-digits_with_multiple}
use Rattle.axe_layer.proofs.DotLaws.{sum_below, dot_by_entries}
use Rattle.axe_lane.specs.Entries.{IsFirstNonzero, AreZerosFrom, IsNextNonzero}
use Rattle.axe_row.specs.Operations.{sum_with_multiple, multiple, dot_product, row_with_multiple, multiple_row, IsZeroVector}
use Rattle.axe_row.specs.Planes.{ArePlanes}
use Rattle.axe_row.specs.Rows.{RowValue, IsRow}
use Rattle.axe_row.proofs.RowLaws.{same_row}
use Rattle.axe_row.proofs.OperationLaws.{length-sum_with_multiple, get_or-row_with_multiple, length-multiple, get_or-multiple_row, sum_of_products, sum_of_products-none, sum_of_products-more, sum_of_products-all}
use Rattle.axe_row.proofs.RowPlanes.{entries_of, length-entries, entries-at, prime-positive, element_value, along_order, element_along, length_of_row}
use Rattle.axe_row.proofs.PlaneSums.{row_after}

pub order_is_prime : (o : Order) → degree_of o ≡ 1 → order_number o ≡ prime_of o
order_is_prime Two e = refl
order_is_prime Three e = refl
order_is_prime Four e = absurd (omega arith)
order_is_prime Five e = refl
order_is_prime Seven e = refl
order_is_prime Eight e = absurd (omega arith)
order_is_prime Nine e = absurd (omega arith)

digit_is_element : (o : Order) (a : ℕ) → degree_of o ≡ 1 → a < prime_of o → IsElement o a
digit_is_element o a e h = subst (λ q. a < q) (sym (order_is_prime o e)) h

pub element_is_digit : (o : Order) (a : ℕ) → degree_of o ≡ 1 → IsElement o a → a < prime_of o
element_is_digit o a e h = subst (λ q. a < q) (order_is_prime o e) h

pub constant_alone : (o : Order) (d : ℕ) → element_of o d 0 0 ≡ d
constant_alone o d = element_value o d 0 0 ∙ omega arith

no_higher : (o : Order) (a j : ℕ) → degree_of o ≡ 1 → IsElement o a → 1 < j + 1 → j < 3 → coefficient o a j ≡ 0
no_higher o a j e ha some hj =
    let below : coefficient o a j < cond (ltb j 1) (prime_of o) 1 =
    subst (λ d. coefficient o a j < cond (ltb j d) (prime_of o) 1) e (coefficient-below o a j ha hj) in
    outside j some below
  where
    outside : (j : ℕ) → 1 < j + 1 → coefficient o a j < cond (ltb j 1) (prime_of o) 1 → coefficient o a j ≡ 0
    outside zero some below = absurd (omega arith)
    outside (suc j) some below =
        let small : coefficient o a (suc j) < 1 =
        subst (λ b. coefficient o a (suc j) < cond b (prime_of o) 1) (le-ltb (suc j) 1 (omega arith)) below in
        omega arith

-- an element is its one coefficient
pub coefficient_is : (o : Order) (a : ℕ) → degree_of o ≡ 1 → IsElement o a → coefficient o a 0 ≡ a
coefficient_is o a e ha =
    sym (constant_alone o (coefficient o a 0))
    ∙ sym (ap₂ (λ x y. element_of o (coefficient o a 0) x y) (no_higher o a 1 e ha (lit< tt) (lit< tt)) (no_higher o a 2 e ha (lit< tt) (lit< tt)))
    ∙ element_of-coefficients o a ha

prime_add : (o : Order) (a b : ℕ) → degree_of o ≡ 1 → IsElement o a → IsElement o b → field_add o a b ≡ (a + b) % prime_of o
prime_add o a b e ha hb =
    sym (coefficient_is o (field_add o a b) e (field_add-below o a b ha hb)) ∙ coefficient-add o a b 0 ha hb (lit< tt)
    ∙ ap₂ (λ x y. (x + y) % prime_of o) (coefficient_is o a e ha) (coefficient_is o b e hb)

prime_mul : (o : Order) (c a : ℕ) → degree_of o ≡ 1 → IsElement o c → IsElement o a → field_mul o c a ≡ (c * a) % prime_of o
prime_mul o c a e hc ha =
    let m = matrix_of_multiplication o c in
    let first : entry m 0 0 ≡ c = matrix_of_multiplication-first o c 0 hc (lit< tt) ∙ coefficient_is o c e hc in
    let linear = no_higher o a 1 e ha (lit< tt) (lit< tt) in
    let quadratic = no_higher o a 2 e ha (lit< tt) (lit< tt) in
    let turned : a * c + 0 * entry m 1 0 + 0 * entry m 2 0 ≡ c * a = omega arith in
    sym (coefficient_is o (field_mul o c a) e (field_mul-below o c a hc ha)) ∙ coefficient-mul o c a 0 hc ha (lit< tt)
    ∙ ap₂ (λ x y. (x * y + coefficient o a 1 * entry m 1 0 + coefficient o a 2 * entry m 2 0) % prime_of o) (coefficient_is o a e ha) first
    ∙ ap₂ (λ x y. (a * c + x * entry m 1 0 + y * entry m 2 0) % prime_of o) linear quadratic
    ∙ ap (λ x. x % prime_of o) turned

reduced : (o : Order) (x z : ℕ) → (x + z % prime_of o) % prime_of o ≡ (x + z) % prime_of o
reduced Two x z = omega arith
reduced Three x z = omega arith
reduced Four x z = omega arith
reduced Five x z = omega arith
reduced Seven x z = omega arith
reduced Eight x z = omega arith
reduced Nine x z = omega arith

-- ---- sums, multiples and dot products of lists of digits

digit_at : (o : Order) (a : List ℕ) (j : ℕ) → degree_of o ≡ 1 → AreDigits (prime_of o) a → IsElement o (get_or a j 0)
digit_at o a j e ha = digit_is_element o (get_or a j 0) e (digit-below (prime_of o) a j (prime-positive o) ha)

pub prime_sum : (o : Order) (a : List ℕ) (k : ℕ) (b : List ℕ) → degree_of o ≡ 1 → IsElement o k → AreDigits (prime_of o) a → AreDigits (prime_of o) b →
    digits_with_multiple (prime_of o) a k b ≡ sum_with_multiple (number_field o) a k b
prime_sum o a k b e hk ha hb =
    ext_get_or 0 (digits_with_multiple (prime_of o) a k b) (sum_with_multiple (number_field o) a k b)
    (length-digits_with_multiple (prime_of o) a k b ∙ sym (length-sum_with_multiple (number_field o) a k b)) (λ j inside.
    let here : j < length a = omega (arith, length-digits_with_multiple (prime_of o) a k b) in
    let x = digit_at o a j e ha in
    let y = digit_at o b j e hb in
    get_or-digits_with_multiple (prime_of o) a k b j here
    ∙ sym (get_or-row_with_multiple o a k b j here
    ∙ prime_add o (get_or a j 0) (field_mul o k (get_or b j 0)) e x (field_mul-below o k (get_or b j 0) hk y)
    ∙ ap (λ z. (get_or a j 0 + z) % prime_of o) (prime_mul o k (get_or b j 0) e hk y)
    ∙ reduced o (get_or a j 0) (k * get_or b j 0)))

pub prime_multiple : (o : Order) (k : ℕ) (a : List ℕ) → degree_of o ≡ 1 → IsElement o k → AreDigits (prime_of o) a →
    lane.multiple_modulo (prime_of o) k a ≡ multiple (number_field o) k a
prime_multiple o k a e hk ha =
    let f : ℕ → ℕ = λ x. (k * x) % prime_of o in
    ext_get_or 0 (map f a) (multiple (number_field o) k a)
    (length-map a f ∙ sym (length-multiple (number_field o) k a)) (λ j inside.
    let here : j < length a = omega (arith, length-map a f) in
    get_or-map f a j 0 0 here
    ∙ sym (get_or-multiple_row o k a j here ∙ prime_mul o k (get_or a j 0) e hk (digit_at o a j e ha)))

prime_sum_of_products : (o : Order) (a b : List ℕ) (n : ℕ) → degree_of o ≡ 1 → AreDigits (prime_of o) a → AreDigits (prime_of o) b →
    sum_of_products (number_field o) a b n ≡ sum_below (λ j. get_or a j 0 * get_or b j 0) n % prime_of o
prime_sum_of_products o a b zero e ha hb = sum_of_products-none (number_field o) a b ∙ zero_mod o
  where
    zero_mod : (o : Order) → 0 ≡ 0 % prime_of o
    zero_mod Two = refl
    zero_mod Three = refl
    zero_mod Four = refl
    zero_mod Five = refl
    zero_mod Seven = refl
    zero_mod Eight = refl
    zero_mod Nine = refl
prime_sum_of_products o a b (suc n) e ha hb =
    let p = prime_of o in
    let x = digit_at o a n e ha in
    let y = digit_at o b n e hb in
    let so_far = prime_sum_of_products o a b n e ha hb in
    let sum : ℕ = sum_below (λ j. get_or a j 0 * get_or b j 0) n in
    let element : IsElement o (sum % p) = digit_is_element o (sum % p) e (mod-lt sum (prime-positive o)) in
    ap (sum_of_products (number_field o) a b) (sym (add-one n)) ∙ sum_of_products-more o a b n
    ∙ ap (λ s. field_add o s (field_mul o (get_or a n 0) (get_or b n 0))) so_far
    ∙ prime_add o (sum % p) (field_mul o (get_or a n 0) (get_or b n 0)) e element (field_mul-below o (get_or a n 0) (get_or b n 0) x y)
    ∙ ap (λ z. (sum % p + z) % p) (prime_mul o (get_or a n 0) (get_or b n 0) e x y)
    ∙ sym (add-mod sum (get_or a n 0 * get_or b n 0) p)

pub prime_dot : (o : Order) (a b : List ℕ) → degree_of o ≡ 1 → AreDigits (prime_of o) a → AreDigits (prime_of o) b → length b ≡ length a →
    lane.sum_of_products a b % prime_of o ≡ dot_product (number_field o) a b
prime_dot o a b e ha hb same =
    ap (λ s. s % prime_of o) (dot_by_entries a b same) ∙ sym (prime_sum_of_products o a b (length a) e ha hb)
    ∙ sum_of_products-all (number_field o) a b (length a) refl

-- ---- rows of one plane

no_digits : (o : Order) (n j : ℕ) (plane : Plane) (e : ℕ) → degree_of o ≡ 1 → 1 < j + 1 →
    IsPlaneOf (prime_of o) (cond (ltb j (degree_of o)) n 0) plane → get_or (digits_of plane) e 0 ≡ 0
no_digits o n j plane e one some h =
    let long : length (digits_of plane) ≡ cond (ltb j 1) n 0 = h.long ∙ ap (λ d. cond (ltb j d) n 0) one in
    get_or_past (digits_of plane) e 0 (omega (arith, long, none j some))
  where
    none : (j : ℕ) → 1 < j + 1 → cond (ltb j 1) n 0 ≡ 0
    none zero some = absurd (omega arith)
    none (suc j) some = ap (λ b. cond b n 0) (le-ltb (suc j) 1 (omega arith))

pub one_plane : (o : Order) (n : ℕ) (c l q : Plane) → degree_of o ≡ 1 → ArePlanes o n c l q → entries_of o c l q ≡ digits_of c
one_plane o n c l q e h =
    ext_get_or 0 (entries_of o c l q) (digits_of c) (length-entries o (digits_of c) (digits_of l) (digits_of q)) (λ j inside.
    let here : j < length (digits_of c) = omega (arith, length-entries o (digits_of c) (digits_of l) (digits_of q)) in
    entries-at o (digits_of c) (digits_of l) (digits_of q) j 0 here
    ∙ ap₂ (element_of o (get_or (digits_of c) j 0)) (no_digits o n 1 l j e (lit< tt) h.linear) (no_digits o n 2 q j e (lit< tt) h.quadratic)
    ∙ constant_alone o (get_or (digits_of c) j 0))

-- another plane of constants
pub with_constant : (o : Order) (n : ℕ) (c l q after : Plane) (digits : List ℕ) → ArePlanes o n c l q → IsPlane (prime_of_plane c) digits after →
    length digits ≡ length (digits_of c) → AreDigits (prime_of o) digits → ArePlanes o n after l q
with_constant o n c l q after digits h e long all = record {
  constant = record {
    prime = e.prime ∙ h.constant.prime;
    long = ap length e.digits_are ∙ long ∙ h.constant.long;
    digits = subst (AreDigits (prime_of o)) (sym e.digits_are) all;
  };
  linear = h.linear;
  quadratic = h.quadratic;
}

-- ---- a multiple by 1

multiple_by_one : (o : Order) (a : List ℕ) → All (IsElement o) a → a ≡ multiple (number_field o) 1 a
multiple_by_one o a ha =
    ext_get_or 0 a (multiple (number_field o) 1 a) (sym (length-multiple (number_field o) 1 a)) (λ j inside.
    sym (get_or-multiple_row o 1 a j inside ∙ field_mul_comm o 1 (get_or a j 0) (one_is_element o) (ha j 0 inside)
    ∙ field_mul-one o (get_or a j 0) (ha j 0 inside)))

pub row_by_one : (self : RowValue) (k : ℕ) → IsRow self → k ≡ 1 → self ≡ multiple_row k self
row_by_one self k h one =
    same_row self (multiple_row k self) refl
    (multiple_by_one self.order self.entries h.elements ∙ ap (λ m. multiple (number_field self.order) m self.entries) (sym one))

-- ---- rows that are made by the plane of constants

pub prime_planes_sum : (o : Order) (n k : ℕ) (c l q other after : Plane) → degree_of o ≡ 1 → ArePlanes o n c l q →
    IsPlane (prime_of_plane c) (digits_with_multiple (prime_of_plane c) (digits_of c) k (digits_of other)) after → ArePlanes o n after l q
prime_planes_sum o n k c l q other after e h is =
    with_constant o n c l q after _ h is (length-digits_with_multiple _ (digits_of c) k (digits_of other))
    (subst (λ p. AreDigits (prime_of o) (digits_with_multiple p (digits_of c) k (digits_of other))) (sym h.constant.prime)
    (AreDigits-sum (prime_of o) (digits_of c) k (digits_of other) (prime-positive o)))

pub prime_entries_sum : (o : Order) (n m k : ℕ) (c l q c' l' q' after : Plane) → degree_of o ≡ 1 → ArePlanes o n c l q → ArePlanes o m c' l' q' →
    IsElement o k → IsPlane (prime_of_plane c) (digits_with_multiple (prime_of_plane c) (digits_of c) k (digits_of c')) after →
    entries_of o after l q ≡ sum_with_multiple (number_field o) (entries_of o c l q) k (entries_of o c' l' q')
prime_entries_sum o n m k c l q c' l' q' after e h h' hk is =
    one_plane o n after l q e (prime_planes_sum o n k c l q c' after e h is) ∙ is.digits_are
    ∙ ap (λ p. digits_with_multiple p (digits_of c) k (digits_of c')) h.constant.prime
    ∙ prime_sum o (digits_of c) k (digits_of c') e hk h.constant.digits h'.constant.digits
    ∙ sym (ap₂ (λ (x y : List ℕ). sum_with_multiple (number_field o) x k y) (one_plane o n c l q e h) (one_plane o m c' l' q' e h'))

pub multiple_is_below : (p k : ℕ) (a : List ℕ) → 0 < p → AreDigits p (lane.multiple_modulo p k a)
multiple_is_below p k a positive = All-map (λ x. x < p) (λ x. (k * x) % p) a (λ i d inside. mod-lt _ positive)

pub prime_planes_multiple : (o : Order) (n k : ℕ) (c l q after : Plane) → degree_of o ≡ 1 → ArePlanes o n c l q →
    IsPlane (prime_of_plane c) (lane.multiple_modulo (prime_of_plane c) k (digits_of c)) after → ArePlanes o n after l q
prime_planes_multiple o n k c l q after e h is =
    with_constant o n c l q after _ h is (length-map (digits_of c) _)
    (subst (λ p. AreDigits (prime_of o) (lane.multiple_modulo p k (digits_of c))) (sym h.constant.prime)
    (multiple_is_below (prime_of o) k (digits_of c) (prime-positive o)))

pub prime_entries_multiple : (o : Order) (n k : ℕ) (c l q after : Plane) → degree_of o ≡ 1 → ArePlanes o n c l q → IsElement o k →
    IsPlane (prime_of_plane c) (lane.multiple_modulo (prime_of_plane c) k (digits_of c)) after →
    entries_of o after l q ≡ multiple (number_field o) k (entries_of o c l q)
prime_entries_multiple o n k c l q after e h hk is =
    one_plane o n after l q e (prime_planes_multiple o n k c l q after e h is) ∙ is.digits_are
    ∙ ap (λ p. lane.multiple_modulo p k (digits_of c)) h.constant.prime ∙ prime_multiple o k (digits_of c) e hk h.constant.digits
    ∙ sym (ap (multiple (number_field o) k) (one_plane o n c l q e h))

pub prime_dot_of_planes : (o : Order) (n m : ℕ) (c l q c' l' q' : Plane) → degree_of o ≡ 1 → ArePlanes o n c l q → ArePlanes o m c' l' q' → m ≡ n →
    lane.sum_of_products (digits_of c) (digits_of c') % prime_of_plane c ≡ dot_product (number_field o) (entries_of o c l q) (entries_of o c' l' q')
prime_dot_of_planes o n m c l q c' l' q' e h h' same =
    ap (λ p. lane.sum_of_products (digits_of c) (digits_of c') % p) h.constant.prime
    ∙ prime_dot o (digits_of c) (digits_of c') e h.constant.digits h'.constant.digits (h'.constant.long ∙ same ∙ sym h.constant.long)
    ∙ sym (ap₂ (dot_product (number_field o)) (one_plane o n c l q e h) (one_plane o m c' l' q' e h'))

-- ---- rows as values

pub other_length : (o r : Order) (c l q c' l' q' : Plane) (self other : RowValue) →
    record { order = o; entries = entries_of o c l q } ≡ self → record { order = r; entries = entries_of r c' l' q' } ≡ other →
    length other.entries ≡ length self.entries → length (digits_of c') ≡ length (digits_of c)
other_length o r c l q c' l' q' self other self_is other_is lengths =
    sym (length_of_row r c' l' q' other other_is) ∙ lengths ∙ length_of_row o c l q self self_is

pub other_order : (o r : Order) (c l q c' l' q' : Plane) (self other : RowValue) →
    record { order = o; entries = entries_of o c l q } ≡ self → record { order = r; entries = entries_of r c' l' q' } ≡ other →
    other.order ≡ self.order → r ≡ o
other_order o r c l q c' l' q' self other self_is other_is orders =
    ap (λ (t : RowValue). t.order) other_is ∙ orders ∙ sym (ap (λ (t : RowValue). t.order) self_is)

pub prime_row_dot : (o r : Order) (d : ℕ) (c l q c' l' q' : Plane) (self other : RowValue) → d ≡ degree_of o → d ≡ 1 →
    ArePlanes o (length (digits_of c)) c l q → ArePlanes r (length (digits_of c')) c' l' q' →
    record { order = o; entries = entries_of o c l q } ≡ self → record { order = r; entries = entries_of r c' l' q' } ≡ other →
    other.order ≡ self.order → length other.entries ≡ length self.entries →
    lane.sum_of_products (digits_of c) (digits_of c') % prime_of_plane c ≡ dot_product (number_field self.order) self.entries other.entries
prime_row_dot o r d c l q c' l' q' self other ed one h h' self_is other_is orders lengths =
    let same = other_order o r c l q c' l' q' self other self_is other_is orders in
    let long = other_length o r c l q c' l' q' self other self_is other_is lengths in
    prime_dot_of_planes o _ _ c l q c' l' q' (sym ed ∙ one) h (along_order o r _ _ c' l' q' same refl h') long
    ∙ ap (λ (s : RowValue). dot_product (number_field s.order) s.entries (entries_of o c' l' q')) self_is
    ∙ ap (dot_product (number_field self.order) self.entries)
    (ap (λ w. entries_of w c' l' q') (sym same) ∙ ap (λ (t : RowValue). t.entries) other_is)

pub prime_row_sum : (o r : Order) (k d : ℕ) (c l q c' l' q' after : Plane) (self other : RowValue) → d ≡ degree_of o → d ≡ 1 →
    ArePlanes o (length (digits_of c)) c l q → ArePlanes r (length (digits_of c')) c' l' q' →
    record { order = o; entries = entries_of o c l q } ≡ self → record { order = r; entries = entries_of r c' l' q' } ≡ other →
    other.order ≡ self.order → IsElement self.order k →
    IsPlane (prime_of_plane c) (digits_with_multiple (prime_of_plane c) (digits_of c) k (digits_of c')) after →
    ◌≡◌ {A = RowValue} (record { order = o; entries = entries_of o after l q }) (row_with_multiple self k other)
prime_row_sum o r k d c l q c' l' q' after self other ed one h h' self_is other_is orders element is =
    let same = other_order o r c l q c' l' q' self other self_is other_is orders in
    row_after o r k c l q c' l' q' (entries_of o after l q) self other self_is other_is same
    (prime_entries_sum o _ _ k c l q c' l' q' after (sym ed ∙ one) h (along_order o r _ _ c' l' q' same refl h')
    (element_along o k (entries_of o c l q) self self_is element) is)

pub prime_row_multiple : (o : Order) (k d : ℕ) (c l q after : Plane) (self : RowValue) → d ≡ degree_of o → d ≡ 1 →
    ArePlanes o (length (digits_of c)) c l q → record { order = o; entries = entries_of o c l q } ≡ self → IsElement self.order k →
    IsPlane (prime_of_plane c) (lane.multiple_modulo (prime_of_plane c) k (digits_of c)) after →
    ◌≡◌ {A = RowValue} (record { order = o; entries = entries_of o after l q }) (multiple_row k self)
prime_row_multiple o k d c l q after self ed one h self_is element is =
    ap (λ (x : List ℕ). record { order = o; entries = x })
    (prime_entries_multiple o _ k c l q after (sym ed ∙ one) h (element_along o k (entries_of o c l q) self self_is element) is)
    ∙ ap (multiple_row k) self_is

-- a scalar is a digit of the plane of constants
pub scalar_is_digit : (o : Order) (k d n : ℕ) (c : Plane) (entries : List ℕ) (self : RowValue) → d ≡ degree_of o → d ≡ 1 → IsPlaneOf (prime_of o) n c →
    record { order = o; entries = entries } ≡ self → IsElement self.order k → k < prime_of_plane c
scalar_is_digit o k d n c entries self ed one h self_is element =
    subst (λ p. k < p) (sym h.prime) (element_is_digit o k (sym ed ∙ one) (element_along o k entries self self_is element))

-- another digit in the plane of constants
pub prime_planes_set : (o : Order) (n i d : ℕ) (c l q after : Plane) → ArePlanes o n c l q → d < prime_of_plane c →
    IsPlane (prime_of_plane c) (set (digits_of c) i d) after → ArePlanes o n after l q
prime_planes_set o n i d c l q after h below is =
    with_constant o n c l q after _ h is (length-set (digits_of c) i d)
    (AreDigits-set (prime_of o) (digits_of c) i d (subst (λ p. d < p) h.constant.prime below) h.constant.digits)

pub prime_row_set : (o : Order) (i d k : ℕ) (c l q after : Plane) (self : RowValue) → k ≡ degree_of o → k ≡ 1 →
    ArePlanes o (length (digits_of c)) c l q → record { order = o; entries = entries_of o c l q } ≡ self → d < prime_of_plane c →
    IsPlane (prime_of_plane c) (set (digits_of c) i d) after →
    ◌≡◌ {A = RowValue} (record { order = o; entries = entries_of o after l q }) (record { order = self.order; entries = set self.entries i d })
prime_row_set o i d k c l q after self ek one h self_is below is =
    ap (λ (x : List ℕ). record { order = o; entries = x })
    (one_plane o _ after l q (sym ek ∙ one) (prime_planes_set o _ i d c l q after h below is) ∙ is.digits_are
    ∙ ap (λ (x : List ℕ). set x i d) (sym (one_plane o _ c l q (sym ek ∙ one) h)))
    ∙ ap (λ (r : RowValue). record { order = r.order; entries = set r.entries i d }) self_is

-- an entry is the digit of the one plane
pub one_plane_at : (o : Order) (d j : ℕ) (c l q : Plane) (self : RowValue) → d ≡ degree_of o → d ≡ 1 →
    ArePlanes o (length (digits_of c)) c l q → record { order = o; entries = entries_of o c l q } ≡ self →
    get_or (digits_of c) j 0 ≡ get_or self.entries j 0
one_plane_at o d j c l q self ed one h self_is =
    ap (λ (x : List ℕ). get_or x j 0) (sym (one_plane o _ c l q (sym ed ∙ one) h) ∙ ap (λ (r : RowValue). r.entries) self_is)

pub one_plane_element : (o : Order) (d j x : ℕ) (c l q : Plane) (self : RowValue) → x ≡ get_or (digits_of c) j 0 → d ≡ degree_of o → d ≡ 1 →
    ArePlanes o (length (digits_of c)) c l q → record { order = o; entries = entries_of o c l q } ≡ self → IsElement self.order x
one_plane_element o d j x c l q self is ed one h self_is =
    subst (IsElement self.order) (sym is)
    (subst (λ r. IsElement r (get_or (digits_of c) j 0)) (ap (λ (r : RowValue). r.order) self_is)
    (digit_at o (digits_of c) j (sym ed ∙ one) h.constant.digits))

-- ---- the first entries other than zero are those of the one plane

-- the entries are its digits
pub one_plane_entries : (o : Order) (d : ℕ) (c l q : Plane) (self : RowValue) → d ≡ degree_of o → d ≡ 1 →
    ArePlanes o (length (digits_of c)) c l q → record { order = o; entries = entries_of o c l q } ≡ self → digits_of c ≡ self.entries
one_plane_entries o d c l q self ed one h self_is =
    sym (one_plane o _ c l q (sym ed ∙ one) h) ∙ ap (λ (r : RowValue). r.entries) self_is

first_entry : (r : Option ℕ) (xs ys : List ℕ) → xs ≡ ys → MatchOption r (All (λ digit. digit ≡ 0) xs) (entries.IsFirstNonzero xs) →
    MatchOption r (IsZeroVector ys) (IsFirstNonzero ys)
first_entry None xs ys e zeros = subst IsZeroVector e zeros
first_entry (Some i) xs ys e h =
    subst (λ (l : List ℕ). IsFirstNonzero l i) e (record { within = h.within; nonzero = h.nonzero; zeros_before = h.zeros_before })

pub first_of_one_plane : (r : Option ℕ) (o : Order) (d : ℕ) (c l q : Plane) (self : RowValue) → d ≡ degree_of o → d ≡ 1 →
    ArePlanes o (length (digits_of c)) c l q → record { order = o; entries = entries_of o c l q } ≡ self →
    MatchOption r (All (λ digit. digit ≡ 0) (digits_of c)) (entries.IsFirstNonzero (digits_of c)) →
    MatchOption r (IsZeroVector self.entries) (IsFirstNonzero self.entries)
first_of_one_plane r o d c l q self ed one h self_is found = first_entry r _ _ (one_plane_entries o d c l q self ed one h self_is) found

next_entry : (r : Option ℕ) (n : ℕ) (xs ys : List ℕ) → xs ≡ ys → MatchOption r (AreZerosFrom xs n) (IsNextNonzero xs n) →
    MatchOption r (AreZerosFrom ys n) (IsNextNonzero ys n)
next_entry None n xs ys e zeros = subst (λ (l : List ℕ). AreZerosFrom l n) e zeros
next_entry (Some i) n xs ys e h =
    subst (λ (l : List ℕ). IsNextNonzero l n i) e
    (record { within = h.within; not_before = h.not_before; nonzero = h.nonzero; zeros_between = h.zeros_between })

pub next_of_one_plane : (r : Option ℕ) (n : ℕ) (o : Order) (d : ℕ) (c l q : Plane) (self : RowValue) → d ≡ degree_of o → d ≡ 1 →
    ArePlanes o (length (digits_of c)) c l q → record { order = o; entries = entries_of o c l q } ≡ self →
    MatchOption r (AreZerosFrom (digits_of c) n) (IsNextNonzero (digits_of c) n) →
    MatchOption r (AreZerosFrom self.entries n) (IsNextNonzero self.entries n)
next_of_one_plane r n o d c l q self ed one h self_is found = next_entry r n _ _ (one_plane_entries o d c l q self ed one h self_is) found
