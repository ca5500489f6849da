-- Rows over the prime field beside rows over a field: the values of linear forms, and multiples that are added.
use Rattle.std.proofs.Common.{◌≡◌, ◌≢◌, ℕ, ◌+◌, ◌*◌, ◌%◌, ◌<◌, Bool, true, false, List, length, get_or, map, replicate, cond, ltb, Box, Global, Some, refl, sym, ap, ap₂, subst, ◌∙◌, arith, lit<}
use Rattle.std.proofs.Math.Nat.{mod-eq_of_lt}
use Rattle.std.proofs.lemmas.List.{ext_get_or, get_or_past, get_or-map, length-map, length-replicate}
use Rattle.axe_algebra.specs.Lists.{entry}
use Rattle.axe_field.specs.Forms.{prime_order, IsForm, form_value}
use Rattle.axe_field.specs.Order.{Order, Two, Three, Four, Five, Seven, Eight, Nine, order_number, prime_of, degree_of, IsElement}
use Rattle.axe_field.specs.Planes.{coefficient, element_of, matrix_of_multiplication}
use Rattle.axe_field.proofs.FormLaws.{prime_order-number}
use Rattle.axe_lane.specs.Bytes.{AreDigits}
use Rattle.axe_bits.specs.Combinations.{digits_with_multiples}
use Rattle.axe_layer.specs.Digits.{digits_with_multiple}
use Rattle.axe_layer.proofs.BitLaws.{get_or-zeros}
use Rattle.axe_layer.proofs.DigitLaws.{AreDigits-sum, digit-below, length-digits_with_multiple, get_or-digits_with_multiple}
use Rattle.axe_plane.specs.Planes.{prime_of_plane, digits_of, IsPlane, IsPlaneOf}
use Rattle.axe_plane.specs.declared.Plane.{Plane}
use Rattle.axe_plane.specs.declared.Plane.TheVariants.{Bits, Trits, Bytes}
use Rattle.axe_plane.specs.declared.primes.BytePrime.TheVariants as byte
use Rattle.axe_plane.proofs.PlaneLaws.{prime_of_plane-positive, plane_of_zeros}
use Rattle.axe_row.specs.FormValues.{values_of_form}
use Rattle.axe_row.specs.HigherPlanes.{HigherPlanes, linear_of, quadratic_of, AreKeptPlanes}
use Rattle.axe_row.specs.Operations.{row_with_multiple}
use Rattle.axe_row.specs.Planes.{column, ArePlanes, IsAddable, AreAddable}
use Rattle.axe_row.specs.Rows.{RowValue}
use Rattle.axe_row.specs.declared.higher.Higher.{Higher}
use Rattle.axe_row.proofs.KeptPlanes.{kept_planes, kept_view}
use Rattle.axe_row.proofs.PlaneSums.{length-digits_with_multiples, get_or-digits_with_multiples, after_more, AreSummands, planes_summands, IsSummed, summed_planes, summed_entries, row_after, addable_constant, addable_linear, addable_quadratic}
use Rattle.axe_row.proofs.PrimeRows.{constant_alone, one_plane_entries}
use Rattle.axe_row.proofs.RowPlanes.{entries_of, length-entries, entries-at, element_at, element_along, length_of_row, prime-positive, with_length}
use Rattle.axe_row.proofs.TableSums.{IsRowOf}

-- ---- the prime field

-- its characteristic is that of the field
prime_order-prime : (o : Order) → prime_of (prime_order o) ≡ prime_of o
prime_order-prime Two = refl
prime_order-prime Three = refl
prime_order-prime Four = refl
prime_order-prime Five = refl
prime_order-prime Seven = refl
prime_order-prime Eight = refl
prime_order-prime Nine = refl

-- its degree is 1
prime_order-degree : (o : Order) → degree_of (prime_order o) ≡ 1
prime_order-degree Two = refl
prime_order-degree Three = refl
prime_order-degree Four = refl
prime_order-degree Five = refl
prime_order-degree Seven = refl
prime_order-degree Eight = refl
prime_order-degree Nine = refl

-- ---- planes without digits other than 0

-- no digit is other than 0
pub record AreAllZero (digits : List ℕ) : Type 0 where
  pub zeros : (e : ℕ) → get_or digits e 0 ≡ 0

-- a list without digits has none
no_digits : (digits : List ℕ) → length digits ≡ 0 → AreAllZero digits
no_digits digits none = record { zeros = λ e. get_or_past digits e 0 (omega (arith, none)) }

-- the plane of n zeros modulo the prime of the field
pub zero_plane : Order → ℕ → Plane
zero_plane Two n = Bits (replicate n 0)
zero_plane Three n = Trits (replicate n 0)
zero_plane Four n = Bits (replicate n 0)
zero_plane Five n = Bytes (record { prime = byte.Five; digits = replicate n 0 })
zero_plane Seven n = Bytes (record { prime = byte.Seven; digits = replicate n 0 })
zero_plane Eight n = Bits (replicate n 0)
zero_plane Nine n = Trits (replicate n 0)

-- its prime and digits
zero_plane-is : (o : Order) (n : ℕ) → IsPlane (prime_of o) (replicate n 0) (zero_plane o n)
unfolding zero_plane
zero_plane-is Two n = record { prime = refl; digits_are = refl }
zero_plane-is Three n = record { prime = refl; digits_are = refl }
zero_plane-is Four n = record { prime = refl; digits_are = refl }
zero_plane-is Five n = record { prime = refl; digits_are = refl }
zero_plane-is Seven n = record { prime = refl; digits_are = refl }
zero_plane-is Eight n = record { prime = refl; digits_are = refl }
zero_plane-is Nine n = record { prime = refl; digits_are = refl }

-- it has no digit other than 0
zero_plane-zeros : (o : Order) (n : ℕ) → AreAllZero (digits_of (zero_plane o n))
zero_plane-zeros o n = record {
  zeros = λ e. ap (λ (x : List ℕ). get_or x e 0) (zero_plane-is o n).digits_are ∙ get_or-zeros n e;
}

-- multiples of zeros change no digits
adds_nothing : (p : ℕ) (a : List ℕ) (m : ℕ) (b : List ℕ) → 0 < p → AreDigits p a → AreAllZero b →
    digits_with_multiple p a m b ≡ a
adds_nothing p a m b positive all none =
    ext_get_or 0 (digits_with_multiple p a m b) a (length-digits_with_multiple p a m b) (λ e inside.
    let here : e < length a = omega (arith, length-digits_with_multiple p a m b) in
    let nothing : get_or a e 0 + m * 0 ≡ get_or a e 0 = omega arith in
    get_or-digits_with_multiple p a m b e here ∙ ap (λ x. (get_or a e 0 + m * x) % p) (none.zeros e)
    ∙ ap (λ x. x % p) nothing ∙ mod-eq_of_lt (digit-below p a e positive all))

-- multiples of three lists are that of the first where the others are zeros
only_first : (p : ℕ) (a f c l q : List ℕ) → 0 < p → AreAllZero l → AreAllZero q →
    digits_with_multiple p a (get_or f 0 0) c ≡ digits_with_multiples p a f c l q
unfolding digits_with_multiples
only_first p a f c l q positive hl hq =
    let first : List ℕ = digits_with_multiple p a (get_or f 0 0) c in
    let second : List ℕ = digits_with_multiple p first (get_or f 1 0) l in
    sym (adds_nothing p second (get_or f 2 0) q positive (AreDigits-sum p first (get_or f 1 0) l positive) hq
    ∙ adds_nothing p first (get_or f 1 0) l positive (AreDigits-sum p a (get_or f 0 0) c positive) hl)

-- a plane after a multiple of another was added
abbrev pub IsPlusMultiple : Plane → ℕ → Plane → Plane → Type 0
IsPlusMultiple plane factor other after =
    IsPlane (prime_of_plane plane)
    (digits_with_multiple (prime_of_plane plane) (digits_of plane) factor (digits_of other)) after

-- a plane to which multiples of three planes were to be added, where two of them have no digits other than 0
summed_first : (plane c l q after : Plane) (f : List ℕ) → AreAllZero (digits_of l) → AreAllZero (digits_of q) →
    IsPlusMultiple plane (get_or f 0 0) c after → IsSummed plane f c l q after
summed_first plane c l q after f hl hq h = record {
  prime = h.prime;
  digits_are =
      h.digits_are
      ∙ only_first (prime_of_plane plane) (digits_of plane) f (digits_of c) (digits_of l) (digits_of q)
      (prime_of_plane-positive plane) hl hq;
}

-- a plane to which they were added one after another
summed_in_turn : (plane c l q one two after : Plane) (f : List ℕ) → IsPlusMultiple plane (get_or f 0 0) c one →
    IsPlusMultiple one (get_or f 1 0) l two → IsPlusMultiple two (get_or f 2 0) q after → IsSummed plane f c l q after
unfolding digits_with_multiples
summed_in_turn plane c l q one two after f hc hl hq =
    after_more _ _ _ _ two after (after_more _ _ _ _ one two hc hl) hq

-- ---- multiples of a row over the prime field

-- the plane of the coefficients of x of elements of the prime field
abbrev pub zero_linear : Order → ℕ → Plane
zero_linear o n = zero_plane o (cond (ltb 1 (degree_of o)) n 0)

-- the plane of their coefficients of x^2
abbrev pub zero_quadratic : Order → ℕ → Plane
zero_quadratic o n = zero_plane o (cond (ltb 2 (degree_of o)) n 0)

-- the entries whose coefficients of x and x^2 are 0
constant_entries : (o : Order) (c l q : Plane) → AreAllZero (digits_of l) → AreAllZero (digits_of q) →
    entries_of o c l q ≡ digits_of c
constant_entries o c l q hl hq =
    ext_get_or 0 (entries_of o c l q) (digits_of c) long (λ e inside.
    let here : e < length (digits_of c) = omega (arith, long) in
    entries-at o (digits_of c) (digits_of l) (digits_of q) e 0 here
    ∙ ap₂ (element_of o (get_or (digits_of c) e 0)) (hl.zeros e) (hq.zeros e)
    ∙ constant_alone o (get_or (digits_of c) e 0))
  where
    long : length (entries_of o c l q) ≡ length (digits_of c)
    long = length-entries o (digits_of c) (digits_of l) (digits_of q)

-- a row, and one over its prime field that is as long, by their planes
pub record ArePrimeSummands (o : Order) (k : ℕ) (c l q c' : Plane) (m : List (List ℕ))
    (self other : RowValue) : Type 0 where
  pub summands : AreSummands o (length (digits_of c)) k c l q c' (zero_linear o (length (digits_of c)))
      (zero_quadratic o (length (digits_of c))) (column m 0) (column m 1) (column m 2)
  pub self_is : record { order = o; entries = entries_of o c l q } ≡ self
  pub entries : digits_of c' ≡ other.entries

-- so they are where the other's field is the prime field
pub prime_summands : (o r : Order) (k : ℕ) (c l q c' l' q' : Plane) (m : List (List ℕ)) (self other : RowValue) →
    ArePlanes o (length (digits_of c)) c l q → record { order = o; entries = entries_of o c l q } ≡ self →
    ArePlanes r (length (digits_of c')) c' l' q' → record { order = r; entries = entries_of r c' l' q' } ≡ other →
    other.order ≡ prime_order self.order → length other.entries ≡ length self.entries → IsElement self.order k →
    m ≡ matrix_of_multiplication o k → ArePrimeSummands o k c l q c' m self other
prime_summands o r k c l q c' l' q' m self other h self_is h' other_is orders lengths element em = record {
  summands = planes_summands o k c l q c' (zero_linear o n) (zero_quadratic o n) m h others
      (element_along o k (entries_of o c l q) self self_is element) em;
  self_is = self_is;
  entries =
      one_plane_entries r (degree_of r) c' l' q' other refl (ap degree_of order ∙ prime_order-degree o) h' other_is;
}
  where
    n : ℕ
    n = length (digits_of c)

    order : r ≡ prime_order o
    order =
        ap (λ (x : RowValue). x.order) other_is ∙ orders
        ∙ ap prime_order (sym (ap (λ (x : RowValue). x.order) self_is))

    prime : prime_of r ≡ prime_of o
    prime = ap prime_of order ∙ prime_order-prime o

    long : length (digits_of c') ≡ n
    long = sym (length_of_row r c' l' q' other other_is) ∙ lengths ∙ length_of_row o c l q self self_is

    others : ArePlanes o n c' (zero_linear o n) (zero_quadratic o n)
    others = record {
      constant = record {
        prime = h'.constant.prime ∙ prime;
        long = long;
        digits = subst (λ p. AreDigits p (digits_of c')) prime h'.constant.digits;
      };
      linear = plane_of_zeros (prime_of o) _ (zero_linear o n) (prime-positive o) (zero_plane-is o _);
      quadratic = plane_of_zeros (prime_of o) _ (zero_quadratic o n) (prime-positive o) (zero_plane-is o _);
    }

-- the same where the row keeps three planes
pub kept_summands : (o r : Order) (k : ℕ) (c c' l' q' : Plane) (m : List (List ℕ)) (self other : RowValue)
    (higher : HigherPlanes) (kept : Box Higher Global) (x : Higher) → AreKeptPlanes o (length (digits_of c)) c higher →
    record { order = o; entries = entries_of o c (linear_of o higher) (quadratic_of o higher) } ≡ self →
    higher ≡ Some kept → x ≡ kept.value →
    ArePlanes r (length (digits_of c')) c' l' q' → record { order = r; entries = entries_of r c' l' q' } ≡ other →
    other.order ≡ prime_order self.order → length other.entries ≡ length self.entries → IsElement self.order k →
    m ≡ matrix_of_multiplication o k → ArePrimeSummands o k c x.linear x.quadratic c' m self other
kept_summands o r k c c' l' q' m self other higher kept x h self_is is ex =
    prime_summands o r k c x.linear x.quadratic c' l' q' m self other (kept_planes o _ c higher h kept x x is ex ex)
    (kept_view o c higher kept x x self self_is is ex ex)

-- a plane without digits stays as it is
pub nothing_added : (plane : Plane) (factor : ℕ) (other : Plane) → length (digits_of plane) ≡ 0 →
    IsPlusMultiple plane factor other plane
nothing_added plane factor other none = record {
  prime = refl;
  digits_are =
      ext_get_or 0 (digits_of plane) _
      (sym (length-digits_with_multiple (prime_of_plane plane) (digits_of plane) factor (digits_of other)))
      (λ e inside. absurd (omega (arith, none)));
}

-- the planes of the row after
pub prime_row_after : (o : Order) (k : ℕ) (c l q c' c2 l2 q2 : Plane) (m : List (List ℕ)) (self other : RowValue) →
    ArePrimeSummands o k c l q c' m self other → IsPlusMultiple c (entry m 0 0) c' c2 →
    IsPlusMultiple l (entry m 0 1) c' l2 → IsPlusMultiple q (entry m 0 2) c' q2 →
    IsRowOf o (length (digits_of c2)) c2 l2 q2 (row_with_multiple self k other)
prime_row_after o k c l q c' c2 l2 q2 m self other h hc hl hq = record {
  planes = with_length o n c2 l2 q2
      (summed_planes o n k c l q c' z w c2 l2 q2 (column m 0) (column m 1) (column m 2) h.summands
      constant linear quadratic);
  is = row_after o o k c l q c' z w (entries_of o c2 l2 q2) self (record { order = o; entries = other.entries })
      h.self_is (ap (λ (x : List ℕ). record { order = o; entries = x })
      (constant_entries o c' z w (zero_plane-zeros o _) (zero_plane-zeros o _) ∙ h.entries)) refl
      (summed_entries o n k c l q c' z w c2 l2 q2 (column m 0) (column m 1) (column m 2) h.summands
      constant linear quadratic);
}
  where
    n : ℕ
    n = length (digits_of c)

    z : Plane
    z = zero_linear o n

    w : Plane
    w = zero_quadratic o n

    constant : IsSummed c (column m 0) c' z w c2
    constant = summed_first c c' z w c2 (column m 0) (zero_plane-zeros o _) (zero_plane-zeros o _) hc

    linear : IsSummed l (column m 1) c' z w l2
    linear = summed_first l c' z w l2 (column m 1) (zero_plane-zeros o _) (zero_plane-zeros o _) hl

    quadratic : IsSummed q (column m 2) c' z w q2
    quadratic = summed_first q c' z w q2 (column m 2) (zero_plane-zeros o _) (zero_plane-zeros o _) hq

-- what the three steps require
module _ {o : Order} {k : ℕ} {c l q c' : Plane} {m : List (List ℕ)} {self other : RowValue}
    (h : ArePrimeSummands o k c l q c' m self other) where
  pub to_constant : IsAddable c (entry m 0 0) c'
  to_constant = (addable_constant _ _ _ _ _ _ _ _ _ _ _ _ h.summands).constant

  pub to_linear : IsAddable l (entry m 0 1) c'
  to_linear = (addable_linear _ _ _ _ _ _ _ _ _ _ _ _ h.summands).constant

  pub to_quadratic : IsAddable q (entry m 0 2) c'
  to_quadratic = (addable_quadratic _ _ _ _ _ _ _ _ _ _ _ _ h.summands).constant

-- ---- the values of a linear form

-- a plane whose coefficient in the form is not 0 is there
form_fits : (b : Bool) (p n d : ℕ) → d < cond b p 1 → d ≢ 0 → cond b n 0 ≡ n
form_fits true p n d below nonzero = refl
form_fits false p n d below nonzero = absurd (nonzero (omega arith))

-- a coefficient of a form is a digit
form_digit : (b : Bool) (p d : ℕ) → 0 < p → d < cond b p 1 → d < p
form_digit true p d positive below = below
form_digit false p d positive below = omega arith

-- the plane of one coefficient may be added as often as the form says
one_of_form : (b : Bool) (p n d : ℕ) (plane other : Plane) → 0 < p → IsPlaneOf p n plane →
    IsPlaneOf p (cond b n 0) other → d < cond b p 1 → IsAddable plane d other
one_of_form b p n d plane other positive h ho below = record {
  prime = ho.prime ∙ sym h.prime;
  factor_is_digit = subst (λ r. d < r) (sym h.prime) (form_digit b p d positive below);
  fits = λ nonzero. ho.long ∙ form_fits b p n d below nonzero ∙ sym h.long;
}

-- three sums modulo the prime are one
reduce : (o : Order) (z u v w : ℕ) → z ≡ 0 →
    (((z + u) % prime_of o + v) % prime_of o + w) % prime_of o ≡ (u + v + w) % prime_of o
reduce Two z u v w none = omega arith
reduce Three z u v w none = omega arith
reduce Four z u v w none = omega arith
reduce Five z u v w none = omega arith
reduce Seven z u v w none = omega arith
reduce Eight z u v w none = omega arith
reduce Nine z u v w none = omega arith

-- a row and a form, and the plane of as many zeros modulo the prime
pub record AreFormed (o r : Order) (form : List ℕ) (c l q plane : Plane) (self : RowValue) : Type 0 where
  pub planes : ArePlanes o (length (digits_of c)) c l q
  pub self_is : record { order = o; entries = entries_of o c l q } ≡ self
  pub order : r ≡ prime_order o
  pub is_form : IsForm o form
  pub zeros : IsPlane (prime_of o) (replicate (length (digits_of c)) 0) plane

-- so they are, by the order of the prime field and the row's length
pub formed : (o r : Order) (form : List ℕ) (c l q plane : Plane) (self : RowValue) (x n : ℕ) →
    ArePlanes o (length (digits_of c)) c l q → record { order = o; entries = entries_of o c l q } ≡ self →
    r ≡ prime_order o → IsForm self.order form → x ≡ order_number r → n ≡ length (digits_of c) →
    IsPlane x (replicate n 0) plane → AreFormed o r form c l q plane self
formed o r form c l q plane self x n h self_is order coefficients number long zeros = record {
  planes = h;
  self_is = self_is;
  order = order;
  is_form = subst (λ s. IsForm s form) (sym (ap (λ (s : RowValue). s.order) self_is)) coefficients;
  zeros =
      subst (λ y. IsPlane y (replicate (length (digits_of c)) 0) plane)
      (number ∙ ap order_number order ∙ prime_order-number o)
      (subst (λ k. IsPlane x (replicate k 0) plane) long zeros);
}

-- the same where the row keeps three planes
pub kept_formed : (o r : Order) (form : List ℕ) (c plane : Plane) (self : RowValue) (x n : ℕ)
    (higher : HigherPlanes) (kept : Box Higher Global) (y z : Higher) → AreKeptPlanes o (length (digits_of c)) c higher →
    record { order = o; entries = entries_of o c (linear_of o higher) (quadratic_of o higher) } ≡ self →
    higher ≡ Some kept → y ≡ kept.value → z ≡ kept.value →
    r ≡ prime_order o → IsForm self.order form → x ≡ order_number r → n ≡ length (digits_of c) →
    IsPlane x (replicate n 0) plane → AreFormed o r form c y.linear z.quadratic plane self
kept_formed o r form c plane self x n higher kept y z h self_is is ey ez =
    formed o r form c y.linear z.quadratic plane self x n (kept_planes o _ c higher h kept y z is ey ez)
    (kept_view o c higher kept y z self self_is is ey ez)

-- what the three steps require
pub form_addable : (o r : Order) (form : List ℕ) (c l q plane : Plane) (self : RowValue) →
    AreFormed o r form c l q plane self → AreAddable plane form c l q
form_addable o r form c l q plane self h = record {
  digits = subst (λ p. AreDigits p (digits_of plane)) (sym zeros.prime) zeros.digits;
  constant = one_of_form true p n (get_or form 0 0) plane c (prime-positive o) zeros h.planes.constant
      (form_digit (ltb 0 (degree_of o)) p (get_or form 0 0) (prime-positive o) (h.is_form 0 (lit< tt)));
  linear = one_of_form (ltb 1 (degree_of o)) p n (get_or form 1 0) plane l (prime-positive o) zeros
      h.planes.linear (h.is_form 1 (lit< tt));
  quadratic = one_of_form (ltb 2 (degree_of o)) p n (get_or form 2 0) plane q (prime-positive o) zeros
      h.planes.quadratic (h.is_form 2 (lit< tt));
}
  where
    p : ℕ
    p = prime_of o

    n : ℕ
    n = length (digits_of c)

    zeros : IsPlaneOf p n plane
    zeros = plane_of_zeros p n plane (prime-positive o) h.zeros

-- digits after multiples of three lists were added
AreDigits-multiples : (p : ℕ) (a f c l q : List ℕ) → 0 < p → AreDigits p (digits_with_multiples p a f c l q)
unfolding digits_with_multiples
AreDigits-multiples p a f c l q positive = AreDigits-sum p _ (get_or f 2 0) q positive

-- the digits of the values
values_are : (o r : Order) (form : List ℕ) (c l q plane after : Plane) (self : RowValue) →
    AreFormed o r form c l q plane self → IsSummed plane form c l q after →
    digits_of after ≡ digits_with_multiples (prime_of o) (replicate (length (digits_of c)) 0) form
    (digits_of c) (digits_of l) (digits_of q)
values_are o r form c l q plane after self h e =
    let sum : ℕ → List ℕ → List ℕ =
    λ p x. digits_with_multiples p x form (digits_of c) (digits_of l) (digits_of q) in
    e.digits_are ∙ ap (λ p. sum p (digits_of plane)) h.zeros.prime ∙ ap (sum (prime_of o)) h.zeros.digits_are

-- the plane that has them
form_plane : (o r : Order) (form : List ℕ) (c l q plane after : Plane) (self : RowValue) →
    AreFormed o r form c l q plane self → IsSummed plane form c l q after →
    IsPlaneOf (prime_of r) (length (digits_of after)) after
form_plane o r form c l q plane after self h e = record {
  prime = e.prime ∙ h.zeros.prime ∙ sym (ap prime_of h.order ∙ prime_order-prime o);
  long = refl;
  digits =
      subst (λ p. AreDigits p (digits_of after)) (sym (ap prime_of h.order ∙ prime_order-prime o))
      (subst (AreDigits (prime_of o)) (sym (values_are o r form c l q plane after self h e))
      (AreDigits-multiples (prime_of o) _ form (digits_of c) (digits_of l) (digits_of q) (prime-positive o)));
}

-- the row that has it
form_row : (o r : Order) (form : List ℕ) (c l q plane after : Plane) (self : RowValue) →
    AreFormed o r form c l q plane self → IsSummed plane form c l q after →
    record { order = r; entries = digits_of after } ≡ values_of_form form self
form_row o r form c l q plane after self h summed =
    ap (λ (s : Order). record { order = s; entries = digits_of after }) h.order
    ∙ ap (λ (x : List ℕ). record { order = prime_order o; entries = x }) entries_are
    ∙ ap (values_of_form form) h.self_is
  where
    p : ℕ
    p = prime_of o

    n : ℕ
    n = length (digits_of c)

    entries : List ℕ
    entries = entries_of o c l q

    values : List ℕ
    values = digits_with_multiples p (replicate n 0) form (digits_of c) (digits_of l) (digits_of q)

    digits_are : digits_of after ≡ values
    digits_are = values_are o r form c l q plane after self h summed

    long : length (digits_of after) ≡ n
    long =
        ap length digits_are
        ∙ length-digits_with_multiples p (replicate n 0) form (digits_of c) (digits_of l) (digits_of q)
        ∙ length-replicate n 0

    -- the sum of the digits at an index, each as often as the form says
    at : (e : ℕ) → e < n → get_or values e 0 ≡ get_or (map (form_value o form) entries) e 0
    at e small =
        let is = element_at o n c l q e h.planes in
        let here : e < length (replicate {A = ℕ} n 0) = omega (arith, length-replicate {A = ℕ} n 0) in
        let within : e < length entries =
        omega (arith, length-entries o (digits_of c) (digits_of l) (digits_of q)) in
        let d : ℕ = element_of o (get_or (digits_of c) e 0) (get_or (digits_of l) e 0) (get_or (digits_of q) e 0) in
        let sum : ℕ → ℕ → ℕ → ℕ = λ x y z. (get_or form 0 0 * x + get_or form 1 0 * y + get_or form 2 0 * z) % p in
        let value : sum (get_or (digits_of c) e 0) (get_or (digits_of l) e 0) (get_or (digits_of q) e 0)
        ≡ form_value o form d =
        sym (ap₂ (λ x y. sum x y (coefficient o d 2)) is.first is.second
        ∙ ap (sum (get_or (digits_of c) e 0) (get_or (digits_of l) e 0)) is.third) in
        get_or-digits_with_multiples p (replicate n 0) form (digits_of c) (digits_of l) (digits_of q) e here
        ∙ reduce o (get_or (replicate n 0) e 0) _ _ _ (get_or-zeros n e) ∙ value
        ∙ ap (form_value o form) (sym (entries-at o (digits_of c) (digits_of l) (digits_of q) e 0 small))
        ∙ sym (get_or-map (form_value o form) entries e 0 0 within)

    entries_are : digits_of after ≡ map (form_value o form) entries
    entries_are =
        ext_get_or 0 (digits_of after) (map (form_value o form) entries)
        (long ∙ sym (length-map entries (form_value o form)
        ∙ length-entries o (digits_of c) (digits_of l) (digits_of q)))
        (λ e inside. ap (λ (x : List ℕ). get_or x e 0) digits_are ∙ at e (omega (arith, long)))

-- a plane that has the entries of a row over a prime field
pub record IsPlaneFor (r : Order) (row : RowValue) (plane : Plane) : Type 0 where
  pub plane_of : IsPlaneOf (prime_of r) (length (digits_of plane)) plane
  pub row_is : record { order = r; entries = digits_of plane } ≡ row

-- the plane of the values is one
values_plane : (o r : Order) (form : List ℕ) (c l q plane after result : Plane) (self : RowValue) →
    AreFormed o r form c l q plane self → IsSummed plane form c l q after → result ≡ after →
    IsPlaneFor r (values_of_form form self) result
values_plane o r form c l q plane after result self h summed is =
    subst (IsPlaneFor r (values_of_form form self)) (sym is) (record {
      plane_of = form_plane o r form c l q plane after self h summed;
      row_is = form_row o r form c l q plane after self h summed;
    })

-- the plane of the values, where the row keeps one plane alone
pub values_alone : (o r : Order) (form : List ℕ) (c l q plane after result : Plane) (self : RowValue) →
    AreFormed o r form c l q plane self → length (digits_of l) ≡ 0 → length (digits_of q) ≡ 0 →
    IsPlusMultiple plane (get_or form 0 0) c after → result ≡ after → IsPlaneFor r (values_of_form form self) result
values_alone o r form c l q plane after result self h none_linear none_quadratic hc is =
    values_plane o r form c l q plane after result self h
    (summed_first plane c l q after form (no_digits (digits_of l) none_linear) (no_digits (digits_of q) none_quadratic)
    hc) is

-- the plane of the values, where it keeps three
pub values_of_three : (o r : Order) (form : List ℕ) (c l q plane one two after result : Plane) (self : RowValue) →
    AreFormed o r form c l q plane self → IsPlusMultiple plane (get_or form 0 0) c one →
    IsPlusMultiple one (get_or form 1 0) l two → IsPlusMultiple two (get_or form 2 0) q after → result ≡ after →
    IsPlaneFor r (values_of_form form self) result
values_of_three o r form c l q plane one two after result self h hc hl hq is =
    values_plane o r form c l q plane after result self h (summed_in_turn plane c l q one two after form hc hl hq) is
