-- A row plus a multiple of another, by their planes.
use Rattle.std.proofs.Common.{◌≡◌, ℕ, ◌+◌, ◌*◌, ◌%◌, ◌<◌, Bool, true, false, List, length, get_or, cond, ltb, refl, sym, ap, subst, ◌∙◌, arith, lit<}
use Rattle.std.proofs.lemmas.Bool.{lt-ltb}
use Rattle.std.proofs.lemmas.List.{ext_get_or, get_or_past}
use Rattle.axe_algebra.specs.Lists.{entry}
use Rattle.axe_field.specs.Arithmetic.{field_add, field_mul}
use Rattle.axe_field.specs.Order.{Order, Two, Three, Four, Five, Seven, Eight, Nine, prime_of, degree_of, IsElement}
use Rattle.axe_field.specs.CheckedLaws.{field_add-below, field_mul-below}
use Rattle.axe_field.specs.NumberFields.{number_field}
use Rattle.axe_field.specs.Planes.{coefficient, element_of, matrix_of_multiplication}
use Rattle.axe_field.proofs.CoefficientLaws.{coefficient-add, coefficient-mul, coefficient-below, element_of-coefficients, matrix_of_multiplication-below, matrix_of_multiplication-outside}
use Rattle.axe_lane.specs.Bytes.{AreDigits}
use Rattle.axe_layer.specs.Digits.{digits_with_multiple}
use Rattle.axe_plane.specs.Planes.{prime_of_plane, digits_of, IsPlane, IsPlaneOf}
use Rattle.axe_plane.specs.declared.Plane.{Plane}
use Rattle.axe_layer.proofs.DigitLaws.{AreDigits-sum, length-digits_with_multiple, get_or-digits_with_multiple}
use Rattle.axe_plane.proofs.PlaneLaws.{prime_of_plane-positive}
use Rattle.axe_row.specs.MadePlanes.{row_of_planes}
use Rattle.axe_row.specs.Operations.{sum_with_multiple, row_with_multiple}
use Rattle.axe_bits.specs.Combinations.{digits_with_multiples}
use Rattle.axe_row.specs.Planes.{column, ArePlanes, IsAddable, AreAddable}
use Rattle.axe_row.specs.Rows.{RowValue}
use Rattle.axe_row.proofs.OperationLaws.{length-sum_with_multiple, get_or-row_with_multiple}
use Rattle.axe_row.proofs.RowPlanes.{entries_of, length-entries, entries-at, element_at, prime-positive, constant_is_there, along_order, element_along}

-- ---- the digits of a plane plus multiples of three others

pub length-digits_with_multiples : (p : ℕ) (a f c l q : List ℕ) → length (digits_with_multiples p a f c l q) ≡ length a
unfolding digits_with_multiples
length-digits_with_multiples p a f c l q =
    length-digits_with_multiple p _ (get_or f 2 0) q ∙ length-digits_with_multiple p _ (get_or f 1 0) l
    ∙ length-digits_with_multiple p a (get_or f 0 0) c

pub get_or-digits_with_multiples : (p : ℕ) (a f c l q : List ℕ) (e : ℕ) → e < length a →
    get_or (digits_with_multiples p a f c l q) e 0
    ≡ (((get_or a e 0 + get_or f 0 0 * get_or c e 0) % p + get_or f 1 0 * get_or l e 0) % p + get_or f 2 0 * get_or q e 0) % p
unfolding digits_with_multiples
get_or-digits_with_multiples p a f c l q e below =
    let first : List ℕ = digits_with_multiple p a (get_or f 0 0) c in
    let second : List ℕ = digits_with_multiple p first (get_or f 1 0) l in
    let in_first : e < length first = omega (arith, length-digits_with_multiple p a (get_or f 0 0) c) in
    let in_second : e < length second = omega (arith, length-digits_with_multiple p first (get_or f 1 0) l) in
    get_or-digits_with_multiple p second (get_or f 2 0) q e in_second
    ∙ ap (λ x. (x + get_or f 2 0 * get_or q e 0) % p)
    (get_or-digits_with_multiple p first (get_or f 1 0) l e in_first
    ∙ ap (λ x. (x + get_or f 1 0 * get_or l e 0) % p) (get_or-digits_with_multiple p a (get_or f 0 0) c e below))

AreDigits-sums : (p : ℕ) (a f c l q : List ℕ) → 0 < p → AreDigits p (digits_with_multiples p a f c l q)
unfolding digits_with_multiples
AreDigits-sums p a f c l q positive = AreDigits-sum p _ (get_or f 2 0) q positive

-- ---- one after another

-- what was made by two steps
pub after_more : (p f : ℕ) (x b : List ℕ) (one two : Plane) → IsPlane p x one →
    IsPlane (prime_of_plane one) (digits_with_multiple (prime_of_plane one) (digits_of one) f b) two →
    IsPlane p (digits_with_multiple p x f b) two
after_more p f x b one two h e = record {
  prime = e.prime ∙ h.prime;
  digits_are =
      e.digits_are ∙ ap (λ r. digits_with_multiple r (digits_of one) f b) h.prime ∙ ap (λ (y : List ℕ). digits_with_multiple p y f b) h.digits_are;
}

-- what may be added still may after a step
pub addable_after : (f g : ℕ) (b : List ℕ) (plane after other : Plane) →
    IsPlane (prime_of_plane plane) (digits_with_multiple (prime_of_plane plane) (digits_of plane) f b) after →
    IsAddable plane g other → IsAddable after g other
addable_after f g b plane after other e h = record {
  prime = h.prime ∙ sym e.prime;
  factor_is_digit = subst (λ r. g < r) (sym e.prime) h.factor_is_digit;
  fits = λ nonzero.
      h.fits nonzero ∙ sym (ap length e.digits_are ∙ length-digits_with_multiple (prime_of_plane plane) (digits_of plane) f b);
}

pub digits_after : (f : ℕ) (b : List ℕ) (plane after : Plane) →
    IsPlane (prime_of_plane plane) (digits_with_multiple (prime_of_plane plane) (digits_of plane) f b) after →
    AreDigits (prime_of_plane after) (digits_of after)
digits_after f b plane after e =
    subst (λ r. AreDigits r (digits_of after)) (sym e.prime)
    (subst (AreDigits (prime_of_plane plane)) (sym e.digits_are)
    (AreDigits-sum (prime_of_plane plane) (digits_of plane) f b (prime_of_plane-positive plane)))

-- ---- one coefficient of a sum

reduce : (o : Order) (x u v w : ℕ) →
    (((x + u) % prime_of o + v) % prime_of o + w) % prime_of o ≡ (x + (u + v + w) % prime_of o) % prime_of o
reduce Two x u v w = omega arith
reduce Three x u v w = omega arith
reduce Four x u v w = omega arith
reduce Five x u v w = omega arith
reduce Seven x u v w = omega arith
reduce Eight x u v w = omega arith
reduce Nine x u v w = omega arith

turned : (a b c x y z : ℕ) → a * x + b * y + c * z ≡ x * a + y * b + z * c
turned a b c x y z = omega arith

-- column j of the matrix of the multiplication by k
pub record IsColumn (o : Order) (k j : ℕ) (f : List ℕ) : Type 0 where
  pub first : get_or f 0 0 ≡ entry (matrix_of_multiplication o k) 0 j
  pub second : get_or f 1 0 ≡ entry (matrix_of_multiplication o k) 1 j
  pub third : get_or f 2 0 ≡ entry (matrix_of_multiplication o k) 2 j

coefficient_of_sum : (o : Order) (k a s j : ℕ) → IsElement o k → IsElement o a → IsElement o s → j < 3 →
    (((coefficient o a j + entry (matrix_of_multiplication o k) 0 j * coefficient o s 0) % prime_of o
    + entry (matrix_of_multiplication o k) 1 j * coefficient o s 1) % prime_of o
    + entry (matrix_of_multiplication o k) 2 j * coefficient o s 2) % prime_of o
    ≡ coefficient o (field_add o a (field_mul o k s)) j
coefficient_of_sum o k a s j hk ha hs hj =
    reduce o (coefficient o a j) _ _ _
    ∙ ap (λ x. (coefficient o a j + x % prime_of o) % prime_of o) (turned _ _ _ _ _ _)
    ∙ ap (λ x. (coefficient o a j + x) % prime_of o) (sym (coefficient-mul o k s j hk hs hj))
    ∙ sym (coefficient-add o a (field_mul o k s) j ha (field_mul-below o k s hk hs) hj)

-- the same with the numbers that stand for the coefficients
formula : (o : Order) (k a s j x s0 s1 s2 : ℕ) (f : List ℕ) → IsElement o k → IsElement o a → IsElement o s → j < 3 → IsColumn o k j f →
    coefficient o a j ≡ x → coefficient o s 0 ≡ s0 → coefficient o s 1 ≡ s1 → coefficient o s 2 ≡ s2 →
    (((x + get_or f 0 0 * s0) % prime_of o + get_or f 1 0 * s1) % prime_of o + get_or f 2 0 * s2) % prime_of o
    ≡ coefficient o (field_add o a (field_mul o k s)) j
formula o k a s j x s0 s1 s2 f hk ha hs hj column ex e0 e1 e2 =
    ap (λ y. (((y + get_or f 0 0 * s0) % prime_of o + get_or f 1 0 * s1) % prime_of o + get_or f 2 0 * s2) % prime_of o) (sym ex)
    ∙ ap (λ y. (((coefficient o a j + y) % prime_of o + get_or f 1 0 * s1) % prime_of o + get_or f 2 0 * s2) % prime_of o)
    (ap (λ y. get_or f 0 0 * y) (sym e0) ∙ ap (λ y. y * coefficient o s 0) column.first)
    ∙ ap (λ y. (((coefficient o a j + entry (matrix_of_multiplication o k) 0 j * coefficient o s 0) % prime_of o + y) % prime_of o + get_or f 2 0 * s2) % prime_of o)
    (ap (λ y. get_or f 1 0 * y) (sym e1) ∙ ap (λ y. y * coefficient o s 1) column.second)
    ∙ ap (λ y. (((coefficient o a j + entry (matrix_of_multiplication o k) 0 j * coefficient o s 0) % prime_of o
    + entry (matrix_of_multiplication o k) 1 j * coefficient o s 1) % prime_of o + y) % prime_of o)
    (ap (λ y. get_or f 2 0 * y) (sym e2) ∙ ap (λ y. y * coefficient o s 2) column.third)
    ∙ coefficient_of_sum o k a s j hk ha hs hj

-- the digit of a plane that may not be there
sum_digit : (b : Bool) (p n : ℕ) (a f c l q : List ℕ) (e v : ℕ) → length a ≡ cond b n 0 → e < n → v < cond b p 1 →
    (((get_or a e 0 + get_or f 0 0 * get_or c e 0) % p + get_or f 1 0 * get_or l e 0) % p + get_or f 2 0 * get_or q e 0) % p ≡ v →
    get_or (digits_with_multiples p a f c l q) e 0 ≡ v
sum_digit true p n a f c l q e v long inside below is =
    let here : e < length a = omega (arith, long) in get_or-digits_with_multiples p a f c l q e here ∙ is
sum_digit false p n a f c l q e v long inside below is =
    let none : v ≡ 0 = omega arith in
    let past : length (digits_with_multiples p a f c l q) ≡ 0 = length-digits_with_multiples p a f c l q ∙ long in
    get_or_past (digits_with_multiples p a f c l q) e 0 (omega (arith, past)) ∙ sym none

-- ---- sums of rows

-- the planes of two rows of one field and length, and the columns of the scalar's matrix
pub record AreSummands (o : Order) (n k : ℕ) (c l q c' l' q' : Plane) (f0 f1 f2 : List ℕ) : Type 0 where
  pub planes : ArePlanes o n c l q
  pub others : ArePlanes o n c' l' q'
  pub scalar : IsElement o k
  pub to_constant : IsColumn o k 0 f0
  pub to_linear : IsColumn o k 1 f1
  pub to_quadratic : IsColumn o k 2 f2

pub present : (i d n : ℕ) → i < d → cond (ltb i d) n 0 ≡ n
present i d n below = ap (λ b. cond b n 0) (lt-ltb i d below)

-- the plane of constants in the form of the others
constant_plane : (o : Order) (n : ℕ) (c : Plane) → IsPlaneOf (prime_of o) n c → IsPlaneOf (prime_of o) (cond (ltb 0 (degree_of o)) n 0) c
constant_plane o n c h = subst (λ m. IsPlaneOf (prime_of o) m c) (sym (constant_is_there o n)) h

pub addable_one : (o : Order) (n k i j f : ℕ) (plane other : Plane) → i < 3 → j < 3 → IsElement o k →
    IsPlaneOf (prime_of o) (cond (ltb j (degree_of o)) n 0) plane → IsPlaneOf (prime_of o) (cond (ltb i (degree_of o)) n 0) other →
    f ≡ entry (matrix_of_multiplication o k) i j → IsAddable plane f other
addable_one o n k i j f plane other hi hj hk h ho ef = record {
  prime = ho.prime ∙ sym h.prime;
  factor_is_digit =
      subst (λ r. f < r) (sym h.prime) (subst (λ x. x < prime_of o) (sym ef) (matrix_of_multiplication-below o k i j hk hi hj));
  fits = λ nonzero.
      let both = matrix_of_multiplication-outside o k i j hk hi hj (λ none. nonzero (ef ∙ none)) in
      ho.long ∙ present i (degree_of o) n both.0 ∙ sym (h.long ∙ present j (degree_of o) n both.1);
}

pub addable : (o : Order) (n k j : ℕ) (plane c l q : Plane) (f : List ℕ) → j < 3 → IsElement o k →
    IsPlaneOf (prime_of o) (cond (ltb j (degree_of o)) n 0) plane → ArePlanes o n c l q → IsColumn o k j f → AreAddable plane f c l q
addable o n k j plane c l q f hj hk h others column = record {
  digits = subst (λ r. AreDigits r (digits_of plane)) (sym h.prime) h.digits;
  constant = addable_one o n k 0 j _ plane c (lit< tt) hj hk h (constant_plane o n c others.constant) column.first;
  linear = addable_one o n k 1 j _ plane l (lit< tt) hj hk h others.linear column.second;
  quadratic = addable_one o n k 2 j _ plane q (lit< tt) hj hk h others.quadratic column.third;
}

-- what each of the three steps requires
pub addable_constant : (o : Order) (n k : ℕ) (c l q c' l' q' : Plane) (f0 f1 f2 : List ℕ) → AreSummands o n k c l q c' l' q' f0 f1 f2 →
    AreAddable c f0 c' l' q'
addable_constant o n k c l q c' l' q' f0 f1 f2 h =
    addable o n k 0 c c' l' q' f0 (lit< tt) h.scalar (constant_plane o n c h.planes.constant) h.others h.to_constant

pub addable_linear : (o : Order) (n k : ℕ) (c l q c' l' q' : Plane) (f0 f1 f2 : List ℕ) → AreSummands o n k c l q c' l' q' f0 f1 f2 →
    AreAddable l f1 c' l' q'
addable_linear o n k c l q c' l' q' f0 f1 f2 h = addable o n k 1 l c' l' q' f1 (lit< tt) h.scalar h.planes.linear h.others h.to_linear

pub addable_quadratic : (o : Order) (n k : ℕ) (c l q c' l' q' : Plane) (f0 f1 f2 : List ℕ) → AreSummands o n k c l q c' l' q' f0 f1 f2 →
    AreAddable q f2 c' l' q'
addable_quadratic o n k c l q c' l' q' f0 f1 f2 h =
    addable o n k 2 q c' l' q' f2 (lit< tt) h.scalar h.planes.quadratic h.others h.to_quadratic

-- a plane after its step
abbrev pub IsSummed : Plane → List ℕ → Plane → Plane → Plane → Plane → Type 0
IsSummed plane f c l q after =
    IsPlane (prime_of_plane plane)
    (digits_with_multiples (prime_of_plane plane) (digits_of plane) f (digits_of c) (digits_of l) (digits_of q)) after

-- a plane without digits stays as it is
pub IsSummed-none : (plane c l q : Plane) (f : List ℕ) → length (digits_of plane) ≡ 0 → IsSummed plane f c l q plane
IsSummed-none plane c l q f none = record {
  prime = refl;
  digits_are =
      ext_get_or 0 (digits_of plane) _
      (sym (length-digits_with_multiples (prime_of_plane plane) (digits_of plane) f (digits_of c) (digits_of l) (digits_of q)))
      (λ e inside. absurd (omega (arith, none, inside)));
}

summed_plane : (p n : ℕ) (plane c l q after : Plane) (f : List ℕ) → 0 < p → IsPlaneOf p n plane → IsSummed plane f c l q after → IsPlaneOf p n after
summed_plane p n plane c l q after f positive h e = record {
  prime = e.prime ∙ h.prime;
  long = ap length e.digits_are ∙ length-digits_with_multiples _ (digits_of plane) f _ _ _ ∙ h.long;
  digits =
      subst (AreDigits p) (sym (e.digits_are ∙ ap (λ r. digits_with_multiples r (digits_of plane) f (digits_of c) (digits_of l) (digits_of q)) h.prime))
      (AreDigits-sums p (digits_of plane) f (digits_of c) (digits_of l) (digits_of q) positive);
}

pub summed_planes : (o : Order) (n k : ℕ) (c l q c' l' q' c2 l2 q2 : Plane) (f0 f1 f2 : List ℕ) → AreSummands o n k c l q c' l' q' f0 f1 f2 →
    IsSummed c f0 c' l' q' c2 → IsSummed l f1 c' l' q' l2 → IsSummed q f2 c' l' q' q2 → ArePlanes o n c2 l2 q2
summed_planes o n k c l q c' l' q' c2 l2 q2 f0 f1 f2 h hc hl hq = record {
  constant = summed_plane (prime_of o) n c c' l' q' c2 f0 (prime-positive o) h.planes.constant hc;
  linear = summed_plane (prime_of o) _ l c' l' q' l2 f1 (prime-positive o) h.planes.linear hl;
  quadratic = summed_plane (prime_of o) _ q c' l' q' q2 f2 (prime-positive o) h.planes.quadratic hq;
}

pub summed_entries : (o : Order) (n k : ℕ) (c l q c' l' q' c2 l2 q2 : Plane) (f0 f1 f2 : List ℕ) → AreSummands o n k c l q c' l' q' f0 f1 f2 →
    IsSummed c f0 c' l' q' c2 → IsSummed l f1 c' l' q' l2 → IsSummed q f2 c' l' q' q2 →
    entries_of o c2 l2 q2 ≡ sum_with_multiple (number_field o) (entries_of o c l q) k (entries_of o c' l' q')
summed_entries o n k c l q c' l' q' c2 l2 q2 f0 f1 f2 h hc hl hq =
    ext_get_or 0 (entries_of o c2 l2 q2) (sum_with_multiple (number_field o) (entries_of o c l q) k (entries_of o c' l' q'))
    (length-entries o _ _ _ ∙ long ∙ sym (length-sum_with_multiple (number_field o) (entries_of o c l q) k (entries_of o c' l' q') ∙ length-entries o _ _ _ ∙ h.planes.constant.long))
    (λ e inside. at e (omega (arith, length-entries o (digits_of c2) (digits_of l2) (digits_of q2), long)))
  where
    p : ℕ
    p = prime_of o

    long : length (digits_of c2) ≡ n
    long = ap length hc.digits_are ∙ length-digits_with_multiples _ (digits_of c) f0 _ _ _ ∙ h.planes.constant.long

    -- the digits of the planes after, with the field's prime
    digits_are : (plane after : Plane) (m : ℕ) (f : List ℕ) → IsPlaneOf p m plane → IsSummed plane f c' l' q' after →
        digits_of after ≡ digits_with_multiples p (digits_of plane) f (digits_of c') (digits_of l') (digits_of q')
    digits_are plane after m f hp e =
        e.digits_are ∙ ap (λ r. digits_with_multiples r (digits_of plane) f (digits_of c') (digits_of l') (digits_of q')) hp.prime

    at : (e : ℕ) → e < n → get_or (entries_of o c2 l2 q2) e 0
        ≡ get_or (sum_with_multiple (number_field o) (entries_of o c l q) k (entries_of o c' l' q')) e 0
    at e small =
        let ha = element_at o n c l q e h.planes in
        let hs = element_at o n c' l' q' e h.others in
        let a : ℕ = element_of o (get_or (digits_of c) e 0) (get_or (digits_of l) e 0) (get_or (digits_of q) e 0) in
        let s : ℕ = element_of o (get_or (digits_of c') e 0) (get_or (digits_of l') e 0) (get_or (digits_of q') e 0) in
        let sum : ℕ = field_add o a (field_mul o k s) in
        let is_sum : IsElement o sum = field_add-below o a (field_mul o k s) ha.element (field_mul-below o k s h.scalar hs.element) in
        let here : e < length (digits_of c) = omega (arith, h.planes.constant.long) in
        let there : e < length (digits_of c') = omega (arith, h.others.constant.long) in
        let after : e < length (digits_of c2) = omega (arith, long) in
        let within : e < length (entries_of o c l q) = omega (arith, length-entries o (digits_of c) (digits_of l) (digits_of q)) in
        let constant : get_or (digits_of c2) e 0 ≡ coefficient o sum 0 =
        ap (λ (x : List ℕ). get_or x e 0) (digits_are c c2 n f0 h.planes.constant hc)
        ∙ sum_digit (ltb 0 (degree_of o)) p n (digits_of c) f0 (digits_of c') (digits_of l') (digits_of q') e (coefficient o sum 0)
        (h.planes.constant.long ∙ sym (constant_is_there o n)) small (coefficient-below o sum 0 is_sum (lit< tt))
        (formula o k a s 0 _ _ _ _ f0 h.scalar ha.element hs.element (lit< tt) h.to_constant ha.first hs.first hs.second hs.third) in
        let linear : get_or (digits_of l2) e 0 ≡ coefficient o sum 1 =
        ap (λ (x : List ℕ). get_or x e 0) (digits_are l l2 _ f1 h.planes.linear hl)
        ∙ sum_digit (ltb 1 (degree_of o)) p n (digits_of l) f1 (digits_of c') (digits_of l') (digits_of q') e (coefficient o sum 1)
        h.planes.linear.long small (coefficient-below o sum 1 is_sum (lit< tt))
        (formula o k a s 1 _ _ _ _ f1 h.scalar ha.element hs.element (lit< tt) h.to_linear ha.second hs.first hs.second hs.third) in
        let quadratic : get_or (digits_of q2) e 0 ≡ coefficient o sum 2 =
        ap (λ (x : List ℕ). get_or x e 0) (digits_are q q2 _ f2 h.planes.quadratic hq)
        ∙ sum_digit (ltb 2 (degree_of o)) p n (digits_of q) f2 (digits_of c') (digits_of l') (digits_of q') e (coefficient o sum 2)
        h.planes.quadratic.long small (coefficient-below o sum 2 is_sum (lit< tt))
        (formula o k a s 2 _ _ _ _ f2 h.scalar ha.element hs.element (lit< tt) h.to_quadratic ha.third hs.first hs.second hs.third) in
        entries-at o (digits_of c2) (digits_of l2) (digits_of q2) e 0 after
        ∙ ap (λ x. element_of o x (get_or (digits_of l2) e 0) (get_or (digits_of q2) e 0)) constant
        ∙ ap (λ x. element_of o (coefficient o sum 0) x (get_or (digits_of q2) e 0)) linear
        ∙ ap (element_of o (coefficient o sum 0) (coefficient o sum 1)) quadratic
        ∙ element_of-coefficients o sum is_sum
        ∙ sym (get_or-row_with_multiple o (entries_of o c l q) k (entries_of o c' l' q') e within
        ∙ ap (λ x. field_add o x (field_mul o k (get_or (entries_of o c' l' q') e 0))) (entries-at o (digits_of c) (digits_of l) (digits_of q) e 0 here)
        ∙ ap (λ x. field_add o a (field_mul o k x)) (entries-at o (digits_of c') (digits_of l') (digits_of q') e 0 there))

-- the row after
pub row_after : (o r : Order) (k : ℕ) (c l q c' l' q' : Plane) (after : List ℕ) (self other : RowValue) →
    record { order = o; entries = entries_of o c l q } ≡ self → record { order = r; entries = entries_of r c' l' q' } ≡ other → r ≡ o →
    after ≡ sum_with_multiple (number_field o) (entries_of o c l q) k (entries_of o c' l' q') →
    record { order = o; entries = after } ≡ row_with_multiple self k other
row_after o r k c l q c' l' q' after self other self_is other_is same e =
    ap (λ (x : List ℕ). record { order = o; entries = x }) e
    ∙ ap (λ (s : RowValue). record { order = s.order; entries = sum_with_multiple (number_field s.order) s.entries k (entries_of o c' l' q') }) self_is
    ∙ ap (λ (x : List ℕ). record { order = self.order; entries = sum_with_multiple (number_field self.order) self.entries k x })
    (ap (λ w. entries_of w c' l' q') (sym same) ∙ ap (λ (t : RowValue). t.entries) other_is)

pub column_is : (o : Order) (k j : ℕ) (m : List (List ℕ)) → m ≡ matrix_of_multiplication o k → IsColumn o k j (column m j)
column_is o k j m em = record {
  first = ap (λ (x : List (List ℕ)). entry x 0 j) em;
  second = ap (λ (x : List (List ℕ)). entry x 1 j) em;
  third = ap (λ (x : List (List ℕ)). entry x 2 j) em;
}

pub summands : (o r : Order) (k : ℕ) (c l q c' l' q' : Plane) (m : List (List ℕ)) (self other : RowValue) →
    ArePlanes o (length (digits_of c)) c l q → ArePlanes r (length (digits_of c')) c' l' q' →
    record { order = o; entries = entries_of o c l q } ≡ self → record { order = r; entries = entries_of r c' l' q' } ≡ other →
    other.order ≡ self.order → length other.entries ≡ length self.entries → IsElement self.order k → m ≡ matrix_of_multiplication o k →
    AreSummands o (length (digits_of c)) k c l q c' l' q' (column m 0) (column m 1) (column m 2)
summands o r k c l q c' l' q' m self other h h' self_is other_is orders lengths element em = record {
  planes = h;
  others = along_order o r _ _ c' l' q' same_order same_length h';
  scalar = element_along o k (entries_of o c l q) self self_is element;
  to_constant = column_is o k 0 m em;
  to_linear = column_is o k 1 m em;
  to_quadratic = column_is o k 2 m em;
}
  where
    same_order : r ≡ o
    same_order = ap (λ (x : RowValue). x.order) other_is ∙ orders ∙ sym (ap (λ (x : RowValue). x.order) self_is)

    same_length : length (digits_of c') ≡ length (digits_of c)
    same_length =
        sym (length-entries r (digits_of c') (digits_of l') (digits_of q')) ∙ ap (λ (x : RowValue). length x.entries) other_is ∙ lengths
        ∙ sym (ap (λ (x : RowValue). length x.entries) self_is) ∙ length-entries o (digits_of c) (digits_of l) (digits_of q)

-- the planes of a row and of another that are over one field and as long, and a matrix of multiplication
pub planes_summands : (o : Order) (k : ℕ) (c l q c' l' q' : Plane) (m : List (List ℕ)) → ArePlanes o (length (digits_of c)) c l q →
    ArePlanes o (length (digits_of c)) c' l' q' → IsElement o k → m ≡ matrix_of_multiplication o k →
    AreSummands o (length (digits_of c)) k c l q c' l' q' (column m 0) (column m 1) (column m 2)
planes_summands o k c l q c' l' q' m h h' element em = record {
  planes = h;
  others = h';
  scalar = element;
  to_constant = column_is o k 0 m em;
  to_linear = column_is o k 1 m em;
  to_quadratic = column_is o k 2 m em;
}

-- the row of the planes after
pub summed_row_of_planes : (o : Order) (n k : ℕ) (c l q c' l' q' c2 l2 q2 : Plane) (f0 f1 f2 : List ℕ) → AreSummands o n k c l q c' l' q' f0 f1 f2 →
    IsSummed c f0 c' l' q' c2 → IsSummed l f1 c' l' q' l2 → IsSummed q f2 c' l' q' q2 →
    row_of_planes o c2 l2 q2 ≡ row_with_multiple (row_of_planes o c l q) k (row_of_planes o c' l' q')
summed_row_of_planes o n k c l q c' l' q' c2 l2 q2 f0 f1 f2 h hc hl hq =
    ap (λ (x : List ℕ). record { order = o; entries = x }) (summed_entries o n k c l q c' l' q' c2 l2 q2 f0 f1 f2 h hc hl hq)

-- the same, where the other row is over the same field
pub row_of_sum : (o r : Order) (k : ℕ) (c l q c' l' q' : Plane) (after self other : RowValue) →
    after ≡ row_with_multiple (row_of_planes o c l q) k (row_of_planes o c' l' q') →
    row_of_planes o c l q ≡ self → row_of_planes r c' l' q' ≡ other → other.order ≡ self.order →
    after ≡ row_with_multiple self k other
row_of_sum o r k c l q c' l' q' after self other e self_is other_is orders =
    e ∙ ap (λ (s : RowValue). row_with_multiple s k (row_of_planes o c' l' q')) self_is
    ∙ ap (λ (t : RowValue). row_with_multiple self k t) (ap (λ w. row_of_planes w c' l' q') (sym same) ∙ other_is)
  where
    same : r ≡ o
    same = ap (λ (x : RowValue). x.order) other_is ∙ orders ∙ sym (ap (λ (x : RowValue). x.order) self_is)
