-- Planes to which the planes of a multiple of another row are added at once.
use Rattle.std.proofs.Common.{◌≡◌, ◌≢◌, ℕ, ◌+◌, ◌/◌, ◌%◌, ◌<◌, Bool, true, ◌&&◌, eqb, List, [], ◌∷◌, length, get_or, refl, sym, ap, subst, ◌∙◌, arith}
use Rattle.std.proofs.lemmas.Bool.{and_parts, eqb-true}
use Rattle.axe_algebra.specs.Lists.{entry}
use Rattle.axe_bits.specs.Combinations.{digits_with_two, digits_with_multiples}
use Rattle.axe_field.specs.Arithmetic.{coefficients, polynomial_sum, polynomial_multiple, polynomial_negative, polynomial_product, without_leading, polynomial_remainder, polynomial_of}
use Rattle.axe_field.specs.CheckedLaws.{passes_below, at_one, from_one}
use Rattle.axe_field.specs.Order.{Order, Two, Three, Four, Five, Seven, Eight, Nine, order_number, prime_of, degree_of, IsElement}
use Rattle.axe_field.specs.Planes.{monomial, coefficients_of_multiple, matrix_of_multiplication}
use Rattle.axe_lane.specs.Multiples.{to_constant_of_two, to_linear_of_two, to_constant_of_three, to_linear_of_three, to_quadratic_of_three}
use Rattle.axe_layer.specs.Digits.{digits_with_multiple}
use Rattle.axe_layer.proofs.DigitLaws.{AreDigits-sum, digits_with_multiple-none}
use Rattle.axe_plane.specs.Planes.{prime_of_plane, digits_of, IsPlane, IsPlaneOf}
use Rattle.axe_plane.specs.declared.Plane.{Plane}
use Rattle.axe_plane.specs.declared.Plane.TheVariants.{Bits, Trits}
use Rattle.axe_plane.proofs.PlaneLaws.{prime_of_plane-positive}
use Rattle.axe_row.specs.MadePlanes.{row_of_planes}
use Rattle.axe_row.specs.Operations.{row_with_multiple}
use Rattle.axe_row.specs.Planes.{column, ArePlanes}
use Rattle.axe_row.proofs.PlaneSums.{column_is, summed_planes, summed_row_of_planes, AreSummands, IsColumn, IsSummed, IsSummed-none}
use Rattle.axe_row.proofs.RowPlanes.{no_quadratic}

-- ---- the fields by their orders

pub degree_of_two : (o : Order) → order_number o ≡ 2 → degree_of o ≡ 1
degree_of_two Two two = refl
degree_of_two Three two = absurd (omega arith)
degree_of_two Four two = absurd (omega arith)
degree_of_two Five two = absurd (omega arith)
degree_of_two Seven two = absurd (omega arith)
degree_of_two Eight two = absurd (omega arith)
degree_of_two Nine two = absurd (omega arith)

pub prime_of_two : (o : Order) → order_number o ≡ 2 → prime_of o ≡ 2
prime_of_two Two two = refl
prime_of_two Three two = absurd (omega arith)
prime_of_two Four two = absurd (omega arith)
prime_of_two Five two = absurd (omega arith)
prime_of_two Seven two = absurd (omega arith)
prime_of_two Eight two = absurd (omega arith)
prime_of_two Nine two = absurd (omega arith)

-- all others than four, eight and nine are prime
pub degree_of_prime : (o : Order) → order_number o ≢ 4 → order_number o ≢ 8 → order_number o ≢ 9 → degree_of o ≡ 1
degree_of_prime Two not_four not_eight not_nine = refl
degree_of_prime Three not_four not_eight not_nine = refl
degree_of_prime Four not_four not_eight not_nine = absurd (not_four refl)
degree_of_prime Five not_four not_eight not_nine = refl
degree_of_prime Seven not_four not_eight not_nine = refl
degree_of_prime Eight not_four not_eight not_nine = absurd (not_eight refl)
degree_of_prime Nine not_four not_eight not_nine = absurd (not_nine refl)

pub degree_of_four : (o : Order) → order_number o ≡ 4 → degree_of o ≡ 2
degree_of_four Two four = absurd (omega arith)
degree_of_four Three four = absurd (omega arith)
degree_of_four Four four = refl
degree_of_four Five four = absurd (omega arith)
degree_of_four Seven four = absurd (omega arith)
degree_of_four Eight four = absurd (omega arith)
degree_of_four Nine four = absurd (omega arith)

pub prime_of_four : (o : Order) → order_number o ≡ 4 → prime_of o ≡ 2
prime_of_four Two four = absurd (omega arith)
prime_of_four Three four = absurd (omega arith)
prime_of_four Four four = refl
prime_of_four Five four = absurd (omega arith)
prime_of_four Seven four = absurd (omega arith)
prime_of_four Eight four = absurd (omega arith)
prime_of_four Nine four = absurd (omega arith)

pub degree_of_nine : (o : Order) → order_number o ≡ 9 → degree_of o ≡ 2
degree_of_nine Two nine = absurd (omega arith)
degree_of_nine Three nine = absurd (omega arith)
degree_of_nine Four nine = absurd (omega arith)
degree_of_nine Five nine = absurd (omega arith)
degree_of_nine Seven nine = absurd (omega arith)
degree_of_nine Eight nine = absurd (omega arith)
degree_of_nine Nine nine = refl

pub prime_of_nine : (o : Order) → order_number o ≡ 9 → prime_of o ≡ 3
prime_of_nine Two nine = absurd (omega arith)
prime_of_nine Three nine = absurd (omega arith)
prime_of_nine Four nine = absurd (omega arith)
prime_of_nine Five nine = absurd (omega arith)
prime_of_nine Seven nine = absurd (omega arith)
prime_of_nine Eight nine = absurd (omega arith)
prime_of_nine Nine nine = refl

-- the one that is left has degree 3
pub degree_of_eight : (o : Order) → degree_of o ≢ 1 → order_number o ≢ 4 → order_number o ≢ 9 → degree_of o ≡ 3
degree_of_eight Two not_one not_four not_nine = absurd (not_one refl)
degree_of_eight Three not_one not_four not_nine = absurd (not_one refl)
degree_of_eight Four not_one not_four not_nine = absurd (not_four refl)
degree_of_eight Five not_one not_four not_nine = absurd (not_one refl)
degree_of_eight Seven not_one not_four not_nine = absurd (not_one refl)
degree_of_eight Eight not_one not_four not_nine = refl
degree_of_eight Nine not_one not_four not_nine = absurd (not_nine refl)

prime_of_cube : (o : Order) → degree_of o ≡ 3 → prime_of o ≡ 2
prime_of_cube Two three = absurd (omega arith)
prime_of_cube Three three = absurd (omega arith)
prime_of_cube Four three = absurd (omega arith)
prime_of_cube Five three = absurd (omega arith)
prime_of_cube Seven three = absurd (omega arith)
prime_of_cube Eight three = refl
prime_of_cube Nine three = absurd (omega arith)

-- ---- the columns of the matrix of the multiplication by an element are the factors of a multiple by it

has_column : Order → ℕ → ℕ → List ℕ → Bool
has_column o k j f =
    eqb (get_or f 0 0) (entry (matrix_of_multiplication o k) 0 j)
    && (eqb (get_or f 1 0) (entry (matrix_of_multiplication o k) 1 j) && eqb (get_or f 2 0) (entry (matrix_of_multiplication o k) 2 j))

is_column : (o : Order) (k j : ℕ) (f : List ℕ) → has_column o k j f ≡ true → IsColumn o k j f
unfolding has_column
is_column o k j f e =
    let all = and_parts (eqb (get_or f 0 0) (entry (matrix_of_multiplication o k) 0 j)) _ e in
    let rest = and_parts (eqb (get_or f 1 0) (entry (matrix_of_multiplication o k) 1 j)) _ all.1 in
    record { first = eqb-true _ _ all.0; second = eqb-true _ _ rest.0; third = eqb-true _ _ rest.1 }

-- over a field of degree 2 an element k is p + q x, where p and q are its digits, and x^2 has factor 0
has_columns_of_two : Order → ℕ → Bool
has_columns_of_two o k =
    has_column o k 0 (k % prime_of o ∷ k / prime_of o ∷ 0 ∷ [])
    && has_column o k 1 (k / prime_of o ∷ (k % prime_of o + k / prime_of o) % prime_of o ∷ 0 ∷ [])

has_columns_of_two-all : (o : Order) → degree_of o ≡ 2 → at_one has_columns_of_two o ≡ true
unfolding at_one passes_below has_columns_of_two has_column monomial coefficients_of_multiple matrix_of_multiplication coefficients polynomial_sum polynomial_multiple polynomial_negative polynomial_product without_leading polynomial_remainder polynomial_of
has_columns_of_two-all Two two = absurd (omega arith)
has_columns_of_two-all Three two = absurd (omega arith)
has_columns_of_two-all Four two = refl
has_columns_of_two-all Five two = absurd (omega arith)
has_columns_of_two-all Seven two = absurd (omega arith)
has_columns_of_two-all Eight two = absurd (omega arith)
has_columns_of_two-all Nine two = refl

-- over the field of degree 3 it is p + q x + r x^2
has_columns_of_three : Order → ℕ → Bool
has_columns_of_three o k =
    has_column o k 0 (to_constant_of_three (k % 2) (k / 2 % 2) (k / 4))
    && (has_column o k 1 (to_linear_of_three (k % 2) (k / 2 % 2) (k / 4))
    && has_column o k 2 (to_quadratic_of_three (k % 2) (k / 2 % 2) (k / 4)))

has_columns_of_three-all : (o : Order) → degree_of o ≡ 3 → at_one has_columns_of_three o ≡ true
unfolding at_one passes_below has_columns_of_three has_column monomial coefficients_of_multiple matrix_of_multiplication coefficients polynomial_sum polynomial_multiple polynomial_negative polynomial_product without_leading polynomial_remainder polynomial_of
has_columns_of_three-all Two three = absurd (omega arith)
has_columns_of_three-all Three three = absurd (omega arith)
has_columns_of_three-all Four three = absurd (omega arith)
has_columns_of_three-all Five three = absurd (omega arith)
has_columns_of_three-all Seven three = absurd (omega arith)
has_columns_of_three-all Eight three = refl
has_columns_of_three-all Nine three = absurd (omega arith)

-- ---- the sums

-- multiples of two lists are those of three, where the third has factor 0
two_of_three : (p : ℕ) (x a b c : List ℕ) (f g h : ℕ) → 0 < p → h ≡ 0 →
    digits_with_two p x (f ∷ g ∷ []) a b ≡ digits_with_multiples p x (f ∷ g ∷ h ∷ []) a b c
unfolding digits_with_two digits_with_multiples
two_of_three p x a b c f g h positive none = digits_with_multiple-none p _ h c positive none (AreDigits-sum p _ g b positive)

summed_of_two : (p f g h : ℕ) (plane c l q after : Plane) → h ≡ 0 → p ≡ prime_of_plane plane →
    IsPlane p (digits_with_two p (digits_of plane) (f ∷ g ∷ []) (digits_of c) (digits_of l)) after →
    IsSummed plane (f ∷ g ∷ h ∷ []) c l q after
summed_of_two p f g h plane c l q after none ep e = record {
  prime = e.prime ∙ ep;
  digits_are =
      e.digits_are
      ∙ ap (λ r. digits_with_two r (digits_of plane) (f ∷ g ∷ []) (digits_of c) (digits_of l)) ep
      ∙ two_of_three (prime_of_plane plane) (digits_of plane) (digits_of c) (digits_of l) (digits_of q) f g h
      (prime_of_plane-positive plane) none;
}

summed_of_three : (p : ℕ) (f : List ℕ) (plane c l q after : Plane) → p ≡ prime_of_plane plane →
    IsPlane p (digits_with_multiples p (digits_of plane) f (digits_of c) (digits_of l) (digits_of q)) after →
    IsSummed plane f c l q after
summed_of_three p f plane c l q after ep e = record {
  prime = e.prime ∙ ep;
  digits_are =
      e.digits_are ∙ ap (λ r. digits_with_multiples r (digits_of plane) f (digits_of c) (digits_of l) (digits_of q)) ep;
}

-- ---- a row to which a multiple by p + q x was added, over a field of degree 2

module _ (o : Order) (k p q : ℕ) (two : degree_of o ≡ 2) (element : IsElement o k) (p_is : p ≡ k % prime_of o) (q_is : q ≡ k / prime_of o) where
  columns_of_two : IsColumn o k 0 (p ∷ q ∷ 0 ∷ []) × IsColumn o k 1 (q ∷ (p + q) % prime_of o ∷ 0 ∷ [])
  unfolding has_columns_of_two
  columns_of_two =
      let parts = and_parts (has_column o k 0 (k % prime_of o ∷ k / prime_of o ∷ 0 ∷ [])) _
      (from_one has_columns_of_two o (has_columns_of_two-all o two) k element) in
      rw (p_is, q_is) (is_column o k 0 _ parts.0, is_column o k 1 _ parts.1)

  module _ (c l s c' l' s' c2 l2 : Plane) (h : ArePlanes o (length (digits_of c)) c l s) (h' : ArePlanes o (length (digits_of c)) c' l' s')
      (first : IsPlane (prime_of_plane c) (digits_with_two (prime_of_plane c) (digits_of c) (to_constant_of_two p q) (digits_of c') (digits_of l')) c2)
      (second : IsPlane (prime_of_plane c) (digits_with_two (prime_of_plane c) (digits_of l) (to_linear_of_two (prime_of_plane c) p q) (digits_of c') (digits_of l')) l2) where
    summands_of_two : AreSummands o (length (digits_of c)) k c l s c' l' s' (p ∷ q ∷ 0 ∷ []) (q ∷ (p + q) % prime_of_plane c ∷ 0 ∷ []) (column (matrix_of_multiplication o k) 2)
    summands_of_two = record {
      planes = h;
      others = h';
      scalar = element;
      to_constant = columns_of_two.0;
      to_linear = subst (λ r. IsColumn o k 1 (q ∷ (p + q) % r ∷ 0 ∷ [])) (sym h.constant.prime) columns_of_two.1;
      to_quadratic = column_is o k 2 _ refl;
    }

    first_summed : IsSummed c (p ∷ q ∷ 0 ∷ []) c' l' s' c2
    first_summed = summed_of_two _ p q 0 c c' l' s' c2 refl refl first

    second_summed : IsSummed l (q ∷ (p + q) % prime_of_plane c ∷ 0 ∷ []) c' l' s' l2
    second_summed = summed_of_two _ q _ 0 l c' l' s' l2 refl (h.constant.prime ∙ sym h.linear.prime) second

    third_summed : IsSummed s (column (matrix_of_multiplication o k) 2) c' l' s' s
    third_summed = IsSummed-none s c' l' s' _ (no_quadratic o _ s h.quadratic (λ three. omega (arith, three, two)))

    pub planes_with_two : ArePlanes o (length (digits_of c)) c2 l2 s
    planes_with_two = summed_planes o _ k c l s c' l' s' c2 l2 s _ _ _ summands_of_two first_summed second_summed third_summed

    pub row_with_two : row_of_planes o c2 l2 s ≡ row_with_multiple (row_of_planes o c l s) k (row_of_planes o c' l' s')
    row_with_two = summed_row_of_planes o _ k c l s c' l' s' c2 l2 s _ _ _ summands_of_two first_summed second_summed third_summed

-- ---- a row to which a multiple by p + q x + r x^2 was added, over the field of degree 3

module _ (o : Order) (k : ℕ) (three : degree_of o ≡ 3) (element : IsElement o k) (c l s c' l' s' c2 l2 s2 : Plane)
    (h : ArePlanes o (length (digits_of c)) c l s) (h' : ArePlanes o (length (digits_of c)) c' l' s')
    (first : IsPlane 2 (digits_with_multiples 2 (digits_of c) (to_constant_of_three (k % 2) (k / 2 % 2) (k / 4)) (digits_of c') (digits_of l') (digits_of s')) c2)
    (second : IsPlane 2 (digits_with_multiples 2 (digits_of l) (to_linear_of_three (k % 2) (k / 2 % 2) (k / 4)) (digits_of c') (digits_of l') (digits_of s')) l2)
    (third : IsPlane 2 (digits_with_multiples 2 (digits_of s) (to_quadratic_of_three (k % 2) (k / 2 % 2) (k / 4)) (digits_of c') (digits_of l') (digits_of s')) s2) where
  summands_of_three : AreSummands o (length (digits_of c)) k c l s c' l' s' (to_constant_of_three (k % 2) (k / 2 % 2) (k / 4))
      (to_linear_of_three (k % 2) (k / 2 % 2) (k / 4)) (to_quadratic_of_three (k % 2) (k / 2 % 2) (k / 4))
  unfolding has_columns_of_three
  summands_of_three =
      let all = and_parts (has_column o k 0 (to_constant_of_three (k % 2) (k / 2 % 2) (k / 4))) _
      (from_one has_columns_of_three o (has_columns_of_three-all o three) k element) in
      let rest = and_parts (has_column o k 1 (to_linear_of_three (k % 2) (k / 2 % 2) (k / 4))) _ all.1 in
      record {
        planes = h;
        others = h';
        scalar = element;
        to_constant = is_column o k 0 _ all.0;
        to_linear = is_column o k 1 _ rest.0;
        to_quadratic = is_column o k 2 _ rest.1;
      }

  even : (m : ℕ) (plane : Plane) → IsPlaneOf (prime_of o) m plane → 2 ≡ prime_of_plane plane
  even m plane own = sym (own.prime ∙ prime_of_cube o three)

  pub planes_with_three : ArePlanes o (length (digits_of c)) c2 l2 s2
  planes_with_three =
      summed_planes o _ k c l s c' l' s' c2 l2 s2 _ _ _ summands_of_three (summed_of_three 2 _ c c' l' s' c2 (even _ c h.constant) first)
      (summed_of_three 2 _ l c' l' s' l2 (even _ l h.linear) second) (summed_of_three 2 _ s c' l' s' s2 (even _ s h.quadratic) third)

  pub row_with_three : row_of_planes o c2 l2 s2 ≡ row_with_multiple (row_of_planes o c l s) k (row_of_planes o c' l' s')
  row_with_three =
      summed_row_of_planes o _ k c l s c' l' s' c2 l2 s2 _ _ _ summands_of_three (summed_of_three 2 _ c c' l' s' c2 (even _ c h.constant) first)
      (summed_of_three 2 _ l c' l' s' l2 (even _ l h.linear) second) (summed_of_three 2 _ s c' l' s' s2 (even _ s h.quadratic) third)

-- ---- planes modulo 2, by their digits

-- where the other digits are added
pub bits_with_one : {c a : Plane} {x y z : List ℕ} → c ≡ Bits x → a ≡ Bits y → z ≡ digits_with_multiple 2 x 1 y →
    IsPlane 2 (digits_with_multiple 2 (digits_of c) 1 (digits_of a)) (Bits z)
bits_with_one ec ea is = record {
  prime = refl;
  digits_are = is ∙ (λ i. digits_with_multiple 2 (digits_of (sym ec i)) 1 (digits_of (sym ea i)));
}

-- that is their multiple by 1
pub summed_by_one : (k : ℕ) (c a after : Plane) → prime_of_plane c ≡ 2 → k ≡ 1 →
    IsPlane 2 (digits_with_multiple 2 (digits_of c) 1 (digits_of a)) after →
    IsPlane (prime_of_plane c) (digits_with_multiple (prime_of_plane c) (digits_of c) k (digits_of a)) after
summed_by_one k c a after two one h = record {
  prime = h.prime ∙ sym two;
  digits_are = h.digits_are ∙ (λ i. digits_with_multiple (sym two i) (digits_of c) (sym one i) (digits_of a));
}

-- where multiples of two other lists are added, by factors that are given by the prime
pub bits_with_two : {c d a b : Plane} {x y u v z : List ℕ} (factors : ℕ → List ℕ) → c ≡ Bits x → d ≡ Bits y → a ≡ Bits u → b ≡ Bits v →
    z ≡ digits_with_two 2 y (factors 2) u v →
    IsPlane (prime_of_plane c) (digits_with_two (prime_of_plane c) (digits_of d) (factors (prime_of_plane c)) (digits_of a) (digits_of b)) (Bits z)
bits_with_two {c} {d} {a} {b} factors ec ed ea eb is = record {
  prime = sym (ap prime_of_plane ec);
  digits_are =
      is ∙ (λ i. digits_with_two (prime_of_plane (sym ec i)) (digits_of (sym ed i)) (factors (prime_of_plane (sym ec i))) (digits_of (sym ea i)) (digits_of (sym eb i)));
}

-- and of three
pub bits_with_three : {d a b e : Plane} {y u v w z : List ℕ} (factors : List ℕ) → d ≡ Bits y → a ≡ Bits u → b ≡ Bits v → e ≡ Bits w →
    z ≡ digits_with_multiples 2 y factors u v w →
    IsPlane 2 (digits_with_multiples 2 (digits_of d) factors (digits_of a) (digits_of b) (digits_of e)) (Bits z)
bits_with_three factors ed ea eb ee is = record {
  prime = refl;
  digits_are = is ∙ (λ i. digits_with_multiples 2 (digits_of (sym ed i)) factors (digits_of (sym ea i)) (digits_of (sym eb i)) (digits_of (sym ee i)));
}

-- ---- planes modulo 3, where multiples of two other lists are added

pub trits_with_two : {c d a b : Plane} {x y u v z : List ℕ} (factors : ℕ → List ℕ) → c ≡ Trits x → d ≡ Trits y → a ≡ Trits u → b ≡ Trits v →
    z ≡ digits_with_two 3 y (factors 3) u v →
    IsPlane (prime_of_plane c) (digits_with_two (prime_of_plane c) (digits_of d) (factors (prime_of_plane c)) (digits_of a) (digits_of b)) (Trits z)
trits_with_two {c} {d} {a} {b} factors ec ed ea eb is = record {
  prime = sym (ap prime_of_plane ec);
  digits_are =
      is ∙ (λ i. digits_with_two (prime_of_plane (sym ec i)) (digits_of (sym ed i)) (factors (prime_of_plane (sym ec i))) (digits_of (sym ea i)) (digits_of (sym eb i)));
}
