-- The planes that a row keeps, as planes of all three coefficients.
use Rattle.std.proofs.Common.{◌≡◌, ◌≢◌, ℕ, ◌<◌, List, [], length, set, cond, ltb, Box, Global, Some, None, MatchOption, Result, refl, sym, ap, subst, ◌∙◌, arith, lit<}
use Rattle.std.proofs.lemmas.List.{ext_get_or, length-map, length-set}
use Rattle.std.proofs.lemmas.List.Elements.{All-nil}
use Rattle.axe_algebra.specs.Lists.{entry}
use Rattle.axe_field.specs.Order.{Order, Two, Three, Four, Five, Seven, Eight, Nine, prime_of, degree_of, IsElement}
use Rattle.axe_field.specs.Planes.{matrix_of_multiplication}
use Rattle.axe_field.proofs.CoefficientLaws.{matrix_of_multiplication-first}
use Rattle.axe_lane.specs.Bytes as lane
use Rattle.axe_lane.specs.Bytes.{AreDigits}
use Rattle.axe_layer.proofs.DigitLaws.{length-digits_with_multiple}
use Rattle.axe_plane.specs.Planes.{prime_of_plane, digits_of, IsPlane, IsPlaneOf}
use Rattle.axe_plane.specs.declared.Plane.{Plane}
use Rattle.axe_row.specs.Combinations.{CombosValue}
use Rattle.axe_row.specs.HigherPlanes.{HigherPlanes, empty_plane, linear_of, quadratic_of, AreKeptPlanes}
use Rattle.axe_bits.specs.Combinations.{digits_with_multiples}
use Rattle.axe_row.specs.Planes.{ArePlanes}
use Rattle.axe_row.specs.Refusals.{Answers}
use Rattle.axe_row.specs.Rows.{RowValue}
use Rattle.axe_row.specs.declared.refusals.Refusal.{Refusal}
use Rattle.axe_row.specs.declared.higher.Higher.{Higher}
use Rattle.axe_row.proofs.RowLaws.{same_row}
use Rattle.axe_row.proofs.RowPlanes.{entries_of}
use Rattle.axe_row.proofs.PrimeRows.{one_plane_entries, other_order, coefficient_is}

-- ---- the plane of no digits

empty_prime : (o : Order) → prime_of_plane (empty_plane o) ≡ prime_of o
unfolding empty_plane
empty_prime Two = refl
empty_prime Three = refl
empty_prime Four = refl
empty_prime Five = refl
empty_prime Seven = refl
empty_prime Eight = refl
empty_prime Nine = refl

pub empty_digits : (o : Order) → digits_of (empty_plane o) ≡ []
unfolding empty_plane
empty_digits Two = refl
empty_digits Three = refl
empty_digits Four = refl
empty_digits Five = refl
empty_digits Seven = refl
empty_digits Eight = refl
empty_digits Nine = refl

empty_is : (o : Order) (n : ℕ) → n ≡ 0 → IsPlaneOf (prime_of o) n (empty_plane o)
empty_is o n none = record {
  prime = empty_prime o;
  long = ap length (empty_digits o) ∙ sym none;
  digits = subst (AreDigits (prime_of o)) (sym (empty_digits o)) (All-nil (λ x. x < prime_of o));
}

-- ---- over the prime fields

pub no_linear : (o : Order) (n : ℕ) → degree_of o ≡ 1 → cond (ltb 1 (degree_of o)) n 0 ≡ 0
no_linear Two n prime = refl
no_linear Three n prime = refl
no_linear Four n prime = absurd (omega arith)
no_linear Five n prime = refl
no_linear Seven n prime = refl
no_linear Eight n prime = absurd (omega arith)
no_linear Nine n prime = absurd (omega arith)

pub no_quadratic : (o : Order) (n : ℕ) → degree_of o ≡ 1 → cond (ltb 2 (degree_of o)) n 0 ≡ 0
no_quadratic Two n prime = refl
no_quadratic Three n prime = refl
no_quadratic Four n prime = absurd (omega arith)
no_quadratic Five n prime = refl
no_quadratic Seven n prime = refl
no_quadratic Eight n prime = absurd (omega arith)
no_quadratic Nine n prime = absurd (omega arith)

-- one plane is enough there
pub kept_alone : (o : Order) (n : ℕ) (c : Plane) → degree_of o ≡ 1 → IsPlaneOf (prime_of o) n c → AreKeptPlanes o n c None
kept_alone o n c prime h = record {
  planes = record {
    constant = h;
    linear = empty_is o _ (no_linear o n prime);
    quadratic = empty_is o _ (no_quadratic o n prime);
  };
  needed = prime;
}

-- ---- over the others

-- the coefficients of x are there
pub linear_is_there : (o : Order) (n : ℕ) → degree_of o ≢ 1 → cond (ltb 1 (degree_of o)) n 0 ≡ n
linear_is_there Two n degree = absurd (degree refl)
linear_is_there Three n degree = absurd (degree refl)
linear_is_there Four n degree = refl
linear_is_there Five n degree = absurd (degree refl)
linear_is_there Seven n degree = absurd (degree refl)
linear_is_there Eight n degree = refl
linear_is_there Nine n degree = refl

-- ---- which planes are kept

module _ (o : Order) (n : ℕ) (c : Plane) (higher : HigherPlanes) (h : AreKeptPlanes o n c higher) where
  -- where there is one plane alone
  pub alone_is_prime : higher ≡ None → degree_of o ≡ 1
  alone_is_prime is = subst (λ (x : HigherPlanes). MatchOption x (degree_of o ≡ 1) (λ planes. degree_of o ≢ 1)) is h.needed

  -- where the planes of x and x^2 are kept
  pub kept_not_prime : (kept : Box Higher Global) → higher ≡ Some kept → degree_of o ≢ 1
  kept_not_prime kept is = subst (λ (x : HigherPlanes). MatchOption x (degree_of o ≡ 1) (λ planes. degree_of o ≢ 1)) is h.needed

  pub kept_planes : (kept : Box Higher Global) (x y : Higher) → higher ≡ Some kept → x ≡ kept.value → y ≡ kept.value →
      ArePlanes o n c x.linear y.quadratic
  kept_planes kept x y is ex ey =
      subst (λ (z : Higher). ArePlanes o n c x.linear z.quadratic) (sym ey)
      (subst (λ (z : Higher). ArePlanes o n c z.linear kept.value.quadratic) (sym ex)
      (subst (λ (z : HigherPlanes). ArePlanes o n c (linear_of o z) (quadratic_of o z)) is h.planes))

-- a plane that is not kept has no digits
module _ (o : Order) (n : ℕ) (c : Plane) (higher : HigherPlanes) (h : AreKeptPlanes o n c higher) (is : higher ≡ None) where
  pub linear_is_empty : length (digits_of (linear_of o higher)) ≡ 0
  linear_is_empty = h.planes.linear.long ∙ no_linear o n (alone_is_prime o n c higher h is)

  pub quadratic_is_empty : length (digits_of (quadratic_of o higher)) ≡ 0
  quadratic_is_empty = h.planes.quadratic.long ∙ no_quadratic o n (alone_is_prime o n c higher h is)

-- a change that keeps the length leaves no digits as they are
nothing_else : (xs ys : List ℕ) → length ys ≡ length xs → length xs ≡ 0 → xs ≡ ys
nothing_else xs ys long none = ext_get_or 0 xs ys (sym long) (λ e inside. absurd (omega (arith, none)))

pub empty_set : (plane : Plane) (i d : ℕ) → length (digits_of plane) ≡ 0 → IsPlane (prime_of_plane plane) (set (digits_of plane) i d) plane
empty_set plane i d none = record { prime = refl; digits_are = nothing_else _ _ (length-set (digits_of plane) i d) none }

pub empty_multiple : (plane : Plane) (k : ℕ) → length (digits_of plane) ≡ 0 →
    IsPlane (prime_of_plane plane) (lane.multiple_modulo (prime_of_plane plane) k (digits_of plane)) plane
empty_multiple plane k none = record { prime = refl; digits_are = nothing_else _ _ (length-map (digits_of plane) _) none }

pub empty_sum : (plane : Plane) (factors u v w : List ℕ) → length (digits_of plane) ≡ 0 →
    IsPlane (prime_of_plane plane) (digits_with_multiples (prime_of_plane plane) (digits_of plane) factors u v w) plane
unfolding digits_with_multiples
empty_sum plane factors u v w none = record {
  prime = refl;
  digits_are = nothing_else _ _
      (length-digits_with_multiple _ _ _ w ∙ length-digits_with_multiple _ _ _ v ∙ length-digits_with_multiple _ (digits_of plane) _ u) none;
}

-- the row that they are seen as
pub kept_view : (o : Order) (c : Plane) (higher : HigherPlanes) (kept : Box Higher Global) (x y : Higher) (self : RowValue) →
    record { order = o; entries = entries_of o c (linear_of o higher) (quadratic_of o higher) } ≡ self → higher ≡ Some kept →
    x ≡ kept.value → y ≡ kept.value → record { order = o; entries = entries_of o c x.linear y.quadratic } ≡ self
kept_view o c higher kept x y self self_is is ex ey =
    subst (λ (z : Higher). record { order = o; entries = entries_of o c x.linear z.quadratic } ≡ self) (sym ey)
    (subst (λ (z : Higher). record { order = o; entries = entries_of o c z.linear kept.value.quadratic } ≡ self) (sym ex)
    (subst (λ (z : HigherPlanes). record { order = o; entries = entries_of o c (linear_of o z) (quadratic_of o z) } ≡ self) is self_is))

-- over a prime field the first plane has the entries as its digits
pub prime_entries : (o : Order) (c : Plane) (higher : HigherPlanes) (self : RowValue) → AreKeptPlanes o (length (digits_of c)) c higher →
    record { order = o; entries = entries_of o c (linear_of o higher) (quadratic_of o higher) } ≡ self → degree_of self.order ≡ 1 →
    digits_of c ≡ self.entries
prime_entries o c higher self h self_is prime =
    one_plane_entries o (degree_of o) c (linear_of o higher) (quadratic_of o higher) self refl
    (ap (λ (r : RowValue). degree_of r.order) self_is ∙ prime) h.planes self_is

-- one plane alone has the entries as its digits
pub alone_entries : (o : Order) (c : Plane) (higher : HigherPlanes) (self : RowValue) → AreKeptPlanes o (length (digits_of c)) c higher →
    record { order = o; entries = entries_of o c (linear_of o higher) (quadratic_of o higher) } ≡ self → higher ≡ None →
    digits_of c ≡ self.entries
alone_entries o c higher self h self_is is =
    one_plane_entries o (degree_of o) c (linear_of o higher) (quadratic_of o higher) self refl (alone_is_prime o _ c higher h is) h.planes self_is

pub alone_row : (o : Order) (c : Plane) (higher : HigherPlanes) (self : RowValue) → AreKeptPlanes o (length (digits_of c)) c higher →
    record { order = o; entries = entries_of o c (linear_of o higher) (quadratic_of o higher) } ≡ self → higher ≡ None →
    record { order = o; entries = digits_of c } ≡ self
alone_row o c higher self h self_is is =
    same_row (record { order = o; entries = digits_of c }) self (ap (λ (r : RowValue). r.order) self_is) (alone_entries o c higher self h self_is is)

-- two rows of one plane alone are equal where their planes are
others_alone : (o r : Order) (n : ℕ) (c : Plane) (others : HigherPlanes) → AreKeptPlanes r n c others → degree_of o ≡ 1 → o ≡ r → others ≡ None
others_alone o r n c None h prime orders = refl
others_alone o r n c (Some kept) h prime orders = absurd (h.needed (sym (ap degree_of orders) ∙ prime))

pub alone_same : (o r : Order) (c c' : Plane) (higher others : HigherPlanes) (self other : RowValue) →
    AreKeptPlanes o (length (digits_of c)) c higher → AreKeptPlanes r (length (digits_of c')) c' others →
    record { order = o; entries = entries_of o c (linear_of o higher) (quadratic_of o higher) } ≡ self →
    record { order = r; entries = entries_of r c' (linear_of r others) (quadratic_of r others) } ≡ other →
    higher ≡ None → o ≡ r → c ≡ c' → self ≡ other
alone_same o r c c' higher others self other h h' self_is other_is is orders same =
    sym (alone_row o c higher self h self_is is)
    ∙ ap (λ s. record { order = s; entries = digits_of c }) orders ∙ ap (λ (x : Plane). record { order = r; entries = digits_of x }) same
    ∙ alone_row r c' others other h' other_is (others_alone o r _ c' others h' (alone_is_prime o _ c higher h is) orders)

-- the field of a row of one plane alone
pub alone_order : (o : Order) (n : ℕ) (c : Plane) (higher : HigherPlanes) (entries : List ℕ) (self : RowValue) → AreKeptPlanes o n c higher →
    record { order = o; entries = entries } ≡ self → higher ≡ None → degree_of self.order ≡ 1
alone_order o n c higher entries self h self_is is =
    ap (λ (r : RowValue). degree_of r.order) (sym self_is) ∙ alone_is_prime o n c higher h is

-- where another row of the field keeps one plane alone
pub other_alone : (o r : Order) (n : ℕ) (c c' : Plane) (higher others : HigherPlanes) (self other : RowValue) → AreKeptPlanes r n c' others →
    record { order = o; entries = entries_of o c (linear_of o higher) (quadratic_of o higher) } ≡ self →
    record { order = r; entries = entries_of r c' (linear_of r others) (quadratic_of r others) } ≡ other →
    other.order ≡ self.order → others ≡ None → degree_of o ≡ 1
other_alone o r n c c' higher others self other h self_is other_is orders is =
    ap degree_of (sym (other_order o r c (linear_of o higher) (quadratic_of o higher) c' (linear_of r others) (quadratic_of r others) self other self_is other_is orders)) ∙ alone_is_prime r n c' others h is

-- a table's row keeps one plane alone where a row of its field does
pub row_alone : (o r : Order) (n size len : ℕ) (rows : List (List ℕ)) (c' : Plane) (others : HigherPlanes) (self : CombosValue) {other : RowValue} →
    AreKeptPlanes r n c' others → record { order = o; size = size; len = len; rows = rows } ≡ self →
    record { order = r; entries = entries_of r c' (linear_of r others) (quadratic_of r others) } ≡ other →
    other.order ≡ self.order → others ≡ None → degree_of o ≡ 1
row_alone o r n size len rows c' others self {other} h self_is other_is orders is =
    ap degree_of (ap (λ (t : CombosValue). t.order) self_is ∙ sym orders ∙ sym (ap (λ (s : RowValue). s.order) other_is))
    ∙ alone_is_prime r n c' others h is

-- over a prime field the first coefficient of an element is the element
pub first_factor : (o : Order) (k : ℕ) → degree_of o ≡ 1 → IsElement o k → entry (matrix_of_multiplication o k) 0 0 ≡ k
first_factor o k one element = matrix_of_multiplication-first o k 0 element (lit< tt) ∙ coefficient_is o k one element

-- ---- rows as answers

-- an answer that is one row is any other that is equal to it
pub same_answer : (r : Result RowValue Refusal) (a b : RowValue) → a ≡ b → Answers None (λ (row : RowValue). row ≡ a) r →
    Answers None (λ (row : RowValue). row ≡ b) r
same_answer r a b e h = subst (λ (x : RowValue). Answers None (λ (row : RowValue). row ≡ x) r) e h
