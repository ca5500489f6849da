-- Rows that are made of their elements, plane by plane.
use Rattle.std.proofs.Common.{◌≡◌, ◌≢◌, ℕ, zero, suc, ◌/◌, ◌%◌, ◌^◌, ◌<◌, Bool, true, false, List, [], ◌∷◌, length, get_or, map, cond, ltb, Result, Ok, Err, IfOk, refl, sym, ap, ap₂, subst, ◌∙◌, arith, lit<}
use Rattle.std.specs.List.{All}
use Rattle.std.proofs.lemmas.Bool.{lt-ltb}
use Rattle.std.proofs.lemmas.List.{ext_get_or, get_or-map, length-map}
use Rattle.std.proofs.lemmas.List.Elements.{All-map, All-nil}
use Rattle.axe_field.specs.Arithmetic.{polynomial_of, coefficients}
use Rattle.axe_field.specs.Order.{Order, Two, Three, Four, Five, Seven, Eight, Nine, prime_of, degree_of, IsElement}
use Rattle.axe_field.specs.Planes.{coefficient, element_of}
use Rattle.axe_field.proofs.CoefficientLaws.{coefficient-below, element_of-coefficients}
use Rattle.axe_lane.specs.Bytes.{AreDigits}
use Rattle.axe_layer.specs.Digits.{digits_at}
use Rattle.axe_plane.specs.Planes.{digits_of, IsPlane, IsPlaneOf}
use Rattle.axe_plane.specs.declared.Plane.{Plane}
use Rattle.axe_row.specs.Planes.{ArePlanes, coefficients_at}
use Rattle.axe_row.specs.Rows.{RowValue}
use Rattle.axe_row.proofs.PrimeRows.{coefficient_is}
use Rattle.axe_row.proofs.RowPlanes.{entries_of, length-entries, entries-at, constant_is_there}

-- the coefficients of an element are the digits of its number
digit_is_coefficient : (o : Order) (a j : ℕ) → j < degree_of o → coefficient o a j ≡ (a / prime_of o ^ j) % prime_of o
unfolding polynomial_of coefficients
digit_is_coefficient Two a zero h = omega arith
digit_is_coefficient Two a (suc j) h = absurd (omega arith)
digit_is_coefficient Three a zero h = omega arith
digit_is_coefficient Three a (suc j) h = absurd (omega arith)
digit_is_coefficient Four a zero h = omega arith
digit_is_coefficient Four a (suc zero) h = omega arith
digit_is_coefficient Four a (suc (suc j)) h = absurd (omega arith)
digit_is_coefficient Five a zero h = omega arith
digit_is_coefficient Five a (suc j) h = absurd (omega arith)
digit_is_coefficient Seven a zero h = omega arith
digit_is_coefficient Seven a (suc j) h = absurd (omega arith)
digit_is_coefficient Eight a zero h = omega arith
digit_is_coefficient Eight a (suc zero) h = omega arith
digit_is_coefficient Eight a (suc (suc zero)) h = omega arith
digit_is_coefficient Eight a (suc (suc (suc j))) h = absurd (omega arith)
digit_is_coefficient Nine a zero h = omega arith
digit_is_coefficient Nine a (suc zero) h = omega arith
digit_is_coefficient Nine a (suc (suc j)) h = absurd (omega arith)

pub digits_are_coefficients : (o : Order) (j : ℕ) (elements : List ℕ) → j < degree_of o →
    digits_at (prime_of o) j elements ≡ map (λ a. coefficient o a j) elements
digits_are_coefficients o j elements h =
    map-same elements (λ a. (a / prime_of o ^ j) % prime_of o) (λ a. coefficient o a j) (λ a. sym (digit_is_coefficient o a j h))
  where
    map-same : (xs : List ℕ) (f g : ℕ → ℕ) → ((a : ℕ) → f a ≡ g a) → map f xs ≡ map g xs
    map-same [] f g same = refl
    map-same (x ∷ xs) f g same = ap₂ (λ y rest. y ∷ rest) (same x) (map-same xs f g same)

-- a plane of an odd prime is of degree at most 2
pub odd_degree : (o : Order) (j : ℕ) → j < degree_of o → prime_of o ≢ 2 → j < 2
odd_degree Two j h odd = absurd (odd refl)
odd_degree Three j h odd = omega arith
odd_degree Four j h odd = absurd (odd refl)
odd_degree Five j h odd = omega arith
odd_degree Seven j h odd = omega arith
odd_degree Eight j h odd = absurd (odd refl)
odd_degree Nine j h odd = omega arith

coefficient_in : (b : Bool) (o : Order) (j e : ℕ) (elements : List ℕ) → e < length elements →
    coefficient o (get_or elements e 0) j < cond b (prime_of o) 1 →
    get_or (cond b (map (λ a. coefficient o a j) elements) []) e 0 ≡ coefficient o (get_or elements e 0) j
coefficient_in true o j e elements inside below = get_or-map (λ a. coefficient o a j) elements e 0 0 inside
coefficient_in false o j e elements inside below = omega arith

coefficient_of : (o : Order) (j e : ℕ) (elements : List ℕ) → j < 3 → e < length elements → All (IsElement o) elements →
    get_or (coefficients_at o j elements) e 0 ≡ coefficient o (get_or elements e 0) j
coefficient_of o j e elements hj inside all =
    coefficient_in (ltb j (degree_of o)) o j e elements inside (coefficient-below o (get_or elements e 0) j (all e 0 inside) hj)

long_in : (b : Bool) (f : ℕ → ℕ) (elements : List ℕ) → length (cond b (map f elements) []) ≡ cond b (length elements) 0
long_in true f elements = length-map elements f
long_in false f elements = refl

below_in : (b : Bool) (p : ℕ) (f : ℕ → ℕ) (elements : List ℕ) → ((e d : ℕ) → e < length elements → f (get_or elements e d) < cond b p 1) →
    AreDigits p (cond b (map f elements) [])
below_in true p f elements below = All-map (λ x. x < p) f elements below
below_in false p f elements below = All-nil (λ x. x < p)

plane_of_elements : (o : Order) (j : ℕ) (elements : List ℕ) (plane : Plane) → j < 3 → All (IsElement o) elements →
    IsPlane (prime_of o) (coefficients_at o j elements) plane → IsPlaneOf (prime_of o) (cond (ltb j (degree_of o)) (length elements) 0) plane
plane_of_elements o j elements plane hj all h = record {
  prime = h.prime;
  long = ap length h.digits_are ∙ long_in (ltb j (degree_of o)) (λ a. coefficient o a j) elements;
  digits =
      subst (AreDigits (prime_of o)) (sym h.digits_are)
      (below_in (ltb j (degree_of o)) (prime_of o) (λ a. coefficient o a j) elements
      (λ e d inside. coefficient-below o (get_or elements e d) j (all e d inside) hj));
}

pub planes_of_elements : (o : Order) (elements : List ℕ) (c l q : Plane) → All (IsElement o) elements →
    IsPlane (prime_of o) (coefficients_at o 0 elements) c → IsPlane (prime_of o) (coefficients_at o 1 elements) l →
    IsPlane (prime_of o) (coefficients_at o 2 elements) q → ArePlanes o (length elements) c l q
planes_of_elements o elements c l q all hc hl hq = record {
  constant =
      subst (λ n. IsPlaneOf (prime_of o) n c) (constant_is_there o (length elements)) (plane_of_elements o 0 elements c (lit< tt) all hc);
  linear = plane_of_elements o 1 elements l (lit< tt) all hl;
  quadratic = plane_of_elements o 2 elements q (lit< tt) all hq;
}

pub entries_of_elements : (o : Order) (elements : List ℕ) (c l q : Plane) → All (IsElement o) elements →
    IsPlane (prime_of o) (coefficients_at o 0 elements) c → IsPlane (prime_of o) (coefficients_at o 1 elements) l →
    IsPlane (prime_of o) (coefficients_at o 2 elements) q → entries_of o c l q ≡ elements
entries_of_elements o elements c l q all hc hl hq =
    let planes = planes_of_elements o elements c l q all hc hl hq in
    let long = length-entries o (digits_of c) (digits_of l) (digits_of q) in
    ext_get_or 0 (entries_of o c l q) elements (long ∙ planes.constant.long) (λ e inside.
    let here : e < length (digits_of c) = omega (arith, long) in
    let there : e < length elements = omega (arith, planes.constant.long) in
    let digit : (j : ℕ) (plane : Plane) → j < 3 → IsPlane (prime_of o) (coefficients_at o j elements) plane →
    get_or (digits_of plane) e 0 ≡ coefficient o (get_or elements e 0) j =
    λ j plane hj h. ap (λ (x : List ℕ). get_or x e 0) h.digits_are ∙ coefficient_of o j e elements hj there all in
    entries-at o (digits_of c) (digits_of l) (digits_of q) e 0 here
    ∙ ap (λ x. element_of o x (get_or (digits_of l) e 0) (get_or (digits_of q) e 0)) (digit 0 c (lit< tt) hc)
    ∙ ap₂ (element_of o (coefficient o (get_or elements e 0) 0)) (digit 1 l (lit< tt) hl) (digit 2 q (lit< tt) hq)
    ∙ element_of-coefficients o (get_or elements e 0) (all e 0 there))

-- the row of these planes is that of the elements
pub row_of_elements : (o : Order) (elements : List ℕ) (c l q : Plane) → All (IsElement o) elements →
    IsPlane (prime_of o) (coefficients_at o 0 elements) c → IsPlane (prime_of o) (coefficients_at o 1 elements) l →
    IsPlane (prime_of o) (coefficients_at o 2 elements) q →
    ◌≡◌ {A = RowValue} (record { order = o; entries = entries_of o c l q }) (record { order = o; entries = elements })
row_of_elements o elements c l q all hc hl hq =
    ap (λ (x : List ℕ). record { order = o; entries = x }) (entries_of_elements o elements c l q all hc hl hq)

-- over a prime field the elements are the digits of one plane
pub prime_elements : (o : Order) (elements : List ℕ) → degree_of o ≡ 1 → All (IsElement o) elements → coefficients_at o 0 elements ≡ elements
prime_elements o elements one all =
    let long : length (coefficients_at o 0 elements) ≡ length elements =
    long_in (ltb 0 (degree_of o)) (λ a. coefficient o a 0) elements ∙ constant_is_there o (length elements) in
    ext_get_or 0 (coefficients_at o 0 elements) elements long (λ e inside.
    let here : e < length elements = omega (arith, long) in
    coefficient_of o 0 e elements (lit< tt) here all ∙ coefficient_is o (get_or elements e 0) one (all e 0 here))

pub prime_plane_of_elements : (o : Order) (elements : List ℕ) (plane : Plane) → All (IsElement o) elements →
    IsPlane (prime_of o) (coefficients_at o 0 elements) plane → IsPlaneOf (prime_of o) (length (digits_of plane)) plane
prime_plane_of_elements o elements plane all h =
    let whole = plane_of_elements o 0 elements plane (lit< tt) all h in
    record { prime = whole.prime; long = refl; digits = whole.digits }

-- a plane of the digits of elements
made_of_numbers : (o : Order) (p d j : ℕ) (elements : List ℕ) (plane : Plane) → p ≡ prime_of o → d ≡ degree_of o → j < d →
    IsPlane p (digits_at p j elements) plane → IsPlane (prime_of o) (coefficients_at o j elements) plane
made_of_numbers o p d j elements plane ep ed below h =
    let here : j < degree_of o = omega (arith, ed) in
    let there : coefficients_at o j elements ≡ map (λ a. coefficient o a j) elements =
    ap (λ b. cond b (map (λ a. coefficient o a j) elements) []) (lt-ltb j (degree_of o) here) in
    record {
      prime = h.prime ∙ ep;
      digits_are = h.digits_are ∙ ap (λ r. digits_at r j elements) ep ∙ digits_are_coefficients o j elements here ∙ sym there;
    }

pub place_is_low : (o : Order) (p d j : ℕ) → p ≡ prime_of o → d ≡ degree_of o → j < d → p ≢ 2 → j < 2
place_is_low o p d j ep ed below odd = odd_degree o j (omega (arith, ed)) (λ two. odd (ep ∙ two))

pub made_in : {E : Type 0} (r : Result Plane E) (o : Order) (p d j : ℕ) (elements : List ℕ) → p ≡ prime_of o → d ≡ degree_of o → j < d →
    IfOk r (IsPlane p (digits_at p j elements)) → IfOk r (IsPlane (prime_of o) (coefficients_at o j elements))
made_in (Ok plane) o p d j elements ep ed below h = made_of_numbers o p d j elements plane ep ed below h
made_in (Err error) o p d j elements ep ed below h = h
