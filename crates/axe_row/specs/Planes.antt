-- What a row keeps: the planes of the coefficients of 1, x and x^2 of its entries.
use Rattle.std.specs.Prelude.{◌≢◌, ◌≡◌, ℕ, ◌<◌, List, [], ◌∷◌, length, map, slice_index, cond, ltb}
use Rattle.axe_algebra.specs.Lists.{entry, listed}
use Rattle.axe_field.specs.Order.{Order, prime_of, degree_of}
use Rattle.axe_field.specs.Planes.{coefficient, element_of}
use Rattle.axe_lane.specs.Entries.{AreZerosBefore}
use Rattle.axe_lane.specs.Bytes.{AreDigits}
use Rattle.axe_plane.specs.Planes.{prime_of_plane, digits_of, IsPlaneOf}
use Rattle.axe_plane.specs.declared.Plane.{Plane}

-- entry e is the element whose coefficients are the digits at e (0 where there is no digit)
unfoldable pub entries_of_digits : Order → List ℕ → List ℕ → List ℕ → List ℕ
entries_of_digits o c l q = listed (length c) (λ e. element_of o (slice_index c e) (slice_index l e) (slice_index q e))

-- the coefficients of x^j of these elements: none from the degree of the field on
abbrev pub coefficients_at : Order → ℕ → List ℕ → List ℕ
coefficients_at o j elements = cond (ltb j (degree_of o)) (map (λ a. coefficient o a j) elements) []

-- the planes of a row of n entries: those from the degree of the field on have no digits
pub record ArePlanes (o : Order) (n : ℕ) (c l q : Plane) : Type 0 where
  pub constant : IsPlaneOf (prime_of o) n c
  pub linear : IsPlaneOf (prime_of o) (cond (ltb 1 (degree_of o)) n 0) l
  pub quadratic : IsPlaneOf (prime_of o) (cond (ltb 2 (degree_of o)) n 0) q

-- a multiple of a plane may be added to this one
pub record IsAddable (plane : Plane) (factor : ℕ) (other : Plane) : Type 0 where
  pub prime : prime_of_plane other ≡ prime_of_plane plane
  pub factor_is_digit : factor < prime_of_plane plane
  pub fits : factor ≢ 0 → length (digits_of other) ≡ length (digits_of plane)

-- multiples of three planes may be added to this one
pub record AreAddable (plane : Plane) (factors : List ℕ) (c l q : Plane) : Type 0 where
  pub digits : AreDigits (prime_of_plane plane) (digits_of plane)
  pub constant : IsAddable plane (slice_index factors 0) c
  pub linear : IsAddable plane (slice_index factors 1) l
  pub quadratic : IsAddable plane (slice_index factors 2) q

-- the digits of three planes before an index are 0
pub record HaveZerosBefore (index : ℕ) (c l q : Plane) : Type 0 where
  pub constant : AreZerosBefore (digits_of c) index
  pub linear : AreZerosBefore (digits_of l) index
  pub quadratic : AreZerosBefore (digits_of q) index

-- the planes after are those before, moved to the next powers of x, and that of the highest power, 1 or 2, is that of
-- the constants
pub record AreRotated (degree : ℕ) (c l q c' l' q' : Plane) : Type 0 where
  pub linear : l' ≡ c
  pub by_three : degree ≡ 3 → (c' ≡ q) × (q' ≡ l)
  pub by_two : degree ≢ 3 → (c' ≡ l) × (q' ≡ q)

-- the column j of a matrix of three rows
abbrev pub column : List (List ℕ) → ℕ → List ℕ
column m j = entry m 0 j ∷ entry m 1 j ∷ entry m 2 j ∷ []
