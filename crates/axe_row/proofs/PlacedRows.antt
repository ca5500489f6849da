-- Sums of rows at a place of a row: a row whose one plane has the digits of the sum there, and zeros elsewhere.
use Rattle.std.proofs.Common.{◌≡◌, ℕ, ◌+◌, ◌≤◌, List, None, length, refl, sym, ap, ◌∙◌, arith}
use Rattle.axe_field.specs.Order.{Order, prime_of, degree_of}
use Rattle.axe_field.proofs.Orders.{one_is_element}
use Rattle.axe_layer.specs.Digits.{digits_with_multiple}
use Rattle.axe_plane.specs.Planes.{prime_of_plane, digits_of, IsPlane}
use Rattle.axe_plane.specs.Primes.{byte_prime, ByteDigits}
use Rattle.axe_plane.specs.Sums.{placed, plane_of_sums}
use Rattle.axe_plane.specs.declared.Plane.{Plane}
use Rattle.axe_plane.proofs.PlacedDigits.{length-placed, AreDigits-placed}
use Rattle.axe_row.specs.HigherPlanes.{HigherPlanes, linear_of, quadratic_of, AreKeptPlanes}
use Rattle.axe_row.specs.Operations.{row_with_multiple}
use Rattle.axe_row.specs.Rows.{RowValue}
use Rattle.axe_row.specs.Sums.{placed_row}
use Rattle.axe_row.proofs.KeptPlanes.{alone_is_prime, kept_alone, other_alone}
use Rattle.axe_row.proofs.PrimeRows.{one_plane, other_order, prime_planes_sum, prime_row_sum}
use Rattle.axe_row.proofs.RowPlanes.{entries_of, length_of_row, prime-positive, with_length}

-- the digits of sums at a place, as sums
abbrev pub placed_sums : ℕ → ℕ → ByteDigits → ByteDigits
placed_sums n start sums = record { prime = sums.prime; digits = placed n start sums.digits }

-- they are the one plane that a row of n entries keeps
pub placed_planes : (o : Order) (n start : ℕ) (sums : ByteDigits) →
    AreKeptPlanes o (length sums.digits) (plane_of_sums sums) None →
    AreKeptPlanes o n (plane_of_sums (placed_sums n start sums)) None
placed_planes o n start sums h =
    kept_alone o n (plane_of_sums (placed_sums n start sums)) (alone_is_prime o _ _ None h refl) (record {
      prime = h.planes.constant.prime;
      long = length-placed n start sums.digits;
      digits = AreDigits-placed (prime_of o) n start sums.digits h.planes.constant.digits (prime-positive o);
    })

-- and that row has the entries of the sum at that place
pub placed_view : (o : Order) (n start : ℕ) (sums : ByteDigits) (sum : RowValue) →
    AreKeptPlanes o (length sums.digits) (plane_of_sums sums) None →
    record { order = o; entries = entries_of o (plane_of_sums sums) (linear_of o None) (quadratic_of o None) } ≡ sum →
    record {
      order = o;
      entries = entries_of o (plane_of_sums (placed_sums n start sums)) (linear_of o None) (quadratic_of o None);
    } ≡ placed_row n start sum
placed_view o n start sums sum h is =
    let one = alone_is_prime o _ _ None h refl in
    ap (λ (x : List ℕ). record { order = o; entries = x })
    (one_plane o n (plane_of_sums (placed_sums n start sums)) _ _ one (placed_planes o n start sums h).planes
    ∙ ap (placed n start) (sym (one_plane o _ (plane_of_sums sums) _ _ one h.planes)))
    ∙ ap (placed_row n start) is

-- ---- a row to which a sum is added from an index on

module _ (o r : Order) (start : ℕ) (c : Plane) (higher : HigherPlanes) (sums : ByteDigits) (row sum : RowValue)
    (kept : AreKeptPlanes o (length (digits_of c)) c higher)
    (sums_kept : AreKeptPlanes r (length sums.digits) (plane_of_sums sums) None)
    (row_is : record { order = o; entries = entries_of o c (linear_of o higher) (quadratic_of o higher) } ≡ row)
    (sum_is : record {
      order = r;
      entries = entries_of r (plane_of_sums sums) (linear_of r None) (quadratic_of r None);
    } ≡ sum)
    (orders : sum.order ≡ row.order) where
  -- both are over one field
  same_field : r ≡ o
  same_field =
      other_order o r c (linear_of o higher) (quadratic_of o higher) (plane_of_sums sums) (linear_of r None)
      (quadratic_of r None) row sum row_is sum_is orders

  -- where a row keeps one plane, as the sum does
  one : degree_of o ≡ 1
  one = other_alone o r _ c (plane_of_sums sums) higher None row sum sums_kept row_is sum_is orders refl

  -- the row has as many entries as its plane has digits
  row_long : length row.entries ≡ length (digits_of c)
  row_long = length_of_row o c (linear_of o higher) (quadratic_of o higher) row row_is

  -- and so has the sum
  sum_long : length sum.entries ≡ length sums.digits
  sum_long = length_of_row r (plane_of_sums sums) (linear_of r None) (quadratic_of r None) sum sum_is

  -- the planes are modulo one prime
  pub same_prime : byte_prime sums.prime ≡ prime_of_plane c
  same_prime = sums_kept.planes.constant.prime ∙ ap prime_of same_field ∙ sym kept.planes.constant.prime

  -- the digits stand within the row's
  pub place_within : start + length sum.entries ≤ length row.entries → start + length sums.digits ≤ length (digits_of c)
  place_within within = omega (arith, within, row_long, sum_long)

  -- what the row keeps after
  pub kept_with : (digits : List ℕ) (after : Plane) →
      IsPlane (prime_of_plane c) (digits_with_multiple (prime_of_plane c) (digits_of c) 1 digits) after →
      AreKeptPlanes o (length (digits_of after)) after higher
  kept_with digits after summed = record {
    planes =
        with_length _ _ _ _ _
        (prime_planes_sum o _ 1 c _ _ (plane_of_sums (record { prime = sums.prime; digits = digits })) after one
        kept.planes summed);
    needed = kept.needed;
  }

  -- the row after
  pub row_with_placed : (after : Plane) →
      IsPlane (prime_of_plane c) (digits_with_multiple (prime_of_plane c) (digits_of c) 1
      (placed (length (digits_of c)) start sums.digits)) after →
      ◌≡◌ {A = RowValue}
      (record { order = o; entries = entries_of o after (linear_of o higher) (quadratic_of o higher) })
      (row_with_multiple row 1 (placed_row (length row.entries) start sum))
  row_with_placed after summed =
      prime_row_sum o r 1 _ c _ _ (plane_of_sums (placed_sums (length (digits_of c)) start sums)) _ _ after row
      (placed_row (length (digits_of c)) start sum) refl one kept.planes
      (with_length _ _ _ _ _ (placed_planes r (length (digits_of c)) start sums sums_kept).planes)
      row_is (placed_view r (length (digits_of c)) start sums sum sums_kept sum_is) orders (one_is_element _) summed
      ∙ ap (λ m. row_with_multiple row 1 (placed_row m start sum)) (sym row_long)
