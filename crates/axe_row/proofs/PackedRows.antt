-- Rows over two elements as packed bytes.
use Rattle.std.proofs.Common.{◌≡◌, ℕ, ◌<◌, List, length, get_or, refl, sym, ap, subst, ◌∙◌, arith}
use Rattle.axe_algebra.specs.Lists.{listed}
use Rattle.axe_algebra.proofs.ListEntries.{listed_length, listed_at}
use Rattle.axe_field.specs.Order.{Order, Two, order_number, prime_of, degree_of}
use Rattle.axe_field.proofs.Orders.{order_number-injective}
use Rattle.axe_lane.specs.Bytes.{AreDigits}
use Rattle.axe_layer.specs.Packed.{packed_bit}
use Rattle.axe_layer.proofs.PackedWords.{packed_bit_below}
use Rattle.axe_plane.specs.Planes.{digits_of, IsPlane, IsPlaneOf}
use Rattle.axe_plane.specs.declared.Plane.{Plane}
use Rattle.axe_row.specs.Planes.{ArePlanes}
use Rattle.axe_row.specs.Rows.{RowValue}
use Rattle.axe_row.proofs.PrimeRows.{one_plane_at}
use Rattle.axe_row.proofs.RowPlanes.{entries_of}

AreDigits-packed : (n : ℕ) (bytes : List ℕ) → AreDigits 2 (listed n (packed_bit bytes))
AreDigits-packed n bytes e d inside =
    let small : e < n = omega (arith, listed_length n (packed_bit bytes)) in
    subst (λ x. x < 2) (sym (listed_at n (packed_bit bytes) e d small)) (packed_bit_below bytes e)

-- the field of two elements
order_is_two : (o r : Order) → o ≡ r → order_number r ≡ 2 → o ≡ Two
order_is_two o r same two = same ∙ order_number-injective r Two two

-- the plane of a row over two elements that is made of bits
pub packed_plane : (o : Order) (n : ℕ) (bytes : List ℕ) (c : Plane) → order_number o ≡ 2 → IsPlane 2 (listed n (packed_bit bytes)) c →
    IsPlaneOf (prime_of o) (length (digits_of c)) c
packed_plane o n bytes c two h = record {
  prime = h.prime ∙ sym (ap prime_of (order_is_two o o refl two));
  long = refl;
  digits =
      subst (λ p. AreDigits p (digits_of c)) (sym (ap prime_of (order_is_two o o refl two)))
      (subst (AreDigits 2) (sym h.digits_are) (AreDigits-packed n bytes));
}

pub one_degree : (o : Order) → order_number o ≡ 2 → degree_of o ≡ 1
one_degree o two = ap degree_of (order_is_two o o refl two)

-- the plane of the entries of a row over two elements
pub order_of_row : (o : Order) (c l q : Plane) (self : RowValue) → record { order = o; entries = entries_of o c l q } ≡ self →
    order_number self.order ≡ 2 → o ≡ Two
order_of_row o c l q self view_is two = order_is_two o self.order (ap (λ (r : RowValue). r.order) view_is) two

pub bit_is_entry : (o : Order) (c l q : Plane) (self : RowValue) (e : ℕ) → ArePlanes o (length (digits_of c)) c l q →
    record { order = o; entries = entries_of o c l q } ≡ self → order_number self.order ≡ 2 →
    get_or (digits_of c) e 0 ≡ get_or self.entries e 0
bit_is_entry o c l q self e h view_is two =
    one_plane_at o 1 e c l q self (sym (ap degree_of (order_of_row o c l q self view_is two))) refl h view_is
