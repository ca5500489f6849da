-- Sums of the rows of tables that pieces of a row name, by the numbers of the pieces of its one plane.
use Rattle.std.proofs.Common.{◌≡◌, ℕ, None, length, replicate, refl, subst, sym, ap, ap₂, ◌∙◌, arith}
use Rattle.axe_field.specs.Order.{Order, Two, Three, Four, Five, Seven, Eight, Nine, order_number, prime_of, degree_of}
use Rattle.axe_layer.specs.Digits.{number_from}
use Rattle.axe_plane.specs.Planes.{digits_of, IsPlane}
use Rattle.axe_plane.specs.Primes.{ByteDigits}
use Rattle.axe_plane.specs.Sums.{plane_of_sums}
use Rattle.axe_row.specs.Combinations.{CombosValue, IsRowFor, combination_at, piece_number, row_with_four}
use Rattle.axe_row.specs.HigherPlanes.{linear_of, quadratic_of, AreKeptPlanes}
use Rattle.axe_row.specs.Planes.{ArePlanes, entries_of_digits}
use Rattle.axe_row.specs.Rows.{RowValue}
use Rattle.axe_row.specs.Sums.{HasSums}
use Rattle.axe_row.proofs.KeptPlanes.{kept_alone}
use Rattle.axe_row.proofs.PlaneNumbers.{number_of_plane}
use Rattle.axe_row.proofs.RowPlanes.{entries_of, prime-positive, zero_plane_along}
use Rattle.axe_plane.specs.declared.Plane.{Plane}
use Rattle.axe_plane.proofs.PlaneLaws.{plane_of_zeros}

-- over the field of another row, which is prime, a piece's number is that of its digits
pub piece_of_plane : (o own : Order) (q size at : ℕ) (c l k : Plane) (of self : RowValue) → ArePlanes o (length (digits_of c)) c l k →
    record { order = o; entries = entries_of_digits o (digits_of c) (digits_of l) (digits_of k) } ≡ of → of.order ≡ self.order → own ≡ self.order →
    q ≡ order_number own → degree_of own ≡ 1 → number_from q size at (digits_of c) ≡ piece_number of 1 size at
piece_of_plane o own q size at c l k of self planes of_is field own_is base one =
    let same : own ≡ o = own_is ∙ sym field ∙ sym (ap (λ (r : RowValue). r.order) of_is) in
    number_of_plane o (degree_of o) q size at c l k of planes of_is (base ∙ ap order_number same) refl (sym (ap degree_of same) ∙ one)

-- a row that one number names is the row that an equal one names
pub row_of_number : (self : RowValue) (table : CombosValue) (x y : ℕ) → x ≡ y → IsRowFor self table y → IsRowFor self table x
row_of_number self table x y same h = subst (IsRowFor self table) (sym same) h

-- a row plus the rows that four numbers name
pub four_of_numbers : (self : RowValue) (a b c d : CombosValue) (x y z w x' y' z' w' : ℕ) → x ≡ x' → y ≡ y' → z ≡ z' → w ≡ w' →
    row_with_four self (combination_at a x) (combination_at b y) (combination_at c z) (combination_at d w)
    ≡ row_with_four self (combination_at a x') (combination_at b y') (combination_at c z') (combination_at d w')
four_of_numbers self a b c d x y z w x' y' z' w' ex ey ez ew =
    ap₂ (λ m n. row_with_four self (combination_at a m) (combination_at b n) (combination_at c z) (combination_at d w)) ex ey
    ∙ ap₂ (λ m n. row_with_four self (combination_at a x') (combination_at b y') (combination_at c m) (combination_at d n)) ez ew

-- ---- sums whose remainders are not taken yet

-- the fields that have them are prime
pub sums_degree : (o : Order) → HasSums o → degree_of o ≡ 1
sums_degree Two has = refl
sums_degree Three has = refl
sums_degree Four has = absurd (omega arith)
sums_degree Five has = refl
sums_degree Seven has = refl
sums_degree Eight has = absurd (omega arith)
sums_degree Nine has = absurd (omega arith)

-- a plane of zeros is one that a row over such a field keeps
pub zero_sums : (o : Order) (x n : ℕ) (plane : Plane) → x ≡ prime_of o → HasSums o → IsPlane x (replicate n 0) plane →
    AreKeptPlanes o (length (digits_of plane)) plane None
zero_sums o x n plane is has zeros =
    let planes = plane_of_zeros (prime_of o) n plane (prime-positive o) (zero_plane_along (prime_of o) x n n plane is refl zeros) in
    subst (λ m. AreKeptPlanes o m plane None) (sym planes.long) (kept_alone o n plane (sums_degree o has) planes)

-- equal sums are kept alike
pub kept_sums : (o : Order) (old new : ByteDigits) → new ≡ old → AreKeptPlanes o (length old.digits) (plane_of_sums old) None →
    AreKeptPlanes o (length new.digits) (plane_of_sums new) None
kept_sums o old new same h = subst (λ (s : ByteDigits). AreKeptPlanes o (length s.digits) (plane_of_sums s) None) (sym same) h

-- and are seen as one row
pub row_of_sums : (o : Order) (old new : ByteDigits) → new ≡ old →
    ◌≡◌ {A = RowValue} (record { order = o; entries = entries_of o (plane_of_sums new) (linear_of o None) (quadratic_of o None) })
    (record { order = o; entries = entries_of o (plane_of_sums old) (linear_of o None) (quadratic_of o None) })
row_of_sums o old new same =
    ap (λ (s : ByteDigits). record { order = o; entries = entries_of o (plane_of_sums s) (linear_of o None) (quadratic_of o None) }) same
