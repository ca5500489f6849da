-- Bytes of marks, and where the marks of a row lie in them.
use Rattle.std.proofs.Common.{◌≡◌, ℕ, min, ◌+◌, ◌*◌, ◌/◌, ◌%◌, ◌^◌, ◌<◌, ◌≤◌, List, length, get_or, All, inl, inr, ap, arith, lit<, lit≤}
use Rattle.std.proofs.Math.Nat.{le_refl, pow-le-pow_right, mod-lt, mul-le-mul_left}
use Rattle.std.proofs.lemmas.Nat.{div-add-mod', div_below}
use Rattle.std.proofs.lemmas.Bool.{cases_lt}
use Rattle.std.proofs.lemmas.List.{get_or_past}
use Rattle.axe_algebra.specs.Digits.{digits, number_with_digits}
use Rattle.axe_field.specs.Order.{Order, Two, Three, Four, Five, Seven, Eight, Nine, order_number}
use Rattle.axe_row.specs.ByteDigits.{digits_per_byte}
use Rattle.axe_file.specs.Marks.{byte_limit, byte_with_marks, mark_of, bytes_per_row}
use Rattle.axe_file.specs.Packed.{packed_row}
use Rattle.axe_file.proofs.Digits.{number_below, digit_of_number, number_of_digits}
use Rattle.axe_file.proofs.Lists.{listed_same}
use Rattle.axe_algebra.proofs.Digits.{digits-below}
use Rattle.axe_algebra.proofs.ListEntries.{listed_length, listed_at}
use Rattle.axe_field.proofs.Orders.{order_number-at_least}
use Rattle.axe_row.proofs.TablePlanes.{few_rows}

-- ---- how many marks fit

pub limit-fits : (o : Order) → order_number o ^ digits_per_byte o ≤ 256
limit-fits o = few_rows o (digits_per_byte o) (le_refl (digits_per_byte o))

one_more : (o : Order) → 256 < order_number o ^ (digits_per_byte o + 1)
one_more Two = lit< tt
one_more Three = lit< tt
one_more Four = lit< tt
one_more Five = lit< tt
one_more Seven = lit< tt
one_more Eight = lit< tt
one_more Nine = lit< tt

pub order-positive : (o : Order) → 0 < order_number o
order-positive o = omega (arith, order_number-at_least o)

pub two-marks : (o : Order) → 2 ≤ digits_per_byte o
two-marks Two = lit≤ tt
two-marks Three = lit≤ tt
two-marks Four = lit≤ tt
two-marks Five = lit≤ tt
two-marks Seven = lit≤ tt
two-marks Eight = lit≤ tt
two-marks Nine = lit≤ tt

pub eight-marks : (o : Order) → digits_per_byte o ≤ 8
eight-marks Two = lit≤ tt
eight-marks Three = lit≤ tt
eight-marks Four = lit≤ tt
eight-marks Five = lit≤ tt
eight-marks Seven = lit≤ tt
eight-marks Eight = lit≤ tt
eight-marks Nine = lit≤ tt

pub greatest : (o : Order) (m : ℕ) → order_number o ^ m ≤ 256 → m ≤ digits_per_byte o
greatest o m h =
    elim (cases_lt (digits_per_byte o) m) [
      | inl lt ↦
          let grows : order_number o ^ (digits_per_byte o + 1) ≤ order_number o ^ m = pow-le-pow_right (order-positive o) (omega arith) in
          let more = one_more o in
          absurd (omega arith)
      | inr le ↦ le
    ]

-- an entry of a list of elements, also past its end, is an element
pub element_at : (o : Order) (row : List ℕ) (i : ℕ) → All (λ a. a < order_number o) row → get_or row i 0 < order_number o
element_at o row i h =
    elim (cases_lt i (length row)) [
      | inl lt ↦ h i 0 lt
      | inr le ↦ rw get_or_past (order-positive o)
    ]

-- ---- a byte and its marks

pub byte_below : (o : Order) (d : ℕ → ℕ) → ((j : ℕ) → j < digits_per_byte o → d j < order_number o) → byte_with_marks o d < byte_limit o
unfolding byte_with_marks byte_limit
byte_below o d h = number_below (order_number o) d (digits_per_byte o) h

pub mark_of_byte : (o : Order) (d : ℕ → ℕ) (j : ℕ) → ((k : ℕ) → k < digits_per_byte o → d k < order_number o) → j < digits_per_byte o → mark_of o (byte_with_marks o d) j ≡ d j
unfolding byte_with_marks mark_of
mark_of_byte o d j h lt = digit_of_number (order_number o) d (digits_per_byte o) j h lt

pub byte_of_marks : (o : Order) (b : ℕ) → b < byte_limit o → byte_with_marks o (mark_of o b) ≡ b
unfolding byte_with_marks mark_of byte_limit
byte_of_marks o b below = number_of_digits (order_number o) (digits_per_byte o) b (order-positive o) below

pub byte_same : (o : Order) (d e : ℕ → ℕ) → ((j : ℕ) → j < digits_per_byte o → d j ≡ e j) → byte_with_marks o d ≡ byte_with_marks o e
unfolding byte_with_marks
byte_same o d e h = ap (number_with_digits (order_number o)) (listed_same (digits_per_byte o) d e 0 h)

pub mark_below : (o : Order) (b j : ℕ) → mark_of o b j < order_number o
unfolding mark_of
mark_below o b j =
    let q = order_number o in
    let m = digits_per_byte o in
    element_at o (digits q m b) j (digits-below q m b (order-positive o))

pub limit_of_byte : (o : Order) → byte_limit o ≤ 256
unfolding byte_limit
limit_of_byte o = limit-fits o

-- ---- the bytes of a row

-- the column j of a row of c columns lies in a byte of the row
pub byte_of_column : (o : Order) (c j : ℕ) → j < c → j / digits_per_byte o < bytes_per_row o c
unfolding bytes_per_row
byte_of_column o c j lt =
    let m = digits_per_byte o in
    let two : 2 ≤ m = two-marks o in
    let whole : c / m * m + c % m ≡ c = div-add-mod' c m in
    let rest : c % m < m = mod-lt c (omega arith) in
    elim (cases_lt 0 (c % m)) [
      | inl some ↦
          let room : j < (c / m + 1) * m = omega arith in
          let below = div_below j m (c / m + 1) (omega arith) room in
          let one : min 1 (c % m) ≡ 1 = omega arith in
          omega arith
      | inr none ↦
          let room : j < c / m * m = omega arith in
          let below = div_below j m (c / m) (omega arith) room in
          omega arith
    ]

-- the bytes whose marks are all those of columns are all bytes of the row, or all but the last
pub whole_bytes : (o : Order) (c n m : ℕ) → n ≡ c → m ≡ digits_per_byte o → (n / m ≤ bytes_per_row o c) × (bytes_per_row o c ≤ n / m + 1)
unfolding bytes_per_row
whole_bytes o c n m en em = rw (en, em) (omega arith, omega arith)

-- a row takes at most half as many bytes as it has columns, and one half more
pub row_is_short : (o : Order) (c : ℕ) → 2 * bytes_per_row o c ≤ c + 1
unfolding bytes_per_row
row_is_short o c =
    let m = digits_per_byte o in
    let two : 2 ≤ m = two-marks o in
    let whole : c / m * m + c % m ≡ c = div-add-mod' c m in
    let half : c / m * 2 ≤ c / m * m = mul-le-mul_left (c / m) two in
    omega arith

pub length-packed_row : (o : Order) (c : ℕ) (row : List ℕ) → length (packed_row o c row) ≡ bytes_per_row o c
unfolding packed_row
length-packed_row o c row = listed_length (bytes_per_row o c) _

pub get_or-packed_row : (o : Order) (c : ℕ) (row : List ℕ) (k : ℕ) → k < bytes_per_row o c
    → get_or (packed_row o c row) k 0 ≡ byte_with_marks o (λ j. get_or row (k * digits_per_byte o + j) 0)
unfolding packed_row
get_or-packed_row o c row k lt = listed_at (bytes_per_row o c) _ k 0 lt
