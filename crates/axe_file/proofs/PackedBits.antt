-- Over two elements the marks of bytes are their bits, the most significant first.
use Rattle.std.proofs.Common.{◌≡◌, ℕ, ◌+◌, ◌-◌, ◌*◌, ◌/◌, ◌%◌, ◌^◌, ◌<◌, ◌≤◌, List, length, get_or, sym, ap, ap₂, ◌∙◌, arith}
use Rattle.axe_algebra.specs.Lists.{listed}
use Rattle.axe_field.specs.Order.{Order, Two, order_number}
use Rattle.axe_field.proofs.Orders.{order_number-injective}
use Rattle.axe_layer.specs.Packed.{packed_bit}
use Rattle.axe_row.specs.ByteDigits.{digits_per_byte}
use Rattle.axe_file.specs.Marks.{byte_limit, byte_with_marks, mark_of, bytes_per_row, row_marks}
use Rattle.axe_file.specs.Packed.{packed_row}
use Rattle.axe_algebra.proofs.Digits.{digit_at}
use Rattle.axe_file.proofs.Bytes.{byte_of_marks, byte_same}
use Rattle.axe_file.proofs.Lists.{listed_is, listed_same}
use Rattle.axe_file.proofs.MarkTables.{width_is_enough, width_is_least}

order_is_two : (o : Order) → order_number o ≡ 2 → o ≡ Two
order_is_two o two = order_number-injective o Two two

eight_marks : (o : Order) → order_number o ≡ 2 → digits_per_byte o ≡ 8
eight_marks o two = ap digits_per_byte (order_is_two o two)

-- a row takes a byte for eight entries, and one for what is left
pub bytes_of_bits : (o : Order) (columns : ℕ) → order_number o ≡ 2 → bytes_per_row o columns ≡ (columns + 7) / 8
bytes_of_bits o columns two =
    let enough : columns ≤ bytes_per_row o columns * 8 = rw (eight_marks o two) at (width_is_enough o columns) in
    let least : bytes_per_row o columns * 8 < columns + 8 = rw (eight_marks o two) at (width_is_least o columns) in
    omega arith

-- ---- reading

mark_is_bit : (byte j : ℕ) → j < 8 → mark_of Two byte j ≡ byte / 2 ^ (7 - j) % 2
unfolding mark_of
mark_is_bit byte j low = digit_at 2 8 byte j (7 - j) (omega arith)

bit_is_mark : (bytes : List ℕ) (e : ℕ) → packed_bit bytes e ≡ mark_of Two (get_or bytes (e / 8) 0) (e % 8)
unfolding packed_bit
bit_is_mark bytes e = sym (mark_is_bit (get_or bytes (e / 8) 0) (e % 8) (omega arith))

bits_are_marks_of_two : (columns : ℕ) (bytes : List ℕ) → listed columns (packed_bit bytes) ≡ row_marks Two columns bytes
unfolding row_marks
bits_are_marks_of_two columns bytes =
    listed_same columns (packed_bit bytes) (λ j. mark_of Two (get_or bytes (j / 8) 0) (j % 8)) 0 (λ j lt. bit_is_mark bytes j)

pub bits_are_marks : (o : Order) (columns : ℕ) (bytes : List ℕ) → order_number o ≡ 2 → listed columns (packed_bit bytes) ≡ row_marks o columns bytes
bits_are_marks o columns bytes two = bits_are_marks_of_two columns bytes ∙ ap (λ r. row_marks r columns bytes) (sym (order_is_two o two))

-- ---- writing

mark_is_packed_bit : (bytes : List ℕ) (k j : ℕ) → j < 8 → mark_of Two (get_or bytes k 0) j ≡ packed_bit bytes (k * 8 + j)
mark_is_packed_bit bytes k j low =
    let byte : k ≡ (k * 8 + j) / 8 = omega arith in
    let place : j ≡ (k * 8 + j) % 8 = omega arith in
    ap₂ (λ b p. mark_of Two (get_or bytes b 0) p) byte place ∙ sym (bit_is_mark bytes (k * 8 + j))

byte_of_bits : (bytes row : List ℕ) (k : ℕ) → get_or bytes k 0 < 256 → ((e : ℕ) → packed_bit bytes e ≡ get_or row e 0) →
    get_or bytes k 0 ≡ byte_with_marks Two (λ j. get_or row (k * 8 + j) 0)
unfolding byte_limit
byte_of_bits bytes row k fits same =
    sym (byte_of_marks Two (get_or bytes k 0) fits)
    ∙ byte_same Two (mark_of Two (get_or bytes k 0)) (λ j. get_or row (k * 8 + j) 0) (λ j low. mark_is_packed_bit bytes k j low ∙ same (k * 8 + j))

row_of_bits : (columns : ℕ) (bytes row : List ℕ) → length bytes ≡ bytes_per_row Two columns → ((k : ℕ) → get_or bytes k 0 < 256) →
    ((e : ℕ) → packed_bit bytes e ≡ get_or row e 0) → bytes ≡ packed_row Two columns row
unfolding packed_row
row_of_bits columns bytes row long fits same =
    listed_is (bytes_per_row Two columns) (λ k. byte_with_marks Two (λ j. get_or row (k * 8 + j) 0)) 0 bytes long (λ k lt. byte_of_bits bytes row k (fits k) same)

pub bits_are_row : (o : Order) (columns : ℕ) (bytes row : List ℕ) → order_number o ≡ 2 → length bytes ≡ bytes_per_row o columns →
    ((k : ℕ) → get_or bytes k 0 < 256) → ((e : ℕ) → packed_bit bytes e ≡ get_or row e 0) → bytes ≡ packed_row o columns row
bits_are_row o columns bytes row two long fits same =
    row_of_bits columns bytes row (long ∙ ap (λ r. bytes_per_row r columns) (order_is_two o two)) fits same
    ∙ ap (λ r. packed_row r columns row) (sym (order_is_two o two))
