-- Elements of a finite field as the digits of bytes: a byte holds as many as fit, and each is called a mark. Where q is
-- the order of the field and m the greatest number with q ^ m ≤ 256, a byte is the number with its m marks as its
-- digits in base q, the first mark the most significant.
use Rattle.std.specs.Prelude.{ℕ, ◌+◌, ◌*◌, ◌/◌, ◌%◌, ◌^◌, Bool, not, ◌&&◌, ◌==◌, nat_le, List, slice_index}
use Rattle.std.specs.List.{list_any, range_with_len}
use Rattle.std.specs.Int.{div_ceil}
use Rattle.axe_algebra.specs.Digits.{digits, number_with_digits}
use Rattle.axe_algebra.specs.Lists.{listed}
use Rattle.axe_field.specs.Order.{Order, order_number}
use Rattle.axe_row.specs.ByteDigits.{digits_per_byte}

-- what a byte of marks is below: q ^ m
unfoldable pub byte_limit : Order → ℕ
byte_limit o = order_number o ^ digits_per_byte o

-- the byte that holds the marks d 0, .., d (m - 1): the number with these digits
unfoldable pub byte_with_marks : Order → (ℕ → ℕ) → ℕ
byte_with_marks o d = number_with_digits (order_number o) (listed (digits_per_byte o) d)

-- mark j of a byte: of its m digits the one with the index j
unfoldable pub mark_of : Order → ℕ → ℕ → ℕ
mark_of o byte j = slice_index (digits (order_number o) (digits_per_byte o) byte) j

-- in byte k of a row of so many columns, a mark past the last column is not 0
unfoldable pub has_unused_mark : Order → ℕ → ℕ → ℕ → Bool
has_unused_mark o columns k byte =
    list_any (λ j. nat_le columns (k * digits_per_byte o + j) && not (mark_of o byte j == 0))
    (range_with_len 0 (digits_per_byte o))

-- how many bytes a row of so many marks takes
unfoldable pub bytes_per_row : Order → ℕ → ℕ
bytes_per_row o columns = div_ceil columns (digits_per_byte o)

-- the marks of a row of so many columns that bytes hold: mark j stands in byte j / m, at the place j % m
unfoldable pub row_marks : Order → ℕ → List ℕ → List ℕ
row_marks o columns bytes =
    listed columns (λ j. mark_of o (slice_index bytes (j / digits_per_byte o)) (j % digits_per_byte o))

-- the marks of the bytes 0, .., 255, one byte's after the other's
unfoldable pub marks_of_bytes : Order → List ℕ
marks_of_bytes o = listed (256 * digits_per_byte o) (λ i. mark_of o (i / digits_per_byte o) (i % digits_per_byte o))
