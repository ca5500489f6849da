-- What a packed header says, and what stands after it.
use Rattle.std.proofs.Common.{◌≡◌, ℕ, ◌+◌, ◌^◌, ◌<◌, false, List, ◌++◌, length, get_or, Some, refl, ap, ◌∙◌}
use Rattle.std.proofs.lemmas.List.{length-append}
use Rattle.std.proofs.lemmas.Nat.{from_le_bytes-to_le_bytes_4}
use Rattle.axe_field.specs.Order.{Order, Two, Three, Four, Five, Seven, Eight, Nine, order_number}
use Rattle.axe_file.specs.Packed.{matrix_magic, header_length, order_offset, matrix_reserved, packed_header, order_with_number, header_order, header_rows, header_columns, has_other_magic, has_reserved}

pub length-packed_header : (o : Order) (r c : ℕ) → length (packed_header o r c) ≡ header_length
unfolding packed_header
length-packed_header o r c = refl

pub order_of_number : (o : Order) → order_with_number (order_number o) ≡ Some o
unfolding order_with_number
order_of_number Two = refl
order_of_number Three = refl
order_of_number Four = refl
order_of_number Five = refl
order_of_number Seven = refl
order_of_number Eight = refl
order_of_number Nine = refl

pub number_in_header : (o : Order) (r c : ℕ) (rest : List ℕ) → get_or (packed_header o r c ++ rest) order_offset 0 ≡ order_number o
unfolding packed_header
number_in_header o r c rest = refl

pub order_in_header : (o : Order) (r c : ℕ) (rest : List ℕ) → header_order (packed_header o r c ++ rest) ≡ o
unfolding header_order
order_in_header o r c rest = rw (number_in_header o r c rest, order_of_number o) refl

pub rows_in_header : (o : Order) (r c : ℕ) (rest : List ℕ) → r < 2 ^ 32 → header_rows (packed_header o r c ++ rest) ≡ r
unfolding header_rows packed_header
rows_in_header o r c rest h = from_le_bytes-to_le_bytes_4 r h

pub columns_in_header : (o : Order) (r c : ℕ) (rest : List ℕ) → c < 2 ^ 32 → header_columns (packed_header o r c ++ rest) ≡ c
unfolding header_columns packed_header
columns_in_header o r c rest h = from_le_bytes-to_le_bytes_4 c h

pub header_has_magic : (o : Order) (r c : ℕ) (rest : List ℕ) → has_other_magic matrix_magic (packed_header o r c ++ rest) ≡ false
unfolding has_other_magic packed_header
header_has_magic o r c rest = refl

pub header_has_zeros : (o : Order) (r c : ℕ) (rest : List ℕ) → has_reserved matrix_reserved (packed_header o r c ++ rest) ≡ false
unfolding has_reserved packed_header
header_has_zeros o r c rest = refl

pub length_with_header : (o : Order) (r c : ℕ) (rest : List ℕ) → length (packed_header o r c ++ rest) ≡ header_length + length rest
length_with_header o r c rest = length-append (packed_header o r c) rest ∙ ap (λ (n : ℕ). n + length rest) (length-packed_header o r c)
