-- The packed form of matrices: the one spelling of each matrix, what is wrong with bytes that are no spelling, and the
-- matrix that faultless bytes spell.
use Rattle.std.specs.Prelude.{ℕ, ◌+◌, ◌*◌, ◌/◌, ◌%◌, Bool, not, ◌||◌, ◌==◌, nat_lt, nat_le, if◌then◌else◌, List, []}
use Rattle.std.specs.Prelude.{◌∷◌, ◌++◌, length, Option, is_none, slice_get, slice_index, slice_range, codes}
use Rattle.std.specs.Option.{unwrap_or}
use Rattle.std.specs.List.{flat_map, find, list_any, range_with_len}
use Rattle.std.specs.Int.{w32, to_le_bytes, from_le_bytes}
use Rattle.axe_algebra.specs.Lists.{listed, table}
use Rattle.axe_field.specs.Order.{Order, Two, Three, Four, Five, Seven, Eight, Nine, order_number}
use Rattle.axe_row.specs.ByteDigits.{digits_per_byte}
use Rattle.axe_matrix.specs.Matrices.{MatrixValue}
use Rattle.axe_matrix.specs.Limits.{most_rows, most_columns}
use Rattle.axe_file.specs.Marks.{byte_limit, byte_with_marks, mark_of, has_unused_mark, bytes_per_row}
use Rattle.axe_file.specs.declared.fault.FileFault.{FileFault}
use Rattle.axe_file.specs.declared.fault.FileFault.TheVariants.{ShortHeader, BadMagic, BadField, BadReserved, BadRows}
use Rattle.axe_file.specs.declared.fault.FileFault.TheVariants.{BadCols, Truncated, BadByte, BadPadding, TrailingBytes}

-- ---- where a header has what

-- the bytes that a matrix begins with
abbrev pub matrix_magic : List ℕ
matrix_magic = codes "AXP1"

-- how many bytes a header has: the rows begin after it
abbrev pub header_length : ℕ
header_length = 16

-- the offset of the order
abbrev pub order_offset : ℕ
order_offset = 4

-- the offset of the number of rows
abbrev pub rows_offset : ℕ
rows_offset = 8

-- the offset of the number of columns
abbrev pub columns_offset : ℕ
columns_offset = 12

-- the offsets of the reserved bytes
abbrev pub matrix_reserved : List ℕ
matrix_reserved = 5 ∷ 6 ∷ 7 ∷ []

-- ---- the spelling of a matrix

-- the header: the magic bytes, the order, three zeros, and the numbers of rows and columns, each as 4 bytes, low byte
-- first
unfoldable pub packed_header : Order → ℕ → ℕ → List ℕ
packed_header o rows columns =
    matrix_magic ++ (order_number o ∷ 0 ∷ 0 ∷ 0 ∷ []) ++ to_le_bytes w32 rows ++ to_le_bytes w32 columns

-- a row: byte k holds its marks from the place k m on, m to a byte, where each mark past the last column is 0
unfoldable pub packed_row : Order → ℕ → List ℕ → List ℕ
packed_row o columns row =
    listed (bytes_per_row o columns) (λ k. byte_with_marks o (λ j. slice_index row (k * digits_per_byte o + j)))

-- the rows of a matrix one after the other, each from a new byte on
abbrev pub packed_rows : MatrixValue → List ℕ
packed_rows m = flat_map (packed_row m.order m.cols) m.rows

-- the one packed spelling of a matrix: its header, then its rows
unfoldable pub packed : MatrixValue → List ℕ
packed m = packed_header m.order (length m.rows) m.cols ++ packed_rows m

-- ---- rows over the order o, of so many columns, from an offset on

-- how many bytes so many rows take together
unfoldable pub data_length : Order → ℕ → ℕ → ℕ
data_length o rows columns = rows * bytes_per_row o columns

-- the mark in row i, column j
unfoldable pub mark_at : Order → ℕ → List ℕ → ℕ → ℕ → ℕ → ℕ
mark_at o columns bytes offset i j =
    let m = digits_per_byte o in
    mark_of o (slice_index bytes (offset + (i * bytes_per_row o columns + j / m))) (j % m)

-- the matrix of so many rows
unfoldable pub matrix_at : Order → ℕ → ℕ → List ℕ → ℕ → MatrixValue
matrix_at o rows columns bytes offset = record {
  order = o;
  cols = columns;
  rows = table rows columns (mark_at o columns bytes offset);
}

-- the fault, where the test finds it
abbrev pub fault_where : Bool → FileFault → List FileFault
fault_where found fault = if found then fault ∷ [] else []

-- in the byte at this place of the rows, a mark past the last column is not 0
unfoldable pub has_padding : Order → ℕ → List ℕ → ℕ → ℕ → Bool
has_padding o columns bytes offset place =
    has_unused_mark o columns (place % bytes_per_row o columns) (slice_index bytes (offset + place))

-- what is wrong with the byte at this place of the rows: it is not below q ^ m, or an unused mark of it is not 0
unfoldable pub byte_faults : Order → ℕ → List ℕ → ℕ → ℕ → List FileFault
byte_faults o columns bytes offset place =
    fault_where (nat_le (byte_limit o) (slice_index bytes (offset + place))) (BadByte (offset + place))
    ++ fault_where (has_padding o columns bytes offset place) (BadPadding (offset + place))

-- what is wrong with so many rows, up to the end: too few bytes, then the bytes in ascending order, then a byte after
-- the last row
unfoldable pub data_faults : Order → ℕ → ℕ → List ℕ → ℕ → List FileFault
data_faults o rows columns bytes offset =
    fault_where (nat_lt (length bytes) (offset + data_length o rows columns)) Truncated
    ++ flat_map (byte_faults o columns bytes offset) (range_with_len 0 (data_length o rows columns))
    ++ fault_where (nat_lt (offset + data_length o rows columns) (length bytes)) TrailingBytes

-- ---- what bytes say

-- the order with this number, where there is one
unfoldable pub order_with_number : ℕ → Option Order
order_with_number n =
    find (λ o. order_number o == n) (Two ∷ Three ∷ Four ∷ Five ∷ Seven ∷ Eight ∷ Nine ∷ [])

-- the order that a header names; where it names none, any
unfoldable pub header_order : List ℕ → Order
header_order bytes = unwrap_or (order_with_number (slice_index bytes order_offset)) Two

-- how many rows a header names
unfoldable pub header_rows : List ℕ → ℕ
header_rows bytes = from_le_bytes w32 (slice_range bytes rows_offset (rows_offset + 4))

-- how many columns a header names
unfoldable pub header_columns : List ℕ → ℕ
header_columns bytes = from_le_bytes w32 (slice_range bytes columns_offset (columns_offset + 4))

-- the matrix that faultless bytes spell
unfoldable pub unpacked : List ℕ → MatrixValue
unpacked bytes = matrix_at (header_order bytes) (header_rows bytes) (header_columns bytes) bytes header_length

-- ---- what is wrong with bytes

-- one of the first four bytes is not the magic byte of its place
unfoldable pub has_other_magic : List ℕ → List ℕ → Bool
has_other_magic magic bytes = list_any (λ i. not (slice_index bytes i == slice_index magic i)) (0 ∷ 1 ∷ 2 ∷ 3 ∷ [])

-- a number is 0, or more than a limit
abbrev pub is_out_of_range : ℕ → ℕ → Bool
is_out_of_range most number = number == 0 || nat_lt most number

-- one of the bytes at these offsets is not 0
unfoldable pub has_reserved : List ℕ → List ℕ → Bool
has_reserved offsets bytes = list_any (λ i. not (slice_index bytes i == 0)) offsets

-- what is wrong with the beginning of a header, up to the order, in the order of the checks
unfoldable pub beginning_faults : List ℕ → List ℕ → List FileFault
beginning_faults magic bytes =
    fault_where (nat_lt (length bytes) header_length) ShortHeader
    ++ fault_where (has_other_magic magic bytes) BadMagic
    ++ fault_where (is_none (order_with_number (slice_index bytes order_offset))) BadField

-- what is wrong with the header, in the order of the checks
unfoldable pub header_faults : List ℕ → List FileFault
header_faults bytes =
    beginning_faults matrix_magic bytes
    ++ fault_where (has_reserved matrix_reserved bytes) BadReserved
    ++ fault_where (nat_lt most_rows (header_rows bytes)) BadRows
    ++ fault_where (is_out_of_range most_columns (header_columns bytes)) BadCols

-- the first fault, of the header or of the rows after it, where there is one; bytes without one are the spelling of a
-- matrix
unfoldable pub packed_fault : List ℕ → Option FileFault
packed_fault bytes =
    slice_get (header_faults bytes
    ++ data_faults (header_order bytes) (header_rows bytes) (header_columns bytes) bytes header_length) 0
