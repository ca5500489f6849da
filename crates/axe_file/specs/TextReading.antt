-- A text of a matrix, read from left to right: the first fault, and the matrix of a faultless text.
use Rattle.std.specs.Prelude.{◌≡◌, ℕ, zero, suc, ◌+◌, ◌-◌, ◌*◌, not, ◌||◌, ◌==◌, nat_lt, if◌then◌else◌, List, [], ◌∷◌}
use Rattle.std.specs.Prelude.{map, filter, take, drop, slice_index, Option, Some, None, is_none, Result, Ok, Err}
use Rattle.std.specs.Option.{unwrap_or}
use Rattle.axe_field.specs.Order.{Two}
use Rattle.axe_matrix.specs.Matrices.{MatrixValue}
use Rattle.axe_matrix.specs.Limits.{most_rows, most_columns}
use Rattle.axe_file.specs.Packed.{order_with_number}
use Rattle.axe_file.specs.TextGrammar.{is_white, is_dark, is_digit, digit_value, is_element_digit, is_apart, Part}
use Rattle.axe_file.specs.TextGrammar.{Space, Gap, Word, Numeral, plain_form, named_form}
use Rattle.axe_file.specs.declared.fault.FileFault.{FileFault}
use Rattle.axe_file.specs.declared.fault.FileFault.TheVariants.{BadField, BadRows, BadCols, BadHeader, BadMode}
use Rattle.axe_file.specs.declared.fault.FileFault.TheVariants.{BadDigit, TooFewDigits, TrailingText}

-- ---- the header

-- what stands at the front of the bytes: the values of the numerals, and the offset at which they end
pub record Found : Type 0 where
  pub values : List ℕ
  pub end : ℕ

-- what was found, or the offset of the first byte that does not fit, which is the end where bytes are missing
abbrev pub Reading : Type 0
Reading = Result Found ℕ

-- the code read what a reading reads at the front: it goes on with the rest, or it stops with the fault of that offset
abbrev pub GoesOn : {T : Type 0} → Result T FileFault → Reading → (T → Reading) → Type 0
GoesOn (Ok found) reading rest = reading ≡ rest found
GoesOn (Err fault) reading rest = (k : ℕ) × (fault ≡ BadHeader k) × (reading ≡ Err k)

-- one value before the others
abbrev pub with_value : ℕ → Reading → Reading
with_value value (Ok found) = Ok (record { values = value ∷ found.values; end = found.end })
with_value value (Err offset) = Err offset

-- each of the following reads one part at the front of the bytes, which begin at an offset, and then what comes next;
-- this one white space, or none
unfoldable pub read_space : (List ℕ → ℕ → Reading) → List ℕ → ℕ → Reading
read_space next [] at = next [] at
read_space next (byte ∷ bytes) at = if is_white byte then read_space next bytes (at + 1) else next (byte ∷ bytes) at

-- white space, at least one byte of it
unfoldable pub read_gap : (List ℕ → ℕ → Reading) → List ℕ → ℕ → Reading
read_gap next [] at = Err at
read_gap next (byte ∷ bytes) at = if is_white byte then read_space next bytes (at + 1) else Err at

-- this word
unfoldable pub read_word : List ℕ → (List ℕ → ℕ → Reading) → List ℕ → ℕ → Reading
read_word [] next bytes at = next bytes at
read_word (letter ∷ word) next [] at = Err at
read_word (letter ∷ word) next (byte ∷ bytes) at = if byte == letter then read_word word next bytes (at + 1) else Err at

-- up to so many more digits of a numeral with this value so far
unfoldable pub read_digits : ℕ → ℕ → (ℕ → List ℕ → ℕ → Reading) → List ℕ → ℕ → Reading
read_digits room value next [] at = next value [] at
read_digits zero value next (byte ∷ bytes) at = next value (byte ∷ bytes) at
read_digits (suc room) value next (byte ∷ bytes) at =
    if is_digit byte then read_digits room (value * 10 + digit_value byte) next bytes (at + 1)
    else next value (byte ∷ bytes) at

-- a numeral of one to nine digits, whose value is handed on
unfoldable pub read_numeral : (ℕ → List ℕ → ℕ → Reading) → List ℕ → ℕ → Reading
read_numeral next [] at = Err at
read_numeral next (byte ∷ bytes) at =
    if is_digit byte then read_digits 8 (digit_value byte) next bytes (at + 1) else Err at

-- the parts, after which comes white space or the end
unfoldable pub read_parts : List Part → List ℕ → ℕ → Reading
read_parts [] bytes at = if is_apart bytes then Ok (record { values = []; end = at }) else Err at
read_parts (Space ∷ parts) bytes at = read_space (read_parts parts) bytes at
read_parts (Gap ∷ parts) bytes at = read_gap (read_parts parts) bytes at
read_parts (Word word ∷ parts) bytes at = read_word word (read_parts parts) bytes at
read_parts (Numeral ∷ parts) bytes at =
    read_numeral (λ value rest after. with_value value (read_parts parts rest after)) bytes at

-- one of the two forms: the one with names where the first letter of `matrix` stands
unfoldable pub read_form : List ℕ → ℕ → Reading
read_form [] at = read_parts plain_form [] at
read_form (byte ∷ bytes) at =
    if byte == 109 then with_value 1 (read_parts named_form (byte ∷ bytes) at)
    else read_parts plain_form (byte ∷ bytes) at

-- the header: its mode, order, number of rows and number of columns, and where it ends
unfoldable pub read_header : List ℕ → Reading
read_header bytes = read_space read_form bytes 0

-- what is wrong with the numbers of a header
unfoldable pub header_fault : List ℕ → Option FileFault
header_fault values =
    if not (slice_index values 0 == 1) then Some BadMode
    else (if is_none (order_with_number (slice_index values 1)) then Some BadField
    else (if nat_lt most_rows (slice_index values 2) then Some BadRows
    else (if slice_index values 3 == 0 || nat_lt most_columns (slice_index values 3) then Some BadCols else None)))

-- ---- the digits

-- what is wrong with the bytes after the header, which begin at an offset, where so many digits are wanted
unfoldable pub digits_fault : ℕ → ℕ → List ℕ → ℕ → Option FileFault
digits_fault order wanted [] at = if wanted == 0 then None else Some TooFewDigits
digits_fault order wanted (byte ∷ bytes) at =
    if is_white byte then digits_fault order wanted bytes (at + 1)
    else (if wanted == 0 then Some (TrailingText at)
    else (if is_element_digit order byte then digits_fault order (wanted - 1) bytes (at + 1) else Some (BadDigit at)))

-- the first so many rows of so many entries each, from a list of entries
unfoldable pub in_rows : ℕ → ℕ → List ℕ → List (List ℕ)
in_rows zero columns entries = []
in_rows (suc rows) columns entries = take columns entries ∷ in_rows rows columns (drop columns entries)

-- ---- the text

-- the first fault of bytes whose header was read: the header's, or that of the digits after it
abbrev pub fault_after_header : List ℕ → Reading → Option FileFault
fault_after_header bytes (Err offset) = Some (BadHeader offset)
fault_after_header bytes (Ok found) =
    if is_none (header_fault found.values)
    then digits_fault (slice_index found.values 1) (slice_index found.values 2 * slice_index found.values 3)
    (drop found.end bytes) found.end
    else header_fault found.values

-- the first fault, where there is one; bytes without one are a text of a matrix
unfoldable pub text_fault : List ℕ → Option FileFault
text_fault bytes = fault_after_header bytes (read_header bytes)

-- the matrix of bytes whose header was read: its digits in rows
abbrev pub matrix_after_header : List ℕ → Reading → MatrixValue
matrix_after_header bytes (Err offset) = record { order = Two; cols = 0; rows = [] }
matrix_after_header bytes (Ok found) = record {
  order = unwrap_or (order_with_number (slice_index found.values 1)) Two;
  cols = slice_index found.values 3;
  rows = in_rows (slice_index found.values 2) (slice_index found.values 3)
      (map digit_value (filter is_dark (drop found.end bytes)));
}

-- the matrix of which faultless bytes are a text
unfoldable pub text_matrix : List ℕ → MatrixValue
text_matrix bytes = matrix_after_header bytes (read_header bytes)
