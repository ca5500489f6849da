-- The text form of matrices: its grammar, and what is wrong with bytes that keep to it no further.
use Rattle.std.specs.Prelude.{◌≡◌, ◌≢◌, ℕ, ◌+◌, ◌-◌, ◌*◌, ◌<◌, ◌≤◌, Bool, true, not, ◌&&◌, ◌||◌, ◌==◌, nat_le, nat_lt}
use Rattle.std.specs.Prelude.{IsTrue, ◌⊎◌, List, [], ◌∷◌, ◌++◌, length, map, filter, take, All, codes}
use Rattle.std.specs.List.{concat}
use Rattle.std.specs.Int.Digits.{number_from_digits}
use Rattle.axe_field.specs.Order.{Order, order_number}
use Rattle.axe_matrix.specs.Matrices.{MatrixValue, IsMatrix}
use Rattle.axe_matrix.specs.Limits.{most_rows, most_columns}
use Rattle.axe_file.specs.Limits.{most_numeral_digits}
use Rattle.axe_file.specs.declared.fault.FileFault.{FileFault}
use Rattle.axe_file.specs.declared.fault.FileFault.TheVariants.{BadField, BadRows, BadCols, BadHeader, BadMode}
use Rattle.axe_file.specs.declared.fault.FileFault.TheVariants.{BadDigit, TooFewDigits, TrailingText}

-- ---- bytes

-- white space: a space, a tab, a line feed or a carriage return
unfoldable pub is_white : ℕ → Bool
is_white byte = byte == 32 || byte == 9 || byte == 10 || byte == 13

-- no white space
unfoldable pub is_dark : ℕ → Bool
is_dark byte = not (is_white byte)

-- one of the ten decimal digits
unfoldable pub is_digit : ℕ → Bool
is_digit byte = nat_le 48 byte && nat_lt byte 58

-- what a digit stands for
unfoldable pub digit_value : ℕ → ℕ
digit_value byte = byte - 48

-- the digit that stands for a number below ten
unfoldable pub digit_code : ℕ → ℕ
digit_code value = 48 + value

-- the digit of an element of a field with so many elements
unfoldable pub is_element_digit : ℕ → ℕ → Bool
is_element_digit order byte = nat_le 48 byte && nat_lt byte (48 + order)

-- ---- headers

-- a numeral: decimal digits, at least one and at most `most_numeral_digits`, of which the first may be 0
pub record IsNumeral (bytes : List ℕ) : Type 0 where
  pub some_digit : 1 ≤ length bytes
  pub not_too_many : length bytes ≤ most_numeral_digits
  pub digits : All (λ byte. IsTrue (is_digit byte)) bytes

-- the number that a numeral stands for (positional notation, base ten)
unfoldable pub numeral_value : List ℕ → ℕ
numeral_value bytes = number_from_digits 10 (map digit_value bytes)

-- what a header is made of: white space, perhaps none; white space, at least one byte; a word, letter by letter; a
-- numeral
pub data Part : Type 0 where
  Space : Part
  Gap : Part
  Word : List ℕ → Part
  Numeral : Part

-- the bytes are such a part, and these are the values of its numerals, of which it has one or none
abbrev pub IsPart : Part → List ℕ → List ℕ → Type 0
IsPart Space bytes values = All (λ byte. IsTrue (is_white byte)) bytes × (values ≡ [])
IsPart Gap bytes values = (1 ≤ length bytes) × All (λ byte. IsTrue (is_white byte)) bytes × (values ≡ [])
IsPart (Word word) bytes values = (bytes ≡ word) × (values ≡ [])
IsPart Numeral bytes values = IsNumeral bytes × (values ≡ numeral_value bytes ∷ [])

-- the bytes are these parts, one after another, and these are the values of their numerals
abbrev pub AreParts : List Part → List ℕ → List ℕ → Type 0
AreParts [] bytes values = (bytes ≡ []) × (values ≡ [])
AreParts (part ∷ parts) bytes values =
    (first : List ℕ) × (rest : List ℕ) × (own : List ℕ) × (others : List ℕ) × (bytes ≡ first ++ rest)
    × (values ≡ own ++ others) × IsPart part first own × AreParts parts rest others

-- a header of four numerals: MODE Q ROWS COLS
unfoldable pub plain_form : List Part
plain_form = Numeral ∷ Gap ∷ Numeral ∷ Gap ∷ Numeral ∷ Gap ∷ Numeral ∷ []

-- a header with names: matrix field=Q rows=ROWS cols=COLS
unfoldable pub named_form : List Part
named_form =
    Word (codes "matrix") ∷ Gap ∷ Word (codes "field=") ∷ Numeral ∷ Gap ∷ Word (codes "rows=") ∷ Numeral ∷ Gap
    ∷ Word (codes "cols=") ∷ Numeral ∷ []

-- the bytes are a header, in one form or the other, after any white space; a header with names is of mode 1
abbrev pub IsTextHeader : List ℕ → ℕ → ℕ → ℕ → ℕ → Type 0
IsTextHeader bytes mode order rows columns =
    AreParts (Space ∷ plain_form) bytes (mode ∷ order ∷ rows ∷ columns ∷ [])
    ⊎ ((mode ≡ 1) × AreParts (Space ∷ named_form) bytes (order ∷ rows ∷ columns ∷ []))

-- the bytes begin with white space, or there are none
abbrev pub is_apart : List ℕ → Bool
is_apart [] = true
is_apart (byte ∷ bytes) = is_white byte

-- bytes that begin with a whole header, after which comes white space or the end
pub record Headed (bytes : List ℕ) : Type 0 where
  pub header : List ℕ
  pub rest : List ℕ
  pub mode : ℕ
  pub order : ℕ
  pub rows : ℕ
  pub columns : ℕ
  pub whole : bytes ≡ header ++ rest
  pub is_header : IsTextHeader header mode order rows columns
  pub apart : IsTrue (is_apart rest)

-- ---- texts

-- the bytes are a text of the matrix: a header of mode 1 that names its field and its shape, then white space or the
-- end; and what comes after the header other than white space is the digits of the entries, row after row
pub record IsTextOf (bytes : List ℕ) (m : MatrixValue) : Type 0 where
  pub begins : Headed bytes
  pub mode : begins.mode ≡ 1
  pub order : begins.order ≡ order_number m.order
  pub rows : begins.rows ≡ length m.rows
  pub columns : begins.columns ≡ m.cols
  pub digits : filter is_dark begins.rest ≡ map digit_code (concat m.rows)
  pub matrix : IsMatrix m

-- ---- faults

-- the bytes are the beginning, perhaps all, of a header that is followed by white space
pub record IsBeginning (bytes : List ℕ) : Type 0 where
  pub more : List ℕ
  pub header : List ℕ
  pub white : ℕ
  pub mode : ℕ
  pub order : ℕ
  pub rows : ℕ
  pub columns : ℕ
  pub whole : bytes ++ more ≡ header ++ white ∷ []
  pub is_header : IsTextHeader header mode order rows columns
  pub is_space : IsTrue (is_white white)

-- no whole header, and k is the least offset such that the first k + 1 bytes are no beginning of a header that is
-- followed by white space; where the input ends before that, k is its length
pub record HasBadHeader (bytes : List ℕ) (k : ℕ) : Type 0 where
  pub no_header : Headed bytes → ⊥
  pub within : k ≤ length bytes
  pub before : (j : ℕ) → j < k → IsBeginning (take (j + 1) bytes)
  pub stops : k < length bytes → IsBeginning (take (k + 1) bytes) → ⊥

-- a header that is allowed: of mode 1, with the order of a field, no more rows than a matrix has, and at least one
-- column and no more than a matrix has
pub record IsAllowed (bytes : List ℕ) (h : Headed bytes) (o : Order) : Type 0 where
  pub mode : h.mode ≡ 1
  pub order : order_number o ≡ h.order
  pub rows : h.rows ≤ most_rows
  pub some_column : 1 ≤ h.columns
  pub columns : h.columns ≤ most_columns

-- each byte is white space or the digit of an element
abbrev pub AreElementDigits : ℕ → List ℕ → Type 0
AreElementDigits order bytes = All (λ byte. IsTrue (is_white byte || is_element_digit order byte)) bytes

-- after a header, k is the offset of a byte before which stand white space and digits of elements, so many of
-- these, and the byte is no white space
pub record StandsAfter (bytes : List ℕ) (h : Headed bytes) (k count byte : ℕ) : Type 0 where
  pub before : List ℕ
  pub after : List ℕ
  pub whole : h.rest ≡ before ++ byte ∷ after
  pub offset : k ≡ length h.header + length before
  pub fit : AreElementDigits h.order before
  pub counted : length (filter is_dark before) ≡ count
  pub dark : IsTrue (is_dark byte)

-- the first fault of bytes that are no text of any matrix, in the order of the checks
abbrev pub IsTextFault : List ℕ → FileFault → Type 0
IsTextFault bytes (BadHeader k) = HasBadHeader bytes k
IsTextFault bytes BadMode = (h : Headed bytes) × (h.mode ≢ 1)
IsTextFault bytes BadField = (h : Headed bytes) × (h.mode ≡ 1) × ((o : Order) → order_number o ≢ h.order)
IsTextFault bytes BadRows = (h : Headed bytes) × (o : Order) × (h.mode ≡ 1) × (order_number o ≡ h.order)
    × (most_rows < h.rows)
IsTextFault bytes BadCols =
    (h : Headed bytes) × (o : Order) × (h.mode ≡ 1) × (order_number o ≡ h.order) × (h.rows ≤ most_rows)
    × ((h.columns ≡ 0) ⊎ (most_columns < h.columns))
IsTextFault bytes (BadDigit k) =
    (h : Headed bytes) × (o : Order) × (count : ℕ) × (byte : ℕ) × IsAllowed bytes h o
    × StandsAfter bytes h k count byte × (count < h.rows * h.columns) × (IsTrue (is_element_digit h.order byte) → ⊥)
IsTextFault bytes TooFewDigits =
    (h : Headed bytes) × (o : Order) × IsAllowed bytes h o × AreElementDigits h.order h.rest
    × (length (filter is_dark h.rest) < h.rows * h.columns)
IsTextFault bytes (TrailingText k) =
    (h : Headed bytes) × (o : Order) × (byte : ℕ) × IsAllowed bytes h o
    × StandsAfter bytes h k (h.rows * h.columns) byte
IsTextFault bytes _ = ⊥
