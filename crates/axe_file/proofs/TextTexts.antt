-- Texts of matrices: reading from left to right finds the first fault, and none exactly where bytes are a text of a matrix.
use Rattle.std.proofs.Common.{◌≡◌, ℕ, ◌*◌, ◌<◌, List, [], ◌∷◌, length, map, drop, Some, None, Ok, Err, refl, sym, ap, ap₂, subst, ◌∙◌, inl, inr, drop_at, arith}
use Rattle.std.proofs.lemmas.List.{length-map}
use Rattle.std.specs.Prelude.{All}
use Rattle.std.specs.List.{filter, concat}
use Rattle.axe_field.specs.Order.{Order, order_number, IsElement}
use Rattle.axe_matrix.specs.Matrices.{MatrixValue}
use Rattle.axe_file.specs.Packed.{order_with_number}
use Rattle.axe_file.specs.TextGrammar.{is_dark, digit_value, digit_code, Headed, IsTextOf, IsTextFault, IsAllowed, StandsAfter}
use Rattle.axe_file.specs.TextReading.{Reading, read_header, header_fault, digits_fault, in_rows, text_fault, text_matrix}
use Rattle.axe_file.specs.declared.fault.FileFault.{FileFault}
use Rattle.axe_file.specs.declared.fault.FileFault.TheVariants.{BadMode, BadField, BadRows, BadCols, BadHeader, BadDigit, TooFewDigits, TrailingText}
use Rattle.axe_file.proofs.TextHeaders.{header_is_found, found_is_header, bad_header, only_bad_header}
use Rattle.axe_file.proofs.TextDigits.{StandsAt, IsDigitsFault, AreAllDigits, fault_is, is_fault, faultless_digits, no_fault}
use Rattle.axe_file.proofs.TextRows.{IsDigitOf, values_of_codes, codes_of_values, values_below, codes_are_digits, dark_digits, digits_if_dark, length-in_rows, in_rows_long, in_rows_all, concat_of_rows, rows_of_concat, length-concat, concat_all}
use Rattle.axe_file.proofs.TextNumbers.{AreAllowed, IsHeaderFault, cases_header, allowed_is_faultless, is_header_fault, order_if_number}

-- ---- the fault, part by part

pub fault_of_bad_header : (bytes : List ℕ) (k : ℕ) → read_header bytes ≡ Err k → text_fault bytes ≡ Some (BadHeader k)
unfolding text_fault
fault_of_bad_header bytes k e = rw e refl

-- the header that was found says these four numbers, and ends at this offset
abbrev pub Says : List ℕ → ℕ → ℕ → ℕ → ℕ → ℕ → Type 0
Says bytes m n r c end = read_header bytes ≡ Ok (record { values = m ∷ n ∷ r ∷ c ∷ []; end = end })

pub fault_of_header : (bytes : List ℕ) (m n r c end : ℕ) (f : FileFault) → Says bytes m n r c end → header_fault (m ∷ n ∷ r ∷ c ∷ []) ≡ Some f → text_fault bytes ≡ Some f
unfolding text_fault
fault_of_header bytes m n r c end f e h = rw (e, h) refl

pub fault_of_digits : (bytes : List ℕ) (m n r c end : ℕ) → Says bytes m n r c end → header_fault (m ∷ n ∷ r ∷ c ∷ []) ≡ None → text_fault bytes ≡ digits_fault n (r * c) (drop end bytes) end
unfolding text_fault
fault_of_digits bytes m n r c end e h = rw (e, h) refl

pub matrix_of_header : (bytes : List ℕ) (m n r c end : ℕ) (o : Order) → Says bytes m n r c end → order_with_number n ≡ Some o
    → text_matrix bytes ≡ record { order = o; cols = c; rows = in_rows r c (map digit_value (filter is_dark (drop end bytes))) }
unfolding text_matrix
matrix_of_header bytes m n r c end o e h = rw (e, h) refl

-- ---- after a whole header

rest_of : (bytes : List ℕ) (h : Headed bytes) → drop (length h.header) bytes ≡ h.rest
rest_of bytes h = ap (λ (x : List ℕ). drop (length h.header) x) h.whole ∙ drop_at h.header h.rest (length h.header) refl

header_text_fault : (bytes : List ℕ) (h : Headed bytes) (f : FileFault) → IsHeaderFault h.mode h.order h.rows h.columns f → IsTextFault bytes f
header_text_fault bytes h BadMode ne = (h, ne)
header_text_fault bytes h BadField (one, none) = (h, one, none)
header_text_fault bytes h BadRows (o, one, named, many) = (h, o, one, named, many)
header_text_fault bytes h BadCols (o, one, named, fit, wrong) = (h, o, one, named, fit, wrong)
header_text_fault bytes h _ x = absurd x

allowed : (bytes : List ℕ) (h : Headed bytes) (o : Order) → AreAllowed h.mode h.order h.rows h.columns o → IsAllowed bytes h o
allowed bytes h o a = record { mode = a.mode; order = a.order; rows = a.rows; some_column = a.some_column; columns = a.columns }

are_allowed : (bytes : List ℕ) (h : Headed bytes) (o : Order) → IsAllowed bytes h o → AreAllowed h.mode h.order h.rows h.columns o
are_allowed bytes h o a = record { mode = a.mode; order = a.order; rows = a.rows; some_column = a.some_column; columns = a.columns }

stands_after : (bytes : List ℕ) (h : Headed bytes) (k count byte : ℕ) → StandsAt h.order h.rest (length h.header) k count byte → StandsAfter bytes h k count byte
stands_after bytes h k count byte s = record { before = s.before; after = s.after; whole = s.whole; offset = s.offset; fit = s.fit; counted = s.counted; dark = s.dark }

stands_at : (bytes : List ℕ) (h : Headed bytes) (k count byte : ℕ) → StandsAfter bytes h k count byte → StandsAt h.order h.rest (length h.header) k count byte
stands_at bytes h k count byte s = record { before = s.before; after = s.after; whole = s.whole; offset = s.offset; fit = s.fit; counted = s.counted; dark = s.dark }

digits_text_fault : (bytes : List ℕ) (h : Headed bytes) (o : Order) (f : FileFault) → IsAllowed bytes h o → IsDigitsFault h.order (h.rows * h.columns) h.rest (length h.header) f → IsTextFault bytes f
digits_text_fault bytes h o (BadDigit k) a (count, byte, s, few, bad) = (h, o, count, byte, a, stands_after bytes h k count byte s, few, bad)
digits_text_fault bytes h o TooFewDigits a (fit, few) = (h, o, a, fit, few)
digits_text_fault bytes h o (TrailingText k) a (byte, s) = (h, o, byte, a, stands_after bytes h k (h.rows * h.columns) byte s)
digits_text_fault bytes h o _ a x = absurd x

-- what is read after an allowed header
fault_after : (bytes : List ℕ) (h : Headed bytes) (o : Order) → AreAllowed h.mode h.order h.rows h.columns o → text_fault bytes ≡ digits_fault h.order (h.rows * h.columns) h.rest (length h.header)
fault_after bytes h o a =
    fault_of_digits bytes h.mode h.order h.rows h.columns (length h.header) (header_is_found bytes h) (allowed_is_faultless h.mode h.order h.rows h.columns o a)
    ∙ ap (λ (x : List ℕ). digits_fault h.order (h.rows * h.columns) x (length h.header)) (rest_of bytes h)

-- ---- a fault is the first fault

same_text_fault : (bytes : List ℕ) (g f : FileFault) → text_fault bytes ≡ Some g → text_fault bytes ≡ Some f → IsTextFault bytes g → IsTextFault bytes f
same_text_fault bytes g f a b h =
    let same : g ≡ f = cc in
    subst (λ (y : FileFault). IsTextFault bytes y) same h

headed_fault : (bytes : List ℕ) (h : Headed bytes) (f : FileFault) → text_fault bytes ≡ Some f → IsTextFault bytes f
headed_fault bytes h f e = elim (cases_header h.mode h.order h.rows h.columns) [
  | inl (g, is, says) ↦
      same_text_fault bytes g f (fault_of_header bytes h.mode h.order h.rows h.columns (length h.header) g (header_is_found bytes h) is) e (header_text_fault bytes h g says)
  | inr (o, none, a) ↦
      digits_text_fault bytes h o f (allowed bytes h o a) (fault_is h.order (h.rows * h.columns) h.rest (length h.header) f (sym (fault_after bytes h o a) ∙ e))
]

fault_by : (bytes : List ℕ) (f : FileFault) (x : Reading) → read_header bytes ≡ x → text_fault bytes ≡ Some f → IsTextFault bytes f
fault_by bytes f (Err k) r e = same_text_fault bytes (BadHeader k) f (fault_of_bad_header bytes k r) e (bad_header bytes k r)
fault_by bytes f (Ok found) r e = headed_fault bytes (found_is_header bytes found r).headed f e

pub text_fault_is : (bytes : List ℕ) (f : FileFault) → text_fault bytes ≡ Some f → IsTextFault bytes f
text_fault_is bytes f e = fault_by bytes f (read_header bytes) refl e

header_said : (bytes : List ℕ) (h : Headed bytes) (f : FileFault) → IsHeaderFault h.mode h.order h.rows h.columns f → text_fault bytes ≡ Some f
header_said bytes h f says =
    fault_of_header bytes h.mode h.order h.rows h.columns (length h.header) f (header_is_found bytes h) (is_header_fault h.mode h.order h.rows h.columns f says)

digits_said : (bytes : List ℕ) (h : Headed bytes) (o : Order) (f : FileFault) → IsAllowed bytes h o → IsDigitsFault h.order (h.rows * h.columns) h.rest (length h.header) f → text_fault bytes ≡ Some f
digits_said bytes h o f a says =
    fault_after bytes h o (are_allowed bytes h o a) ∙ is_fault h.order (h.rows * h.columns) h.rest (length h.header) f says

pub is_text_fault : (bytes : List ℕ) (f : FileFault) → IsTextFault bytes f → text_fault bytes ≡ Some f
is_text_fault bytes (BadHeader k) h = fault_of_bad_header bytes k (only_bad_header bytes k h)
is_text_fault bytes BadMode (h, ne) = header_said bytes h BadMode ne
is_text_fault bytes BadField (h, one, none) = header_said bytes h BadField (one, none)
is_text_fault bytes BadRows (h, o, one, named, many) = header_said bytes h BadRows (o, one, named, many)
is_text_fault bytes BadCols (h, o, one, named, fit, wrong) = header_said bytes h BadCols (o, one, named, fit, wrong)
is_text_fault bytes (BadDigit k) (h, o, count, byte, a, s, few, bad) = digits_said bytes h o (BadDigit k) a (count, byte, stands_at bytes h k count byte s, few, bad)
is_text_fault bytes TooFewDigits (h, o, a, fit, few) = digits_said bytes h o TooFewDigits a (fit, few)
is_text_fault bytes (TrailingText k) (h, o, byte, a, s) = digits_said bytes h o (TrailingText k) a (byte, stands_at bytes h k (h.rows * h.columns) byte s)
is_text_fault bytes _ x = absurd x

-- ---- texts without fault

matrix_read : (bytes : List ℕ) (h : Headed bytes) (o : Order) → order_number o ≡ h.order → text_matrix bytes ≡ record { order = o; cols = h.columns; rows = in_rows h.rows h.columns (map digit_value (filter is_dark h.rest)) }
matrix_read bytes h o named =
    matrix_of_header bytes h.mode h.order h.rows h.columns (length h.header) o (header_is_found bytes h) (order_if_number h.order o named)
    ∙ ap (λ (x : List ℕ). record { order = o; cols = h.columns; rows = in_rows h.rows h.columns (map digit_value (filter is_dark x)) }) (rest_of bytes h)

is_text : (bytes : List ℕ) (h : Headed bytes) (o : Order) → AreAllowed h.mode h.order h.rows h.columns o → AreAllDigits h.order (h.rows * h.columns) h.rest
    → IsTextOf bytes (record { order = o; cols = h.columns; rows = in_rows h.rows h.columns (map digit_value (filter is_dark h.rest)) })
is_text bytes h o a d =
    let ds = filter is_dark h.rest in
    let all : All (IsDigitOf h.order) ds = dark_digits h.order h.rest d.fit in
    let count : length (map digit_value ds) ≡ h.rows * h.columns = length-map ds digit_value ∙ d.counted in
    let low : All (IsElement o) (map digit_value ds) = subst (λ (n : ℕ). All (λ x. x < n) (map digit_value ds)) (sym a.order) (values_below h.order ds all) in
    record {
      begins = h;
      mode = a.mode;
      order = sym a.order;
      rows = sym (length-in_rows h.rows h.columns (map digit_value ds));
      columns = refl;
      digits = sym (codes_of_values h.order ds all) ∙ ap (λ (x : List ℕ). map digit_code x) (sym (concat_of_rows h.rows h.columns (map digit_value ds) count));
      matrix = record {
        some_column = a.some_column;
        columns_fit = a.columns;
        rows_fit = omega (arith, a.rows, length-in_rows h.rows h.columns (map digit_value ds));
        row_lengths = in_rows_long h.rows h.columns (map digit_value ds) (omega (arith, count));
        elements = in_rows_all (IsElement o) h.rows h.columns (map digit_value ds) low;
      };
    }

headed_text : (bytes : List ℕ) (h : Headed bytes) → text_fault bytes ≡ None → IsTextOf bytes (text_matrix bytes)
headed_text bytes h e = elim (cases_header h.mode h.order h.rows h.columns) [
  | inl (g, is, says) ↦ absurd (cc (fault_of_header bytes h.mode h.order h.rows h.columns (length h.header) g (header_is_found bytes h) is))
  | inr (o, none, a) ↦
      subst (λ (m : MatrixValue). IsTextOf bytes m) (sym (matrix_read bytes h o a.order))
      (is_text bytes h o a (faultless_digits h.order (h.rows * h.columns) h.rest (length h.header) (sym (fault_after bytes h o a) ∙ e)))
]

text_by : (bytes : List ℕ) (x : Reading) → read_header bytes ≡ x → text_fault bytes ≡ None → IsTextOf bytes (text_matrix bytes)
text_by bytes (Err k) r e = absurd (cc (fault_of_bad_header bytes k r))
text_by bytes (Ok found) r e = headed_text bytes (found_is_header bytes found r).headed e

pub faultless_is_text : (bytes : List ℕ) → text_fault bytes ≡ None → IsTextOf bytes (text_matrix bytes)
faultless_is_text bytes e = text_by bytes (read_header bytes) refl e

text_allowed : (bytes : List ℕ) (m : MatrixValue) (t : IsTextOf bytes m) → AreAllowed t.begins.mode t.begins.order t.begins.rows t.begins.columns m.order
text_allowed bytes m t = record {
  mode = t.mode;
  order = sym t.order;
  rows = omega (arith, t.rows, t.matrix.rows_fit);
  some_column = omega (arith, t.columns, t.matrix.some_column);
  columns = omega (arith, t.columns, t.matrix.columns_fit);
}

text_digits : (bytes : List ℕ) (m : MatrixValue) (t : IsTextOf bytes m) → AreAllDigits t.begins.order (t.begins.rows * t.begins.columns) t.begins.rest
text_digits bytes m t =
    let codes = codes_are_digits (order_number m.order) (concat m.rows) (concat_all (IsElement m.order) m.rows t.matrix.elements) in
    let all : All (IsDigitOf t.begins.order) (filter is_dark t.begins.rest) = rw (t.order, t.digits) codes in
    record {
      fit = digits_if_dark t.begins.order t.begins.rest all;
      counted =
          ap length t.digits
          ∙ length-map (concat m.rows) digit_code
          ∙ length-concat m.cols m.rows t.matrix.row_lengths
          ∙ ap₂ (λ (r c : ℕ). r * c) (sym t.rows) (sym t.columns);
    }

pub text_is_faultless : (bytes : List ℕ) (m : MatrixValue) → IsTextOf bytes m → text_fault bytes ≡ None
text_is_faultless bytes m t =
    fault_after bytes t.begins m.order (text_allowed bytes m t)
    ∙ no_fault t.begins.order (t.begins.rows * t.begins.columns) t.begins.rest (length t.begins.header) (text_digits bytes m t)

pub text_is_of_this : (bytes : List ℕ) (m : MatrixValue) → IsTextOf bytes m → text_matrix bytes ≡ m
text_is_of_this bytes m t =
    let entries : map digit_value (filter is_dark t.begins.rest) ≡ concat m.rows = ap (λ (x : List ℕ). map digit_value x) t.digits ∙ values_of_codes (concat m.rows) in
    let rows : in_rows t.begins.rows t.begins.columns (map digit_value (filter is_dark t.begins.rest)) ≡ m.rows =
    rw (t.rows, t.columns, entries) (rows_of_concat m.cols m.rows t.matrix.row_lengths) in
    matrix_read bytes t.begins m.order (sym t.order)
    ∙ ap₂ (λ (c : ℕ) (x : List (List ℕ)). record { order = m.order; cols = c; rows = x }) t.columns rows

pub one_matrix : (bytes : List ℕ) (a b : MatrixValue) → IsTextOf bytes a → IsTextOf bytes b → a ≡ b
one_matrix bytes a b s t = sym (text_is_of_this bytes a s) ∙ text_is_of_this bytes b t
