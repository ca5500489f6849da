-- Which fault is the first, when some rules hold and the next one is broken.
use Rattle.std.proofs.Common.{◌≡◌, ℕ, zero, suc, ◌+◌, ◌<◌, ◌≤◌, true, false, eqb, ltb, leb, List, [], ◌∷◌, ◌++◌, length, get_or, Option, Some, None, Result, Ok, Err, refl, sym, ap, ◌∙◌, arith}
use Rattle.std.specs.Prelude.{slice_get, IfOk, IfErr}
use Rattle.std.specs.List.{flat_map, find, range_with_len}
use Rattle.std.proofs.lemmas.Bool.{lt-ltb, le-ltb, le-leb, lt-leb, ne_eqb}
use Rattle.axe_field.specs.Order.{Order, Two, Three, Four, Five, Seven, Eight, Nine, order_number}
use Rattle.axe_matrix.specs.Limits.{most_rows, most_columns}
use Rattle.axe_matrix.specs.Matrices.{MatrixValue, IsMatrix}
use Rattle.axe_file.specs.Marks.{byte_limit}
use Rattle.axe_file.specs.Packed.{matrix_magic, header_length, order_offset, matrix_reserved, order_with_number, header_order, header_rows, header_columns, data_length, has_other_magic, is_out_of_range, has_reserved, has_padding, byte_faults, beginning_faults, header_faults, data_faults, packed_fault, packed, unpacked}
use Rattle.axe_file.specs.declared.fault.FileFault.{FileFault}
use Rattle.axe_file.specs.declared.fault.FileFault.TheVariants.{ShortHeader, BadMagic, BadField, BadReserved, BadRows, BadCols, Truncated, BadByte, BadPadding, TrailingBytes, Memory}
use Rattle.axe_file.specs.Headers.{SaysShape}
use Rattle.axe_file.specs.Answers.{AnswersFile}
use Rattle.axe_file.proofs.Headers.{order_of_number}
use Rattle.axe_file.proofs.Unpacking.{unpacked_packed}
use Rattle.axe_file.proofs.Spellings.{packed_faultless}
use Rattle.axe_file.proofs.Ranges.{both_nil}

abbrev pub First : List FileFault → FileFault → Type 0
First faults fault = slice_get faults 0 ≡ Some fault

pub first_stays : (xs ys : List FileFault) (fault : FileFault) → First xs fault → First (xs ++ ys) fault
first_stays [] ys fault e = absurd cc
first_stays (x ∷ xs) ys fault e = e

-- a first fault with three lists after it
pub first_stays_3 : (xs a b c : List FileFault) (fault : FileFault) → First xs fault → First (xs ++ a ++ b ++ c) fault
first_stays_3 xs a b c fault e = first_stays (xs ++ a ++ b) c fault (first_stays (xs ++ a) b fault (first_stays xs a fault e))

-- ---- the beginning of a header

pub short_header : (magic bytes : List ℕ) → length bytes < header_length → First (beginning_faults magic bytes) ShortHeader
unfolding beginning_faults
short_header magic bytes h =
    let short : ltb (length bytes) header_length ≡ true = lt-ltb _ _ h in
    rw short refl

pub bad_magic : (magic bytes : List ℕ) → header_length ≤ length bytes → has_other_magic magic bytes ≡ true → First (beginning_faults magic bytes) BadMagic
unfolding beginning_faults
bad_magic magic bytes h other =
    let long : ltb (length bytes) header_length ≡ false = le-ltb _ _ h in
    rw (long, other) refl

pub bad_field : (magic bytes : List ℕ) → header_length ≤ length bytes → has_other_magic magic bytes ≡ false
    → order_with_number (get_or bytes order_offset 0) ≡ None
    → First (beginning_faults magic bytes) BadField
unfolding beginning_faults
bad_field magic bytes h found field =
    let long : ltb (length bytes) header_length ≡ false = le-ltb _ _ h in
    rw (long, found, field) refl

-- the order that a header names
pub named_order : (bytes : List ℕ) (o : Order) → order_number o ≡ get_or bytes order_offset 0 → order_with_number (get_or bytes order_offset 0) ≡ Some o
named_order bytes o e = ap (λ (n : ℕ). order_with_number n) (sym e) ∙ order_of_number o

pub order_named : (bytes : List ℕ) (o : Order) → order_number o ≡ get_or bytes order_offset 0 → header_order bytes ≡ o
unfolding header_order
order_named bytes o e = rw (named_order bytes o e) refl

-- ---- the header of a matrix

pub fault_in_beginning : (bytes : List ℕ) (fault : FileFault) → First (beginning_faults matrix_magic bytes) fault → First (header_faults bytes) fault
unfolding header_faults
fault_in_beginning bytes fault e = first_stays_3 (beginning_faults matrix_magic bytes) _ _ _ fault e

pub bad_reserved : (bytes : List ℕ) → beginning_faults matrix_magic bytes ≡ [] → has_reserved matrix_reserved bytes ≡ true
    → First (header_faults bytes) BadReserved
unfolding header_faults
bad_reserved bytes begun reserved = rw (begun, reserved) refl

pub bad_rows : (bytes : List ℕ) → beginning_faults matrix_magic bytes ≡ [] → has_reserved matrix_reserved bytes ≡ false → most_rows < header_rows bytes
    → First (header_faults bytes) BadRows
unfolding header_faults
bad_rows bytes begun reserved rows =
    let many : ltb most_rows (header_rows bytes) ≡ true = lt-ltb _ _ rows in
    rw (begun, reserved, many) refl

pub bad_columns : (bytes : List ℕ) → beginning_faults matrix_magic bytes ≡ [] → has_reserved matrix_reserved bytes ≡ false → header_rows bytes ≤ most_rows
    → is_out_of_range most_columns (header_columns bytes) ≡ true → First (header_faults bytes) BadCols
unfolding header_faults
bad_columns bytes begun reserved rows columns =
    let few : ltb most_rows (header_rows bytes) ≡ false = le-ltb _ _ rows in
    rw (begun, reserved, few, columns) refl

not_found_among : (n : ℕ) (orders : List Order) → ((o : Order) → order_number o ≡ n → ⊥) → find (λ o. eqb (order_number o) n) orders ≡ None
not_found_among n [] h = refl
not_found_among n (o ∷ orders) h =
    let other : eqb (order_number o) n ≡ false = ne_eqb _ _ (h o) in
    rw other (not_found_among n orders h)

pub no_order : (n : ℕ) → ((o : Order) → order_number o ≡ n → ⊥) → order_with_number n ≡ None
unfolding order_with_number
no_order n h = not_found_among n (Two ∷ Three ∷ Four ∷ Five ∷ Seven ∷ Eight ∷ Nine ∷ []) h

-- ---- the data

pub bad_byte : (o : Order) (c : ℕ) (bytes : List ℕ) (offset p : ℕ) → byte_limit o ≤ get_or bytes (offset + p) 0
    → First (byte_faults o c bytes offset p) (BadByte (offset + p))
unfolding byte_faults
bad_byte o c bytes offset p h =
    let high : leb (byte_limit o) (get_or bytes (offset + p) 0) ≡ true = le-leb _ _ h in
    rw high refl

pub bad_padding : (o : Order) (c : ℕ) (bytes : List ℕ) (offset p : ℕ) → get_or bytes (offset + p) 0 < byte_limit o → has_padding o c bytes offset p ≡ true
    → First (byte_faults o c bytes offset p) (BadPadding (offset + p))
unfolding byte_faults
bad_padding o c bytes offset p h padding =
    let low : leb (byte_limit o) (get_or bytes (offset + p) 0) ≡ false = lt-leb _ _ h in
    rw (low, padding) refl

-- the size is that of so many rows from an offset on
module _ (o : Order) (r c : ℕ) (bytes : List ℕ) (offset size : ℕ) (is : size ≡ data_length o r c) where
  pub truncated : length bytes < offset + size → First (data_faults o r c bytes offset) Truncated
  unfolding data_faults
  truncated h =
      let short : ltb (length bytes) (offset + data_length o r c) ≡ true = lt-ltb _ _ (omega (arith, h, is)) in
      rw short refl

  pub fault_inside : (fault : FileFault) → offset + size ≤ length bytes
      → First (flat_map (byte_faults o c bytes offset) (range_with_len 0 size)) fault → First (data_faults o r c bytes offset) fault
  unfolding data_faults
  fault_inside fault h e =
      let long : ltb (length bytes) (offset + data_length o r c) ≡ false = le-ltb _ _ (omega (arith, h, is)) in
      rw long (first_stays (flat_map (byte_faults o c bytes offset) (range_with_len 0 (data_length o r c))) _ fault (rw (← is) e))

  pub trailing : flat_map (byte_faults o c bytes offset) (range_with_len 0 size) ≡ [] → offset + size < length bytes → First (data_faults o r c bytes offset) TrailingBytes
  unfolding data_faults
  trailing inside h =
      let long : ltb (length bytes) (offset + data_length o r c) ≡ false = le-ltb _ _ (omega (arith, h, is)) in
      let more : ltb (offset + data_length o r c) (length bytes) ≡ true = lt-ltb _ _ (omega (arith, h, is)) in
      let inside' : flat_map (byte_faults o c bytes offset) (range_with_len 0 (data_length o r c)) ≡ [] = rw (← is) inside in
      rw (long, inside', more) refl

  pub no_data_fault : flat_map (byte_faults o c bytes offset) (range_with_len 0 size) ≡ [] → length bytes ≡ offset + size → data_faults o r c bytes offset ≡ []
  unfolding data_faults
  no_data_fault inside h =
      let long : ltb (length bytes) (offset + data_length o r c) ≡ false = le-ltb _ _ (omega (arith, h, is)) in
      let less : ltb (offset + data_length o r c) (length bytes) ≡ false = le-ltb _ _ (omega (arith, h, is)) in
      let inside' : flat_map (byte_faults o c bytes offset) (range_with_len 0 (data_length o r c)) ≡ [] = rw (← is) inside in
      rw (long, inside', less) refl

-- ---- all of it

pub fault_in_header : (bytes : List ℕ) (fault : FileFault) → First (header_faults bytes) fault → packed_fault bytes ≡ Some fault
unfolding packed_fault
fault_in_header bytes fault e = first_stays (header_faults bytes) _ fault e

pub fault_in_data : (bytes : List ℕ) (o : Order) (r c : ℕ) (fault : FileFault) → SaysShape bytes o r c → header_faults bytes ≡ []
    → First (data_faults o r c bytes header_length) fault → packed_fault bytes ≡ Some fault
unfolding packed_fault
fault_in_data bytes o r c fault says header e = rw (header, says.order, says.rows, says.columns) e

pub no_fault_at_all : (bytes : List ℕ) (o : Order) (r c : ℕ) → SaysShape bytes o r c → header_faults bytes ≡ [] → data_faults o r c bytes header_length ≡ [] → packed_fault bytes ≡ None
unfolding packed_fault
no_fault_at_all bytes o r c says header inside = rw (header, says.order, says.rows, says.columns, inside) refl

-- ---- the first fault of a range

pub first_fault_at : (faults : ℕ → List FileFault) (fault : FileFault) (a n k j : ℕ) → a + k ≡ j → k < n → flat_map faults (range_with_len a k) ≡ [] → First (faults j) fault
    → First (flat_map faults (range_with_len a n)) fault
first_fault_at faults fault a zero k j e lt before here = absurd (omega arith)
first_fault_at faults fault a (suc n) zero j e lt before here =
    let same : j ≡ a = omega arith in
    first_stays (faults a) (flat_map faults (range_with_len (a + 1) n)) fault (ap (λ (i : ℕ). slice_get (faults i) 0) (sym same) ∙ here)
first_fault_at faults fault a (suc n) (suc k) j e lt before here =
    let parts = both_nil (faults a) (flat_map faults (range_with_len (a + 1) k)) before in
    rw parts.0 (first_fault_at faults fault (a + 1) n k j (omega arith) (omega arith) parts.1 here)

-- a longer range has the same first fault
first_before : (xs ys zs : List FileFault) (fault : FileFault) → (First ys fault → First zs fault) → First (xs ++ ys) fault → First (xs ++ zs) fault
first_before [] ys zs fault rest e = rest e
first_before (x ∷ xs) ys zs fault rest e = e

pub first_in_part : (faults : ℕ → List FileFault) (fault : FileFault) (a n m : ℕ) → n ≤ m → First (flat_map faults (range_with_len a n)) fault
    → First (flat_map faults (range_with_len a m)) fault
first_in_part faults fault a zero m le e = absurd cc
first_in_part faults fault a (suc n) zero le e = absurd (omega arith)
first_in_part faults fault a (suc n) (suc m) le e =
    first_before (faults a) (flat_map faults (range_with_len (a + 1) n)) (flat_map faults (range_with_len (a + 1) m)) fault
    (first_in_part faults fault (a + 1) n m (omega arith)) e

-- ---- what a reader answers

pub answers_fault : {T : Type 0} (o : Option FileFault) (P : T → Type 0) (r : Result T FileFault) (fault : FileFault) → o ≡ Some fault → r ≡ Err fault → AnswersFile o P r
answers_fault o P r fault eo er = rw eo er

answers_memory : {T : Type 0} (P : T → Type 0) (r : Result T FileFault) → IfOk r P → IfErr r (λ fault. fault ≡ Memory) → AnswersFile None P r
answers_memory P (Ok x) ok err = ok
answers_memory P (Err fault) ok err = err

pub answers_value : {T : Type 0} (o : Option FileFault) (P : T → Type 0) (r : Result T FileFault) → o ≡ None → IfOk r P → IfErr r (λ fault. fault ≡ Memory) → AnswersFile o P r
answers_value o P r eo ok err = rw eo (answers_memory P r ok err)

answers_same : {T : Type 0} (a b : T) (r : Result T FileFault) → a ≡ b → AnswersFile None (λ m. m ≡ a) r → AnswersFile None (λ m. m ≡ b) r
answers_same a b (Ok x) e h = h ∙ e
answers_same a b (Err fault) e h = h

-- the answer to the spelling of a matrix
pub answers_spelling : (bytes : List ℕ) (a : MatrixValue) (r : Result MatrixValue FileFault) → IsMatrix a → bytes ≡ packed a
    → AnswersFile (packed_fault bytes) (λ m. m ≡ unpacked bytes) r → AnswersFile None (λ m. m ≡ a) r
answers_spelling bytes a r matrix e answer =
    let faultless : packed_fault bytes ≡ None = ap (λ (xs : List ℕ). packed_fault xs) e ∙ packed_faultless a matrix in
    let same : unpacked bytes ≡ a = ap (λ (xs : List ℕ). unpacked xs) e ∙ unpacked_packed a matrix in
    answers_same (unpacked bytes) a r same (rw faultless at answer)
