-- Bytes have no fault exactly where each of the rules holds.
use Rattle.std.proofs.Common.{◌≡◌, ℕ, ◌+◌, ◌<◌, ◌≤◌, false, eqb, ltb, leb, List, [], ◌++◌, length, get_or, None, refl, arith}
use Rattle.std.specs.Prelude.{is_none}
use Rattle.std.specs.List.{flat_map, range_with_len}
use Rattle.std.proofs.lemmas.Bool.{ltb-false, le-ltb, leb-false, lt-leb, eqb-false, ne_eqb}
use Rattle.axe_field.specs.Order.{Order}
use Rattle.axe_matrix.specs.Limits.{most_rows, most_columns}
use Rattle.axe_file.specs.Marks.{byte_limit}
use Rattle.axe_file.specs.Packed.{matrix_magic, header_length, order_offset, matrix_reserved, order_with_number, header_order, header_rows, header_columns, data_length, has_other_magic, is_out_of_range, has_reserved, has_padding, byte_faults, beginning_faults, header_faults, data_faults, packed_fault, fault_where}
use Rattle.axe_file.specs.Headers.{SaysShape}
use Rattle.axe_file.specs.declared.fault.FileFault.TheVariants.{ShortHeader, BadMagic, BadField, BadReserved, BadRows, BadCols, Truncated, BadByte, BadPadding, TrailingBytes}
use Rattle.axe_file.proofs.Ranges.{or_false, not_found, both_nil, no_first, no_faults, no_faults_at, four_parts, three_parts}

-- the rules of the beginning of a header, up to the order
pub record IsBegun (magic bytes : List ℕ) : Type 0 where
  pub long : header_length ≤ length bytes
  pub magic_is : has_other_magic magic bytes ≡ false
  pub field : is_none (order_with_number (get_or bytes order_offset 0)) ≡ false

-- the rules of a header
pub record IsHeader (bytes : List ℕ) : Type 0 where
  pub begun : IsBegun matrix_magic bytes
  pub reserved : has_reserved matrix_reserved bytes ≡ false
  pub rows_fit : header_rows bytes ≤ most_rows
  pub some_column : 1 ≤ header_columns bytes
  pub columns_fit : header_columns bytes ≤ most_columns

-- the rules of a byte of rows from an offset on
pub record IsSoundAt (o : Order) (c : ℕ) (bytes : List ℕ) (offset p : ℕ) : Type 0 where
  pub below : get_or bytes (offset + p) 0 < byte_limit o
  pub padding : has_padding o c bytes offset p ≡ false

-- the rules of rows from an offset on
pub record IsSoundData (o : Order) (r c : ℕ) (bytes : List ℕ) (offset : ℕ) : Type 0 where
  pub whole : length bytes ≡ offset + data_length o r c
  pub sound_at : (p : ℕ) → p < data_length o r c → IsSoundAt o c bytes offset p

pub sound_beginning : (magic bytes : List ℕ) → beginning_faults magic bytes ≡ [] → IsBegun magic bytes
unfolding beginning_faults
sound_beginning magic bytes e =
    let parts = three_parts (fault_where (ltb (length bytes) header_length) ShortHeader) (fault_where (has_other_magic magic bytes) BadMagic)
    (fault_where (is_none (order_with_number (get_or bytes order_offset 0))) BadField) e in
    record {
      long = ltb-false _ _ (not_found (ltb (length bytes) header_length) ShortHeader parts.0);
      magic_is = not_found (has_other_magic magic bytes) BadMagic parts.1;
      field = not_found (is_none (order_with_number (get_or bytes order_offset 0))) BadField parts.2;
    }

pub beginning_is_sound : (magic bytes : List ℕ) → IsBegun magic bytes → beginning_faults magic bytes ≡ []
unfolding beginning_faults
beginning_is_sound magic bytes h =
    let long : ltb (length bytes) header_length ≡ false = le-ltb _ _ h.long in
    rw (long, h.magic_is, h.field) refl

-- a number from 1 to a limit
pub in_range : (n most : ℕ) → is_out_of_range most n ≡ false → (1 ≤ n) × (n ≤ most)
in_range n most e =
    let parts = or_false (eqb n 0) (ltb most n) e in
    let nonzero = eqb-false n 0 parts.0 in
    (omega arith, ltb-false _ _ parts.1)

pub in_range_is_sound : (n most : ℕ) → 1 ≤ n → n ≤ most → is_out_of_range most n ≡ false
in_range_is_sound n most some few =
    let one : eqb n 0 ≡ false = ne_eqb _ _ (λ e. omega (arith, some)) in
    let all : ltb most n ≡ false = le-ltb _ _ few in
    rw (one, all) refl

pub sound_header : (bytes : List ℕ) → header_faults bytes ≡ [] → IsHeader bytes
unfolding header_faults
sound_header bytes e =
    let parts = four_parts (beginning_faults matrix_magic bytes) (fault_where (has_reserved matrix_reserved bytes) BadReserved)
    (fault_where (ltb most_rows (header_rows bytes)) BadRows)
    (fault_where (is_out_of_range most_columns (header_columns bytes)) BadCols) e in
    let columns = in_range (header_columns bytes) most_columns (not_found _ BadCols parts.3) in
    record {
      begun = sound_beginning matrix_magic bytes parts.0;
      reserved = not_found (has_reserved matrix_reserved bytes) BadReserved parts.1;
      rows_fit = ltb-false _ _ (not_found (ltb most_rows (header_rows bytes)) BadRows parts.2);
      some_column = columns.0;
      columns_fit = columns.1;
    }

pub header_is_sound : (bytes : List ℕ) → IsHeader bytes → header_faults bytes ≡ []
unfolding header_faults
header_is_sound bytes h =
    let rows : ltb most_rows (header_rows bytes) ≡ false = le-ltb _ _ h.rows_fit in
    let columns = in_range_is_sound (header_columns bytes) most_columns h.some_column h.columns_fit in
    rw (beginning_is_sound matrix_magic bytes h.begun, h.reserved, rows, columns) refl

pub sound_byte : (o : Order) (c : ℕ) (bytes : List ℕ) (offset p : ℕ) → byte_faults o c bytes offset p ≡ [] → IsSoundAt o c bytes offset p
unfolding byte_faults
sound_byte o c bytes offset p e =
    let parts = both_nil (fault_where (leb (byte_limit o) (get_or bytes (offset + p) 0)) (BadByte (offset + p))) (fault_where (has_padding o c bytes offset p) (BadPadding (offset + p))) e in
    record {
      below = leb-false _ _ (not_found (leb (byte_limit o) (get_or bytes (offset + p) 0)) (BadByte (offset + p)) parts.0);
      padding = not_found (has_padding o c bytes offset p) (BadPadding (offset + p)) parts.1;
    }

pub byte_is_sound : (o : Order) (c : ℕ) (bytes : List ℕ) (offset p : ℕ) → IsSoundAt o c bytes offset p → byte_faults o c bytes offset p ≡ []
unfolding byte_faults
byte_is_sound o c bytes offset p h =
    let below : leb (byte_limit o) (get_or bytes (offset + p) 0) ≡ false = lt-leb _ _ h.below in
    rw (below, h.padding) refl

pub sound_data : (o : Order) (r c : ℕ) (bytes : List ℕ) (offset : ℕ) → data_faults o r c bytes offset ≡ [] → IsSoundData o r c bytes offset
unfolding data_faults
sound_data o r c bytes offset e =
    let size = data_length o r c in
    let parts = three_parts (fault_where (ltb (length bytes) (offset + size)) Truncated) (flat_map (byte_faults o c bytes offset) (range_with_len 0 size))
    (fault_where (ltb (offset + size) (length bytes)) TrailingBytes) e in
    let low = ltb-false _ _ (not_found (ltb (length bytes) (offset + size)) Truncated parts.0) in
    let high = ltb-false _ _ (not_found (ltb (offset + size) (length bytes)) TrailingBytes parts.2) in
    record {
      whole = omega arith;
      sound_at = λ p lt. sound_byte o c bytes offset p (no_faults_at (byte_faults o c bytes offset) 0 size parts.1 p (omega arith) (omega arith));
    }

pub data_is_sound : (o : Order) (r c : ℕ) (bytes : List ℕ) (offset : ℕ) → IsSoundData o r c bytes offset → data_faults o r c bytes offset ≡ []
unfolding data_faults
data_is_sound o r c bytes offset h =
    let size = data_length o r c in
    let low : ltb (length bytes) (offset + size) ≡ false = le-ltb _ _ (omega (arith, h.whole)) in
    let high : ltb (offset + size) (length bytes) ≡ false = le-ltb _ _ (omega (arith, h.whole)) in
    let middle : flat_map (byte_faults o c bytes offset) (range_with_len 0 size) ≡ [] =
    no_faults (byte_faults o c bytes offset) 0 size (λ p from to. byte_is_sound o c bytes offset p (h.sound_at p (omega arith))) in
    rw (low, middle, high) refl

pub sound_bytes : (bytes : List ℕ) → packed_fault bytes ≡ None
    → IsHeader bytes × IsSoundData (header_order bytes) (header_rows bytes) (header_columns bytes) bytes header_length
unfolding packed_fault
sound_bytes bytes e =
    let rows = data_faults (header_order bytes) (header_rows bytes) (header_columns bytes) bytes header_length in
    let parts = both_nil (header_faults bytes) rows (no_first (header_faults bytes ++ rows) e) in
    (sound_header bytes parts.0, sound_data (header_order bytes) (header_rows bytes) (header_columns bytes) bytes header_length parts.1)

pub no_packed_fault : (bytes : List ℕ) (o : Order) (r c : ℕ) → SaysShape bytes o r c → IsHeader bytes → IsSoundData o r c bytes header_length → packed_fault bytes ≡ None
unfolding packed_fault
no_packed_fault bytes o r c says header inside =
    rw (header_is_sound bytes header, says.order, says.rows, says.columns, data_is_sound o r c bytes header_length inside) refl
