-- The spelling of a matrix has no fault, and bytes without fault are the spelling of a matrix.
use Rattle.std.proofs.Common.{◌≡◌, ℕ, zero, suc, ◌+◌, ◌*◌, ◌/◌, ◌%◌, ◌<◌, ◌≤◌, true, false, leb, List, [], length, get_or, Option, None, refl, sym, ap, ◌∙◌, arith}
use Rattle.std.specs.Prelude.{is_none}
use Rattle.std.specs.List.{flat_map}
use Rattle.std.proofs.Math.Nat.{mod-lt}
use Rattle.std.proofs.lemmas.Bool.{leb-true, le-leb, eqb-true, not-false}
use Rattle.std.proofs.lemmas.List.{get_or_past}
use Rattle.std.proofs.lemmas.Nat.{div-add-mod', div_below}
use Rattle.axe_field.specs.Order.{Order, order_number}
use Rattle.axe_row.specs.ByteDigits.{digits_per_byte}
use Rattle.axe_matrix.specs.Matrices.{MatrixValue, IsMatrix}
use Rattle.axe_file.specs.Limits.{most_packed_bytes}
use Rattle.axe_file.specs.Marks.{byte_limit, byte_with_marks, mark_of, has_unused_mark, bytes_per_row}
use Rattle.axe_file.specs.Packed.{header_length, order_offset, packed, packed_row, unpacked, order_with_number, data_length, has_padding, packed_fault}
use Rattle.axe_file.proofs.Bytes.{byte_below, mark_of_byte, element_at}
use Rattle.axe_file.proofs.Headers.{order_of_number, number_in_header, header_has_magic, header_has_zeros}
use Rattle.axe_file.proofs.Unpacking.{packed_says, packed_has_rows, length-packed, unpacked_packed}
use Rattle.axe_file.proofs.RowBytes.{AreRows, HasRows, rows_of_matrix, row_byte}
use Rattle.axe_file.proofs.Ranges.{none_found, none_found_at, and_of_false, and_false}
use Rattle.axe_file.proofs.Scans.{data_fits}
use Rattle.axe_file.proofs.Soundness.{IsHeader, IsSoundAt, no_packed_fault}

-- ---- a spelling has no fault

-- the rule of unused marks
pub padding_from : (o : Order) (c : ℕ) (bytes : List ℕ) (offset p : ℕ)
    → ((j : ℕ) → j < digits_per_byte o → c ≤ p % bytes_per_row o c * digits_per_byte o + j → mark_of o (get_or bytes (offset + p) 0) j ≡ 0)
    → has_padding o c bytes offset p ≡ false
unfolding has_padding has_unused_mark
padding_from o c bytes offset p h =
    none_found _ 0 (digits_per_byte o) (λ j low high.
    and_of_false (leb c (p % bytes_per_row o c * digits_per_byte o + j)) _
    (λ past. let mark = h j (omega arith) (leb-true _ _ past) in rw mark refl))

pub padding_at : (o : Order) (c : ℕ) (bytes : List ℕ) (offset p j : ℕ) → has_padding o c bytes offset p ≡ false → j < digits_per_byte o
    → c ≤ p % bytes_per_row o c * digits_per_byte o + j → mark_of o (get_or bytes (offset + p) 0) j ≡ 0
unfolding has_padding has_unused_mark
padding_at o c bytes offset p j e lt past =
    let here = none_found_at _ 0 (digits_per_byte o) e j (omega arith) (omega arith) in
    let test : leb c (p % bytes_per_row o c * digits_per_byte o + j) ≡ true = le-leb _ _ past in
    eqb-true _ _ (not-false _ (and_false (leb c (p % bytes_per_row o c * digits_per_byte o + j)) _ test here))

-- a place of the data is that of a byte in a row
pub record Place (p w r : ℕ) : Type 0 where
  pub row : p / w < r
  pub byte : p % w < w
  pub is : p / w * w + p % w ≡ p

pub place_of : (p w r : ℕ) → p < r * w → Place p w r
place_of p zero r lt = absurd (omega arith)
place_of p (suc w) r lt = record {
  row = div_below p (suc w) r (omega arith) lt;
  byte = mod-lt p (omega arith);
  is = div-add-mod' p (suc w);
}

pub rows_sound_at : (o : Order) (c : ℕ) (rows : List (List ℕ)) (bytes : List ℕ) (offset : ℕ) → AreRows o c rows → HasRows o c rows bytes offset
    → (p : ℕ) → p < data_length o (length rows) c → IsSoundAt o c bytes offset p
unfolding data_length
rows_sound_at o c rows bytes offset h there p lt =
    let w = bytes_per_row o c in
    let place = place_of p w (length rows) lt in
    let row = get_or rows (p / w) [] in
    let k = p % w in
    let elements : (i : ℕ) → get_or row i 0 < order_number o = λ i. element_at o row i (h.elements (p / w) [] place.row) in
    let byte : get_or bytes (offset + p) 0 ≡ byte_with_marks o (λ j. get_or row (k * digits_per_byte o + j) 0) =
    ap (λ (n : ℕ). get_or bytes (offset + n) 0) (sym place.is) ∙ row_byte o c rows bytes offset there (p / w) k place.row place.byte in
    let below : get_or bytes (offset + p) 0 < byte_limit o = rw byte (byte_below o _ (λ j inside. elements (k * digits_per_byte o + j))) in
    let long : length row ≡ c = h.lengths (p / w) [] place.row in
    let unused : (j : ℕ) → j < digits_per_byte o → c ≤ k * digits_per_byte o + j → mark_of o (get_or bytes (offset + p) 0) j ≡ 0 =
    λ j inside past. ap (λ (b : ℕ). mark_of o b j) byte ∙ mark_of_byte o _ j (λ t within. elements (k * digits_per_byte o + t)) inside
    ∙ get_or_past row (k * digits_per_byte o + j) 0 (omega arith) in
    record { below = below; padding = padding_from o c bytes offset p unused }

packed_header_sound : (m : MatrixValue) → IsMatrix m → IsHeader (packed m)
unfolding packed
packed_header_sound m h =
    let says = packed_says m h in
    let rest = flat_map (packed_row m.order m.cols) m.rows in
    let total = length-packed m in
    let number : is_none (order_with_number (get_or (packed m) order_offset 0)) ≡ false =
    ap (λ (n : ℕ). is_none (order_with_number n)) (number_in_header m.order (length m.rows) m.cols rest) ∙ ap (λ (o : Option Order). is_none o) (order_of_number m.order) in
    record {
      begun = record {
        long = omega arith;
        magic_is = header_has_magic m.order (length m.rows) m.cols rest;
        field = number;
      };
      reserved = header_has_zeros m.order (length m.rows) m.cols rest;
      rows_fit = omega (arith, says.rows, h.rows_fit);
      some_column = omega (arith, says.columns, h.some_column);
      columns_fit = omega (arith, says.columns, h.columns_fit);
    }

pub packed_faultless : (m : MatrixValue) → IsMatrix m → packed_fault (packed m) ≡ None
unfolding data_length
packed_faultless m h =
    no_packed_fault (packed m) m.order (length m.rows) m.cols (packed_says m h) (packed_header_sound m h) (record {
      whole = length-packed m;
      sound_at = rows_sound_at m.order m.cols m.rows (packed m) header_length (rows_of_matrix m h) (packed_has_rows m);
    })

-- ---- the limit, and matrices with one spelling

pub packed_within : (m : MatrixValue) → IsMatrix m → length (packed m) ≤ most_packed_bytes
packed_within m h =
    omega (arith, length-packed m, data_fits m.order (length m.rows) m.cols h.rows_fit h.columns_fit)

pub packed_apart : (a b : MatrixValue) → IsMatrix a → IsMatrix b → packed a ≡ packed b → a ≡ b
packed_apart a b ha hb e = sym (unpacked_packed a ha) ∙ ap (λ (bytes : List ℕ). unpacked bytes) e ∙ unpacked_packed b hb
