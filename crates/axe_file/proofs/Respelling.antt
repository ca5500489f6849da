-- Bytes without fault are the spelling of the matrix that they give.
use Rattle.std.proofs.Common.{◌≡◌, ℕ, ◌+◌, ◌*◌, ◌/◌, ◌%◌, ◌<◌, ◌≤◌, false, eqb, List, [], ◌∷◌, ◌++◌, length, get_or, drop, All, Option, Some, None, refl, sym, ap, ◌∙◌, inl, inr, arith}
use Rattle.std.specs.Prelude.{is_none}
use Rattle.std.specs.Option.{unwrap_or}
use Rattle.std.specs.List.{flat_map}
use Rattle.std.proofs.lemmas.Bool.{cases_lt, eqb-true}
use Rattle.std.proofs.lemmas.List.{get_or_past, ext_get_or, length-drop, get_or-drop}
use Rattle.std.proofs.lemmas.Nat.{div-mul-add, mod-mul-add}
use Rattle.axe_algebra.specs.Lists.{listed, table}
use Rattle.axe_field.specs.Order.{Order, Two, Three, Four, Five, Seven, Eight, Nine, order_number}
use Rattle.axe_row.specs.ByteDigits.{digits_per_byte}
use Rattle.axe_matrix.specs.Matrices.{IsMatrix}
use Rattle.axe_matrix.specs.Limits.{most_rows, most_columns}
use Rattle.axe_file.specs.Marks.{byte_with_marks, mark_of, bytes_per_row}
use Rattle.axe_file.specs.Packed.{matrix_magic, header_length, order_offset, rows_offset, columns_offset, matrix_reserved, packed, packed_header, packed_row, unpacked, order_with_number, header_order, header_rows, header_columns, data_length, mark_at, matrix_at, packed_fault}
use Rattle.axe_algebra.proofs.ListEntries.{listed_length, listed_at}
use Rattle.axe_file.proofs.Lists.{length-pieces, get_or-pieces}
use Rattle.axe_file.proofs.Bytes.{byte_of_marks, byte_same, mark_below, length-packed_row, get_or-packed_row}
use Rattle.axe_file.proofs.Fours.{IsBytes, bytes_fit, four_at, number_back, in_fours}
use Rattle.axe_file.proofs.Magic.{first_four}
use Rattle.axe_file.proofs.Reserved.{reserved_is_zero}
use Rattle.axe_file.proofs.Soundness.{IsHeader, IsSoundAt, IsSoundData, sound_bytes}
use Rattle.axe_file.proofs.Spellings.{padding_at, place_of}
use Rattle.axe_file.proofs.TextNumbers.{found_passes}

-- ---- the header

named : (n : ℕ) (o : Option Order) → is_none o ≡ false → order_with_number n ≡ o → order_number (unwrap_or o Two) ≡ n
unfolding order_with_number
named n None e f = absurd cc
named n (Some o) e f =
    eqb-true _ _ (found_passes (λ x. eqb (order_number x) n) (Two ∷ Three ∷ Four ∷ Five ∷ Seven ∷ Eight ∷ Nine ∷ []) o f)

pub header_number : (bytes : List ℕ) → is_none (order_with_number (get_or bytes order_offset 0)) ≡ false → order_number (header_order bytes) ≡ get_or bytes order_offset 0
unfolding header_order
header_number bytes e = named (get_or bytes order_offset 0) (order_with_number (get_or bytes order_offset 0)) e refl

header_again : (bytes : List ℕ) → IsBytes bytes → IsHeader bytes → bytes ≡ packed_header (header_order bytes) (header_rows bytes) (header_columns bytes) ++ drop header_length bytes
unfolding packed_header header_rows header_columns
header_again bytes fits h =
    let long = h.begun.long in
    in_fours bytes matrix_magic (order_number (header_order bytes) ∷ 0 ∷ 0 ∷ 0 ∷ []) _ _
    (first_four matrix_magic bytes refl (omega arith) h.begun.magic_is)
    (four_at bytes order_offset (order_number (header_order bytes)) 0 0 0 (omega arith) (sym (header_number bytes h.begun.field))
    (reserved_is_zero matrix_reserved bytes 0 h.reserved (omega arith)) (reserved_is_zero matrix_reserved bytes 1 h.reserved (omega arith))
    (reserved_is_zero matrix_reserved bytes 2 h.reserved (omega arith)))
    (sym (number_back bytes rows_offset (omega arith) fits))
    (sym (number_back bytes columns_offset (omega arith) fits))

-- ---- the data

-- marks, bytes and rows over the order o, of c columns, that are read from an offset on
module _ (o : Order) (c : ℕ) (bytes : List ℕ) (offset : ℕ) where
  mark_again : (i k j : ℕ) → j < digits_per_byte o → (p : ℕ) → i * bytes_per_row o c + k ≡ p
      → (c ≤ k * digits_per_byte o + j → mark_of o (get_or bytes (offset + p) 0) j ≡ 0)
      → get_or (listed c (mark_at o c bytes offset i)) (k * digits_per_byte o + j) 0 ≡ mark_of o (get_or bytes (offset + p) 0) j
  unfolding mark_at
  mark_again i k j lt p place unused =
      let m = digits_per_byte o in
      let row : (k * m + j) / m ≡ k = div-mul-add k m j lt in
      let column : (k * m + j) % m ≡ j = mod-mul-add k m j lt in
      elim (cases_lt (k * m + j) c) [
        | inl inside ↦ listed_at c (mark_at o c bytes offset i) (k * m + j) 0 inside ∙ rw (row, column, place) refl
        | inr past ↦ get_or_past (listed c (mark_at o c bytes offset i)) (k * m + j) 0 (omega (arith, listed_length c (mark_at o c bytes offset i))) ∙ sym (unused past)
      ]

  byte_again : (r p : ℕ) → p < data_length o r c → IsSoundAt o c bytes offset p
      → get_or (flat_map (packed_row o c) (table r c (mark_at o c bytes offset))) p 0 ≡ get_or bytes (offset + p) 0
  unfolding data_length
  byte_again r p lt sound =
      let w = bytes_per_row o c in
      let place = place_of p w r lt in
      let rows = table r c (mark_at o c bytes offset) in
      let count : length rows ≡ r = listed_length r (λ i. listed c (mark_at o c bytes offset i)) in
      let row : get_or rows (p / w) [] ≡ listed c (mark_at o c bytes offset (p / w)) = listed_at r (λ i. listed c (mark_at o c bytes offset i)) (p / w) [] place.row in
      let in' : p / w < length rows = omega (arith, place.row) in
      let piece : get_or (flat_map (packed_row o c) rows) (p / w * w + p % w) 0 ≡ get_or (packed_row o c (get_or rows (p / w) [])) (p % w) 0 =
      get_or-pieces (packed_row o c) w (length-packed_row o c) rows (p / w) (p % w) 0 [] in' place.byte in
      let marks : byte_with_marks o (λ j. get_or (listed c (mark_at o c bytes offset (p / w))) (p % w * digits_per_byte o + j) 0) ≡ byte_with_marks o (mark_of o (get_or bytes (offset + p) 0)) =
      byte_same o _ _ (λ j below. mark_again (p / w) (p % w) j below p place.is (padding_at o c bytes offset p j sound.padding below)) in
      ap (λ (n : ℕ). get_or (flat_map (packed_row o c) rows) n 0) (sym place.is)
      ∙ piece
      ∙ ap (λ (xs : List ℕ). get_or (packed_row o c xs) (p % w) 0) row
      ∙ get_or-packed_row o c (listed c (mark_at o c bytes offset (p / w))) (p % w) place.byte
      ∙ marks
      ∙ byte_of_marks o (get_or bytes (offset + p) 0) sound.below

  pub data_again : (r : ℕ) → IsSoundData o r c bytes offset → drop offset bytes ≡ flat_map (packed_row o c) (table r c (mark_at o c bytes offset))
  unfolding data_length
  data_again r h =
      let rows = table r c (mark_at o c bytes offset) in
      let rest : length (drop offset bytes) ≡ r * bytes_per_row o c = omega (arith, length-drop offset bytes, h.whole) in
      let count : length rows ≡ r = listed_length r (λ i. listed c (mark_at o c bytes offset i)) in
      let pieces : length (flat_map (packed_row o c) rows) ≡ r * bytes_per_row o c =
      length-pieces (packed_row o c) (bytes_per_row o c) (length-packed_row o c) rows ∙ ap (λ (n : ℕ). n * bytes_per_row o c) count in
      ext_get_or 0 (drop offset bytes) _ (rest ∙ sym pieces)
      (λ p lt. let below : p < r * bytes_per_row o c = omega arith in get_or-drop offset bytes p 0 ∙ sym (byte_again r p below (h.sound_at p below)))

  mark_is_element : (i j : ℕ) → mark_at o c bytes offset i j < order_number o
  unfolding mark_at
  mark_is_element i j = mark_below o _ _

  -- so many rows of at least one column are a matrix, where the limits allow so many of both
  pub matrix_at_is_matrix : (r : ℕ) → 1 ≤ c → c ≤ most_columns → r ≤ most_rows → IsMatrix (matrix_at o r c bytes offset)
  unfolding matrix_at
  matrix_at_is_matrix r some columns_fit rows_fit =
      let rows = table r c (mark_at o c bytes offset) in
      let count : length rows ≡ r = listed_length r (λ i. listed c (mark_at o c bytes offset i)) in
      let row : (i : ℕ) (d : List ℕ) → i < length rows → get_or rows i d ≡ listed c (mark_at o c bytes offset i) =
      λ i d lt. listed_at r (λ t. listed c (mark_at o c bytes offset t)) i d (omega arith) in
      record {
        some_column = some;
        columns_fit = columns_fit;
        rows_fit = omega (arith, rows_fit);
        row_lengths = λ i d lt. rw (row i d lt) (listed_length c (mark_at o c bytes offset i));
        elements = λ i d lt. rw (row i d lt) (λ j e inside.
            rw (listed_at c (mark_at o c bytes offset i) j e (omega (arith, listed_length c (mark_at o c bytes offset i)))) (mark_is_element i j));
      }

-- ---- the laws

pub respelled : (bytes : List ℕ) → All (λ byte. byte < 256) bytes → packed_fault bytes ≡ None → bytes ≡ packed (unpacked bytes)
unfolding packed unpacked matrix_at
respelled bytes fits e =
    let o = header_order bytes in
    let r = header_rows bytes in
    let c = header_columns bytes in
    let sound = sound_bytes bytes e in
    let rows = table r c (mark_at o c bytes header_length) in
    let count : length rows ≡ r = listed_length r (λ i. listed c (mark_at o c bytes header_length i)) in
    header_again bytes (bytes_fit bytes fits) sound.0
    ∙ ap (λ (xs : List ℕ). packed_header o r c ++ xs) (data_again o c bytes header_length r sound.1)
    ∙ ap (λ (n : ℕ). packed_header o n c ++ flat_map (packed_row o c) rows) (sym count)

pub unpacked_is_matrix : (bytes : List ℕ) → IsHeader bytes → IsMatrix (unpacked bytes)
unfolding unpacked
unpacked_is_matrix bytes h =
    matrix_at_is_matrix (header_order bytes) (header_columns bytes) bytes header_length (header_rows bytes) h.some_column h.columns_fit h.rows_fit
