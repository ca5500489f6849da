-- Rows whose bytes stand from an offset on: they are read back from these.
use Rattle.std.proofs.Common.{◌≡◌, ℕ, ◌+◌, ◌*◌, ◌/◌, ◌%◌, ◌<◌, ◌≤◌, List, [], ◌++◌, length, get_or, All, refl, sym, ap, ◌∙◌, arith}
use Rattle.std.specs.List.{flat_map}
use Rattle.std.proofs.Math.Nat.{mod-lt}
use Rattle.std.proofs.lemmas.List.{get_or-append-add}
use Rattle.std.proofs.lemmas.Nat.{div-add-mod'}
use Rattle.axe_algebra.specs.Lists.{listed, table}
use Rattle.axe_field.specs.Order.{Order, order_number}
use Rattle.axe_row.specs.ByteDigits.{digits_per_byte}
use Rattle.axe_matrix.specs.Matrices.{MatrixValue, IsMatrix}
use Rattle.axe_file.specs.Marks.{byte_with_marks, mark_of, bytes_per_row}
use Rattle.axe_file.specs.Packed.{packed_row, mark_at}
use Rattle.axe_file.proofs.Lists.{listed_is, get_or-pieces}
use Rattle.axe_file.proofs.Bytes.{two-marks, mark_of_byte, byte_of_column, length-packed_row, get_or-packed_row, element_at}

-- each row has c entries, and each entry is an element
pub record AreRows (o : Order) (c : ℕ) (rows : List (List ℕ)) : Type 0 where
  pub lengths : All (λ row. length row ≡ c) rows
  pub elements : All (All (λ a. a < order_number o)) rows

pub rows_of_matrix : (m : MatrixValue) → IsMatrix m → AreRows m.order m.cols m.rows
rows_of_matrix m h = record { lengths = h.row_lengths; elements = h.elements }

-- the bytes from the offset on are those of the rows
pub record HasRows (o : Order) (c : ℕ) (rows : List (List ℕ)) (bytes : List ℕ) (offset : ℕ) : Type 0 where
  pub byte : (p : ℕ) → get_or bytes (offset + p) 0 ≡ get_or (flat_map (packed_row o c) rows) p 0

pub rows_after : (o : Order) (c : ℕ) (rows : List (List ℕ)) (header : List ℕ) (offset : ℕ) → length header ≡ offset
    → HasRows o c rows (header ++ flat_map (packed_row o c) rows) offset
rows_after o c rows header offset count = record {
  byte = λ p.
      let rest = flat_map (packed_row o c) rows in
      ap (λ (n : ℕ). get_or (header ++ rest) (n + p) 0) (sym count) ∙ get_or-append-add header rest p 0;
}

module _ (o : Order) (c : ℕ) (rows : List (List ℕ)) (bytes : List ℕ) (offset : ℕ) (there : HasRows o c rows bytes offset) where
  -- byte k of row i
  pub row_byte : (i k : ℕ) → i < length rows → k < bytes_per_row o c
      → get_or bytes (offset + (i * bytes_per_row o c + k)) 0 ≡ byte_with_marks o (λ j. get_or (get_or rows i []) (k * digits_per_byte o + j) 0)
  row_byte i k in' lt =
      there.byte (i * bytes_per_row o c + k)
      ∙ get_or-pieces (packed_row o c) (bytes_per_row o c) (length-packed_row o c) rows i k 0 [] in' lt
      ∙ get_or-packed_row o c (get_or rows i []) k lt

  row_mark : (i j : ℕ) → AreRows o c rows → i < length rows → j < c → get_or (get_or rows i []) j 0 ≡ mark_at o c bytes offset i j
  unfolding mark_at
  row_mark i j h in' lt =
      let row = get_or rows i [] in
      let n = digits_per_byte o in
      let two : 2 ≤ n = two-marks o in
      let inside : j % n < n = mod-lt j (omega arith) in
      let place : j / n * n + j % n ≡ j = div-add-mod' j n in
      let byte = row_byte i (j / n) in' (byte_of_column o c j lt) in
      let mark : mark_of o (byte_with_marks o (λ t. get_or row (j / n * n + t) 0)) (j % n) ≡ get_or row (j / n * n + j % n) 0 =
      mark_of_byte o (λ t. get_or row (j / n * n + t) 0) (j % n) (λ k below. element_at o row (j / n * n + k) (h.elements i [] in')) inside in
      sym (ap (λ (b : ℕ). mark_of o b (j % n)) byte
      ∙ mark
      ∙ ap (λ (t : ℕ). get_or row t 0) place)

  pub rows_again : AreRows o c rows → rows ≡ table (length rows) c (mark_at o c bytes offset)
  rows_again h =
      let marks = mark_at o c bytes offset in
      let row : (i : ℕ) → i < length rows → get_or rows i [] ≡ listed c (marks i) =
      λ i in'. listed_is c (marks i) 0 (get_or rows i []) (h.lengths i [] in') (λ j lt. row_mark i j h in' lt) in
      listed_is (length rows) (λ i. listed c (marks i)) [] rows refl row
