-- The spelling of a matrix gives the matrix back.
use Rattle.std.proofs.Common.{◌≡◌, ℕ, ◌+◌, ◌*◌, List, length, refl, sym, ap, ◌∙◌, arith}
use Rattle.std.specs.List.{flat_map}
use Rattle.axe_field.specs.Order.{Order}
use Rattle.axe_matrix.specs.Matrices.{MatrixValue, IsMatrix}
use Rattle.axe_file.specs.Marks.{bytes_per_row}
use Rattle.axe_file.specs.Packed.{header_length, packed, packed_header, packed_row, unpacked, matrix_at}
use Rattle.axe_file.specs.Headers.{SaysShape}
use Rattle.axe_file.proofs.Lists.{length-pieces}
use Rattle.axe_file.proofs.Bytes.{length-packed_row}
use Rattle.axe_file.proofs.Headers.{length-packed_header, order_in_header, rows_in_header, columns_in_header, length_with_header}
use Rattle.axe_file.proofs.RowBytes.{HasRows, rows_of_matrix, rows_after, rows_again}

-- ---- the header of a spelling

pub packed_says : (m : MatrixValue) → IsMatrix m → SaysShape (packed m) m.order (length m.rows) m.cols
unfolding packed
packed_says m h = record {
  order = order_in_header m.order (length m.rows) m.cols (flat_map (packed_row m.order m.cols) m.rows);
  rows = rows_in_header m.order (length m.rows) m.cols (flat_map (packed_row m.order m.cols) m.rows) (omega (arith, h.rows_fit));
  columns = columns_in_header m.order (length m.rows) m.cols (flat_map (packed_row m.order m.cols) m.rows) (omega (arith, h.columns_fit));
}

pub matrix_said : (bytes : List ℕ) (o : Order) (r c : ℕ) → SaysShape bytes o r c → unpacked bytes ≡ matrix_at o r c bytes header_length
unfolding unpacked
matrix_said bytes o r c says = rw (says.order, says.rows, says.columns) refl

pub packed_has_rows : (m : MatrixValue) → HasRows m.order m.cols m.rows (packed m) header_length
unfolding packed
packed_has_rows m =
    rows_after m.order m.cols m.rows (packed_header m.order (length m.rows) m.cols) header_length (length-packed_header m.order (length m.rows) m.cols)

pub length-packed : (m : MatrixValue) → length (packed m) ≡ header_length + length m.rows * bytes_per_row m.order m.cols
unfolding packed
length-packed m =
    length_with_header m.order (length m.rows) m.cols (flat_map (packed_row m.order m.cols) m.rows)
    ∙ ap (λ (n : ℕ). header_length + n) (length-pieces (packed_row m.order m.cols) (bytes_per_row m.order m.cols) (length-packed_row m.order m.cols) m.rows)

pub unpacked_packed : (m : MatrixValue) → IsMatrix m → unpacked (packed m) ≡ m
unfolding matrix_at
unpacked_packed m h =
    let rows = rows_again m.order m.cols m.rows (packed m) header_length (packed_has_rows m) (rows_of_matrix m h) in
    let same : matrix_at m.order (length m.rows) m.cols (packed m) header_length ≡ m = λ i. record { order = m.order; cols = m.cols; rows = sym rows i } in
    matrix_said (packed m) m.order (length m.rows) m.cols (packed_says m h) ∙ same
