-- A matrix's columns at a place among zeros, and matrices that become a product by one strip of columns after another.
use Rattle.std.proofs.Common.{◌≡◌, ℕ, ◌+◌, ◌-◌, ◌<◌, ◌≤◌, List, [], length, get_or, inl, inr, refl, sym, ap, ◌∙◌, subst, arith}
use Rattle.std.specs.List.{All}
use Rattle.std.proofs.lemmas.Bool.{cases_lt}
use Rattle.std.proofs.lemmas.List.{ext_get_or}
use Rattle.axe_algebra.specs.Lists.{entry, table}
use Rattle.axe_algebra.specs.ListArithmetic.{product_entry}
use Rattle.axe_algebra.specs.NumberField.{NumberField}
use Rattle.axe_algebra.proofs.ElementNumbers.{number_sum_same}
use Rattle.axe_algebra.proofs.ListEntries.{listed_length, listed_at, table_length, table_entry}
use Rattle.axe_field.specs.Order.{Order}
use Rattle.axe_field.specs.NumberFields.{number_field}
use Rattle.axe_plane.proofs.PlacedDigits.{length-placed, placed-before, placed-at, placed-after}
use Rattle.axe_row.specs.Rows.{RowValue}
use Rattle.axe_row.specs.Sums.{placed_row}
use Rattle.axe_row.proofs.CombinationLaws.{length-combination}
use Rattle.axe_matrix.specs.Matrices.{MatrixValue, IsMatrix, matrix_block, matrix_product, row_of, zero_matrix}
use Rattle.axe_matrix.specs.Multiples.{rows_with_multiple, matrix_with_multiple}
use Rattle.axe_matrix.specs.Products.{matrix_with_product}
use Rattle.axe_matrix.specs.Strips.{placed_columns}
use Rattle.axe_matrix.proofs.BlockRows.{entries-below}
use Rattle.axe_matrix.proofs.MatrixLaws.{same_matrix, same_rows, length-row_of}
use Rattle.axe_matrix.proofs.ProductLaws.{entry-product, get_or-product, length-product}
use Rattle.axe_matrix.proofs.ProductRows.{product_as_multiple}
use Rattle.axe_matrix.proofs.TermSums.{mul-zero, zero-add, one-mul}

-- at the beginning, with no room left, a row at a place has the row's entries
placed-whole : (n : ℕ) (row : RowValue) → length row.entries ≡ n → (placed_row n 0 row).entries ≡ row.entries
placed-whole n row long =
    ext_get_or 0 (placed_row n 0 row).entries row.entries (length-placed n 0 row.entries ∙ sym long) (λ j below.
    let inside : j < length row.entries = omega (arith, below, length-placed n 0 row.entries, long) in
    let same : 0 + j ≡ j = omega arith in
    ap (λ k. get_or (placed_row n 0 row).entries k 0) (sym same) ∙ placed-at n 0 row.entries j (omega (arith, long)) inside)

-- row i of a matrix's columns at a place is the matrix's row at that place
row-placed : (n start : ℕ) (m : MatrixValue) (i : ℕ) → i < length m.rows →
    get_or (placed_columns n start m).rows i [] ≡ (placed_row n start (row_of m i)).entries
row-placed n start m i below = listed_at (length m.rows) _ i [] below

-- the row at its place, read where neither the row nor the number of columns has changed
pub placed-kept : (n columns start : ℕ) (sums before : MatrixValue) (i : ℕ) → n ≡ columns → sums ≡ before → i < length before.rows →
    (placed_row n start (row_of sums i)).entries ≡ get_or (placed_columns columns start before).rows i []
placed-kept n columns start sums before i wide kept below =
    ap (λ k. (placed_row k start (row_of sums i)).entries) wide
    ∙ ap (λ (m : MatrixValue). (placed_row columns start (row_of m i)).entries) kept
    ∙ sym (row-placed columns start before i below)

-- all columns at the place of the first are the matrix
pub placed_columns-whole : (m : MatrixValue) → IsMatrix m → placed_columns m.cols 0 m ≡ m
placed_columns-whole m h =
    let long : length (placed_columns m.cols 0 m).rows ≡ length m.rows = listed_length (length m.rows) _ in
    same_matrix (placed_columns m.cols 0 m) m refl refl
    (ext_get_or [] (placed_columns m.cols 0 m).rows m.rows long (λ i below.
    let inside : i < length m.rows = omega (arith, below, long) in
    row-placed m.cols 0 m i inside ∙ placed-whole m.cols (row_of m i) (length-row_of m i h inside)))

-- an entry of a matrix plus a multiple of another
entry-with_multiple : (d : MatrixValue) (c : ℕ) (m : MatrixValue) (i j : ℕ) → i < length d.rows → j < d.cols →
    entry (matrix_with_multiple d c m).rows i j ≡ (number_field d.order).add (entry d.rows i j) ((number_field d.order).mul c (entry m.rows i j))
unfolding rows_with_multiple
entry-with_multiple d c m i j row column = table_entry (length d.rows) d.cols _ i j row column

length-with_multiple : (d : MatrixValue) (c : ℕ) (m : MatrixValue) → length (matrix_with_multiple d c m).rows ≡ length d.rows
unfolding rows_with_multiple
length-with_multiple d c m = listed_length (length d.rows) _

-- an element plus 1 times 0
plus_nothing : (K : NumberField) (x y : ℕ) → x < K.order → y ≡ 0 → K.add x (K.mul 1 y) ≡ x
plus_nothing K x y small is = ap (λ n. K.add x (K.mul 1 n)) is ∙ ap (K.add x) (mul-zero K 1 K.one-below) ∙ K.add-zero x small

-- 0 plus 1 times an element
nothing_plus : (K : NumberField) (x y : ℕ) → y < K.order → x ≡ 0 → K.add x (K.mul 1 y) ≡ y
nothing_plus K x y small is = ap (λ n. K.add n (K.mul 1 y)) is ∙ ap (K.add 0) (one-mul K y small) ∙ zero-add K y small

-- the columns of a matrix before one are those of another, and those from there on are 0
pub record HasFirstColumns (start : ℕ) (p m : MatrixValue) : Type 0 where
  pub field : m.order ≡ p.order
  pub columns : m.cols ≡ p.cols
  pub count : length m.rows ≡ length p.rows
  pub before : (i j : ℕ) → i < length p.rows → j < start → entry m.rows i j ≡ entry p.rows i j
  pub after : (i j : ℕ) → i < length p.rows → start ≤ j → j < p.cols → entry m.rows i j ≡ 0
  pub well_formed : IsMatrix m

-- the columns of a matrix are so many of another from one on
pub record AreColumns (start width : ℕ) (p s : MatrixValue) : Type 0 where
  pub count : length s.rows ≡ length p.rows
  pub widths : (i : ℕ) → i < length p.rows → length (get_or s.rows i []) ≡ width
  pub entries : (i k : ℕ) → i < length p.rows → k < width → entry s.rows i k ≡ entry p.rows i (start + k)

-- zeros have no column yet
pub HasFirstColumns-none : (o : Order) (rows cols : ℕ) (p m : MatrixValue) → m ≡ zero_matrix o rows cols → IsMatrix m →
    o ≡ p.order → rows ≡ length p.rows → cols ≡ p.cols → HasFirstColumns 0 p m
HasFirstColumns-none o rows cols p m e h field count columns = record {
  field = ap (λ (x : MatrixValue). x.order) e ∙ field;
  columns = ap (λ (x : MatrixValue). x.cols) e ∙ columns;
  count = ap (λ (x : MatrixValue). length x.rows) e ∙ table_length rows cols (λ i j. 0) ∙ count;
  before = λ i j _ none. absurd (omega (arith, none));
  after = λ i j row _ column.
      ap (λ (x : MatrixValue). entry x.rows i j) e
      ∙ table_entry rows cols (λ i j. 0) i j (omega (arith, row, count)) (omega (arith, column, columns));
  well_formed = h;
}

-- when more columns are added at their place, so many more stand
pub HasFirstColumns-more : (start width : ℕ) (p m s next : MatrixValue) → HasFirstColumns start p m → IsMatrix p → AreColumns start width p s →
    start + width ≤ p.cols → next ≡ matrix_with_multiple m 1 (placed_columns m.cols start s) → IsMatrix next →
    HasFirstColumns (start + width) p next
HasFirstColumns-more start width p m s next h hp strip within e well_formed =
    let K : NumberField = number_field m.order in
    let there : List (List ℕ) = (placed_columns m.cols start s).rows in
    let in_next : (i j : ℕ) → i < length p.rows → j < p.cols → entry next.rows i j ≡ K.add (entry m.rows i j) (K.mul 1 (entry there i j)) =
    λ i j row column. ap (λ (x : MatrixValue). entry x.rows i j) e
    ∙ entry-with_multiple m 1 (placed_columns m.cols start s) i j (omega (arith, row, h.count)) (omega (arith, column, h.columns)) in
    let in_there : (i j : ℕ) → i < length p.rows → entry there i j ≡ get_or (placed_row m.cols start (row_of s i)).entries j 0 =
    λ i j row. ap (λ (r : List ℕ). get_or r j 0) (row-placed m.cols start s i (omega (arith, row, strip.count))) in
    record {
      field = ap (λ (x : MatrixValue). x.order) e ∙ h.field;
      columns = ap (λ (x : MatrixValue). x.cols) e ∙ h.columns;
      count = ap (λ (x : MatrixValue). length x.rows) e ∙ length-with_multiple m 1 (placed_columns m.cols start s) ∙ h.count;
      before = λ i j row below.
          let column : j < m.cols = omega (arith, below, within, h.columns) in
          in_next i j row (omega (arith, below, within))
          ∙ elim (cases_lt j start) [
            | inl earlier ↦ plus_nothing K (entry m.rows i j) (entry there i j) (entries-below m.order m h.well_formed refl i j)
                (in_there i j row ∙ placed-before m.cols start (row_of s i).entries j earlier)
                ∙ h.before i j row earlier
            | inr later ↦
                let back : start + (j - start) ≡ j = omega arith in
                let k_below : j - start < length (row_of s i).entries = omega (arith, below, later, strip.widths i row) in
                let is : entry there i j ≡ entry p.rows i j =
                in_there i j row ∙ ap (λ x. get_or (placed_row m.cols start (row_of s i)).entries x 0) (sym back)
                ∙ placed-at m.cols start (row_of s i).entries (j - start) (omega (arith, within, h.columns, strip.widths i row)) k_below
                ∙ strip.entries i (j - start) row (omega arith) ∙ ap (entry p.rows i) back in
                ap (λ y. K.add (entry m.rows i j) (K.mul 1 y)) is
                ∙ nothing_plus K (entry m.rows i j) (entry p.rows i j) (entries-below m.order p hp (sym h.field) i j)
                (h.after i j row later (omega (arith, below, within)))
          ];
      after = λ i j row past column.
          in_next i j row column
          ∙ plus_nothing K (entry m.rows i j) (entry there i j) (entries-below m.order m h.well_formed refl i j)
          (in_there i j row ∙ placed-after m.cols start (row_of s i).entries j (omega (arith, past, strip.widths i row)))
          ∙ h.after i j row (omega (arith, past)) column;
      well_formed = well_formed;
    }

-- with all columns it is the other matrix
pub HasFirstColumns-all : (start : ℕ) (p m : MatrixValue) → HasFirstColumns start p m → IsMatrix p → p.cols ≤ start → m ≡ p
HasFirstColumns-all start p m h hp all =
    same_matrix m p h.field h.columns
    (same_rows p.cols m.rows p.rows (subst (λ n. All (λ row. length row ≡ n) m.rows) h.columns h.well_formed.row_lengths) hp.row_lengths h.count
    (λ i j row column. h.before i j (omega (arith, row, h.count)) (omega (arith, column, all))))

-- an entry of a product by a strip of the second matrix's columns
entry-product_by_strip : (K : NumberField) (a b : List (List ℕ)) (start width i k : ℕ) → k < width →
    product_entry K a (table (length b) width (λ t j. entry b (0 + t) (start + j))) (length b) i k ≡ product_entry K a b (length b) i (start + k)
unfolding product_entry
entry-product_by_strip K a b start width i k column =
    number_sum_same K (length b) _ _ (λ t below.
    ap (K.mul (entry a i t)) (table_entry (length b) width (λ t j. entry b (0 + t) (start + j)) t k below column
    ∙ ap (λ n. entry b n (start + k)) (let same : 0 + t ≡ t = omega arith in same)))

-- the product with some columns of a matrix is these columns of the product
pub columns_of_product : (a b : MatrixValue) (start width : ℕ) → start + width ≤ b.cols →
    AreColumns start width (matrix_product a b) (matrix_product a (matrix_block b 0 (length b.rows) start width))
columns_of_product a b start width within =
    let K : NumberField = number_field a.order in
    let strip : List (List ℕ) = (matrix_block b 0 (length b.rows) start width).rows in
    let rows : length (matrix_product a b).rows ≡ length a.rows = length-product K b.cols a.rows b.rows in
    let long : length strip ≡ length b.rows = table_length (length b.rows) width (λ t j. entry b.rows (0 + t) (start + j)) in
    record {
      count = length-product K width a.rows strip ∙ sym rows;
      widths = λ i row. ap (λ (r : List ℕ). length r) (get_or-product K width a.rows strip i (omega (arith, row, rows)))
          ∙ length-combination K width (get_or a.rows i []) strip;
      entries = λ i k row column.
          entry-product K width a.rows strip i k (omega (arith, row, rows)) column
          ∙ ap (λ n. product_entry K a.rows strip n i k) long
          ∙ entry-product_by_strip K a.rows b.rows start width i k column
          ∙ sym (entry-product K b.cols a.rows b.rows i (start + k) (omega (arith, row, rows)) (omega (arith, column, within)));
    }

-- a product that is added at the place of the first column
pub product-placed : (d a b sums : MatrixValue) → a.order ≡ d.order → b.cols ≡ d.cols → length a.rows ≡ length d.rows →
    sums ≡ matrix_product a b → IsMatrix sums → matrix_with_multiple d 1 (placed_columns d.cols 0 sums) ≡ matrix_with_product d 1 a b
product-placed d a b sums field columns rows_fit is h =
    ap (λ m. matrix_with_multiple d 1 m)
    (ap (λ n. placed_columns n 0 sums) (sym (ap (λ (m : MatrixValue). m.cols) is ∙ columns)) ∙ placed_columns-whole sums h ∙ is)
    ∙ sym (product_as_multiple d 1 a b field columns rows_fit)
