-- The layout of rows, and the checks and marks by it.
use Rattle.std.proofs.Common.{◌≡◌, ℕ, ◌+◌, ◌-◌, ◌*◌, ◌/◌, ◌%◌, ◌^◌, ◌<◌, ◌≤◌, true, Result, Ok, Err, List, [], ◌∷◌, ◌++◌, length, get_or, take, drop, All, refl, sym, ap, ◌∙◌, arith}
use Rattle.std.specs.Prelude.{slice_range, is_ok, OnOk}
use Rattle.std.proofs.lemmas.Nat.{mul-le}
use Rattle.std.proofs.lemmas.List.FromFn.{map-range_with_len_more}
use Rattle.std.proofs.lemmas.List.{get_or-take, get_or-drop}
use Rattle.axe_algebra.specs.Lists.{listed}
use Rattle.axe_field.specs.Order.{Order, order_number}
use Rattle.axe_row.specs.ByteDigits.{digits_per_byte}
use Rattle.axe_matrix.specs.Matrices.{MatrixValue}
use Rattle.axe_matrix.specs.Limits.{most_rows, most_columns}
use Rattle.axe_file.specs.Marks.{mark_of, has_unused_mark, bytes_per_row, row_marks}
use Rattle.axe_file.specs.Packed.{data_length, has_padding, mark_at, matrix_at}
use Rattle.axe_algebra.proofs.ListEntries.{listed_length, listed_at}
use Rattle.axe_file.proofs.Lists.{listed_same}
use Rattle.axe_file.proofs.Bytes.{mark_below, byte_of_column}
use Rattle.axe_file.proofs.Layouts.{most_width, width_fits}
use Rattle.axe_file.specs.declared.layout.Layout.{Layout}

pub some_width : (layout : Layout) → 1 ≤ layout.columns → 0 < layout.width
some_width layout some =
    let first : 0 / digits_per_byte layout.field < bytes_per_row layout.field layout.columns = byte_of_column layout.field layout.columns 0 some in
    rw layout.width_is (omega arith)

pub padding_by_layout : (layout : Layout) (bytes : List ℕ) (offset p : ℕ)
    → has_padding layout.field layout.columns bytes offset p ≡ has_unused_mark layout.field layout.columns (p % layout.width) (get_or bytes (offset + p) 0)
unfolding has_padding
padding_by_layout layout bytes offset p = rw layout.width_is refl

-- ---- sizes

-- what the rows of no matrix take more bytes than
abbrev pub most_data : ℕ
most_data = most_rows * most_width

pub data_fits : (o : Order) (r c : ℕ) → r ≤ most_rows → c ≤ most_columns → r * bytes_per_row o c ≤ most_data
data_fits o r c rows columns = mul-le r (bytes_per_row o c) most_rows most_width rows (width_fits o c columns)

-- so many rows as 4 bytes may tell
pub rows_take : (layout : Layout) (r : ℕ) → r < 2 ^ 32 → r * layout.width ≤ 2 ^ 32 * most_width
rows_take layout r few =
    let narrow : layout.width ≤ most_width = rw layout.width_is (width_fits layout.field layout.columns layout.columns_fit) in
    mul-le r layout.width (2 ^ 32) most_width (omega (arith, few)) narrow

pub rows_before : (i r w : ℕ) → i < r → i * w + w ≤ r * w
rows_before i r w lt = let le = mul-le (i + 1) w r w (omega arith) (omega arith) in omega arith

-- ---- the marks of rows

pub marks_are_elements : (o : Order) (columns : ℕ) (bytes : List ℕ) → All (λ a. a < order_number o) (row_marks o columns bytes)
unfolding row_marks
marks_are_elements o columns bytes i d lt =
    let inside : i < columns = omega (arith, listed_length columns (λ j. mark_of o (get_or bytes (j / digits_per_byte o) 0) (j % digits_per_byte o))) in
    rw (listed_at columns (λ j. mark_of o (get_or bytes (j / digits_per_byte o) 0) (j % digits_per_byte o)) i d inside) (mark_below o _ _)

pub length-row_marks : (o : Order) (columns : ℕ) (bytes : List ℕ) → length (row_marks o columns bytes) ≡ columns
unfolding row_marks
length-row_marks o columns bytes = listed_length columns _

pub data_by_layout : (layout : Layout) (r : ℕ) → r * layout.width ≡ data_length layout.field r layout.columns
unfolding data_length
data_by_layout layout r = rw layout.width_is refl

-- the marks of row i, read from its bytes
pub marks_at : (layout : Layout) (bytes : List ℕ) (offset i : ℕ)
    → row_marks layout.field layout.columns (slice_range bytes (offset + i * layout.width) (offset + i * layout.width + layout.width))
    ≡ listed layout.columns (mark_at layout.field layout.columns bytes offset i)
unfolding row_marks mark_at
marks_at layout bytes offset i =
    let o = layout.field in
    let m = digits_per_byte o in
    let w = layout.width in
    let start = offset + i * w in
    let long : start + w - start ≡ w = omega arith in
    let width : w ≡ bytes_per_row o layout.columns = layout.width_is in
    listed_same layout.columns _ (mark_at o layout.columns bytes offset i) 0 (λ j lt.
    let inside : j / m < w = rw width (byte_of_column o layout.columns j lt) in
    let byte : get_or (slice_range bytes start (start + w)) (j / m) 0 ≡ get_or bytes (offset + (i * w + j / m)) 0 =
    ap (λ (n : ℕ). get_or (take n (drop start bytes)) (j / m) 0) long
    ∙ get_or-take w (drop start bytes) (j / m) 0 inside
    ∙ get_or-drop start bytes (j / m) 0
    ∙ ap (λ (n : ℕ). get_or bytes n 0) (omega arith) in
    ap (λ (b : ℕ). mark_of o b (j % m)) byte ∙ ap (λ (n : ℕ). mark_of o (get_or bytes (offset + (i * n + j / m)) 0) (j % m)) width)

-- ---- the matrix, row after row

pub pushed : (m new : MatrixValue) (o : Order) (c n : ℕ) (f : ℕ → List ℕ) (entries : List ℕ) → m ≡ record { order = o; cols = c; rows = listed n f } → entries ≡ f n
    → new ≡ record { order = m.order; cols = m.cols; rows = m.rows ++ entries ∷ [] } → new ≡ record { order = o; cols = c; rows = listed (n + 1) f }
pushed m new o c n f entries em ee en =
    let more : listed n f ++ f n ∷ [] ≡ listed (n + 1) f = sym (map-range_with_len_more f 0 n n (omega arith)) in
    rw (en, em, ee) (λ i. record { order = o; cols = c; rows = more i })

pub matrix_is : (o : Order) (r c n : ℕ) (bytes : List ℕ) (offset : ℕ) → n ≡ r
    → record { order = o; cols = c; rows = listed n (λ i. listed c (mark_at o c bytes offset i)) } ≡ matrix_at o r c bytes offset
unfolding matrix_at
matrix_is o r c n bytes offset e = rw e refl

pub when_ok : {T E P : Type 0} (r : Result T E) → true ≡ is_ok r → OnOk r P → P
when_ok (Ok x) e h = h
when_ok (Err x) e h = absurd cc
