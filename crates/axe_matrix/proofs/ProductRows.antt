-- A matrix plus a multiple of some terms of a product, by its rows.
use Rattle.std.proofs.Common.{◌≡◌, ℕ, ◌+◌, ◌<◌, ◌≤◌, List, [], length, get_or, refl, sym, ap, ◌∙◌, subst, arith}
use Rattle.std.proofs.lemmas.List.{ext_get_or, get_or_past}
use Rattle.axe_algebra.specs.Lists.{entry, listed, table, AreElements}
use Rattle.axe_algebra.specs.ListArithmetic.{number_sum, product_entry, product}
use Rattle.axe_algebra.specs.NumberField.{NumberField}
use Rattle.axe_algebra.proofs.ElementNumbers.{entry-below, number_sum_same}
use Rattle.axe_algebra.proofs.ListEntries.{listed_length, listed_at, table_length, table_row, table_entry}
use Rattle.axe_field.specs.Order.{Order, IsElement}
use Rattle.axe_field.specs.NumberFields.{number_field}
use Rattle.axe_matrix.specs.Matrices.{MatrixValue, IsMatrix, matrix_product, zero_matrix}
use Rattle.axe_matrix.specs.Multiples.{rows_with_multiple, matrix_with_multiple}
use Rattle.axe_matrix.specs.PieceTables.{AreTablesFor}
use Rattle.axe_matrix.specs.declared.products.FourTables.{FourTables}
use Rattle.axe_matrix.specs.Products.{row_with_terms, rows_with_terms, matrix_with_terms, rows_with_product, matrix_with_product}
use Rattle.axe_matrix.proofs.BlockLaws.{HasElements, row_with_no_terms, row_with_more_terms}
use Rattle.axe_matrix.proofs.BlockRows.{element-below, elements-below, entries-below, row_elements}
use Rattle.axe_matrix.proofs.MatrixLaws.{same_matrix, length-row_of, IsRow-row_of}
use Rattle.axe_matrix.proofs.ProductLaws.{entry-product, product_entry-IsElement}
use Rattle.axe_matrix.proofs.TermSums.{mul-zero, zero-add, one-mul, number_sum_longer}

pub rows_with_terms-listed : (d : MatrixValue) (c : ℕ) (a b : MatrixValue) (at n : ℕ) →
    record {
      order = d.order;
      cols = d.cols;
      rows = listed (length d.rows) (λ i. row_with_terms (number_field d.order) d.cols (get_or d.rows i []) c (get_or a.rows i []) b.rows at n);
    }
    ≡ matrix_with_terms d c a b at n
unfolding rows_with_terms
rows_with_terms-listed d c a b at n = refl

length-rows_with_terms : (K : NumberField) (columns : ℕ) (d : List (List ℕ)) (c : ℕ) (a b : List (List ℕ)) (at n : ℕ) → length (rows_with_terms K columns d c a b at n) ≡ length d
unfolding rows_with_terms
length-rows_with_terms K columns d c a b at n = listed_length (length d) _

get_or-rows_with_terms : (K : NumberField) (columns : ℕ) (d : List (List ℕ)) (c : ℕ) (a b : List (List ℕ)) (at n i : ℕ) → i < length d →
    get_or (rows_with_terms K columns d c a b at n) i [] ≡ row_with_terms K columns (get_or d i []) c (get_or a i []) b at n
unfolding rows_with_terms
get_or-rows_with_terms K columns d c a b at n i below = listed_at (length d) _ i [] below

-- a matrix with these rows
is_matrix_with_terms : (d : MatrixValue) (c : ℕ) (a b : MatrixValue) (at n : ℕ) (m : MatrixValue) → m.order ≡ d.order → m.cols ≡ d.cols → length m.rows ≡ length d.rows →
    ((i : ℕ) → i < length d.rows → get_or m.rows i [] ≡ row_with_terms (number_field d.order) d.cols (get_or d.rows i []) c (get_or a.rows i []) b.rows at n) →
    m ≡ matrix_with_terms d c a b at n
is_matrix_with_terms d c a b at n m order columns count rows =
    same_matrix m (matrix_with_terms d c a b at n) order columns
    (ext_get_or [] m.rows (matrix_with_terms d c a b at n).rows (count ∙ sym (length-rows_with_terms (number_field d.order) d.cols d.rows c a.rows b.rows at n))
    (λ i below. let inside : i < length d.rows = omega (arith, count) in
    rows i inside ∙ sym (get_or-rows_with_terms (number_field d.order) d.cols d.rows c a.rows b.rows at n i inside)))

-- no terms
pub matrix_with_no_terms : (d : MatrixValue) (c : ℕ) (a b : MatrixValue) (at : ℕ) → IsMatrix d → IsElement d.order c → d ≡ matrix_with_terms d c a b at 0
matrix_with_no_terms d c a b at h small =
    is_matrix_with_terms d c a b at 0 d refl refl refl (λ i below.
    row_with_no_terms (number_field d.order) d.cols (get_or d.rows i []) c (get_or a.rows i []) b.rows at (element-below d.order c small)
    (elements-below d.order _ (IsRow-row_of d i h below).elements) (length-row_of d i h below))

-- terms after terms
pub matrix_with_more_terms : (d : MatrixValue) (c : ℕ) (a b : MatrixValue) (m n : ℕ) (before after : MatrixValue) → IsMatrix d → IsMatrix a → IsMatrix b →
    a.order ≡ d.order → b.order ≡ d.order → length a.rows ≡ length d.rows → IsElement d.order c →
    before ≡ matrix_with_terms d c a b 0 m → after ≡ matrix_with_terms before c a b m n → after ≡ matrix_with_terms d c a b 0 (m + n)
matrix_with_more_terms d c a b m n before after hd ha hb a_field b_field rows_fit small before_is after_is =
    let K : NumberField = number_field d.order in
    let middle : List (List ℕ) = rows_with_terms K d.cols d.rows c a.rows b.rows 0 m in
    let count : length middle ≡ length d.rows = length-rows_with_terms K d.cols d.rows c a.rows b.rows 0 m in
    after_is
    ∙ ap (λ x. matrix_with_terms x c a b m n) before_is
    ∙ is_matrix_with_terms d c a b 0 (m + n) (matrix_with_terms (matrix_with_terms d c a b 0 m) c a b m n) refl refl
    (length-rows_with_terms K d.cols middle c a.rows b.rows m n ∙ count)
    (λ i below.
    get_or-rows_with_terms K d.cols middle c a.rows b.rows m n i (omega (arith, count))
    ∙ ap (λ r. row_with_terms K d.cols r c (get_or a.rows i []) b.rows m n) (get_or-rows_with_terms K d.cols d.rows c a.rows b.rows 0 m i below)
    ∙ ap (λ k. row_with_terms K d.cols (row_with_terms K d.cols (get_or d.rows i []) c (get_or a.rows i []) b.rows 0 m) c (get_or a.rows i []) b.rows k n) (let same : m ≡ 0 + m = omega arith in same)
    ∙ row_with_more_terms K d.cols (get_or d.rows i []) c (get_or a.rows i []) b.rows 0 m n (element-below d.order c small)
    (elements-below d.order _ (IsRow-row_of d i hd below).elements) (elements-below d.order _ (row_elements d.order a i ha a_field (omega (arith, rows_fit))))
    (entries-below d.order b hb b_field))

-- all terms: those past the last are 0
terms_of_product : (K : NumberField) (a b : List (List ℕ)) (i j n : ℕ) → AreElements K (get_or a i []) → HasElements K b → length b ≤ n →
    number_sum K (λ t. K.mul (get_or (get_or a i []) (0 + t) 0) (entry b (0 + t) j)) n ≡ product_entry K a b (length b) i j
unfolding product_entry
terms_of_product K a b i j n over_a over_b all =
    number_sum_same K n _ _ (λ t below. ap (λ k. K.mul (entry a i k) (entry b k j)) (let same : 0 + t ≡ t = omega arith in same))
    ∙ number_sum_longer K (length b) n (λ t. K.mul (entry a i t) (entry b t j)) all
    (λ t. K.mul-below _ _ (entry-below K (get_or a i []) t over_a) (over_b t j))
    (λ t past below. ap (λ (row : List ℕ). K.mul (entry a i t) (get_or row j 0)) (get_or_past b t [] past) ∙ mul-zero K _ (entry-below K (get_or a i []) t over_a))

row_with_all_terms : (K : NumberField) (columns : ℕ) (r : List ℕ) (c : ℕ) (a b : List (List ℕ)) (i n : ℕ) → AreElements K (get_or a i []) → HasElements K b → length b ≤ n →
    row_with_terms K columns r c (get_or a i []) b 0 n ≡ listed columns (λ j. K.add (get_or r j 0) (K.mul c (product_entry K a b (length b) i j)))
unfolding row_with_terms
row_with_all_terms K columns r c a b i n over_a over_b all =
    ext_get_or 0 _ _ (listed_length columns _ ∙ sym (listed_length columns _))
    (λ j below. let inside : j < columns = omega (arith, listed_length columns (λ j. K.add (get_or r j 0) (K.mul c (number_sum K (λ t. K.mul (get_or (get_or a i []) (0 + t) 0) (entry b (0 + t) j)) n)))) in
    listed_at columns _ j 0 inside
    ∙ ap (λ x. K.add (get_or r j 0) (K.mul c x)) (terms_of_product K a b i j n over_a over_b all)
    ∙ sym (listed_at columns (λ j. K.add (get_or r j 0) (K.mul c (product_entry K a b (length b) i j))) j 0 inside))

pub matrix_with_all_terms : (d : MatrixValue) (c : ℕ) (a b : MatrixValue) (n : ℕ) → IsMatrix a → IsMatrix b → a.order ≡ d.order → b.order ≡ d.order →
    length a.rows ≡ length d.rows → length b.rows ≤ n → matrix_with_terms d c a b 0 n ≡ matrix_with_product d c a b
unfolding rows_with_product
matrix_with_all_terms d c a b n ha hb a_field b_field rows_fit all =
    let K : NumberField = number_field d.order in
    let f : ℕ → List ℕ = λ i. listed d.cols (λ j. K.add (entry d.rows i j) (K.mul c (product_entry K a.rows b.rows (length b.rows) i j))) in
    same_matrix (matrix_with_terms d c a b 0 n) (matrix_with_product d c a b) refl refl
    (ext_get_or [] (rows_with_terms K d.cols d.rows c a.rows b.rows 0 n) (listed (length d.rows) f)
    (length-rows_with_terms K d.cols d.rows c a.rows b.rows 0 n ∙ sym (listed_length (length d.rows) f))
    (λ i below. let inside : i < length d.rows = omega (arith, length-rows_with_terms K d.cols d.rows c a.rows b.rows 0 n) in
    get_or-rows_with_terms K d.cols d.rows c a.rows b.rows 0 n i inside
    ∙ row_with_all_terms K d.cols (get_or d.rows i []) c a.rows b.rows i n (elements-below d.order _ (row_elements d.order a i ha a_field (omega (arith, rows_fit))))
    (entries-below d.order b hb b_field) all
    ∙ sym (listed_at (length d.rows) f i [] inside)))

-- tables of the same entries
pub same_table : (m n : ℕ) (f g : ℕ → ℕ → ℕ) → ((i j : ℕ) → i < m → j < n → f i j ≡ g i j) → table m n f ≡ table m n g
same_table m n f g same =
    ext_get_or [] (table m n f) (table m n g) (table_length m n f ∙ sym (table_length m n g)) (λ i below.
    let row : i < m = omega (arith, table_length m n f) in
    table_row m n f i row
    ∙ ext_get_or 0 (listed n (f i)) (listed n (g i)) (listed_length n (f i) ∙ sym (listed_length n (g i))) (λ j within.
    let column : j < n = omega (arith, listed_length n (f i)) in
    listed_at n (f i) j 0 column ∙ same i j row column ∙ sym (listed_at n (g i) j 0 column))
    ∙ sym (table_row m n g i row))

zero_rows-is : (K : NumberField) (m n : ℕ) (f : ℕ → ℕ → ℕ) → ((i j : ℕ) → f i j < K.order) →
    table (length (table m n (λ i j. 0))) n (λ i j. K.add (entry (table m n (λ i j. 0)) i j) (K.mul 1 (f i j))) ≡ table m n f
zero_rows-is K m n f small =
    let zeros : List (List ℕ) = table m n (λ i j. 0) in
    let g : ℕ → ℕ → ℕ = λ i j. K.add (entry zeros i j) (K.mul 1 (f i j)) in
    ap (λ k. table k n g) (table_length m n (λ i j. 0))
    ∙ same_table m n g f (λ i j row column.
    ap (λ x. K.add x (K.mul 1 (f i j))) (table_entry m n (λ i j. 0) i j row column)
    ∙ ap (K.add 0) (one-mul K (f i j) (small i j))
    ∙ zero-add K (f i j) (small i j))

entries_of_product : (a b : MatrixValue) (n i j : ℕ) → IsMatrix a → IsMatrix b → a.order ≡ b.order →
    product_entry (number_field a.order) a.rows b.rows n i j < (number_field a.order).order
unfolding number_field
entries_of_product a b n i j ha hb fields = product_entry-IsElement a b n i j ha hb fields

zeros : (a b : MatrixValue) → IsMatrix a → IsMatrix b → b.order ≡ a.order → matrix_with_product (zero_matrix a.order (length a.rows) b.cols) 1 a b ≡ matrix_product a b
unfolding rows_with_product product
zeros a b ha hb b_field =
    ap (λ rows. record { order = a.order; cols = b.cols; rows = rows })
    (zero_rows-is (number_field a.order) (length a.rows) b.cols (product_entry (number_field a.order) a.rows b.rows (length b.rows))
    (λ i j. entries_of_product a b (length b.rows) i j ha hb (sym b_field)))

-- zeros plus 1 times a product
pub zero_with_product : (o : Order) (rows cols : ℕ) (a b : MatrixValue) → IsMatrix a → IsMatrix b → o ≡ a.order → b.order ≡ a.order → rows ≡ length a.rows → cols ≡ b.cols →
    matrix_with_product (zero_matrix o rows cols) 1 a b ≡ matrix_product a b
zero_with_product o rows cols a b ha hb o_is b_field rows_is cols_is =
    ap (λ p. matrix_with_product (zero_matrix p rows cols) 1 a b) o_is
    ∙ ap (λ n. matrix_with_product (zero_matrix a.order n cols) 1 a b) rows_is
    ∙ ap (λ n. matrix_with_product (zero_matrix a.order (length a.rows) n) 1 a b) cols_is
    ∙ zeros a b ha hb b_field

pub length-matrix_with_terms : (d : MatrixValue) (c : ℕ) (a b : MatrixValue) (at n : ℕ) → length (matrix_with_terms d c a b at n).rows ≡ length d.rows
length-matrix_with_terms d c a b at n = length-rows_with_terms (number_field d.order) d.cols d.rows c a.rows b.rows at n

-- tables for rows of one kind are tables for rows of the same kind
pub tables_for : (o p : Order) (m n : ℕ) (tables : FourTables) → o ≡ p → m ≡ n → AreTablesFor o m tables → AreTablesFor p n tables
tables_for o p m n tables order long h = subst (λ k. AreTablesFor p k tables) long (subst (λ q. AreTablesFor q m tables) order h)

-- a multiple of a product that is added is that multiple of the product as a matrix
pub product_as_multiple : (d : MatrixValue) (c : ℕ) (a b : MatrixValue) → a.order ≡ d.order → b.cols ≡ d.cols → length a.rows ≡ length d.rows →
    matrix_with_product d c a b ≡ matrix_with_multiple d c (matrix_product a b)
unfolding rows_with_product rows_with_multiple
product_as_multiple d c a b field columns rows_fit =
    let K : NumberField = number_field d.order in
    let P : List (List ℕ) = product (number_field a.order) b.cols a.rows b.rows in
    let f : ℕ → ℕ → ℕ = λ i j. K.add (entry d.rows i j) (K.mul c (product_entry K a.rows b.rows (length b.rows) i j)) in
    let g : ℕ → ℕ → ℕ = λ i j. K.add (entry d.rows i j) (K.mul c (entry P i j)) in
    same_matrix (matrix_with_product d c a b) (matrix_with_multiple d c (matrix_product a b)) refl refl
    (same_table (length d.rows) d.cols f g (λ i j row column.
    ap (λ x. K.add (entry d.rows i j) (K.mul c x))
    (ap (λ o. product_entry (number_field o) a.rows b.rows (length b.rows) i j) (sym field)
    ∙ sym (entry-product (number_field a.order) b.cols a.rows b.rows i j (omega (arith, rows_fit)) (omega (arith, columns))))))
