-- The rows of a matrix to which a block of a product is added by tables.
use Rattle.std.proofs.Common.{◌≡◌, ℕ, ◌+◌, ◌*◌, ◌<◌, List, [], length, get_or, sym, ap, ◌∙◌, subst}
use Rattle.std.specs.List.{All}
use Rattle.std.specs.Simd.Lanes.{chunk}
use Rattle.axe_algebra.specs.Digits.{number_with_digits}
use Rattle.axe_algebra.specs.Lists.{entry, AreElements}
use Rattle.axe_algebra.specs.ListArithmetic.{combination}
use Rattle.axe_algebra.specs.NumberField.{NumberField}
use Rattle.axe_field.specs.Order.{Order, order_number, IsElement}
use Rattle.axe_field.specs.NumberFields.{number_field}
use Rattle.axe_row.specs.Combinations.{CombosValue, Combines, IsRowFor, combination_at, piece_number, piece_numbers, row_with_four}
use Rattle.axe_row.specs.Operations.{multiple, sum_with_multiple}
use Rattle.axe_row.specs.Rows.{RowValue}
use Rattle.axe_matrix.specs.Matrices.{MatrixValue, IsMatrix, row_of}
use Rattle.axe_matrix.specs.PieceTables.{IsTableFor, AreTablesFor, CombineFrom}
use Rattle.axe_matrix.specs.Products.{row_with_terms}
use Rattle.axe_matrix.specs.declared.products.FourTables.{FourTables}
use Rattle.axe_matrix.proofs.BlockLaws.{row_with_four_pieces, HasElements}
use Rattle.axe_matrix.proofs.MatrixLaws.{length-row_of, IsRow-row_of, entry-IsElement}
use Rattle.axe_matrix.proofs.TableLaws.{row_of_table, is_row_for}

-- what is an element of a field is one of its numbers
pub element-below : (o : Order) (c : ℕ) → IsElement o c → c < (number_field o).order
unfolding number_field
element-below o c small = small

pub elements-below : (o : Order) (v : List ℕ) → All (IsElement o) v → AreElements (number_field o) v
unfolding number_field
elements-below o v over = over

pub entries-below : (o : Order) (m : MatrixValue) → IsMatrix m → m.order ≡ o → HasElements (number_field o) m.rows
unfolding number_field
entries-below o m h field = λ i j. subst (λ p. IsElement p (entry m.rows i j)) field (entry-IsElement m i j h)

-- the elements of a row of a matrix
pub row_elements : (o : Order) (m : MatrixValue) (i : ℕ) → IsMatrix m → m.order ≡ o → i < length m.rows → All (IsElement o) (get_or m.rows i [])
row_elements o m i h field below = subst (λ p. All (IsElement p) (get_or m.rows i [])) field (IsRow-row_of m i h below).elements

-- the number of a piece of a row of a, by the order of another matrix over its field
number-of_piece : (o : Order) (a : MatrixValue) (i c size from : ℕ) (row : RowValue) → row ≡ row_of a i → a.order ≡ o →
    piece_number row c size from ≡ number_with_digits (order_number o) (multiple (number_field o) c (chunk from size (get_or a.rows i [])))
number-of_piece o a i c size from row row_is field =
    ap (λ r. piece_number r c size from) row_is
    ∙ ap (λ p. number_with_digits (order_number p) (multiple (number_field p) c (chunk from size (get_or a.rows i [])))) field

-- a table has the row of that number, and it may be added to a row of the matrix
pub row_may_be_added : (d a : MatrixValue) (i c size from : ℕ) (row old : RowValue) (table : CombosValue) (number : ℕ) → IsMatrix a → a.order ≡ d.order →
    i < length a.rows → IsElement d.order c → row ≡ row_of a i → IsTableFor d.order d.cols size table → old.order ≡ d.order → length old.entries ≡ d.cols →
    number ≡ piece_number row c size from → IsRowFor old table number
row_may_be_added d a i c size from row old table number h field below small row_is is_table order fits is =
    subst (IsRowFor old table) (sym (is ∙ number-of_piece d.order a i c size from row row_is field))
    (is_row_for d.order c from size (get_or a.rows i []) small (row_elements d.order a i h field below) d.cols old table is_table order fits)

-- that row is the combination of the piece of b's rows
row_of_number : (d a b : MatrixValue) (i c size from : ℕ) (row : RowValue) (table : CombosValue) (number : ℕ) → IsMatrix a → a.order ≡ d.order →
    i < length a.rows → a.cols ≡ length b.rows → IsElement d.order c → row ≡ row_of a i → IsTableFor d.order d.cols size table →
    Combines (chunk from size b.rows) table → number ≡ piece_number row c size from →
    get_or table.rows number []
    ≡ combination (number_field d.order) d.cols (multiple (number_field d.order) c (chunk from size (get_or a.rows i []))) (chunk from size b.rows)
row_of_number d a b i c size from row table number h field below inner small row_is is_table combines is =
    ap (λ n. get_or table.rows n []) (is ∙ number-of_piece d.order a i c size from row row_is field)
    ∙ row_of_table d.order c from size (get_or a.rows i []) small (row_elements d.order a i h field below) b.rows table (length-row_of a i h below ∙ inner) is_table.field combines
    ∙ ap (λ n. combination (number_field d.order) n (multiple (number_field d.order) c (chunk from size (get_or a.rows i []))) (chunk from size b.rows)) is_table.long

four : NumberField → List ℕ → List ℕ → List ℕ → List ℕ → List ℕ → List ℕ
four K r x y z w = sum_with_multiple K (sum_with_multiple K (sum_with_multiple K (sum_with_multiple K r 1 x) 1 y) 1 z) 1 w

-- a row of the matrix when the four rows that its numbers name were added
pub row_of_block : (d a b m : MatrixValue) (i c at : ℕ) (tables : FourTables) (numbers : List ℕ) (row : RowValue) → IsMatrix d → IsMatrix a → IsMatrix b →
    a.order ≡ d.order → b.order ≡ d.order → i < length d.rows → i < length a.rows → a.cols ≡ length b.rows → IsElement d.order c →
    AreTablesFor d.order d.cols tables → CombineFrom at b.rows tables → row ≡ row_of a i → numbers ≡ piece_numbers row c tables.size at →
    m.order ≡ d.order → get_or m.rows i [] ≡ get_or d.rows i [] →
    (row_with_four (row_of m i) (combination_at tables.first (get_or numbers 0 0)) (combination_at tables.second (get_or numbers 1 0))
    (combination_at tables.third (get_or numbers 2 0)) (combination_at tables.fourth (get_or numbers 3 0))).entries
    ≡ row_with_terms (number_field d.order) d.cols (get_or d.rows i []) c (get_or a.rows i []) b.rows at (4 * tables.size)
unfolding four
row_of_block d a b m i c at tables numbers row hd ha hb a_field b_field d_below a_below inner small are combine row_is is order kept =
    let K = number_field d.order in
    let v = get_or a.rows i [] in
    let piece = λ (from : ℕ). combination K d.cols (multiple K c (chunk from tables.size v)) (chunk from tables.size b.rows) in
    let named = λ (table : CombosValue) (k : ℕ). get_or table.rows (get_or numbers k 0) [] in
    let number = λ (k : ℕ). ap (λ (ns : List ℕ). get_or ns k 0) is in
    let first : named tables.first 0 ≡ piece at =
    row_of_number d a b i c tables.size at row tables.first _ ha a_field a_below inner small row_is are.first combine.first (number 0) in
    let second : named tables.second 1 ≡ piece (at + tables.size) =
    row_of_number d a b i c tables.size (at + tables.size) row tables.second _ ha a_field a_below inner small row_is are.second combine.second (number 1) in
    let third : named tables.third 2 ≡ piece (at + 2 * tables.size) =
    row_of_number d a b i c tables.size (at + 2 * tables.size) row tables.third _ ha a_field a_below inner small row_is are.third combine.third (number 2) in
    let fourth : named tables.fourth 3 ≡ piece (at + 3 * tables.size) =
    row_of_number d a b i c tables.size (at + 3 * tables.size) row tables.fourth _ ha a_field a_below inner small row_is are.fourth combine.fourth (number 3) in
    ap (λ p. four (number_field p) (get_or m.rows i []) (named tables.first 0) (named tables.second 1) (named tables.third 2) (named tables.fourth 3)) order
    ∙ ap (λ r. four K r (named tables.first 0) (named tables.second 1) (named tables.third 2) (named tables.fourth 3)) kept
    ∙ ap (λ x. four K (get_or d.rows i []) x (named tables.second 1) (named tables.third 2) (named tables.fourth 3)) first
    ∙ ap (λ x. four K (get_or d.rows i []) (piece at) x (named tables.third 2) (named tables.fourth 3)) second
    ∙ ap (λ x. four K (get_or d.rows i []) (piece at) (piece (at + tables.size)) x (named tables.fourth 3)) third
    ∙ ap (λ x. four K (get_or d.rows i []) (piece at) (piece (at + tables.size)) (piece (at + 2 * tables.size)) x) fourth
    ∙ row_with_four_pieces K d.cols (get_or d.rows i []) c v b.rows at tables.size (element-below d.order c small)
    (elements-below d.order (get_or d.rows i []) (IsRow-row_of d i hd d_below).elements) (elements-below d.order v (row_elements d.order a i ha a_field a_below))
    (entries-below d.order b hb b_field) (length-row_of d i hd d_below) (length-row_of a i ha a_below ∙ inner)
