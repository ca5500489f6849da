-- A product is a multiple where its first factor is one.
use Rattle.std.proofs.Common.{◌≡◌, ℕ, ◌<◌, List, length, refl, sym, ap, ◌∙◌, arith}
use Rattle.axe_algebra.specs.Lists.{entry, table}
use Rattle.axe_algebra.specs.ListArithmetic.{number_sum, product_entry}
use Rattle.axe_algebra.specs.NumberField.{NumberField}
use Rattle.axe_algebra.proofs.ElementNumbers.{number_sum_same}
use Rattle.axe_algebra.proofs.ListEntries.{table_length, table_entry}
use Rattle.axe_field.specs.Order.{Order, IsElement}
use Rattle.axe_field.specs.NumberFields.{number_field}
use Rattle.axe_matrix.specs.Matrices.{MatrixValue, IsMatrix, zero_matrix}
use Rattle.axe_matrix.specs.Multiples.{rows_with_multiple, matrix_with_multiple, rows_multiple, matrix_multiple}
use Rattle.axe_matrix.specs.Products.{rows_with_product, matrix_with_product}
use Rattle.axe_matrix.proofs.BlockLaws.{HasElements}
use Rattle.axe_matrix.proofs.BlockRows.{element-below, entries-below}
use Rattle.axe_matrix.proofs.ProductRows.{same_table}
use Rattle.axe_matrix.proofs.TermSums.{zero-add, one-mul, mul-number_sum, sum-below}

pub length-matrix_multiple : (c : ℕ) (a : MatrixValue) → length (matrix_multiple c a).rows ≡ length a.rows
unfolding rows_multiple
length-matrix_multiple c a = table_length (length a.rows) a.cols _

zeros_with_multiple : (K : NumberField) (n c : ℕ) (a : List (List ℕ)) → c < K.order → HasElements K a →
    rows_with_multiple K n (table (length a) n (λ i j. 0)) c a ≡ rows_multiple K n c a
unfolding rows_with_multiple rows_multiple
zeros_with_multiple K n c a small over =
    let zeros : List (List ℕ) = table (length a) n (λ i j. 0) in
    let f : ℕ → ℕ → ℕ = λ i j. K.add (entry zeros i j) (K.mul c (entry a i j)) in
    let g : ℕ → ℕ → ℕ = λ i j. K.mul c (entry a i j) in
    ap (λ k. table k n f) (table_length (length a) n (λ i j. 0))
    ∙ same_table (length a) n f g (λ i j row column.
    ap (λ x. K.add x (K.mul c (entry a i j))) (table_entry (length a) n (λ i j. 0) i j row column)
    ∙ zero-add K (K.mul c (entry a i j)) (K.mul-below c (entry a i j) small (over i j)))

-- zeros plus a multiple of a matrix
pub zero_with_multiple : (o : Order) (rows cols c : ℕ) (a : MatrixValue) → IsMatrix a → o ≡ a.order → rows ≡ length a.rows → cols ≡ a.cols → IsElement a.order c →
    matrix_with_multiple (zero_matrix o rows cols) c a ≡ matrix_multiple c a
zero_with_multiple o rows cols c a h o_is rows_is cols_is small =
    ap (λ p. matrix_with_multiple (zero_matrix p rows cols) c a) o_is
    ∙ ap (λ n. matrix_with_multiple (zero_matrix a.order n cols) c a) rows_is
    ∙ ap (λ n. matrix_with_multiple (zero_matrix a.order (length a.rows) n) c a) cols_is
    ∙ ap (λ rows. record { order = a.order; cols = a.cols; rows = rows })
    (zeros_with_multiple (number_field a.order) a.cols c a.rows (element-below a.order c small) (entries-below a.order a h refl))

-- an entry of the product: the scalar is taken out of the sum
entry_of_scaled : (K : NumberField) (columns c : ℕ) (a b : List (List ℕ)) (i j : ℕ) → c < K.order → HasElements K a → HasElements K b → i < length a →
    columns ≡ length b → K.mul 1 (product_entry K (rows_multiple K columns c a) b (length b) i j) ≡ K.mul c (product_entry K a b (length b) i j)
unfolding product_entry rows_multiple
entry_of_scaled K columns c a b i j small over_a over_b below fits =
    let f : ℕ → ℕ = λ t. K.mul (entry a i t) (entry b t j) in
    let f_small : (t : ℕ) → f t < K.order = λ t. K.mul-below (entry a i t) (entry b t j) (over_a i t) (over_b t j) in
    ap (K.mul 1)
    (number_sum_same K (length b) _ (λ t. K.mul c (f t)) (λ t inside.
    ap (λ x. K.mul x (entry b t j)) (table_entry (length a) columns (λ i j. K.mul c (entry a i j)) i t below (omega (arith, fits)))
    ∙ K.mul_assoc c (entry a i t) (entry b t j) small (over_a i t) (over_b t j))
    ∙ sym (mul-number_sum K c f (length b) small f_small))
    ∙ one-mul K (K.mul c (number_sum K f (length b))) (K.mul-below c (number_sum K f (length b)) small (sum-below K f (length b) f_small))

rows_of_scaled : (K : NumberField) (n c : ℕ) (d a b : List (List ℕ)) (columns : ℕ) → c < K.order → HasElements K a → HasElements K b → length a ≡ length d →
    columns ≡ length b → rows_with_product K n d 1 (rows_multiple K columns c a) b ≡ rows_with_product K n d c a b
unfolding rows_with_product
rows_of_scaled K n c d a b columns small over_a over_b rows_fit fits =
    same_table (length d) n _ _ (λ i j row column.
    ap (K.add (entry d i j)) (entry_of_scaled K columns c a b i j small over_a over_b (omega (arith, rows_fit)) fits))

-- a product that is added with a scaled first factor is a multiple of the product
pub scaled_factor : (d : MatrixValue) (c : ℕ) (a b : MatrixValue) → IsMatrix a → IsMatrix b → a.order ≡ d.order → b.order ≡ d.order →
    length a.rows ≡ length d.rows → a.cols ≡ length b.rows → IsElement d.order c →
    matrix_with_product d 1 (matrix_multiple c a) b ≡ matrix_with_product d c a b
scaled_factor d c a b ha hb a_field b_field rows_fit inner_fit small =
    ap (λ rows. record { order = d.order; cols = d.cols; rows = rows })
    (ap (λ o. rows_with_product (number_field d.order) d.cols d.rows 1 (rows_multiple (number_field o) a.cols c a.rows) b.rows) a_field
    ∙ rows_of_scaled (number_field d.order) d.cols c d.rows a.rows b.rows a.cols (element-below d.order c small)
    (entries-below d.order a ha a_field) (entries-below d.order b hb b_field) rows_fit inner_fit)
