-- Products of matrices over the seven fields.
use Rattle.std.proofs.Common.{◌≡◌, ℕ, ◌<◌, ◌≤◌, List, [], length, get_or, None, zero, suc, refl, ap, ◌∙◌, arith}
use Rattle.std.specs.List.{All}
use Rattle.std.proofs.lemmas.Bool.{eq-eqb}
use Rattle.std.proofs.lemmas.List.Elements.{All-from_get_or}
use Rattle.std.proofs.lemmas.List.FromFn.{length-map-range_with_len, get_or-map-range_with_len}
use Rattle.axe_algebra.specs.Lists.{entry}
use Rattle.axe_algebra.specs.ListArithmetic.{number_sum, product_entry, product, combination_entry, combination}
use Rattle.axe_algebra.specs.NumberField.{NumberField}
use Rattle.axe_field.specs.Order.{order_number, IsElement}
use Rattle.axe_field.specs.Arithmetic.{field_mul}
use Rattle.axe_field.specs.NumberFields.{number_field}
use Rattle.axe_row.proofs.CombinationLaws.{length-combination}
use Rattle.axe_matrix.specs.Limits.{most_rows}
use Rattle.axe_matrix.proofs.MatrixLaws.{entry-IsElement}
use Rattle.axe_matrix.specs.Matrices.{MatrixValue, IsMatrix, product_refusal, matrix_product}

-- matrices over one field whose shapes fit have a product
pub product_refusal-none : (a b : MatrixValue) → order_number a.order ≡ order_number b.order → a.cols ≡ length b.rows → product_refusal a b ≡ None
product_refusal-none a b fields shapes = rw (eq-eqb _ _ fields, eq-eqb _ _ shapes) refl

-- entry j of a row vector times a matrix
pub get_or-combination : (K : NumberField) (n : ℕ) (v : List ℕ) (b : List (List ℕ)) (j : ℕ) → j < n → get_or (combination K n v b) j 0 ≡ combination_entry K v b (length b) j
unfolding combination
get_or-combination K n v b j below = get_or-map-range_with_len (combination_entry K v b (length b)) 0 n j j 0 below (omega arith)

-- a product has the rows of the first matrix
pub length-product : (K : NumberField) (n : ℕ) (a b : List (List ℕ)) → length (product K n a b) ≡ length a
unfolding product
length-product K n a b = length-map-range_with_len _ 0 (length a)

-- row i of a product is row i of the first matrix times the second
pub get_or-product : (K : NumberField) (n : ℕ) (a b : List (List ℕ)) (i : ℕ) → i < length a → get_or (product K n a b) i [] ≡ combination K n (get_or a i []) b
unfolding product product_entry combination combination_entry
get_or-product K n a b i below =
    get_or-map-range_with_len (λ k. combination K n (get_or a k []) b) 0 (length a) i i [] below (omega arith)

-- entry i, j of a product is the sum over t of entry i, t of the first matrix times entry t, j of the second
pub entry-product : (K : NumberField) (n : ℕ) (a b : List (List ℕ)) (i j : ℕ) → i < length a → j < n → entry (product K n a b) i j ≡ product_entry K a b (length b) i j
unfolding product_entry combination_entry
entry-product K n a b i j row column =
    ap (λ r. get_or r j 0) (get_or-product K n a b i row) ∙ get_or-combination K n (get_or a i []) b j column

-- a sum of elements is an element
pub number_sum-below : (K : NumberField) (f : ℕ → ℕ) (n : ℕ) → ((t : ℕ) → f t < K.order) → number_sum K f n < K.order
unfolding number_sum
number_sum-below K f zero h = let above : 1 < K.order = K.one-below in omega arith
number_sum-below K f (suc n) h = K.add-below (number_sum K f n) (f n) (number_sum-below K f n h) (h n)

-- an entry of a product is an element
pub product_entry-IsElement : (a b : MatrixValue) (n i j : ℕ) → IsMatrix a → IsMatrix b → a.order ≡ b.order → product_entry (number_field a.order) a.rows b.rows n i j < order_number a.order
unfolding product_entry number_field
product_entry-IsElement a b n i j ha hb fields =
    number_sum-below (number_field a.order) (λ t. field_mul a.order (entry a.rows i t) (entry b.rows t j)) n
    (λ t. (number_field a.order).mul-below (entry a.rows i t) (entry b.rows t j) (entry-IsElement a i t ha) (rw fields (entry-IsElement b t j hb)))

-- the product of two matrices over one field is a matrix
pub IsMatrix-product : (a b : MatrixValue) → IsMatrix a → IsMatrix b → a.order ≡ b.order → IsMatrix (matrix_product a b)
IsMatrix-product a b ha hb fields =
    let K = number_field a.order in
    let count : length (matrix_product a b).rows ≡ length a.rows = length-product K b.cols a.rows b.rows in
    let long : (i : ℕ) → i < length (matrix_product a b).rows → length (get_or (matrix_product a b).rows i []) ≡ b.cols =
    λ i below. ap length (get_or-product K b.cols a.rows b.rows i (omega arith)) ∙ length-combination K b.cols (get_or a.rows i []) b.rows in
    record {
      some_column = hb.some_column;
      columns_fit = hb.columns_fit;
      rows_fit = let fit : length a.rows ≤ most_rows = ha.rows_fit in omega (arith, count);
      row_lengths = All-from_get_or (λ row. length row ≡ b.cols) (matrix_product a b).rows [] long;
      elements = All-from_get_or (All (IsElement a.order)) (matrix_product a b).rows [] (λ i below.
          All-from_get_or (IsElement a.order) (get_or (matrix_product a b).rows i []) 0 (λ j within.
          let column : j < b.cols = omega (arith, long i below) in
          rw (entry-product K b.cols a.rows b.rows i j (omega arith) column) (product_entry-IsElement a b (length b.rows) i j ha hb fields)));
    }
