-- Products of matrices, as weighted sums of products over the prime field of the matrices of values of linear forms.
use Rattle.std.proofs.Common.{◌≡◌, ℕ, ◌+◌, ◌<◌, List, [], length, get_or, map}
use Rattle.std.proofs.Common.{refl, sym, ap, ◌∙◌, subst, arith, add-one}
use Rattle.std.proofs.lemmas.List.{ext_get_or, get_or-map, length-map}
use Rattle.axe_algebra.specs.Lists.{entry, listed, table}
use Rattle.axe_algebra.specs.ListArithmetic.{number_sum, product_entry, product}
use Rattle.axe_algebra.specs.NumberField.{NumberField}
use Rattle.axe_algebra.proofs.ElementNumbers.{number_sum_same}
use Rattle.axe_algebra.proofs.ListEntries.{listed_length, listed_at, table_length, table_entry}
use Rattle.axe_field.specs.Forms.{prime_order, form_value, term_at, AreProductTerms}
use Rattle.axe_field.specs.NumberFields.{number_field}
use Rattle.axe_field.specs.Order.{Order, IsElement}
use Rattle.axe_field.specs.declared.forms.ProductTerm.{ProductTerm}
use Rattle.axe_field.proofs.FormSums.{product_entry_by_terms}
use Rattle.axe_matrix.specs.FormValues.{matrix_of_values}
use Rattle.axe_matrix.specs.Matrices.{MatrixValue, IsMatrix, matrix_product, zero_matrix}
use Rattle.axe_matrix.specs.Multiples.{rows_with_multiple, matrix_with_multiple}
use Rattle.axe_matrix.proofs.MatrixLaws.{entry-IsElement, length-row_of}
use Rattle.axe_matrix.proofs.ProductLaws.{entry-product}
use Rattle.axe_matrix.proofs.ProductRows.{same_table}

-- ---- matrices of values

-- the values of a form at the entries of rows
abbrev pub rows_of_values : Order → List ℕ → List (List ℕ) → List (List ℕ)
rows_of_values o form rows = map (map (form_value o form)) rows

-- row i of the values
pub values-row : (o : Order) (form : List ℕ) (rows : List (List ℕ)) (i : ℕ) → i < length rows →
    get_or (rows_of_values o form rows) i [] ≡ map (form_value o form) (get_or rows i [])
values-row o form rows i below = get_or-map (map (form_value o form)) rows i [] [] below

-- entry i, j of the values is the value at entry i, j
values-entry : (o : Order) (form : List ℕ) (rows : List (List ℕ)) (i j : ℕ) → i < length rows →
    j < length (get_or rows i []) →
    entry (rows_of_values o form rows) i j ≡ form_value o form (entry rows i j)
values-entry o form rows i j below inside =
    ap (λ (row : List ℕ). get_or row j 0) (values-row o form rows i below)
    ∙ get_or-map (form_value o form) (get_or rows i []) j 0 0 inside

-- there are as many rows of values as rows
pub length-values : (form : List ℕ) (m : MatrixValue) → length (matrix_of_values form m).rows ≡ length m.rows
length-values form m = length-map m.rows (map (form_value m.order form))

-- the matrix of the values by its rows
pub listed_values : (form : List ℕ) (m : MatrixValue) →
    record {
      order = prime_order m.order;
      cols = m.cols;
      rows = listed (length m.rows) (λ i. map (form_value m.order form) (get_or m.rows i []));
    }
    ≡ matrix_of_values form m
listed_values form m =
    let f : ℕ → List ℕ = λ i. map (form_value m.order form) (get_or m.rows i []) in
    ap (λ rows. record { order = prime_order m.order; cols = m.cols; rows = rows })
    (ext_get_or [] (listed (length m.rows) f) (matrix_of_values form m).rows
    (listed_length (length m.rows) f ∙ sym (length-values form m))
    (λ i below. let inside : i < length m.rows = omega (arith, listed_length (length m.rows) f) in
    listed_at (length m.rows) f i [] inside ∙ sym (values-row m.order form m.rows i inside)))

-- ---- what some terms give of a product

-- the product over the prime field of the matrices of the values of the form of term k at the entries of a and b
abbrev pub product_of_values : List ProductTerm → MatrixValue → MatrixValue → ℕ → MatrixValue
product_of_values terms a b k =
    matrix_product (matrix_of_values (term_at terms k).form a) (matrix_of_values (term_at terms k).form b)

-- entry i, j of what the first n terms give of the product of a and b
unfoldable pub entry_of_terms : List ProductTerm → MatrixValue → MatrixValue → ℕ → ℕ → ℕ → ℕ
entry_of_terms terms a b n i j =
    number_sum (number_field a.order) (λ k. (number_field a.order).mul (term_at terms k).weight
    (entry (product_of_values terms a b k).rows i j)) n

-- what the first n terms give of the product of a and b
abbrev pub product_of_terms : List ProductTerm → MatrixValue → MatrixValue → ℕ → MatrixValue
product_of_terms terms a b n =
    record { order = a.order; cols = b.cols; rows = table (length a.rows) b.cols (entry_of_terms terms a b n) }

-- no terms give zeros
pub product_of_no_terms : (terms : List ProductTerm) (a b m : MatrixValue) (o : Order) (rows cols : ℕ) →
    m ≡ zero_matrix o rows cols → o ≡ a.order → rows ≡ length a.rows → cols ≡ b.cols → m ≡ product_of_terms terms a b 0
unfolding entry_of_terms number_sum
product_of_no_terms terms a b m o rows cols is order count columns =
    is
    ∙ ap (λ p. zero_matrix p rows cols) order
    ∙ ap (λ n. zero_matrix a.order n cols) count
    ∙ ap (λ n. zero_matrix a.order (length a.rows) n) columns

-- entry i, j with one more term
entry_of_next_term : (terms : List ProductTerm) (a b : MatrixValue) (n i j : ℕ) →
    (number_field a.order).add (entry_of_terms terms a b n i j)
    ((number_field a.order).mul (term_at terms n).weight (entry (product_of_values terms a b n).rows i j))
    ≡ entry_of_terms terms a b (n + 1) i j
unfolding entry_of_terms number_sum
entry_of_next_term terms a b n i j = rw (add-one n) refl

-- the rows with one more term
rows_of_next_term : (terms : List ProductTerm) (a b : MatrixValue) (n : ℕ) →
    rows_with_multiple (number_field a.order) b.cols (product_of_terms terms a b n).rows (term_at terms n).weight
    (product_of_values terms a b n).rows
    ≡ (product_of_terms terms a b (n + 1)).rows
unfolding rows_with_multiple
rows_of_next_term terms a b n =
    let K : NumberField = number_field a.order in
    let f : ℕ → ℕ → ℕ = entry_of_terms terms a b n in
    let given : ℕ → ℕ → ℕ = λ i j. K.mul (term_at terms n).weight (entry (product_of_values terms a b n).rows i j) in
    let next : ℕ → ℕ → ℕ = λ i j. K.add (entry (table (length a.rows) b.cols f) i j) (given i j) in
    ap (λ m. table m b.cols next) (table_length (length a.rows) b.cols f)
    ∙ same_table (length a.rows) b.cols next (entry_of_terms terms a b (n + 1)) (λ i j row column.
    ap (λ x. K.add x (given i j)) (table_entry (length a.rows) b.cols f i j row column)
    ∙ entry_of_next_term terms a b n i j)

-- the matrix with one more term
pub product_of_next_term : (terms : List ProductTerm) (a b : MatrixValue) (n : ℕ) (m next : MatrixValue) →
    m ≡ product_of_terms terms a b n →
    next ≡ matrix_with_multiple m (term_at terms n).weight (product_of_values terms a b n) →
    next ≡ product_of_terms terms a b (n + 1)
product_of_next_term terms a b n m next before is =
    is
    ∙ ap (λ x. matrix_with_multiple x (term_at terms n).weight (product_of_values terms a b n)) before
    ∙ ap (λ rows. record { order = a.order; cols = b.cols; rows = rows }) (rows_of_next_term terms a b n)

-- ---- what all terms give

-- entry i, j of the product of the matrices of values, where a and b are over one field
entry_of_values : (o : Order) (form : List ℕ) (a b : MatrixValue) (i j : ℕ) → a.order ≡ o → b.order ≡ o →
    i < length a.rows → j < b.cols →
    entry (matrix_product (matrix_of_values form a) (matrix_of_values form b)).rows i j
    ≡ product_entry (number_field (prime_order o)) (rows_of_values o form a.rows) (rows_of_values o form b.rows)
    (length b.rows) i j
entry_of_values o form a b i j a_field b_field row column =
    let P : Order → NumberField = λ p. number_field (prime_order p) in
    let va : Order → List (List ℕ) = λ p. rows_of_values p form a.rows in
    let vb : Order → List (List ℕ) = λ p. rows_of_values p form b.rows in
    let inside : i < length (va a.order) = omega (arith, length-values form a) in
    entry-product (P a.order) b.cols (va a.order) (vb b.order) i j inside column
    ∙ ap (λ n. product_entry (P a.order) (va a.order) (vb b.order) n i j) (length-values form b)
    ∙ ap (λ p. product_entry (P p) (va p) (vb b.order) (length b.rows) i j) a_field
    ∙ ap (λ p. product_entry (P o) (va o) (vb p) (length b.rows) i j) b_field

-- entry i, j of what all terms give is that of the product
entry_of_all_terms : (terms : List ProductTerm) (a b : MatrixValue) (i j : ℕ) → AreProductTerms a.order terms →
    IsMatrix a → IsMatrix b → b.order ≡ a.order → a.cols ≡ length b.rows → i < length a.rows → j < b.cols →
    entry_of_terms terms a b (length terms) i j
    ≡ product_entry (number_field a.order) a.rows b.rows (length b.rows) i j
unfolding entry_of_terms
entry_of_all_terms terms a b i j are ha hb field inner row column =
    let o : Order = a.order in
    let K : NumberField = number_field o in
    let form : ℕ → List ℕ = λ k. (term_at terms k).form in
    let va : ℕ → List (List ℕ) = λ k. rows_of_values o (form k) a.rows in
    let vb : ℕ → List (List ℕ) = λ k. rows_of_values o (form k) b.rows in
    let long : length (get_or a.rows i []) ≡ length b.rows = length-row_of a i ha row ∙ inner in
    number_sum_same K (length terms) _ _ (λ k among.
    ap (K.mul (term_at terms k).weight) (entry_of_values o (form k) a b i j refl field row column))
    ∙ sym (product_entry_by_terms o terms are a.rows b.rows va vb (length b.rows) i j
    (λ t inside. entry-IsElement a i t ha)
    (λ t inside. subst (λ p. IsElement p (entry b.rows t j)) field (entry-IsElement b t j hb))
    (λ k t inside. values-entry o (form k) a.rows i t row (omega (arith, long)))
    (λ k t inside. values-entry o (form k) b.rows t j inside (omega (arith, length-row_of b t hb inside))))

-- all terms give the product
pub product_of_all_terms : (terms : List ProductTerm) (a b : MatrixValue) (n : ℕ) (m : MatrixValue) →
    AreProductTerms a.order terms → IsMatrix a → IsMatrix b → b.order ≡ a.order → a.cols ≡ length b.rows →
    m ≡ product_of_terms terms a b n → n ≡ length terms → m ≡ matrix_product a b
unfolding product
product_of_all_terms terms a b n m are ha hb field inner is all =
    let given : ℕ → ℕ → ℕ = entry_of_terms terms a b (length terms) in
    let wanted : ℕ → ℕ → ℕ = product_entry (number_field a.order) a.rows b.rows (length b.rows) in
    is
    ∙ ap (product_of_terms terms a b) all
    ∙ ap (λ rows. record { order = a.order; cols = b.cols; rows = rows })
    (same_table (length a.rows) b.cols given wanted (λ i j row column.
    entry_of_all_terms terms a b i j are ha hb field inner row column))
