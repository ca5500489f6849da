-- A matrix plus a multiple of a product.
use Rattle.std.specs.Prelude.{ℕ, ◌+◌, List, [], length, slice_index, slice_index_or}
use Rattle.axe_algebra.specs.NumberField.{NumberField}
use Rattle.axe_algebra.specs.ListArithmetic.{number_sum, product_entry}
use Rattle.axe_algebra.specs.Lists.{entry, listed, table}
use Rattle.axe_field.specs.NumberFields.{number_field}
use Rattle.axe_row.specs.Rows.{RowValue}
use Rattle.axe_matrix.specs.Matrices.{MatrixValue}

-- the rows of so many columns of d plus c times the product of a and b: entry i, j is d[i][j] + c s, where s is the sum
-- over t of a[i][t] b[t][j] (any linear algebra text)
unfoldable pub rows_with_product : NumberField → ℕ → List (List ℕ) → ℕ → List (List ℕ) → List (List ℕ) → List (List ℕ)
rows_with_product K columns d c a b =
    table (length d) columns (λ i j. K.add (entry d i j) (K.mul c (product_entry K a b (length b) i j)))

-- the matrix d plus c times the product of a and b
abbrev pub matrix_with_product : MatrixValue → ℕ → MatrixValue → MatrixValue → MatrixValue
matrix_with_product d c a b = record {
  order = d.order;
  cols = d.cols;
  rows = rows_with_product (number_field d.order) d.cols d.rows c a.rows b.rows;
}

-- a row r of so many columns plus c times n terms, from term `at` on, of the vector v times the matrix b: entry j is
-- r[j] + c s, where s is the sum over t below n of v[at + t] b[at + t][j]
unfoldable pub row_with_terms : NumberField → ℕ → List ℕ → ℕ → List ℕ → List (List ℕ) → ℕ → ℕ → List ℕ
row_with_terms K columns r c v b at n =
    listed columns
    (λ j. K.add (slice_index r j)
    (K.mul c (number_sum K (λ t. K.mul (slice_index v (at + t)) (entry b (at + t) j)) n)))

-- the row r plus c times the product of the row vector v and the matrix b (any linear algebra text)
abbrev pub row_with_product : RowValue → ℕ → RowValue → MatrixValue → RowValue
row_with_product r c v b = record {
  order = r.order;
  entries = row_with_terms (number_field r.order) b.cols r.entries c v.entries b.rows 0 (length b.rows);
}

-- the matrix d plus c times n terms, from term `at` on, of the product of a and b, row by row
unfoldable pub rows_with_terms : NumberField → ℕ → List (List ℕ) → ℕ → List (List ℕ) → List (List ℕ) → ℕ → ℕ →
    List (List ℕ)
rows_with_terms K columns d c a b at n =
    listed (length d) (λ i. row_with_terms K columns (slice_index_or d i []) c (slice_index_or a i []) b at n)

-- the matrix with these rows
abbrev pub matrix_with_terms : MatrixValue → ℕ → MatrixValue → MatrixValue → ℕ → ℕ → MatrixValue
matrix_with_terms d c a b at n = record {
  order = d.order;
  cols = d.cols;
  rows = rows_with_terms (number_field d.order) d.cols d.rows c a.rows b.rows at n;
}
