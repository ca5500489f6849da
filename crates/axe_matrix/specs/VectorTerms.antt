-- Some of the terms of the product of a row vector and a matrix.
use Rattle.std.specs.Prelude.{ℕ, ◌-◌}
use Rattle.axe_field.specs.NumberFields.{number_field}
use Rattle.axe_row.specs.Rows.{RowValue}
use Rattle.axe_matrix.specs.Matrices.{MatrixValue}
use Rattle.axe_matrix.specs.Products.{row_with_terms}

-- the row r plus c times the first n terms of the product of the row vector v and the matrix b
abbrev pub row_with_first_terms : RowValue → ℕ → RowValue → MatrixValue → ℕ → RowValue
row_with_first_terms r c v b n = record {
  order = r.order;
  entries = row_with_terms (number_field r.order) b.cols r.entries c v.entries b.rows 0 n;
}

-- the row r plus c times the terms from number `at` on and before number `end` of the product of the row vector v and the
-- matrix b
abbrev pub row_with_terms_between : RowValue → ℕ → RowValue → MatrixValue → ℕ → ℕ → RowValue
row_with_terms_between r c v b at end = record {
  order = r.order;
  entries = row_with_terms (number_field r.order) b.cols r.entries c v.entries b.rows at (end - at);
}
