-- What blocks of matrices tell of entries.
use Rattle.std.proofs.Common.{◌≡◌, ℕ, ◌+◌, ◌-◌, ◌<◌, ◌↔◌, List, [], length, get_or, Bool, true, false, All, IsTrue, Result, Ok, Err, None, sym, ap, subst, ◌∙◌, arith}
use Rattle.axe_algebra.specs.Lists.{entry, table, listed}
use Rattle.axe_algebra.proofs.ListEntries.{listed_length, listed_at, table_length, table_row, table_entry}
use Rattle.axe_row.specs.Operations.{IsZeroVector}
use Rattle.axe_row.specs.Refusals.{Answers}
use Rattle.axe_row.specs.declared.refusals.Refusal.{Refusal}
use Rattle.axe_matrix.specs.Matrices.{MatrixValue, IsMatrix, matrix_block, has_only_zeros}
use Rattle.axe_matrix.proofs.MatrixLaws.{same_matrix, same_rows}
use Rattle.axe_matrix.proofs.OnlyZeros.{only_zeros, row_of_zeros}
use Rattle.axe_check.specs.Steps.{HasZerosAt, HasBlockAt}

-- ---- the diagonal

module _ (m block : MatrixValue) (start size : ℕ) (size_is : size ≡ length block.rows) where
  abbrev f : ℕ → ℕ → ℕ
  f i j = entry m.rows (start + i) (start + j)

  pub entries_of_same : matrix_block m start size start size ≡ block → (i j : ℕ) → i < length block.rows → j < length block.rows →
      entry m.rows (start + i) (start + j) ≡ entry block.rows i j
  entries_of_same same i j row column =
      sym (table_entry size size f i j (omega arith) (omega arith)) ∙ ap (λ (b : MatrixValue). entry b.rows i j) same

  rows_are_long : All (λ row. length row ≡ size) (table size size f)
  rows_are_long i d inside =
      ap (λ (row : List ℕ). length row) (listed_at size (λ i. listed size (f i)) i d (omega (arith, inside, table_length size size f)))
      ∙ listed_length size (f i)

  pub same_of_entries : block.order ≡ m.order → length block.rows ≡ block.cols → IsMatrix block →
      ((i j : ℕ) → i < length block.rows → j < length block.rows → entry m.rows (start + i) (start + j) ≡ entry block.rows i j) →
      matrix_block m start size start size ≡ block
  same_of_entries field square formed entries =
      same_matrix (matrix_block m start size start size) block (sym field) (size_is ∙ square)
      (same_rows size (table size size f) block.rows rows_are_long
      (subst (λ n. All (λ row. length row ≡ n) block.rows) (sym (size_is ∙ square)) formed.row_lengths)
      (table_length size size f ∙ size_is)
      (λ i j row column.
      let inside : i < size = omega (arith, row, table_length size size f) in
      table_entry size size f i j inside column ∙ entries i j (omega arith) (omega arith)))

-- ---- zeros

module _ (m : MatrixValue) (start size width : ℕ) (fits : start + size + width ≡ m.cols) where
  abbrev g : ℕ → ℕ → ℕ
  g i j = entry m.rows (start + i) (start + size + j)

  pub zeros_of_block : has_only_zeros (table size width g) ≡ true → HasZerosAt m start size
  zeros_of_block zeros i j row right inside =
      let column : j - (start + size) < width = omega (arith, right, inside, fits) in
      let place : start + size + (j - (start + size)) ≡ j = omega (arith, right) in
      let long : length (get_or (table size width g) i []) ≡ width =
      ap (λ (r : List ℕ). length r) (table_row size width g i row) ∙ listed_length width (g i) in
      ap (entry m.rows (start + i)) (sym place) ∙ sym (table_entry size width g i (j - (start + size)) row column)
      ∙ row_of_zeros (table size width g) i zeros (omega (arith, row, table_length size width g)) (j - (start + size)) 0 (omega (arith, column, long))

  pub block_of_zeros : HasZerosAt m start size → has_only_zeros (table size width g) ≡ true
  block_of_zeros zeros =
      only_zeros (table size width g) (λ i inside. row_is_zero i (omega (arith, inside, table_length size width g)))
    where
      row_is_zero : (i : ℕ) → i < size → IsZeroVector (get_or (table size width g) i [])
      row_is_zero i row =
          subst IsZeroVector (sym (table_row size width g i row)) (λ j d inside.
          let column : j < width = omega (arith, inside, listed_length width (g i)) in
          listed_at width (g i) j d column ∙ zeros i (start + size + j) row (omega arith) (omega (arith, column, fits)))

-- right of all columns there is nothing
pub no_columns_right : (m : MatrixValue) (start size : ℕ) → start + size ≡ m.cols → HasZerosAt m start size
no_columns_right m start size whole i j row right inside = absurd (omega (arith, whole, right, inside))

-- ---- both

pub block_if_zeros : (m block : MatrixValue) (start size : ℕ) (result : Result Bool Refusal) → size ≡ length block.rows →
    matrix_block m start size start size ≡ block → Answers None (λ has. IsTrue has ↔ HasZerosAt m start size) result →
    Answers None (λ has. IsTrue has ↔ HasBlockAt m start block) result
block_if_zeros m block start size (Err refusal) size_is same answer = answer
block_if_zeros m block start size (Ok has) size_is same told = (
  λ is. record {
    entries = entries_of_same m block start size size_is same;
    zeros = subst (HasZerosAt m start) size_is (told.0 is);
  },
  λ is. told.1 (subst (HasZerosAt m start) (sym size_is) is.zeros),
)

-- what is told of equal matrices
pub block_told : (x y a b : MatrixValue) (start : ℕ) (found : Bool) → x ≡ a → y ≡ b → (IsTrue found ↔ HasBlockAt x start y) →
    IsTrue found ↔ HasBlockAt a start b
block_told x y a b start found x_is y_is told =
    subst (λ m. IsTrue found ↔ HasBlockAt m start b) x_is (subst (λ m. IsTrue found ↔ HasBlockAt x start m) y_is told)

-- a test that failed
pub not_both : (b : Bool) → b ≡ false → b ≡ true → ⊥
not_both b e f = cc
