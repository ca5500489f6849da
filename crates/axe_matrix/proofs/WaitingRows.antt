-- A row to which rows of a matrix are to be added, and those that wait.
use Rattle.std.proofs.Common.{◌≡◌, ◌≢◌, ℕ, zero, suc, ◌+◌, ◌<◌, ◌≤◌, List, length, get_or, set, refl, sym, ap, subst, ◌∙◌, arith, add-one}
use Rattle.std.specs.List.{All}
use Rattle.std.proofs.lemmas.List.{get_or-set_same, get_or-set_other}
use Rattle.std.proofs.lemmas.List.Elements.{All-from_get_or}
use Rattle.axe_field.specs.CheckedLaws.{field_add-below, field_mul-below}
use Rattle.axe_field.specs.NumberFields.{number_field}
use Rattle.axe_field.specs.Order.{Order, IsElement}
use Rattle.axe_field.proofs.Orders.{one_is_element}
use Rattle.axe_row.specs.Operations.{row_with_multiple, sum_with_multiple}
use Rattle.axe_row.specs.Rows.{RowValue}
use Rattle.axe_row.proofs.OperationLaws.{length-sum_with_multiple, get_or-row_with_multiple}
use Rattle.axe_matrix.specs.Matrices.{MatrixValue, IsMatrix, row_of}
use Rattle.axe_matrix.specs.ValueTerms.{row_with_rows_at}
use Rattle.axe_matrix.proofs.MatrixLaws.{entry-IsElement}

module _ (b : MatrixValue) (row : RowValue) (indices : List ℕ) where
  pub no_rows_at : row ≡ row_with_rows_at b row indices 0
  unfolding row_with_rows_at
  no_rows_at = refl

  pub one_more_row_at : (n : ℕ) → row_with_multiple (row_with_rows_at b row indices n) 1 (row_of b (get_or indices n 0)) ≡ row_with_rows_at b row indices (n + 1)
  unfolding row_with_rows_at
  one_more_row_at n = rw (add-one n) refl

  pub three_rows_at : row_with_multiple (row_with_multiple (row_with_multiple row 1 (row_of b (get_or indices 0 0))) 1 (row_of b (get_or indices 1 0))) 1 (row_of b (get_or indices 2 0))
      ≡ row_with_rows_at b row indices 3
  unfolding row_with_rows_at
  three_rows_at = refl

  pub order-row_with_rows_at : (n : ℕ) → (row_with_rows_at b row indices n).order ≡ row.order
  unfolding row_with_rows_at
  order-row_with_rows_at zero = refl
  order-row_with_rows_at (suc n) = order-row_with_rows_at n

  pub length-row_with_rows_at : (n : ℕ) → length (row_with_rows_at b row indices n).entries ≡ length row.entries
  unfolding row_with_rows_at
  length-row_with_rows_at zero = refl
  length-row_with_rows_at (suc n) = length-sum_with_multiple _ _ _ _ ∙ length-row_with_rows_at n

-- the sum of a row and of a row of a matrix has elements of their field
sum-elements : (b : MatrixValue) (i : ℕ) (row : RowValue) → IsMatrix b → row.order ≡ b.order → All (IsElement b.order) row.entries →
    All (IsElement b.order) (row_with_multiple row 1 (row_of b i)).entries
sum-elements b i row hb field over =
    let sum = sum_with_multiple (number_field b.order) row.entries 1 (row_of b i).entries in
    subst (λ (o : Order). All (IsElement b.order) (sum_with_multiple (number_field o) row.entries 1 (row_of b i).entries)) (sym field)
    (All-from_get_or (IsElement b.order) sum 0 (λ j below.
    let inside : j < length row.entries = omega (arith, length-sum_with_multiple (number_field b.order) row.entries 1 (row_of b i).entries) in
    subst (IsElement b.order) (sym (get_or-row_with_multiple b.order row.entries 1 (row_of b i).entries j inside))
    (field_add-below b.order _ _ (over j 0 inside) (field_mul-below b.order 1 _ (one_is_element b.order) (entry-IsElement b i j hb)))))

pub elements-row_with_rows_at : (b : MatrixValue) (row : RowValue) (indices : List ℕ) (n : ℕ) → IsMatrix b → row.order ≡ b.order → All (IsElement b.order) row.entries →
    All (IsElement b.order) (row_with_rows_at b row indices n).entries
unfolding row_with_rows_at
elements-row_with_rows_at b row indices zero hb field over = over
elements-row_with_rows_at b row indices (suc n) hb field over =
    sum-elements b (get_or indices n 0) (row_with_rows_at b row indices n) hb (order-row_with_rows_at b row indices n ∙ field)
    (elements-row_with_rows_at b row indices n hb field over)

-- an index that is written behind the first n
rows_at-set : (b : MatrixValue) (row : RowValue) (indices : List ℕ) (k index n : ℕ) → n ≤ k → row_with_rows_at b row (set indices k index) n ≡ row_with_rows_at b row indices n
unfolding row_with_rows_at
rows_at-set b row indices k index zero below = refl
rows_at-set b row indices k index (suc n) below =
    let other : n ≢ k = λ same. absurd (omega (arith, same)) in
    ap (λ (r : RowValue). row_with_multiple r 1 (row_of b (get_or (set indices k index) n 0))) (rows_at-set b row indices k index n (omega arith))
    ∙ ap (λ i. row_with_multiple (row_with_rows_at b row indices n) 1 (row_of b i)) (get_or-set_other indices k n index 0 other)

pub one_more_waits : (b : MatrixValue) (row : RowValue) (indices : List ℕ) (n index : ℕ) → n < length indices →
    row_with_rows_at b row (set indices n index) (n + 1) ≡ row_with_multiple (row_with_rows_at b row indices n) 1 (row_of b index)
one_more_waits b row indices n index below =
    sym (one_more_row_at b row (set indices n index) n)
    ∙ ap (λ (r : RowValue). row_with_multiple r 1 (row_of b (get_or (set indices n index) n 0))) (rows_at-set b row indices n index n (omega arith))
    ∙ ap (λ i. row_with_multiple (row_with_rows_at b row indices n) 1 (row_of b i)) (get_or-set_same indices n index 0 below)
