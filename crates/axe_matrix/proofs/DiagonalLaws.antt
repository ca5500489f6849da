-- A square matrix to whose diagonal an element is added entry by entry.
use Rattle.std.proofs.Common.{◌≡◌, ◌≢◌, ℕ, ◌<◌, List, [], length, get_or, set, cond, eqb, inl, inr, refl, sym, ap, ap₂, ◌∙◌, arith, eq-eqb, get_or-set_other, get_or-set_same}
use Rattle.std.proofs.lemmas.Bool.{cases_eq, ne_eqb}
use Rattle.std.proofs.lemmas.List.{ext_get_or, length-set}
use Rattle.axe_algebra.specs.Lists.{entry, listed}
use Rattle.axe_algebra.specs.ListArithmetic.{identity}
use Rattle.axe_algebra.specs.NumberField.{NumberField}
use Rattle.axe_algebra.proofs.ListEntries.{listed_length, listed_at, table_length, table_row, table_entry}
use Rattle.axe_field.specs.Arithmetic.{field_add}
use Rattle.axe_field.specs.NumberFields.{number_field}
use Rattle.axe_field.specs.Order.{Order, IsElement}
use Rattle.axe_matrix.specs.Matrices.{MatrixValue, IsMatrix, identity_matrix}
use Rattle.axe_matrix.specs.Multiples.{rows_with_multiple, matrix_with_multiple}
use Rattle.axe_matrix.proofs.MatrixLaws.{same_matrix, length-row_of, entry-IsElement}
use Rattle.axe_matrix.proofs.TermSums.{mul-zero}

-- row i with the element added to its entry on the diagonal
abbrev pub diagonal_row : MatrixValue → ℕ → ℕ → List ℕ
diagonal_row a c i = set (get_or a.rows i []) i ((number_field a.order).add (entry a.rows i i) c)

-- the same from the row of a matrix of which this one was not yet changed
pub diagonal_row-kept : (a : MatrixValue) (c : ℕ) (m : MatrixValue) (i : ℕ) (o : Order) (d sum : ℕ) → m.order ≡ a.order → get_or m.rows i [] ≡ get_or a.rows i [] →
    o ≡ m.order → d ≡ entry m.rows i i → sum ≡ field_add o d c → set (get_or m.rows i []) i sum ≡ diagonal_row a c i
unfolding number_field
diagonal_row-kept a c m i o d sum field kept o_is d_is sum_is =
    ap₂ (λ (row : List ℕ) s. set row i s) kept
    (sum_is ∙ ap₂ (λ p e. field_add p e c) (o_is ∙ field) (d_is ∙ ap (λ (row : List ℕ). get_or row i 0) kept))

-- an entry on the diagonal plus c times that of the identity
sum_on_diagonal : (K : NumberField) (c d i j : ℕ) → c < K.order → i ≡ j → K.add d (K.mul c (cond (eqb i j) 1 0)) ≡ K.add d c
sum_on_diagonal K c d i j small same =
    ap (λ b. K.add d (K.mul c (cond b 1 0))) (eq-eqb i j same) ∙ ap (K.add d) (K.mul-one c small)

-- an entry off the diagonal plus c times that of the identity
sum_off_diagonal : (K : NumberField) (c d i j : ℕ) → c < K.order → d < K.order → i ≢ j → K.add d (K.mul c (cond (eqb i j) 1 0)) ≡ d
sum_off_diagonal K c d i j small element other =
    ap (λ b. K.add d (K.mul c (cond b 1 0))) (ne_eqb i j other) ∙ ap (K.add d) (mul-zero K c small) ∙ K.add-zero d element

-- the sum by its rows
pub matrix_with_diagonal-rows : (a : MatrixValue) (c : ℕ) → IsMatrix a → length a.rows ≡ a.cols → IsElement a.order c →
    record { order = a.order; cols = a.cols; rows = listed (length a.rows) (diagonal_row a c) } ≡ matrix_with_multiple a c (identity_matrix a.order a.cols)
unfolding number_field rows_with_multiple identity
matrix_with_diagonal-rows a c h square small =
    same_matrix (record { order = a.order; cols = a.cols; rows = listed (length a.rows) (diagonal_row a c) }) (matrix_with_multiple a c (identity_matrix a.order a.cols)) refl refl
    (ext_get_or [] (listed (length a.rows) (diagonal_row a c)) (matrix_with_multiple a c (identity_matrix a.order a.cols)).rows
    (listed_length (length a.rows) (diagonal_row a c) ∙ sym (table_length (length a.rows) a.cols sum))
    (λ i below. let inside : i < length a.rows = omega (arith, listed_length (length a.rows) (diagonal_row a c)) in
    listed_at (length a.rows) (diagonal_row a c) i [] inside ∙ row i inside ∙ sym (table_row (length a.rows) a.cols sum i inside)))
  where
    K : NumberField
    K = number_field a.order

    sum : ℕ → ℕ → ℕ
    sum i j = K.add (entry a.rows i j) (K.mul c (entry (identity a.cols) i j))

    unit : (i j : ℕ) → i < length a.rows → j < a.cols → sum i j ≡ K.add (entry a.rows i j) (K.mul c (cond (eqb i j) 1 0))
    unit i j below inside =
        ap (λ e. K.add (entry a.rows i j) (K.mul c e)) (table_entry a.cols a.cols (λ i j. cond (eqb i j) 1 0) i j (omega (arith, below, square)) inside)

    at : (i j : ℕ) → i < length a.rows → j < a.cols → get_or (diagonal_row a c i) j 0 ≡ sum i j
    at i j below inside = elim (cases_eq j i) [
      | inl same ↦
          ap (λ k. get_or (diagonal_row a c i) k 0) same
          ∙ get_or-set_same (get_or a.rows i []) i (K.add (entry a.rows i i) c) 0 (omega (arith, length-row_of a i h below, below, square))
          ∙ ap (λ k. K.add (entry a.rows i k) c) (sym same)
          ∙ sym (unit i j below inside ∙ sum_on_diagonal K c (entry a.rows i j) i j small (sym same))
      | inr other ↦
          get_or-set_other (get_or a.rows i []) i j (K.add (entry a.rows i i) c) 0 other
          ∙ sym (unit i j below inside ∙ sum_off_diagonal K c (entry a.rows i j) i j small (entry-IsElement a i j h) (λ e. other (sym e)))
    ]

    row : (i : ℕ) → i < length a.rows → diagonal_row a c i ≡ listed a.cols (sum i)
    row i below =
        let long : length (diagonal_row a c i) ≡ a.cols = length-set (get_or a.rows i []) i (K.add (entry a.rows i i) c) ∙ length-row_of a i h below in
        ext_get_or 0 (diagonal_row a c i) (listed a.cols (sum i)) (long ∙ sym (listed_length a.cols (sum i)))
        (λ j within. let inside : j < a.cols = omega (arith, within, long) in at i j below inside ∙ sym (listed_at a.cols (sum i) j 0 inside))
