-- Horner's rule at a matrix: the value so far times the matrix, with the next coefficient added to the diagonal.
use Rattle.std.specs.Prelude.{◌≡◌, ℕ, ◌+◌, ◌-◌, ◌<◌, ◌≤◌, List, [], ◌∷◌, length, get_or, drop, Bool, true, false, cond}
use Rattle.std.specs.Prelude.{eqb, Ok}
use Rattle.std.proofs.lemmas.List.{drop_more, drop_all}
use Rattle.axe_algebra.specs.NumberField.{NumberField}
use Rattle.axe_algebra.specs.Lists.{entry, IsSquareOver}
use Rattle.axe_algebra.specs.ListArithmetic.{product, identity}
use Rattle.axe_algebra.specs.Bridge.{field_of, ElementOf}
use Rattle.axe_algebra.proofs.FieldLaws.{mul-zero}
use Rattle.axe_algebra.proofs.ListEntries.{table_entry, table_length}
use Rattle.axe_algebra.proofs.ListProducts.{product_length}
use Rattle.axe_field.specs.Order.{Order, order_number, IsElement}
use Rattle.axe_field.specs.NumberFields.{number_field}
use Rattle.axe_row.specs.Refusals.{Answers}
use Rattle.axe_matrix.specs.Matrices.{MatrixValue, IsMatrix, product_refusal, matrix_product, identity_matrix}
use Rattle.axe_matrix.specs.Multiples.{rows_with_multiple, matrix_with_multiple}
use Rattle.axe_matrix.proofs.ProductLaws.{product_refusal-none}
use Rattle.axe_echelon.proofs.OneMatrix.{over_of}
use Rattle.axe_echelon.proofs.StepLaws.{below_of_element}
use Rattle.axe_polynomial_algebra.specs.PolynomialsOfLists.{degree_of, IsMonicOver, IsPolynomialValue}
use Rattle.axe_polynomial_algebra.proofs.ValueLists.{value_of_linear, value_with_constant}
use Rattle.axe_poly.specs.Polys.{IsValueAt}
use mathlib.Core.Path.{refl, sym, ◌∙◌, ap, subst}
use native.Mathlib.Omega.{arith}

-- an entry of a matrix of so many rows and columns to whose diagonal an element was added
entry_with_diagonal : (K : NumberField) (n : ℕ) (a : List (List ℕ)) (c i j : ℕ) → length a ≡ n → c < K.order →
    i < n → j < n →
    entry (rows_with_multiple K n a c (identity n)) i j ≡ K.add (entry a i j) (cond (eqb i j) c 0)
unfolding rows_with_multiple identity
entry_with_diagonal K n a c i j rows small row column =
    table_entry (length a) n (λ i j. K.add (entry a i j) (K.mul c (entry (identity n) i j))) i j (omega (arith, rows))
    column
    ∙ ap (λ e. K.add (entry a i j) (K.mul c e)) (table_entry n n (λ i j. cond (eqb i j) 1 0) i j row column)
    ∙ ap (K.add (entry a i j)) (scaled (eqb i j))
  where
    scaled : (b : Bool) → K.mul c (cond b 1 0) ≡ cond b c 0
    scaled true = K.mul-one c small
    scaled false = ap (λ (x : ElementOf K). x.0) (mul-zero (field_of K) (c, small))

-- a square matrix as a list over a field that is its own
pub square_over : (a : MatrixValue) (o : Order) (n : ℕ) → IsMatrix a → a.order ≡ o → a.cols ≡ n → length a.rows ≡ n →
    IsSquareOver (number_field o) n a.rows
square_over a o n formed field columns rows = record { length_is = rows; matrix = over_of a o n formed field columns }

-- the coefficients from the last but one on
first_coefficients : (K : NumberField) (f : List ℕ) (at c : ℕ) → IsMonicOver K f → at ≡ degree_of f - 1 →
    c ≡ get_or f at 0 → drop at f ≡ c ∷ 1 ∷ []
first_coefficients K f at c over is c_is =
    drop_more f at 0 (omega (arith, is, over.positive))
    ∙ (λ t. sym c_is t ∷ (drop_more f (at + 1) 0 (omega (arith, is, over.positive))
    ∙ (λ s. leads s ∷ drop_all (at + 1 + 1) f (omega (arith, is, over.positive)) s)) t)
  where
    leads : get_or f (at + 1) 0 ≡ 1
    leads = ap (λ k. get_or f k 0) (let same : at + 1 ≡ degree_of f = omega (arith, is, over.positive) in same)
        ∙ over.leads

-- and from one further to the front
more_coefficients : (f : List ℕ) (k c : ℕ) → 0 < k → k ≤ length f → c ≡ get_or f (k - 1) 0 →
    drop (k - 1) f ≡ c ∷ drop k f
more_coefficients f k c some within c_is =
    drop_more f (k - 1) 0 (omega (arith, some, within))
    ∙ (λ t. sym c_is t ∷ drop ((let same : k - 1 + 1 ≡ k = omega (arith, some) in same) t) f)

-- there are as many rows as before
rows_with_diagonal : (K : NumberField) (n : ℕ) (a : List (List ℕ)) (c : ℕ) →
    length (rows_with_multiple K n a c (identity n)) ≡ length a
unfolding rows_with_multiple
rows_with_diagonal K n a c = table_length (length a) n (λ i j. K.add (entry a i j) (K.mul c (entry (identity n) i j)))

module _ (m : MatrixValue) (formed : IsMatrix m) (square : length m.rows ≡ m.cols) (c : ℕ)
    (element : IsElement m.order c) where
  abbrev K : NumberField
  K = number_field m.order

  abbrev over : IsSquareOver (number_field m.order) m.cols m.rows
  over = square_over m m.order m.cols formed refl refl square

  -- a square matrix of its field with c added to the diagonal
  abbrev with_diagonal : List (List ℕ) → MatrixValue
  with_diagonal a = record {
    order = m.order;
    cols = m.cols;
    rows = rows_with_multiple (number_field m.order) m.cols a c (identity m.cols);
  }

  module _ (a : List (List ℕ)) (rows : length a ≡ m.cols) (next : MatrixValue) (is : next ≡ with_diagonal a)
      (next_formed : IsMatrix next) where
    over_next : IsSquareOver K m.cols next.rows
    over_next =
        square_over next m.order m.cols next_formed (ap (λ (x : MatrixValue). x.order) is)
        (ap (λ (x : MatrixValue). x.cols) is)
        (ap (λ (x : MatrixValue). length x.rows) is ∙ rows_with_diagonal K m.cols a c ∙ rows)

    entry_of_next : (i j : ℕ) → i < m.cols → j < m.cols → entry next.rows i j ≡ K.add (entry a i j) (cond (eqb i j) c 0)
    entry_of_next i j row column =
        ap (λ (x : MatrixValue). entry x.rows i j) is
        ∙ entry_with_diagonal K m.cols a c i j rows (below_of_element m.order c element) row column

    is_value_at : (f : List ℕ) → IsPolynomialValue K f m.rows next.rows → IsValueAt f m next
    is_value_at f value = record {
      field = ap (λ (x : MatrixValue). x.order) is;
      columns = ap (λ (x : MatrixValue). x.cols) is;
      value_is = value;
    }

    -- c + x has as its value the matrix x with c added to its diagonal
    linear_value : a ≡ m.rows → IsValueAt (c ∷ 1 ∷ []) m next
    linear_value first = is_value_at (c ∷ 1 ∷ [])
        (value_of_linear K m.cols m.rows over c next.rows (below_of_element m.order c element) over_next
        (λ i j row column. entry_of_next i j row column
        ∙ ap (λ (r : List (List ℕ)). K.add (entry r i j) (cond (eqb i j) c 0)) first))

    -- f(x) x with c added to the diagonal is the value of the polynomial with c before f's coefficients
    further_value : (f : List ℕ) (value : List (List ℕ)) → IsPolynomialValue K f m.rows value →
        a ≡ product K m.cols value m.rows → IsValueAt (c ∷ f) m next
    further_value f value before more = is_value_at (c ∷ f)
        (value_with_constant K m.cols m.rows over c f value next.rows (below_of_element m.order c element) before
        over_next
        (λ i j row column. entry_of_next i j row column
        ∙ ap (λ (r : List (List ℕ)). K.add (entry r i j) (cond (eqb i j) c 0)) more))

  -- the value with which the rule begins, where c is the coefficient before the leading one
  pub value_of_first : (f : List ℕ) (at : ℕ) (value next : MatrixValue) → IsMonicOver K f → at ≡ degree_of f - 1 →
      c ≡ get_or f at 0 → value ≡ m →
      next ≡ matrix_with_multiple value c (identity_matrix value.order value.cols) → IsMatrix next →
      IsValueAt (drop at f) m next
  value_of_first f at value next monic at_is c_is copied sum next_formed =
      subst (λ (list : List ℕ). IsValueAt list m next) (sym (first_coefficients K f at c monic at_is c_is))
      (linear_value m.rows square next is next_formed refl)
    where
      is : next ≡ with_diagonal m.rows
      is = sum ∙ ap (λ (x : MatrixValue). matrix_with_multiple x c (identity_matrix x.order x.cols)) copied

  -- and each further one, where c is the coefficient before the k-th
  pub value_of_more : (f : List ℕ) (k : ℕ) (value times next : MatrixValue) → 0 < k → k ≤ length f →
      c ≡ get_or f (k - 1) 0 → IsValueAt (drop k f) m value → times ≡ matrix_product value m →
      next ≡ matrix_with_multiple times c (identity_matrix times.order times.cols) → IsMatrix next →
      IsValueAt (drop (k - 1) f) m next
  value_of_more f k value times next some within c_is before multiplied sum next_formed =
      subst (λ (list : List ℕ). IsValueAt list m next) (sym (more_coefficients f k c some within c_is))
      (further_value y (product_length K m.cols value.rows m.rows ∙ before.value_is.square.length_is ∙ square) next is
      next_formed (drop k f) value.rows before.value_is refl)
    where
      y : List (List ℕ)
      y = product K m.cols value.rows m.rows

      times_is : times ≡ record { order = m.order; cols = m.cols; rows = y }
      times_is =
          multiplied
          ∙ ap (λ o. record { order = o; cols = m.cols; rows = product (number_field o) m.cols value.rows m.rows })
          before.field

      is : next ≡ with_diagonal y
      is = sum ∙ ap (λ (x : MatrixValue). matrix_with_multiple x c (identity_matrix x.order x.cols)) times_is

-- a value and the matrix have a product
pub value_product : (m value times : MatrixValue) (f : List ℕ) → length m.rows ≡ m.cols → IsValueAt f m value →
    Answers (product_refusal value m) (λ product. product ≡ matrix_product value m) (Ok times) →
    times ≡ matrix_product value m
value_product m value times f square h answer =
    subst (λ why. Answers why (λ product. product ≡ matrix_product value m) (Ok times))
    (product_refusal-none value m (ap order_number h.field) (h.columns ∙ sym square)) answer

-- which is square
pub value_product-is_square : (m value times : MatrixValue) (f : List ℕ) → length m.rows ≡ m.cols →
    IsValueAt f m value → times ≡ matrix_product value m → length times.rows ≡ times.cols
value_product-is_square m value times f square h is =
    ap (λ (x : MatrixValue). length x.rows) is ∙ product_length (number_field value.order) m.cols value.rows m.rows
    ∙ h.value_is.square.length_is ∙ square
    ∙ sym (ap (λ (x : MatrixValue). x.cols) is)
