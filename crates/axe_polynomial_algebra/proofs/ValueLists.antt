-- Values of polynomials at square matrices, as lists: there is one, only one, and Horner's form.
use Rattle.std.specs.Prelude.{◌≡◌, ℕ, suc, ◌<◌, List, [], ◌∷◌, length, cond, eqb}
use Rattle.axe_algebra.specs.NumberField.{NumberField}
use Rattle.axe_algebra.specs.Field.{Field}
use Rattle.axe_algebra.specs.Vectors.{Vector, Matrix, HasShape, add_matrices, scale, unit_vector, unit_matrix, multiply}
use Rattle.axe_algebra.specs.Bridge.{field_of, element, vector_of, matrix_of}
use Rattle.axe_algebra.specs.Lists.{entry, rows_of, IsSquareOver}
use Rattle.axe_algebra.specs.ListArithmetic.{product, identity}
use Rattle.axe_algebra.proofs.FieldLaws.{mul-zero, one-mul}
use Rattle.axe_algebra.proofs.ProductLaws.{identity_multiply, identity_row, unit_is_matrix, unit_at, unit_off}
use Rattle.axe_algebra.proofs.ProductLaws.{times_zero}
use Rattle.axe_algebra.proofs.ElementNumbers.{zero-below, element_zero, element_one, element_add}
use Rattle.axe_algebra.proofs.ListEntries.{table_length, matrix_entry-below, square_shape, matrix_of_rows, rows_over}
use Rattle.axe_algebra.proofs.ListEntries.{same_matrix}
use Rattle.axe_algebra.proofs.ListProducts.{product_length, matrix_of_identity, identity_over, identity_length}
use Rattle.axe_algebra.proofs.ListLaws.{matrix_of_product_of, product_over_of}
use Rattle.axe_polynomial_algebra.specs.PolynomialValues.{polynomial_value}
use Rattle.axe_polynomial_algebra.specs.PolynomialsOfLists.{IsPolynomialValue}
use Rattle.axe_polynomial_algebra.specs.PolynomialListTheorems.{ListValueExists, ListValueIsUnique}
use Rattle.axe_polynomial_algebra.proofs.ValueLaws.{value_is_matrix, value_none, value_horner}
use Rattle.std.proofs.lemmas.Bool.{cond_both, eq-eqb, ne_eqb}
use mathlib.Core.Path.{sym, ◌∙◌, ap, ap₂, subst, fun_ext}
use native.Mathlib.Omega.{arith}
use native.Mathlib.Decide.{dec_lt, ℕ_discrete}

module _ (K : NumberField) where
  abbrev F : Field
  F = field_of K

  -- a on the diagonal, and 0 elsewhere
  diagonal-below : (a i j : ℕ) → a < K.order → cond (eqb i j) a 0 < K.order
  diagonal-below a i j below = cond_both (eqb i j) a 0 (λ e. e < K.order) (λ e. below) (λ e. zero-below K)

  element_on_diagonal : (a i j : ℕ) → element K (cond (eqb i j) a 0) ≡ F.mul (element K a) (unit_vector F i j)
  element_on_diagonal a i j = cases (ℕ_discrete i j)
    where
      cases : Dec (i ≡ j) → element K (cond (eqb i j) a 0) ≡ F.mul (element K a) (unit_vector F i j)
      cases (yes e) =
          ap (λ b. element K (cond b a 0)) (eq-eqb i j e) ∙ sym (F.mul-one (element K a))
          ∙ ap (F.mul (element K a)) (sym (unit_at F i) ∙ ap (unit_vector F i) e)
      cases (no other) =
          ap (λ b. element K (cond b a 0)) (ne_eqb i j other) ∙ element_zero K ∙ sym (mul-zero F (element K a))
          ∙ ap (F.mul (element K a)) (sym (unit_off F i j other))

  module _ (n : ℕ) (x : List (List ℕ)) (square : IsSquareOver K n x) where
    -- the value with the number of rows by itself
    pub value_is : (f : List ℕ) (value : List (List ℕ)) → IsSquareOver K n value →
        matrix_of K value ≡ polynomial_value F n (length f) (vector_of K f) (matrix_of K x) →
        IsPolynomialValue K f x value
    value_is f value over equals = record {
      square = subst (λ m. IsSquareOver K m value) (sym square.length_is) over;
      equals =
          equals ∙ ap (λ m. polynomial_value F m (length f) (vector_of K f) (matrix_of K x)) (sym square.length_is);
    }

    pub value_square : (f : List ℕ) (value : List (List ℕ)) → IsPolynomialValue K f x value → IsSquareOver K n value
    value_square f value is = subst (λ m. IsSquareOver K m value) square.length_is is.square

    pub value_equals : (f : List ℕ) (value : List (List ℕ)) → IsPolynomialValue K f x value →
        matrix_of K value ≡ polynomial_value F n (length f) (vector_of K f) (matrix_of K x)
    value_equals f value is =
        is.equals ∙ ap (λ m. polynomial_value F m (length f) (vector_of K f) (matrix_of K x)) square.length_is

    -- the value of no coefficients is zero
    pub value_of_none : (zeros : List (List ℕ)) → IsSquareOver K n zeros →
        ((i j : ℕ) → i < n → j < n → entry zeros i j ≡ 0) →
        IsPolynomialValue K [] x zeros
    value_of_none zeros over each = value_is [] zeros over ((fun_ext λ i. fun_ext λ j. at i j (dec_lt i n) (dec_lt j n))
        ∙ sym (value_none F n (matrix_of K x) (vector_of K [])))
      where
        at : (i j : ℕ) → Dec (i < n) → Dec (j < n) → matrix_of K zeros i j ≡ F.zero
        at i j (yes row) (yes column) = ap (element K) (each i j row column) ∙ element_zero K
        at i j (no past) _ = (square_shape K n zeros over).rows i j (omega arith)
        at i j (yes row) (no past) = (square_shape K n zeros over).columns i j (omega arith)

    -- Horner's form: one more coefficient a at the constant is the value times x, with a added on the diagonal
    pub value_with_constant : (a : ℕ) (f : List ℕ) (value more : List (List ℕ)) → a < K.order →
        IsPolynomialValue K f x value →
        IsSquareOver K n more →
        ((i j : ℕ) → i < n → j < n → entry more i j ≡ K.add (entry (product K n value x) i j) (cond (eqb i j) a 0)) →
        IsPolynomialValue K (a ∷ f) x more
    value_with_constant a f value more below is over same = value_is (a ∷ f) more over
        ((fun_ext λ i. fun_ext λ j. at i j (dec_lt i n) (dec_lt j n))
        ∙ ap (λ (m : Matrix F). add_matrices F (λ i. scale F (element K a) (unit_matrix F n i)) m)
        (matrix_of_product_of K n n value x square.length_is over_value.matrix square.matrix
        ∙ ap (λ (m : Matrix F). multiply F n m (matrix_of K x)) (value_equals f value is))
        ∙ sym (value_horner F n (matrix_of K x) (length f) (vector_of K (a ∷ f))))
      where
        over_value : IsSquareOver K n value
        over_value = value_square f value is

        y : List (List ℕ)
        y = product K n value x

        over_y : IsSquareOver K n y
        over_y = record {
          length_is = product_length K n value x ∙ over_value.length_is;
          matrix = product_over_of K n n value x square.length_is over_value.matrix square.matrix;
        }

        diagonal : (i j : ℕ) → i < n → element K (cond (eqb i j) a 0) ≡ F.mul (element K a) (unit_matrix F n i j)
        diagonal i j row =
            element_on_diagonal a i j ∙ ap (λ (u : Vector F). F.mul (element K a) (u j)) (sym (identity_row F n i row))

        none : (i j : ℕ) → matrix_of K y i j ≡ F.zero → unit_matrix F n i j ≡ F.zero →
            F.add (F.mul (element K a) (unit_matrix F n i j)) (matrix_of K y i j) ≡ F.zero
        none i j of_y of_unit =
            ap₂ (λ u w. F.add (F.mul (element K a) u) w) of_unit of_y
            ∙ ap (λ w. F.add w F.zero) (mul-zero F (element K a)) ∙ F.add-zero F.zero

        at : (i j : ℕ) → Dec (i < n) → Dec (j < n) →
            matrix_of K more i j ≡ F.add (F.mul (element K a) (unit_matrix F n i j)) (matrix_of K y i j)
        at i j (yes row) (yes column) =
            ap (element K) (same i j row column)
            ∙ element_add K (entry y i j) (cond (eqb i j) a 0) (matrix_entry-below K n y i j over_y.matrix)
            (diagonal-below a i j below)
            ∙ F.add_comm (matrix_of K y i j) (element K (cond (eqb i j) a 0))
            ∙ ap (λ w. F.add w (matrix_of K y i j)) (diagonal i j row)
        at i j (no past) _ =
            (square_shape K n more over).rows i j (omega arith)
            ∙ sym
            (none i j ((square_shape K n y over_y).rows i j (omega arith))
            ((unit_is_matrix F n).rows i j (omega arith)))
        at i j (yes row) (no past) =
            (square_shape K n more over).columns i j (omega arith)
            ∙ sym
            (none i j ((square_shape K n y over_y).columns i j (omega arith))
            ((unit_is_matrix F n).columns i j (omega arith)))

    -- the value of 1 is the identity
    pub value_of_one : IsPolynomialValue K (1 ∷ []) x (identity n)
    value_of_one =
        value_is (1 ∷ []) (identity n) (record { length_is = identity_length K n; matrix = identity_over K n })
        (matrix_of_identity K n
        ∙ (fun_ext λ i. fun_ext λ j.
        sym (one-mul F (unit_matrix F n i j)) ∙ ap (λ c. F.mul c (unit_matrix F n i j)) (sym (element_one K))
        ∙ sym (F.add-zero (F.mul (element K 1) (unit_matrix F n i j)))
        ∙ ap (F.add (F.mul (element K 1) (unit_matrix F n i j)))
        (ap (λ (y : Vector F). y j) (sym (times_zero F n (matrix_of K x))))
        ∙ ap (λ (m : Matrix F). F.add (F.mul (element K 1) (unit_matrix F n i j)) (multiply F n m (matrix_of K x) i j))
        (sym (value_none F n (matrix_of K x) (λ k. vector_of K (1 ∷ []) (suc k)))))
        ∙ sym (value_horner F n (matrix_of K x) 0 (vector_of K (1 ∷ []))))

    identity_product : product K n (identity n) x ≡ x
    identity_product =
        same_matrix K n (product K n (identity n) x) x
        (product_length K n (identity n) x ∙ identity_length K n ∙ sym square.length_is)
        (product_over_of K n n (identity n) x square.length_is (identity_over K n) square.matrix) square.matrix
        (matrix_of_product_of K n n (identity n) x square.length_is (identity_over K n) square.matrix
        ∙ ap (λ (m : Matrix F). multiply F n m (matrix_of K x)) (matrix_of_identity K n)
        ∙ identity_multiply F n n (matrix_of K x) (square_shape K n x square))

    -- and that of a + X is x with a added on the diagonal
    pub value_of_linear : (a : ℕ) (more : List (List ℕ)) → a < K.order → IsSquareOver K n more →
        ((i j : ℕ) → i < n → j < n → entry more i j ≡ K.add (entry x i j) (cond (eqb i j) a 0)) →
        IsPolynomialValue K (a ∷ 1 ∷ []) x more
    value_of_linear a more below over same =
        value_with_constant a (1 ∷ []) (identity n) more below value_of_one over λ i j row column.
        same i j row column
        ∙ ap (λ (m : List (List ℕ)). K.add (entry m i j) (cond (eqb i j) a 0)) (sym identity_product)

  pub list_value_exists : ListValueExists K
  list_value_exists n f x square = (value, value_is n x square f value over (matrix_of_rows K n n a shape))
    where
      a : Matrix F
      a = polynomial_value F n (length f) (vector_of K f) (matrix_of K x)

      shape : HasShape F n n a
      shape = value_is_matrix F n (matrix_of K x) (square_shape K n x square) (length f) (vector_of K f)

      value : List (List ℕ)
      value = rows_of K n n a

      over : IsSquareOver K n value
      over = record { length_is = table_length n n (λ i j. (a i j).0); matrix = rows_over K n n a }

  pub list_value_is_unique : ListValueIsUnique K
  list_value_is_unique f x value other first second =
      same_matrix K (length x) value other (first.square.length_is ∙ sym second.square.length_is) first.square.matrix
      second.square.matrix (first.equals ∙ sym second.equals)
