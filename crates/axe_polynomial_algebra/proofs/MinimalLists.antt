-- Minimal polynomials of rows under square matrices, as lists: there is one, only one, and the rows that give it.
use Rattle.std.specs.Prelude.{◌≡◌, ◌↔◌, ℕ, zero, suc, ◌<◌, ◌≤◌, ◌+◌, List, [], ◌∷◌, ◌++◌, length, get_or}
use Rattle.axe_algebra.specs.NumberField.{NumberField}
use Rattle.axe_algebra.specs.Field.{Field}
use Rattle.axe_algebra.specs.Vectors.{Vector, Matrix, times}
use Rattle.axe_algebra.specs.Spans
use Rattle.axe_algebra.specs.Bridge.{field_of, element, vector_of, matrix_of}
use Rattle.axe_algebra.specs.Lists.{IsVectorOver, IsMatrixOver, IsSquareOver}
use Rattle.axe_algebra.specs.ListArithmetic.{combination}
use Rattle.axe_algebra.specs.SpansOfLists.{IsIndependent}
use Rattle.axe_algebra.proofs.ProductLaws.{times_same}
use Rattle.axe_algebra.proofs.ElementNumbers.{element_neg, entry-below}
use Rattle.axe_algebra.proofs.ListEntries.{row_over, vector_length, square_shape}
use Rattle.axe_algebra.proofs.ListEntries.{same_vector}
use Rattle.axe_algebra.proofs.ListProducts.{vector_of_combination}
use Rattle.axe_polynomial_algebra.specs.Polynomials.{IsMonic}
use Rattle.axe_polynomial_algebra.specs.PolynomialValues
use Rattle.axe_polynomial_algebra.specs.PolynomialValues.{power_rows}
use Rattle.axe_polynomial_algebra.specs.PolynomialsOfLists.{degree_of, IsMonicOver, Divides, IsMinimalPolynomial}
use Rattle.axe_polynomial_algebra.specs.PolynomialListTheorems.{ListMinimalPolynomialExists}
use Rattle.axe_polynomial_algebra.specs.PolynomialListTheorems.{ListMinimalPolynomialIsUnique}
use Rattle.axe_polynomial_algebra.specs.PolynomialListTheorems.{ListMinimalPolynomialDivides}
use Rattle.axe_polynomial_algebra.proofs.ListCongruences.{monic_of_list}
use Rattle.axe_polynomial_algebra.proofs.ProperDivisors.{ListOfMonic, list_of_monic}
use Rattle.axe_polynomial_algebra.proofs.ValuePowers.{power_rows_zero, power_rows_suc}
use Rattle.axe_polynomial_algebra.proofs.MinimalRows.{relation_of_negated}
use Rattle.axe_polynomial_algebra.proofs.MinimalPolynomials.{minimal_of_independent, annihilates_of_relation}
use Rattle.axe_polynomial_algebra.proofs.MinimalPolynomials.{minimal_within, minimal_degree_is_positive, unique_minimal}
use Rattle.axe_polynomial_algebra.proofs.MinimalPolynomials.{minimal_polynomial_divides}
use Rattle.std.proofs.lemmas.List.{length-append, get_or_append_left, get_or-append-add}
use mathlib.Core.Path.{refl, sym, ◌∙◌, ap, subst}
use native.Mathlib.Omega.{arith}
use native.Mathlib.Decide.{dec_lt}

module _ (K : NumberField) where
  abbrev F : Field
  F = field_of K

  module _ (n : ℕ) (x : List (List ℕ)) (v : List ℕ) (square : IsSquareOver K n x) (over_v : IsVectorOver K n v) where
    -- f is the minimal polynomial, of degree d, under the matrix of x with m rows
    abbrev pub IsMinimalAt : ℕ → ℕ → Vector F → Type 0
    IsMinimalAt m d f = PolynomialValues.IsMinimalPolynomial F m (matrix_of K x) (vector_of K v) d f

    -- the minimal polynomial with the number of rows by itself
    pub minimal_is : (f : List ℕ) → IsMonicOver K f → IsMinimalAt n (degree_of f) (vector_of K f) →
        IsMinimalPolynomial K x v f
    minimal_is f over minimal = record {
      over = over;
      minimal = subst (λ m. IsMinimalAt m (degree_of f) (vector_of K f)) (sym square.length_is) minimal;
    }

    pub minimal_here : (f : List ℕ) → IsMinimalPolynomial K x v f → IsMinimalAt n (degree_of f) (vector_of K f)
    minimal_here f is = subst (λ m. IsMinimalAt m (degree_of f) (vector_of K f)) square.length_is is.minimal

    -- the rows v, v x, v x^2, ..: v, and each further one the one before it times x
    pub record ArePowerRows (rows : List (List ℕ)) : Type 0 where
      pub first : 0 < length rows → get_or rows 0 [] ≡ v
      pub next : (t : ℕ) → suc t < length rows → get_or rows (suc t) [] ≡ combination K n (get_or rows t []) x

    -- a row of length n times x is the vector times the matrix
    pub vector_of_next : (row : List ℕ) → IsVectorOver K n row →
        vector_of K (combination K n row x) ≡ times F n (vector_of K row) (matrix_of K x)
    vector_of_next row over =
        vector_of_combination K n row x (subst (λ m. IsVectorOver K m row) (sym square.length_is) over) square.matrix
        ∙ ap (λ m. times F m (vector_of K row) (matrix_of K x)) square.length_is

    pub power_row_is : (rows : List (List ℕ)) → IsMatrixOver K n rows → ArePowerRows rows → (t : ℕ) → t < length rows →
        matrix_of K rows t ≡ power_rows F n (matrix_of K x) (vector_of K v) t
    power_row_is rows over are zero below =
        ap (vector_of K) (are.first below)
        ∙ sym (power_rows_zero F n (matrix_of K x) (vector_of K v) (vector_length K n v over_v.length_is))
    power_row_is rows over are (suc t) below =
        ap (vector_of K) (are.next t below) ∙ vector_of_next (get_or rows t []) (row_over K n rows t over (omega arith))
        ∙ ap (λ (y : Vector F). times F n y (matrix_of K x)) (power_row_is rows over are t (omega arith))
        ∙ sym (power_rows_suc F n (matrix_of K x) (vector_of K v) t)

    -- one more of them
    pub power_rows_appended : (rows : List (List ℕ)) (row : List ℕ) → ArePowerRows rows → (length rows ≡ 0 → row ≡ v) →
        ((t : ℕ) → suc t ≡ length rows → row ≡ combination K n (get_or rows t []) x) → ArePowerRows (rows ++ row ∷ [])
    power_rows_appended rows row are first next = record {
      first = λ some. at_first (dec_lt 0 (length rows));
      next = λ t inside. at_next t inside (dec_lt (suc t) (length rows));
    }
      where
        one_more : length (rows ++ row ∷ []) ≡ suc (length rows)
        one_more = omega (arith, length-append rows (row ∷ []))

        before : (t : ℕ) → t < length rows → get_or (rows ++ row ∷ []) t [] ≡ get_or rows t []
        before t below = get_or_append_left rows (row ∷ []) [] t below

        at_last : (t : ℕ) → t ≡ length rows → get_or (rows ++ row ∷ []) t [] ≡ row
        at_last t e =
            (let place : t ≡ length rows + 0 = omega arith in ap (λ (k : ℕ). get_or (rows ++ row ∷ []) k []) place)
            ∙ get_or-append-add rows (row ∷ []) 0 []

        at_first : Dec (0 < length rows) → get_or (rows ++ row ∷ []) 0 [] ≡ v
        at_first (yes below) = before 0 below ∙ are.first below
        at_first (no none) = at_last 0 (omega arith) ∙ first (omega arith)

        at_next : (t : ℕ) → suc t < length (rows ++ row ∷ []) → Dec (suc t < length rows) →
            get_or (rows ++ row ∷ []) (suc t) [] ≡ combination K n (get_or (rows ++ row ∷ []) t []) x
        at_next t inside (yes below) =
            before (suc t) below ∙ are.next t below
            ∙ ap (λ (y : List ℕ). combination K n y x) (sym (before t (omega arith)))
        at_next t inside (no past) =
            at_last (suc t) (omega (arith, one_more)) ∙ next t (omega (arith, one_more))
            ∙ ap (λ (y : List ℕ). combination K n y x) (sym (before t (omega (arith, one_more))))

    -- where the row after d independent ones, the last of them times x, is their combination with the coefficients c,
    -- the minimal polynomial has the coefficients -c and then 1
    pub minimal_of_power_rows : (rows : List (List ℕ)) (row c f : List ℕ) → IsMatrixOver K n rows →
        ArePowerRows rows → IsIndependent K rows → (last : ℕ) → suc last ≡ length rows →
        row ≡ combination K n (get_or rows last []) x → IsVectorOver K (length rows) c → row ≡ combination K n c rows →
        IsVectorOver K (suc (length rows)) f → ((t : ℕ) → t < length rows → get_or f t 0 ≡ K.neg (get_or c t 0)) →
        get_or f (length rows) 0 ≡ 1 → IsMinimalPolynomial K x v f
    minimal_of_power_rows rows row c f over are independent last is_last next over_c combines over_f negated leads =
        minimal_is f over_monic
        (subst (λ k. IsMinimalAt n k (vector_of K f)) (sym degree) minimal)
      where
        d : ℕ
        d = length rows

        degree : degree_of f ≡ d
        degree = omega (arith, over_f.length_is)

        over_monic : IsMonicOver K f
        over_monic = record {
          elements = over_f.elements;
          positive = omega (arith, over_f.length_is);
          leads = ap (λ k. get_or f k 0) degree ∙ leads;
        }

        monic : IsMonic F d (vector_of K f)
        monic = subst (λ k. IsMonic F k (vector_of K f)) degree (monic_of_list K f over_monic)

        power : Matrix F
        power = power_rows F n (matrix_of K x) (vector_of K v)

        same_rows : (t : ℕ) → t < d → matrix_of K rows t ≡ power t
        same_rows = power_row_is rows over are

        combined : power d ≡ times F d (vector_of K c) power
        combined =
            ap power (sym is_last) ∙ power_rows_suc F n (matrix_of K x) (vector_of K v) last
            ∙ ap (λ (y : Vector F). times F n y (matrix_of K x)) (sym (same_rows last (omega arith)))
            ∙ sym (vector_of_next (get_or rows last []) (row_over K n rows last over (omega arith)))
            ∙ ap (vector_of K) (sym next ∙ combines) ∙ vector_of_combination K n c rows over_c over
            ∙ times_same F d (vector_of K c) (vector_of K c) (matrix_of K rows) power (λ t below. refl) same_rows

        independent_power : Spans.IsIndependent F d power
        independent_power = record {
          only_zero = λ b vanishes. independent.only_zero b
              (times_same F d b b (matrix_of K rows) power (λ t below. refl) same_rows ∙ vanishes);
        }

        minimal : IsMinimalAt n d (vector_of K f)
        minimal =
            minimal_of_independent F n (matrix_of K x) (vector_of K v) d (vector_of K f) independent_power monic
            (annihilates_of_relation F n (matrix_of K x) (vector_of K v) d (vector_of K f)
            (relation_of_negated F power d (vector_of K c) (vector_of K f) monic
            (λ t below. ap (element K) (negated t below)
            ∙ element_neg K (get_or c t 0) (entry-below K c t over_c.elements)) combined))

  pub list_minimal_polynomial_exists : ListMinimalPolynomialExists K
  list_minimal_polynomial_exists n x v square over nonzero =
      found (minimal_within F n (matrix_of K x) (vector_of K v) (square_shape K n x square))
    where
      IsMinimalHere : ℕ → Vector F → Type 0
      IsMinimalHere = PolynomialValues.IsMinimalPolynomial F n (matrix_of K x) (vector_of K v)

      found : (d : ℕ) × (d ≤ n) × (f : Vector F) × IsMinimalHere d f → (f : List ℕ) × IsMinimalPolynomial K x v f
      found (d, bound, f, minimal) = (
        found_list.list,
        minimal_is n x v square over found_list.list found_list.over
            (subst (λ k. IsMinimalHere k (vector_of K found_list.list)) (sym found_list.degree_is)
            (subst (IsMinimalHere d) (sym found_list.vector_is) minimal)),
      )
        where
          found_list : ListOfMonic K d f
          found_list = list_of_monic K d f
              (minimal_degree_is_positive F n (matrix_of K x) (vector_of K v) (vector_length K n v over.length_is)
              nonzero d f minimal) minimal.monic

  pub list_minimal_polynomial_is_unique : ListMinimalPolynomialIsUnique K
  list_minimal_polynomial_is_unique n x v f g square over of_f of_g =
      same
      (unique_minimal F n (matrix_of K x) (vector_of K v) (degree_of f) (degree_of g) (vector_of K f) (vector_of K g)
      (minimal_here n x v square over f of_f) (minimal_here n x v square over g of_g))
    where
      same : (degree_of f ≡ degree_of g) × (vector_of K f ≡ vector_of K g) → f ≡ g
      same (degrees, vectors) =
          same_vector K (length f) f g (record { length_is = refl; elements = of_f.over.elements })
          (record { length_is = omega (arith, of_f.over.positive, of_g.over.positive); elements = of_g.over.elements })
          vectors

  pub list_minimal_polynomial_divides : ListMinimalPolynomialDivides K
  list_minimal_polynomial_divides n x v f g square over of_f =
      subst
      (λ m. Divides K f g ↔ PolynomialValues.Annihilates F m (matrix_of K x) (vector_of K v) (length g) (vector_of K g))
      (sym square.length_is)
      (minimal_polynomial_divides F n (matrix_of K x) (vector_of K v) (degree_of f) (vector_of K f) (length g)
      (vector_of K g) (square_shape K n x square) (vector_length K n v over.length_is)
      (minimal_here n x v square over f of_f) (vector_length K (length g) g refl))
