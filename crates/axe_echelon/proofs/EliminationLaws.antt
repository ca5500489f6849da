-- What an elimination shows: the coordinates of a row, and that what is left of it represents it.
use Rattle.std.specs.Prelude.{◌≡◌, ◌≢◌, ℕ, ◌<◌, ◌≤◌, List, length, get_or}
use Rattle.std.proofs.lemmas.List.Elements.{All-from_get_or}
use Rattle.axe_algebra.specs.NumberField.{NumberField}
use Rattle.axe_algebra.specs.Field.{Field}
use Rattle.axe_algebra.specs.Vectors.{Vector, Matrix, zero_vector, add_vectors, subtract, times}
use Rattle.axe_algebra.specs.Bridge.{field_of, element, vector_of, matrix_of}
use Rattle.axe_algebra.specs.Lists.{listed, IsVectorOver}
use Rattle.axe_algebra.specs.ListArithmetic.{combination}
use Rattle.axe_algebra.specs.SpansOfLists.{IsSpanned, IsRepresentative}
use Rattle.axe_algebra.proofs.FieldLaws.{zero-add, neg_is, neg-add}
use Rattle.axe_algebra.proofs.ProductLaws.{times_same, times-subtract, times_zero}
use Rattle.axe_algebra.proofs.Spanning.{span_row, span_same, span_times}
use Rattle.axe_algebra.proofs.ElementNumbers.{element_neg, element_zero, entry-below, same_number, zero-below}
use Rattle.axe_algebra.proofs.ListEntries.{listed_at, listed_over, vector_length, same_vector}
use Rattle.axe_algebra.proofs.ListProducts.{vector_of_combination, combination_over}
use Rattle.axe_algebra.proofs.ListSpans.{enough_rows_span, independent_rows_are_few}
use Rattle.axe_field.specs.Arithmetic.{field_neg}
use Rattle.axe_field.specs.NumberFields.{number_field, gf}
use Rattle.axe_field.proofs.NumberFields.{number_field-neg}
use Rattle.axe_row.specs.Rows.{RowValue}
use Rattle.axe_row.specs.Operations.{IsZeroVector}
use Rattle.axe_echelon.specs.Echelons.{EchelonValue, IsEchelon, AreCoordinates}
use Rattle.axe_echelon.specs.Subspaces.{IsCleared}
use mathlib.Core.Path.{refl, sym, ◌∙◌, ap, subst, fun_ext}
use native.Mathlib.Omega.{arith}
use native.Mathlib.Decide.{dec_lt}

module _ (F : Field) where
  -- where a vector plus a combination is zero, the vector is the combination with the negatives
  pub negatives_combine : (r : ℕ) (v : Matrix F) (first row d : Vector F) → row ≡ add_vectors F first (times F r d v) → row ≡ zero_vector F →
      first ≡ times F r (subtract F (zero_vector F) d) v
  negatives_combine r v first row d offset vanishes =
      (fun_ext λ j. neg_is F (times F r d v j) (first j)
      (F.add_comm (times F r d v j) (first j) ∙ ap (λ (x : Vector F). x j) (sym offset ∙ vanishes))
      ∙ sym (zero-add F (F.neg (times F r d v j))))
      ∙ ap (λ (x : Vector F). subtract F x (times F r d v)) (sym (times_zero F r v))
      ∙ sym (times-subtract F r (zero_vector F) d v)

-- a row of zeros, and the zero vector
pub vector_of_zero_row : (K : NumberField) (entries : List ℕ) → IsZeroVector entries → vector_of K entries ≡ zero_vector (field_of K)
vector_of_zero_row K entries zeros = fun_ext λ j. at j (dec_lt j (length entries))
  where
    at : (j : ℕ) → Dec (j < length entries) → vector_of K entries j ≡ (field_of K).zero
    at j (yes below) = ap (element K) (zeros j 0 below) ∙ element_zero K
    at j (no past) = vector_length K (length entries) entries refl j (omega arith)

pub zero_entry : (K : NumberField) (n : ℕ) (entries : List ℕ) (j : ℕ) → IsVectorOver K n entries → vector_of K entries j ≡ (field_of K).zero → get_or entries j 0 ≡ 0
zero_entry K n entries j over e = same_number K (get_or entries j 0) 0 (entry-below K entries j over.elements) (zero-below K) (e ∙ sym (element_zero K))

pub zero_row_of_vector : (K : NumberField) (n : ℕ) (entries : List ℕ) → IsVectorOver K n entries → vector_of K entries ≡ zero_vector (field_of K) → IsZeroVector entries
zero_row_of_vector K n entries over vanishes = All-from_get_or (λ number. number ≡ 0) entries 0 (λ j below. zero_entry K n entries j over (ap (λ (x : Vector (field_of K)). x j) vanishes))

-- n independent rows of length n span everything
pub full_echelon_spans : (e : EchelonValue) (v : List ℕ) → IsEchelon e → length e.rows ≡ e.cols → length v ≡ e.cols → IsSpanned (number_field e.order) e.rows v
full_echelon_spans e v h full long =
    enough_rows_span (number_field e.order) e.cols e.rows h.over h.independent full (vector_of (number_field e.order) v)
    (vector_length (number_field e.order) e.cols v long)

-- independent rows of length n are fewer than n, or n
pub room_of_echelon : (e : EchelonValue) → IsEchelon e → length e.rows ≢ e.cols → length e.rows < e.cols
room_of_echelon e h other = omega (arith, other, independent_rows_are_few (number_field e.order) e.cols e.rows h.over h.independent)

pub room_of_rank : (e : EchelonValue) → IsEchelon e → length e.rows ≤ e.cols
room_of_rank e h = independent_rows_are_few (number_field e.order) e.cols e.rows h.over h.independent

-- the row plus the combination of the echelon's rows with these coefficients is zero
pub record Cancels (e : EchelonValue) (first coefficients : RowValue) : Type 0 where
  pub over : IsVectorOver (number_field e.order) e.cols first.entries
  pub coefficients_field : coefficients.order ≡ e.order
  pub coefficients_over : IsVectorOver (number_field e.order) e.cols coefficients.entries
  pub vanishes : add_vectors (gf e.order) (vector_of (number_field e.order) first.entries)
      (times (gf e.order) (length e.rows) (vector_of (number_field e.order) coefficients.entries)
      (matrix_of (number_field e.order) e.rows)) ≡ zero_vector (gf e.order)

module _ (e : EchelonValue) (h : IsEchelon e) (first coefficients : RowValue) (cancels : Cancels e first coefficients) where
  abbrev K : NumberField
  K = number_field e.order

  abbrev F : Field
  F = gf e.order

  first_combines : vector_of K first.entries ≡ times F (length e.rows) (subtract F (zero_vector F) (vector_of K coefficients.entries)) (matrix_of K e.rows)
  first_combines =
      negatives_combine F (length e.rows) (matrix_of K e.rows) (vector_of K first.entries) (zero_vector F) (vector_of K coefficients.entries)
      (sym cancels.vanishes) refl

  -- the negatives of the coefficients are the coordinates
  pub coordinates_of_cancels : (start : RowValue) →
      start ≡ record { order = coefficients.order; entries = listed (length e.rows) (λ j. field_neg coefficients.order (get_or coefficients.entries j 0)) } →
      AreCoordinates e first.entries start
  coordinates_of_cancels start is = record {
    field = ap (λ (r : RowValue). r.order) is ∙ cancels.coefficients_field;
    over = over_start;
    combine = same_vector K e.cols first.entries (combination K e.cols start.entries e.rows) cancels.over
        (combination_over K e.cols start.entries e.rows over_start h.over)
        (first_combines ∙ times_same F (length e.rows) _ (vector_of K start.entries) (matrix_of K e.rows) (matrix_of K e.rows) negatives (λ t below. refl)
        ∙ sym (vector_of_combination K e.cols start.entries e.rows over_start h.over));
  }
    where
      entries_are : start.entries ≡ listed (length e.rows) (λ j. K.neg (get_or coefficients.entries j 0))
      entries_are = ap (λ (r : RowValue). r.entries) is
          ∙ ap (λ (f : ℕ → ℕ). listed (length e.rows) f) (fun_ext λ j.
          ap (λ o. field_neg o (get_or coefficients.entries j 0)) cancels.coefficients_field ∙ sym (number_field-neg e.order (get_or coefficients.entries j 0)))

      over_start : IsVectorOver K (length e.rows) start.entries
      over_start = subst (IsVectorOver K (length e.rows)) (sym entries_are)
          (listed_over K (length e.rows) (λ j. K.neg (get_or coefficients.entries j 0))
          (λ j below. K.neg-below (get_or coefficients.entries j 0) (entry-below K coefficients.entries j cancels.coefficients_over.elements)))

      negatives : (t : ℕ) → t < length e.rows → subtract F (zero_vector F) (vector_of K coefficients.entries) t ≡ vector_of K start.entries t
      negatives t below =
          zero-add F (F.neg (vector_of K coefficients.entries t))
          ∙ sym (ap (element K) (ap (λ (l : List ℕ). get_or l t 0) entries_are ∙ listed_at (length e.rows) (λ j. K.neg (get_or coefficients.entries j 0)) t 0 below)
          ∙ element_neg K (get_or coefficients.entries t 0) (entry-below K coefficients.entries t cancels.coefficients_over.elements))

-- where r is the sum of a and t, a less r and t sum to zero
less_sum : (F : Field) (a t r : F.Element) → r ≡ F.add a t → F.zero ≡ F.add (F.add a (F.neg r)) t
less_sum F a t r sum = sym (
    ap (λ (x : F.Element). F.add x t) (F.add_comm a (F.neg r)) ∙ F.add_assoc (F.neg r) a t ∙ ap (F.add (F.neg r)) (sym sum) ∙ neg-add F r)

-- what is left of a row represents it
pub cleared_represents : (e : EchelonValue) (first row multipliers : RowValue) → IsCleared e first row multipliers →
    IsRepresentative (number_field e.order) e.rows first.entries row.entries
cleared_represents e first row multipliers cleared = record {
  in_coset = span_same F (length e.rows) (matrix_of K e.rows) (subtract F (vector_of K first.entries) (vector_of K row.entries))
      (times F (length e.rows) (subtract F (zero_vector F) (vector_of K multipliers.entries)) (matrix_of K e.rows))
      (negatives_combine F (length e.rows) (matrix_of K e.rows) (subtract F (vector_of K first.entries) (vector_of K row.entries)) (zero_vector F)
      (vector_of K multipliers.entries)
      (fun_ext λ j. less_sum F (vector_of K first.entries j) (times F (length e.rows) (vector_of K multipliers.entries) (matrix_of K e.rows) j)
      (vector_of K row.entries j) (ap (λ (x : Vector F). x j) cleared.offset)) refl)
      (span_times F (length e.rows) (matrix_of K e.rows) (length e.rows) (subtract F (zero_vector F) (vector_of K multipliers.entries)) (matrix_of K e.rows)
      (λ t below. span_row F (length e.rows) (matrix_of K e.rows) t below));
  at_pivots = cleared.at_pivots;
}
  where
    K : NumberField
    K = number_field e.order

    F : Field
    F = gf e.order
