-- Steps on lists as steps on vectors: zero rows, unit rows, a multiple added, a multiple; what they do to spans and cosets.
use Rattle.std.specs.Prelude.{◌≡◌, ℕ, ◌<◌, List, [], length, get_or, cond, eqb}
use Rattle.axe_algebra.specs.NumberField.{NumberField}
use Rattle.axe_algebra.specs.Field.{Field}
use Rattle.axe_algebra.specs.Vectors.{Vector, zero_vector, unit_vector, add_vectors, subtract, scale}
use Rattle.axe_algebra.specs.Spans
use Rattle.axe_algebra.specs.Bridge.{field_of, element, vector_of, matrix_of}
use Rattle.axe_algebra.specs.Lists.{listed, unit_row, IsVectorOver}
use Rattle.axe_algebra.specs.SpansOfLists.{IsSpanned, HaveSameSpan}
use Rattle.axe_algebra.proofs.FieldLaws.{mul-zero, neg-sum_of_two}
use Rattle.axe_algebra.proofs.ProductLaws.{unit_length}
use Rattle.axe_algebra.proofs.Spanning.{span_zero, span_same, span_subtract, span_scale, span_within, same_refl, same_sym, same_trans}
use Rattle.axe_algebra.proofs.ElementNumbers.{element_zero, element_add, element_mul, entry-below, zero-below}
use Rattle.axe_algebra.proofs.ListEntries.{listed_over, vector_length, vector_of_listed}
use Rattle.axe_algebra.proofs.ListProducts.{element_of_delta}
use mathlib.Core.Path.{refl, sym, ◌∙◌, ap, ap₂, fun_ext}
use native.Mathlib.Omega.{arith}
use native.Mathlib.Decide.{dec_lt}

module _ (K : NumberField) where
  abbrev F : Field
  F = field_of K

  -- the zero row
  pub vector_of_zeros : (n : ℕ) → vector_of K (listed n (λ j. 0)) ≡ zero_vector F
  vector_of_zeros n = vector_of_listed K n (λ j. 0) (zero_vector F) (λ j past. refl) (λ j below. element_zero K)

  pub zeros_over : (n : ℕ) → IsVectorOver K n (listed n (λ j. 0))
  zeros_over n = listed_over K n (λ j. 0) (λ j below. zero-below K)

  -- the unit rows
  pub vector_of_unit_row : (n i : ℕ) → i < n → vector_of K (unit_row n i) ≡ unit_vector F i
  vector_of_unit_row n i below =
      vector_of_listed K n (λ j. cond (eqb i j) 1 0) (unit_vector F i) (unit_length F n i below) (λ j inside. element_of_delta K i j)

  -- a row with a multiple of another one added, entry by entry
  pub vector_of_added : (n c : ℕ) (row other sum : List ℕ) → IsVectorOver K n row → IsVectorOver K n other → IsVectorOver K n sum → c < K.order →
      ((j : ℕ) → j < n → get_or sum j 0 ≡ K.add (get_or row j 0) (K.mul c (get_or other j 0))) →
      vector_of K sum ≡ add_vectors F (vector_of K row) (scale F (element K c) (vector_of K other))
  vector_of_added n c row other sum over_row over_other over_sum below same = fun_ext λ j. at j (dec_lt j n)
    where
      at : (j : ℕ) → Dec (j < n) → vector_of K sum j ≡ F.add (vector_of K row j) (F.mul (element K c) (vector_of K other j))
      at j (yes inside) =
          ap (element K) (same j inside)
          ∙ element_add K (get_or row j 0) (K.mul c (get_or other j 0)) (entry-below K row j over_row.elements)
          (K.mul-below c (get_or other j 0) below (entry-below K other j over_other.elements))
          ∙ ap (F.add (vector_of K row j)) (element_mul K c (get_or other j 0) below (entry-below K other j over_other.elements))
      at j (no past) =
          vector_length K n sum over_sum.length_is j (omega arith)
          ∙ sym (ap₂ F.add (vector_length K n row over_row.length_is j (omega arith))
          (ap (F.mul (element K c)) (vector_length K n other over_other.length_is j (omega arith)) ∙ mul-zero F (element K c))
          ∙ F.add-zero F.zero)

  -- a multiple of a row, entry by entry
  pub vector_of_scaled : (n c : ℕ) (row multiple : List ℕ) → IsVectorOver K n row → IsVectorOver K n multiple → c < K.order →
      ((j : ℕ) → j < n → get_or multiple j 0 ≡ K.mul c (get_or row j 0)) → vector_of K multiple ≡ scale F (element K c) (vector_of K row)
  vector_of_scaled n c row multiple over_row over_multiple below same = fun_ext λ j. at j (dec_lt j n)
    where
      at : (j : ℕ) → Dec (j < n) → vector_of K multiple j ≡ F.mul (element K c) (vector_of K row j)
      at j (yes inside) = ap (element K) (same j inside) ∙ element_mul K c (get_or row j 0) below (entry-below K row j over_row.elements)
      at j (no past) =
          vector_length K n multiple over_multiple.length_is j (omega arith)
          ∙ sym (ap (F.mul (element K c)) (vector_length K n row over_row.length_is j (omega arith)) ∙ mul-zero F (element K c))

  -- the coset of a vector modulo the rows' span: it holds the vector, and a multiple of a spanned row keeps within it
  abbrev pub IsInCoset : List (List ℕ) → List ℕ → List ℕ → Type 0
  IsInCoset rows v x = Spans.InSpan F (length rows) (matrix_of K rows) (subtract F (vector_of K v) (vector_of K x))

  pub coset_of_itself : (rows : List (List ℕ)) (v : List ℕ) → IsInCoset rows v v
  coset_of_itself rows v =
      span_same F (length rows) (matrix_of K rows) _ (zero_vector F) (fun_ext λ j. F.add-neg (vector_of K v j)) (span_zero F (length rows) (matrix_of K rows))

  pub added_in_coset : (n c : ℕ) (rows : List (List ℕ)) (v row other sum : List ℕ) → IsVectorOver K n row → IsVectorOver K n other →
      IsVectorOver K n sum → c < K.order → ((j : ℕ) → j < n → get_or sum j 0 ≡ K.add (get_or row j 0) (K.mul c (get_or other j 0))) →
      IsInCoset rows v row → IsSpanned K rows other → IsInCoset rows v sum
  added_in_coset n c rows v row other sum over_row over_other over_sum below same row_in other_in =
      span_same F (length rows) (matrix_of K rows) (subtract F (vector_of K v) (vector_of K sum))
      (subtract F (subtract F (vector_of K v) (vector_of K row)) multiple)
      (fun_ext λ j. ap (λ (x : Vector F). F.add (vector_of K v j) (F.neg (x j))) (vector_of_added n c row other sum over_row over_other over_sum below same)
      ∙ ap (F.add (vector_of K v j)) (neg-sum_of_two F (vector_of K row j) (multiple j))
      ∙ sym (F.add_assoc (vector_of K v j) (F.neg (vector_of K row j)) (F.neg (multiple j))))
      (span_subtract F (length rows) (matrix_of K rows) (subtract F (vector_of K v) (vector_of K row)) multiple row_in
      (span_scale F (length rows) (matrix_of K rows) (element K c) (vector_of K other) other_in))
    where
      multiple : Vector F
      multiple = scale F (element K c) (vector_of K other)

  -- lists with one span
  pub spanned_within : (a b : List (List ℕ)) (v : List ℕ) → HaveSameSpan K a b → IsSpanned K a v → IsSpanned K b v
  spanned_within a b v same = span_within F (length a) (matrix_of K a) (length b) (matrix_of K b) (vector_of K v) same.forth

  pub same_span_refl : (a : List (List ℕ)) → HaveSameSpan K a a
  same_span_refl a = same_refl F (length a) (matrix_of K a)

  pub same_span_sym : (a b : List (List ℕ)) → HaveSameSpan K a b → HaveSameSpan K b a
  same_span_sym a b = same_sym F (length a) (matrix_of K a) (length b) (matrix_of K b)

  pub same_span_trans : (a b c : List (List ℕ)) → HaveSameSpan K a b → HaveSameSpan K b c → HaveSameSpan K a c
  same_span_trans a b c = same_trans F (length a) (matrix_of K a) (length b) (matrix_of K b) (length c) (matrix_of K c)

  -- each row of one list spanned by the other, both ways
  pub same_span_by_rows : (a b : List (List ℕ)) → ((t : ℕ) → t < length a → IsSpanned K b (get_or a t [])) →
      ((t : ℕ) → t < length b → IsSpanned K a (get_or b t [])) → HaveSameSpan K a b
  same_span_by_rows a b forth back = record { forth = forth; back = back }
