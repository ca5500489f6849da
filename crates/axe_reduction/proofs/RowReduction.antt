-- Multiples of rows, which span what the rows do, and the multiple of a row that is reduced at its first entry other than 0.
use Rattle.std.specs.Prelude.{◌≡◌, ℕ, zero, suc, ◌<◌, List, [], ◌∷◌, length, get_or}
use Rattle.axe_algebra.specs.Bridge.{field_of, element, vector_of, matrix_of}
use Rattle.axe_algebra.specs.Field.{Field}
use Rattle.axe_algebra.specs.Lists.{entry, table, IsMatrixOver}
use Rattle.axe_algebra.specs.NumberField.{NumberField}
use Rattle.axe_algebra.specs.SpansOfLists.{HaveSameSpan}
use Rattle.axe_algebra.specs.Vectors.{Vector, scale}
use Rattle.axe_algebra.proofs.ElementNumbers.{element_zero, element_one, element_mul}
use Rattle.axe_algebra.proofs.FieldLaws.{one-mul}
use Rattle.axe_algebra.proofs.ListEntries.{table_length, table_entry, table_over, row_over, matrix_entry-below}
use Rattle.axe_algebra.proofs.ListVectors.{vector_of_scaled, same_span_by_rows}
use Rattle.axe_algebra.proofs.Spanning.{span_row, span_same, span_scale}
use Rattle.axe_reduction.specs.Forms.{AreReducedRows}
use Rattle.axe_reduction.proofs.ClearLaws.{mul-zero}
use mathlib.Core.Path.{sym, ◌∙◌, ap, fun_ext}
use native.Mathlib.Omega.{arith}

-- ---- multiples of rows

module _ (K : NumberField) where
  abbrev F : Field
  F = field_of K

  abbrev pub multiples : ℕ → List (List ℕ) → ℕ → List (List ℕ)
  multiples n rows c = table (length rows) n (λ i j. K.mul c (entry rows i j))

  pub multiples_over : (n : ℕ) (rows : List (List ℕ)) (c : ℕ) → IsMatrixOver K n rows → c < K.order →
      IsMatrixOver K n (multiples n rows c)
  multiples_over n rows c over small =
      table_over K (length rows) n (λ i j. K.mul c (entry rows i j))
      (λ i j below inside. K.mul-below c (entry rows i j) small (matrix_entry-below K n rows i j over))

  multiple_row : (n : ℕ) (rows : List (List ℕ)) (c t : ℕ) → IsMatrixOver K n rows → c < K.order → t < length rows →
      vector_of K (get_or (multiples n rows c) t []) ≡ scale F (element K c) (vector_of K (get_or rows t []))
  multiple_row n rows c t over small below =
      let f : ℕ → ℕ → ℕ = λ i j. K.mul c (entry rows i j) in
      vector_of_scaled K n c (get_or rows t []) (get_or (multiples n rows c) t []) (row_over K n rows t over below)
      (row_over K n (multiples n rows c) t (multiples_over n rows c over small)
      (omega (arith, below, table_length (length rows) n f)))
      small (λ j inside. table_entry (length rows) n f t j below inside)

  -- a multiple of a multiple, where the product of the factors is 1
  scaled_back : (c x : ℕ) (v : Vector F) → c < K.order → x < K.order → K.mul x c ≡ 1 →
      v ≡ scale F (element K x) (scale F (element K c) v)
  scaled_back c x v c-small x-small inverse = fun_ext λ j.
      sym (sym (F.mul_assoc (element K x) (element K c) (v j))
      ∙ ap (λ (e : F.Element). F.mul e (v j))
      (sym (element_mul K x c x-small c-small) ∙ ap (element K) inverse ∙ element_one K)
      ∙ one-mul F (v j))

  -- nonzero multiples of the rows have the span of the rows
  pub same_span_of_multiples : (n : ℕ) (rows : List (List ℕ)) (c x : ℕ) → IsMatrixOver K n rows → c < K.order →
      x < K.order → K.mul x c ≡ 1 → HaveSameSpan K rows (multiples n rows c)
  same_span_of_multiples n rows c x over c-small x-small inverse =
      same_span_by_rows K rows (multiples n rows c)
      (λ t below.
      span_same F (length (multiples n rows c)) (matrix_of K (multiples n rows c)) (vector_of K (get_or rows t []))
      (scale F (element K x) (vector_of K (get_or (multiples n rows c) t [])))
      (scaled_back c x (vector_of K (get_or rows t [])) c-small x-small inverse
      ∙ ap (scale F (element K x)) (sym (multiple_row n rows c t over c-small below)))
      (span_scale F (length (multiples n rows c)) (matrix_of K (multiples n rows c)) (element K x)
      (vector_of K (get_or (multiples n rows c) t []))
      (span_row F (length (multiples n rows c)) (matrix_of K (multiples n rows c)) t
      (omega (arith, below, table_length (length rows) n (λ i j. K.mul c (entry rows i j)))))))
      (λ t within.
      let below : t < length rows =
      omega (arith, within, table_length (length rows) n (λ i j. K.mul c (entry rows i j))) in
      span_same F (length rows) (matrix_of K rows) (vector_of K (get_or (multiples n rows c) t []))
      (scale F (element K c) (vector_of K (get_or rows t []))) (multiple_row n rows c t over c-small below)
      (span_scale F (length rows) (matrix_of K rows) (element K c) (vector_of K (get_or rows t []))
      (span_row F (length rows) (matrix_of K rows) t below)))

  -- the entries of the multiple that is 1 at the first entry other than 0
  multiple_one : (n : ℕ) (rows : List (List ℕ)) (c i j : ℕ) → IsMatrixOver K n rows → c < K.order → i < length rows →
      j < n → K.mul (entry rows i j) c ≡ 1 → matrix_of K (multiples n rows c) i j ≡ F.one
  multiple_one n rows c i j over small below inside inverse =
      ap (element K) (table_entry (length rows) n (λ i j. K.mul c (entry rows i j)) i j below inside
      ∙ K.mul_comm c (entry rows i j) small (matrix_entry-below K n rows i j over) ∙ inverse)
      ∙ element_one K

  multiple_zero : (n : ℕ) (rows : List (List ℕ)) (c i j : ℕ) → c < K.order → i < length rows →
      j < n → entry rows i j ≡ 0 → matrix_of K (multiples n rows c) i j ≡ F.zero
  multiple_zero n rows c i j small below inside none =
      ap (element K) (table_entry (length rows) n (λ i j. K.mul c (entry rows i j)) i j below inside
      ∙ ap (K.mul c) none ∙ mul-zero K c small)
      ∙ element_zero K

  -- one row, reduced at its pivot
  pub multiple_is_reduced : (n : ℕ) (rows : List (List ℕ)) (c pivot : ℕ) → IsMatrixOver K n rows → c < K.order →
      length rows ≡ 1 → pivot < n → K.mul (entry rows 0 pivot) c ≡ 1 →
      ((j : ℕ) → j < pivot → entry rows 0 j ≡ 0) →
      AreReducedRows F 1 (matrix_of K (multiples n rows c)) (λ t. get_or (pivot ∷ []) t 0)
  multiple_is_reduced n rows c pivot over small single inside inverse before = record {
    one = one;
    before = zeros;
    zero = λ s t s-below t-below other. absurd (other (omega (arith, s-below, t-below)));
  }
    where
      one : (t : ℕ) → t < 1 → matrix_of K (multiples n rows c) t (get_or (pivot ∷ []) t 0) ≡ F.one
      one zero below = multiple_one n rows c 0 pivot over small (omega (arith, single)) inside inverse
      one (suc t) below = absurd (let wrong : ⊥ = omega (arith, below) in wrong)

      zeros : (t i : ℕ) → t < 1 → i < get_or (pivot ∷ []) t 0 → matrix_of K (multiples n rows c) t i ≡ F.zero
      zeros zero i below first =
          multiple_zero n rows c 0 i small (omega (arith, single)) (omega (arith, first, inside)) (before i first)
      zeros (suc t) i below first = absurd (let wrong : ⊥ = omega (arith, below) in wrong)
