-- Rows and matrices whose entries stand in the opposite order, as vectors read from the last entry to the first.
use Rattle.std.specs.Prelude.{◌≡◌, ℕ, ◌-◌, ◌<◌, List, [], length, get_or, set, reverse}
use Rattle.std.specs.Prelude.{None, Result, IfOk}
use Rattle.std.proofs.lemmas.List.{length-reverse, length-set, get_or-reverse, get_or-set_same, get_or-set_other}
use Rattle.std.proofs.lemmas.Grind.{same_number_lists}
use Rattle.axe_algebra.specs.NumberField.{NumberField}
use Rattle.axe_algebra.specs.Vectors.{Matrix, transposed}
use Rattle.axe_algebra.specs.Bridge.{field_of, element, vector_of, matrix_of}
use Rattle.axe_algebra.specs.Lists.{IsVectorOver, IsMatrixOver}
use Rattle.axe_algebra.specs.ListArithmetic.{transpose}
use Rattle.axe_algebra.proofs.ListEntries.{vector_length, row_past}
use Rattle.axe_algebra.proofs.ListProducts.{matrix_of_transpose}
use Rattle.axe_algebra.proofs.ListIrreducible.{transpose_length}
use Rattle.axe_field.specs.Order.{IsElement}
use Rattle.axe_field.specs.NumberFields.{number_field, gf}
use Rattle.axe_row.specs.Rows.{RowValue, IsRow}
use Rattle.axe_row.specs.Refusals.{Answers}
use Rattle.axe_row.specs.declared.refusals.Refusal.{Refusal}
use Rattle.axe_matrix.specs.Matrices.{MatrixValue, IsMatrix, reversed_matrix, transposed_matrix, transpose_refusal}
use Rattle.axe_matrix.proofs.ReversedRows.{All-reverse}
use Rattle.axe_matrix.proofs.TransposeLaws.{transpose_refusal-none}
use Rattle.axe_echelon.specs.Mirrored.{mirrored, mirrored_row, IsMirrored}
use Rattle.axe_echelon.proofs.Exits.{answers_with}
use Rattle.axe_echelon.proofs.InverseLaws.{matrix_over}
use Rattle.axe_echelon.proofs.MirroredLaws.{same_as_mirrored}
use mathlib.Core.Path.{sym, ◌∙◌, ap, subst, fun_ext}
use native.Mathlib.Omega.{arith}
use native.Mathlib.Decide.{ℕ_discrete}

-- ---- lists in the opposite order

-- an entry is set at the mirrored place
pub reverse-set : (entries : List ℕ) (n p c : ℕ) → length entries ≡ n → p < n → reverse (set entries (n - 1 - p) c) ≡ set (reverse entries) p c
reverse-set entries n p c long inside = same_number_lists (reverse (set entries (n - 1 - p) c)) (set (reverse entries) p c)
    (length-reverse (set entries (n - 1 - p) c) ∙ length-set entries (n - 1 - p) c ∙ sym (length-set (reverse entries) p c ∙ length-reverse entries))
    (λ k below. at k (omega (arith, below, long, length-reverse (set entries (n - 1 - p) c), length-set entries (n - 1 - p) c)) (ℕ_discrete p k))
  where
    turned : (k : ℕ) → k < n → get_or (reverse (set entries (n - 1 - p) c)) k 0 ≡ get_or (set entries (n - 1 - p) c) (n - 1 - k) 0
    turned k below = get_or-reverse (set entries (n - 1 - p) c) k 0 (omega (arith, below, long, length-set entries (n - 1 - p) c))
        ∙ ap (λ l. get_or (set entries (n - 1 - p) c) (l - 1 - k) 0) (length-set entries (n - 1 - p) c ∙ long)

    at : (k : ℕ) → k < n → Dec (p ≡ k) → get_or (reverse (set entries (n - 1 - p) c)) k 0 ≡ get_or (set (reverse entries) p c) k 0
    at k below (yes same) = turned k below
        ∙ ap (λ j. get_or (set entries (n - 1 - p) c) (n - 1 - j) 0) (sym same)
        ∙ get_or-set_same entries (n - 1 - p) c 0 (omega (arith, inside, long))
        ∙ sym (ap (λ j. get_or (set (reverse entries) p c) j 0) (sym same)
        ∙ get_or-set_same (reverse entries) p c 0 (omega (arith, inside, long, length-reverse entries)))
    at k below (no other) = turned k below
        ∙ get_or-set_other entries (n - 1 - p) (n - 1 - k) c 0 (λ same. other (omega (arith, same, inside, below)))
        ∙ sym (get_or-set_other (reverse entries) p k c 0 (λ same. other (sym same))
        ∙ get_or-reverse entries k 0 (omega (arith, below, long)) ∙ ap (λ l. get_or entries (l - 1 - k) 0) long)

-- ---- rows

pub vector_of_reverse : (K : NumberField) (n : ℕ) (entries : List ℕ) → length entries ≡ n →
    vector_of K (reverse entries) ≡ mirrored (field_of K) n (vector_of K entries)
vector_of_reverse K n entries long = same_as_mirrored (field_of K) n (vector_of K entries) (vector_of K (reverse entries))
    (vector_length K n (reverse entries) (length-reverse entries ∙ long))
    (λ j below. ap (element K) (get_or-reverse entries j 0 (omega (arith, below, long)) ∙ ap (λ k. get_or entries (k - 1 - j) 0) long))

pub is_row_mirrored : (row : RowValue) → IsRow row → IsRow (mirrored_row row)
is_row_mirrored row h = record { elements = All-reverse (IsElement row.order) row.entries 0 h.elements }

-- ---- matrices

-- the columns of the matrix with its rows in the opposite order
pub columns_mirrored : (m other : MatrixValue) → IsMatrix m → other ≡ transposed_matrix (reversed_matrix m) → IsMatrix other → IsMirrored (transposed_matrix m) other
columns_mirrored m other h is well_formed = record {
  field = ap (λ (x : MatrixValue). x.order) is;
  columns = ap (λ (x : MatrixValue). x.cols) is ∙ length-reverse m.rows;
  count = ap (λ (x : MatrixValue). length x.rows) is ∙ transpose_length m.cols (reverse m.rows) ∙ sym (transpose_length m.cols m.rows);
  rows = ap (λ (x : MatrixValue). matrix_of K x.rows) is ∙ matrix_of_transpose K m.cols (reverse m.rows) over_reverse ∙ fun_ext λ t. column t;
  well_formed = well_formed;
}
  where
    K : NumberField
    K = number_field m.order

    over_reverse : IsMatrixOver K m.cols (reverse m.rows)
    over_reverse = All-reverse (IsVectorOver K m.cols) m.rows [] (matrix_over m h)

    column : (t : ℕ) → transposed (gf m.order) (matrix_of K (reverse m.rows)) t ≡
        mirrored (gf m.order) (length m.rows) (matrix_of K (transpose m.cols m.rows) t)
    column t = same_as_mirrored (gf m.order) (length m.rows) (transposed (gf m.order) (matrix_of K m.rows) t) (λ j. matrix_of K (reverse m.rows) j t)
        (λ j past. row_past K (reverse m.rows) j (omega (arith, past, length-reverse m.rows)) t)
        (λ j below. ap (λ (row : List ℕ). element K (get_or row t 0)) (get_or-reverse m.rows j [] below))
        ∙ ap (λ (a : Matrix (gf m.order)). mirrored (gf m.order) (length m.rows) (a t)) (sym (matrix_of_transpose K m.cols m.rows (matrix_over m h)))

-- so they are what a transpose gives, where there are rows
pub columns_answer : (m : MatrixValue) (result : Result MatrixValue Refusal) → IsMatrix m → 0 < length m.rows →
    Answers (transpose_refusal m) (λ transpose. transpose ≡ transposed_matrix (reversed_matrix m)) result → IfOk result IsMatrix →
    Answers None (IsMirrored (transposed_matrix m)) result
columns_answer m result h some answers well_formed =
    answers_with result (λ transpose. transpose ≡ transposed_matrix (reversed_matrix m)) IsMatrix (IsMirrored (transposed_matrix m))
    (subst (λ why. Answers why (λ transpose. transpose ≡ transposed_matrix (reversed_matrix m)) result)
    (transpose_refusal-none m (λ none. omega (arith, some, none))) answers)
    well_formed (λ other transposed_is matrix. columns_mirrored m other h transposed_is matrix)
