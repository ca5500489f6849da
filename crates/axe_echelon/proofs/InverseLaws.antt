-- Independent rows taken one by one, and the inverse from the coordinates of the unit vectors.
use Rattle.std.specs.Prelude.{◌≡◌, ℕ, suc, ◌+◌, ◌<◌, ◌≤◌, List, [], ◌∷◌, ◌++◌, length, get_or, Bool, true, false, Some, None}
use Rattle.std.proofs.lemmas.Bool.{eq-eqb, ne_eqb}
use Rattle.std.proofs.lemmas.List.{length-append, get_or_append_left, get_or-append-add, ext_get_or}
use Rattle.axe_algebra.specs.Field.{Field}
use Rattle.axe_algebra.specs.Vectors.{Vector, Matrix}
use Rattle.axe_algebra.specs.Spans
use Rattle.axe_algebra.specs.Bridge.{vector_of, matrix_of}
use Rattle.axe_algebra.specs.Lists.{IsMatrixOver}
use Rattle.axe_algebra.specs.SpansOfLists.{IsIndependent, IsSpanned}
use Rattle.axe_algebra.proofs.ProductLaws.{times_same, times_longer}
use Rattle.axe_algebra.proofs.Exchange.{cut, cut_below, cut_length, times_cut, with_row, with_row_at, with_row_before, independent_not_spanned}
use Rattle.axe_algebra.proofs.ListSpans.{spanned_or_not}
use Rattle.axe_field.specs.NumberFields.{number_field, gf}
use Rattle.axe_row.specs.Rows.{RowValue}
use Rattle.axe_row.specs.declared.refusals.Refusal.TheVariants.{NotSquare}
use Rattle.axe_matrix.specs.Matrices.{MatrixValue, IsMatrix}
use Rattle.axe_echelon.specs.Echelons.{EchelonValue, IsEchelon, inverse_refusal}
use Rattle.axe_echelon.proofs.FormLaws.{below_or_at}
use mathlib.Core.Path.{refl, sym, ◌∙◌, ap, subst}
use native.Mathlib.Omega.{arith}

module _ (F : Field) where
  -- the first of independent rows are independent
  pub independent_first : (m n : ℕ) (a b : Matrix F) → m ≤ n → ((t : ℕ) → t < m → b t ≡ a t) → Spans.IsIndependent F n a → Spans.IsIndependent F m b
  independent_first m n a b few same independent = record {
    only_zero = λ c vanishes t below.
        sym (cut_below F m c t below)
        ∙ independent.only_zero (cut F m c)
        (times_longer F m n (cut F m c) a few (λ s past inside. cut_length F m c s past) ∙ times_cut F m c a
        ∙ times_same F m c c a b (λ s inside. refl) (λ s inside. sym (same s inside)) ∙ vanishes)
        t (omega arith);
  }

  -- a row in the span of the rows before it shows rows to be dependent
  pub dependent_by_row : (k n : ℕ) (a b : Matrix F) (x : Vector F) → k < n → ((t : ℕ) → t < k → b t ≡ a t) → x ≡ a k → Spans.InSpan F k b x →
      ¬ (Spans.IsIndependent F n a)
  dependent_by_row k n a b x below same is in_span independent =
      independent_not_spanned F k b x
      (independent_first (suc k) n a (with_row F k b x) (omega arith)
      (below_or_at (λ t. with_row F k b x t ≡ a t) k (λ t inside. with_row_before F k b x t inside ∙ same t inside) (with_row_at F k b x ∙ is)) independent)
      in_span

-- a matrix over a field of numbers
pub matrix_over : (m : MatrixValue) → IsMatrix m → IsMatrixOver (number_field m.order) m.cols m.rows
unfolding number_field
matrix_over m h = λ i d below. record {
  length_is = h.row_lengths i d below;
  elements = h.elements i d below;
}

-- the first rows of a matrix were inserted
pub record HasFirstRows (m : MatrixValue) (i : ℕ) (e : EchelonValue) : Type 0 where
  pub field : e.order ≡ m.order
  pub columns : e.cols ≡ m.cols
  pub count : length e.rows ≡ i
  pub few : i ≤ length m.rows
  pub rows : (t : ℕ) → t < i → get_or e.rows t [] ≡ get_or m.rows t []
  pub well_formed : IsEchelon e

pub first_rows_none : (m : MatrixValue) (e : EchelonValue) → e ≡ record { order = m.order; cols = m.cols; rows = [] } → IsEchelon e → HasFirstRows m 0 e
first_rows_none m e is h = record {
  field = ap (λ (x : EchelonValue). x.order) is;
  columns = ap (λ (x : EchelonValue). x.cols) is;
  count = ap (λ (x : EchelonValue). length x.rows) is;
  few = omega arith;
  rows = λ t below. absurd (omega arith);
  well_formed = h;
}

pub first_rows_more : (m : MatrixValue) (i : ℕ) (e next : EchelonValue) (row : RowValue) → HasFirstRows m i e → i < length m.rows →
    row.entries ≡ get_or m.rows i [] → next ≡ record { order = e.order; cols = e.cols; rows = e.rows ++ row.entries ∷ [] } → IsEchelon next →
    HasFirstRows m (i + 1) next
first_rows_more m i e next row first below row_is is h = record {
  field = ap (λ (x : EchelonValue). x.order) is ∙ first.field;
  columns = ap (λ (x : EchelonValue). x.cols) is ∙ first.columns;
  count = ap (λ (x : EchelonValue). length x.rows) is
      ∙ (let grown : length (e.rows ++ row.entries ∷ []) ≡ i + 1 = omega (arith, first.count, length-append e.rows (row.entries ∷ [])) in grown);
  few = omega arith;
  rows = λ t inside. below_or_at (λ t. get_or next.rows t [] ≡ get_or m.rows t []) i
      (λ t before. ap (λ (x : EchelonValue). get_or x.rows t []) is ∙ get_or_append_left e.rows (row.entries ∷ []) [] t (omega (arith, first.count))
      ∙ first.rows t before)
      (ap (λ (x : EchelonValue). get_or x.rows i []) is
      ∙ ap (λ k. get_or (e.rows ++ row.entries ∷ []) k []) (let same : i ≡ length e.rows + 0 = omega (arith, first.count) in same)
      ∙ get_or-append-add e.rows (row.entries ∷ []) 0 [] ∙ row_is)
      t (omega arith);
  well_formed = h;
}

-- the echelon form is that of all rows of the matrix
pub record HasAllRows (m : MatrixValue) (e : EchelonValue) : Type 0 where
  pub field : e.order ≡ m.order
  pub columns : e.cols ≡ m.cols
  pub rows : e.rows ≡ m.rows
  pub well_formed : IsEchelon e

pub first_rows_all : (m : MatrixValue) (i : ℕ) (e : EchelonValue) → HasFirstRows m i e → length m.rows ≤ i → HasAllRows m e
first_rows_all m i e first whole = record {
  field = first.field;
  columns = first.columns;
  rows = ext_get_or [] e.rows m.rows (let same : length e.rows ≡ length m.rows = omega (arith, first.count, first.few) in same)
      (λ t below. first.rows t (omega (arith, first.count)));
  well_formed = first.well_formed;
}

pub first_rows_dependent : (m : MatrixValue) (i : ℕ) (e : EchelonValue) (row : RowValue) → HasFirstRows m i e → i < length m.rows →
    row.entries ≡ get_or m.rows i [] → IsSpanned (number_field e.order) e.rows row.entries → ¬ (IsIndependent (number_field m.order) m.rows)
first_rows_dependent m i e row first below row_is spanned =
    dependent_by_row (gf m.order) i (length m.rows) (matrix_of (number_field m.order) m.rows) (matrix_of (number_field m.order) e.rows)
    (vector_of (number_field m.order) row.entries) below (λ t inside. ap (vector_of (number_field m.order)) (first.rows t inside))
    (ap (vector_of (number_field m.order)) row_is)
    (subst (λ k. Spans.InSpan (gf m.order) k (matrix_of (number_field m.order) e.rows) (vector_of (number_field m.order) row.entries)) first.count
    (subst (λ o. IsSpanned (number_field o) e.rows row.entries) first.field spanned))

-- a row that is not new is in the span
pub spanned_of_not_new : (e : EchelonValue) (v : List ℕ) (new : Bool) → IsEchelon e → length v ≡ e.cols → (¬ (IsSpanned (number_field e.order) e.rows v) → new ≡ true) →
    new ≡ false → IsSpanned (number_field e.order) e.rows v
spanned_of_not_new e v new h long exactly not_new = cases (spanned_or_not (number_field e.order) e.cols e.rows v h.over long)
  where
    both : new ≡ true → new ≡ false → ⊥
    both first second = cc

    cases : Dec (IsSpanned (number_field e.order) e.rows v) → IsSpanned (number_field e.order) e.rows v
    cases (yes spanned) = spanned
    cases (no outside) = absurd (both (exactly outside) not_new)

-- a matrix is refused as not square, or is square
pub inverse_refusal-none : (m : MatrixValue) → length m.rows ≡ m.cols → inverse_refusal m ≡ None
inverse_refusal-none m square = rw (eq-eqb (length m.rows) m.cols square) refl

pub inverse_refusal-some : (m : MatrixValue) → ¬ (length m.rows ≡ m.cols) → inverse_refusal m ≡ Some NotSquare
inverse_refusal-some m other = rw (ne_eqb (length m.rows) m.cols other) refl
