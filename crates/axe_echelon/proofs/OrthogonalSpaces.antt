-- The vectors that are orthogonal to a space when they are read from the last entry to the first, as they are made for one
-- column after the other.
use Rattle.std.specs.Prelude.{◌≡◌, ℕ, suc, ◌+◌, ◌<◌, ◌≤◌, List, [], ◌∷◌, ◌++◌, length, get_or}
use Rattle.std.proofs.lemmas.List.{get_or_append_left, get_or_push, length_push, length-reverse}
use Rattle.axe_algebra.specs.NumberField.{NumberField}
use Rattle.axe_algebra.specs.Field.{Field}
use Rattle.axe_algebra.specs.Vectors.{Vector}
use Rattle.axe_algebra.specs.Bridge.{matrix_of}
use Rattle.axe_algebra.specs.SpansOfLists.{IsPivot}
use Rattle.axe_algebra.proofs.ListEntries.{rows_length, vector_length}
use Rattle.axe_field.specs.NumberFields.{number_field, gf}
use Rattle.axe_row.specs.Rows.{RowValue}
use Rattle.axe_matrix.specs.Matrices.{MatrixValue}
use Rattle.axe_echelon.specs.Echelons.{EchelonValue, IsEchelon}
use Rattle.axe_echelon.specs.Mirrored.{mirrored}
use Rattle.axe_echelon.specs.Orthogonal.{IsOrthogonalToSpace, IsMirroredVector}
use Rattle.axe_echelon.proofs.FormLaws.{below_or_at}
use Rattle.axe_echelon.proofs.MirroredBases.{IsUnitOrthogonal, mirrored_basis}
use Rattle.axe_echelon.proofs.MirroredLists.{vector_of_reverse}
use mathlib.Core.Path.{refl, sym, ◌∙◌, ap, subst}
use native.Mathlib.Omega.{arith}
use native.Mathlib.Decide.{ℕ_discrete}

-- the rows are the vectors for the columns from a bound on that are no pivots, from the last to the first
pub record IsOrthogonalDownTo (e : EchelonValue) (bound : ℕ) (m : MatrixValue) : Type 0 where
  pub field : m.order ≡ e.order
  pub width : m.cols ≡ e.cols
  pub columns : List ℕ
  pub as_many : length columns ≡ length m.rows
  pub few : length m.rows + bound ≤ e.cols
  pub descending : (s t : ℕ) → s < t → t < length m.rows → get_or columns t 0 < get_or columns s 0
  pub above : (t : ℕ) → t < length m.rows → bound ≤ get_or columns t 0
  pub inside : (t : ℕ) → t < length m.rows → get_or columns t 0 < e.cols
  pub free : (t : ℕ) → t < length m.rows → ¬ (IsPivot (number_field e.order) e.rows (get_or columns t 0))
  pub rows : (t : ℕ) → t < length m.rows → IsMirroredVector e (get_or columns t 0) (record { order = e.order; entries = get_or m.rows t [] })
  pub all : (j : ℕ) → bound ≤ j → j < e.cols → ¬ (IsPivot (number_field e.order) e.rows j) → (t : ℕ) × (t < length m.rows) × (get_or columns t 0 ≡ j)

pub orthogonal_none : (e : EchelonValue) (bound : ℕ) (m : MatrixValue) → m ≡ record { order = e.order; cols = e.cols; rows = [] } → bound ≡ e.cols →
    IsOrthogonalDownTo e bound m
orthogonal_none e bound m is whole = record {
  field = ap (λ (x : MatrixValue). x.order) is;
  width = ap (λ (x : MatrixValue). x.cols) is;
  columns = [];
  as_many = sym none;
  few = omega (arith, none, whole);
  descending = λ s t first inside. absurd (omega (arith, none));
  above = λ t inside. absurd (omega (arith, none));
  inside = λ t inside. absurd (omega (arith, none));
  free = λ t inside. absurd (omega (arith, none));
  rows = λ t inside. absurd (omega (arith, none));
  all = λ j past below. absurd (omega (arith, whole));
}
  where
    none : length m.rows ≡ 0
    none = ap (λ (x : MatrixValue). length x.rows) is

-- a pivot
pub orthogonal_pivot : (e : EchelonValue) (column bound : ℕ) (m : MatrixValue) → bound ≡ suc column → IsOrthogonalDownTo e bound m →
    IsPivot (number_field e.order) e.rows column → IsOrthogonalDownTo e column m
orthogonal_pivot e column bound m next so_far pivot = record {
  field = so_far.field;
  width = so_far.width;
  columns = so_far.columns;
  as_many = so_far.as_many;
  few = omega (arith, so_far.few, next);
  descending = so_far.descending;
  above = λ t inside. omega (arith, so_far.above t inside, next);
  inside = so_far.inside;
  free = so_far.free;
  rows = so_far.rows;
  all = λ j past below free. at j past below free (ℕ_discrete j column);
}
  where
    at : (j : ℕ) → column ≤ j → j < e.cols → ¬ (IsPivot (number_field e.order) e.rows j) → Dec (j ≡ column) →
        (t : ℕ) × (t < length m.rows) × (get_or so_far.columns t 0 ≡ j)
    at j past below free (yes same) = absurd (free (subst (IsPivot (number_field e.order) e.rows) (sym same) pivot))
    at j past below free (no other) = so_far.all j (omega (arith, past, other, next)) below free

-- a column that is no pivot, and its vector
pub orthogonal_column : (e : EchelonValue) (column bound : ℕ) (m next : MatrixValue) (v : RowValue) → bound ≡ suc column → IsOrthogonalDownTo e bound m →
    ¬ (IsPivot (number_field e.order) e.rows column) → IsMirroredVector e column v →
    next ≡ record { order = m.order; cols = m.cols; rows = m.rows ++ v.entries ∷ [] } → IsOrthogonalDownTo e column next
orthogonal_column e column bound m next v one_less so_far none vector is = record {
  field = ap (λ (x : MatrixValue). x.order) is ∙ so_far.field;
  width = ap (λ (x : MatrixValue). x.cols) is ∙ so_far.width;
  columns = columns;
  as_many = omega (arith, length_push so_far.columns column, so_far.as_many, more);
  few = omega (arith, more, so_far.few, one_less);
  descending = λ s t first inside. below_or_at (λ t. s < t → get_or columns t 0 < get_or columns s 0) (length m.rows)
      (λ t below before. rw (column_before s (omega arith), column_before t below) (so_far.descending s t before below))
      (λ before. rw (column_before s before, column_last) (let b = so_far.above s before in omega (arith, b, one_less))) t (omega (arith, inside, more)) first;
  above = λ t inside. below_or_at (λ t. column ≤ get_or columns t 0) (length m.rows)
      (λ t below. rw (column_before t below) (let b = so_far.above t below in omega (arith, b, one_less))) (rw column_last (omega arith)) t (omega (arith, inside, more));
  inside = λ t inside. below_or_at (λ t. get_or columns t 0 < e.cols) (length m.rows)
      (λ t below. rw (column_before t below) (so_far.inside t below)) (rw column_last (omega (arith, so_far.few, one_less))) t (omega (arith, inside, more));
  free = λ t inside. below_or_at (λ t. ¬ (IsPivot (number_field e.order) e.rows (get_or columns t 0))) (length m.rows)
      (λ t below. rw (column_before t below) (so_far.free t below)) (rw column_last none) t (omega (arith, inside, more));
  rows = λ t inside. below_or_at (λ t. IsMirroredVector e (get_or columns t 0) (record { order = e.order; entries = get_or next.rows t [] })) (length m.rows)
      (λ t below. pair (sym (column_before t below)) (sym (row_before t below)) (so_far.rows t below))
      (pair (sym column_last) (sym row_last) (own_field vector)) t (omega (arith, inside, more));
  all = λ j past below free. at j past below free (ℕ_discrete j column);
}
  where
    columns : List ℕ
    columns = so_far.columns ++ column ∷ []

    more : length next.rows ≡ suc (length m.rows)
    more = ap (λ (x : MatrixValue). length x.rows) is ∙ (let grown : length (m.rows ++ v.entries ∷ []) ≡ suc (length m.rows) = omega (arith, length_push m.rows v.entries) in grown)

    column_before : (t : ℕ) → t < length m.rows → get_or columns t 0 ≡ get_or so_far.columns t 0
    column_before t below = get_or_append_left so_far.columns (column ∷ []) 0 t (omega (arith, below, so_far.as_many))

    column_last : get_or columns (length m.rows) 0 ≡ column
    column_last = get_or_push so_far.columns column 0 (length m.rows) so_far.as_many

    row_before : (t : ℕ) → t < length m.rows → get_or next.rows t [] ≡ get_or m.rows t []
    row_before t below = ap (λ (x : MatrixValue). get_or x.rows t []) is ∙ get_or_append_left m.rows (v.entries ∷ []) [] t below

    row_last : get_or next.rows (length m.rows) [] ≡ v.entries
    row_last = ap (λ (x : MatrixValue). get_or x.rows (length m.rows) []) is ∙ get_or_push m.rows v.entries [] (length m.rows) refl

    pair : {a b : ℕ} {x y : List ℕ} → a ≡ b → x ≡ y → IsMirroredVector e a (record { order = e.order; entries = x }) →
        IsMirroredVector e b (record { order = e.order; entries = y })
    pair {a} {b} {x} {y} same_column same_row at_a =
        subst (λ k. IsMirroredVector e k (record { order = e.order; entries = y })) same_column
        (subst (λ u. IsMirroredVector e a (record { order = e.order; entries = u })) same_row at_a)

    own_field : IsMirroredVector e column v → IsMirroredVector e column (record { order = e.order; entries = v.entries })
    own_field p = record { field = refl; over = p.over; orthogonal = p.orthogonal; one = p.one; zeros = p.zeros }

    at : (j : ℕ) → column ≤ j → j < e.cols → ¬ (IsPivot (number_field e.order) e.rows j) → Dec (j ≡ column) →
        (t : ℕ) × (t < length next.rows) × (get_or columns t 0 ≡ j)
    at j past below free (yes same) = (length m.rows, omega (arith, more), column_last ∙ sym same)
    at j past below free (no other) = from (so_far.all j (omega (arith, past, other, one_less)) below free)
      where
        from : (t : ℕ) × (t < length m.rows) × (get_or so_far.columns t 0 ≡ j) → (t : ℕ) × (t < length next.rows) × (get_or columns t 0 ≡ j)
        from (t, within, found) = (t, omega (arith, within, more), column_before t within ∙ found)

-- all columns
pub orthogonal_whole : (e : EchelonValue) (bound : ℕ) (m : MatrixValue) → IsEchelon e → IsOrthogonalDownTo e bound m → bound ≡ 0 → IsOrthogonalToSpace e m
orthogonal_whole e bound m h so_far whole = record {
  field = so_far.field;
  columns = so_far.width;
  basis = mirrored_basis F e.cols (length e.rows) (matrix_of K e.rows) (rows_length K e.cols e.rows h.over) (length m.rows) (matrix_of K m.rows)
      (λ t. get_or so_far.columns t 0)
      (record {
        descending = so_far.descending;
        inside = so_far.inside;
        free = so_far.free;
        all = λ j below free. so_far.all j (omega (arith, whole)) below free;
      })
      (λ t below. vector_length K e.cols (get_or m.rows t []) (long t below))
      (λ t below. unit t below (so_far.rows t below));
}
  where
    K : NumberField
    K = number_field e.order

    F : Field
    F = gf e.order

    long : (t : ℕ) → t < length m.rows → length (get_or m.rows t []) ≡ e.cols
    long t below = sym (length-reverse (get_or m.rows t [])) ∙ (so_far.rows t below).over.length_is

    unit : (t : ℕ) → t < length m.rows → IsMirroredVector e (get_or so_far.columns t 0) (record { order = e.order; entries = get_or m.rows t [] }) →
        IsUnitOrthogonal (gf e.order) e.cols (length e.rows) (matrix_of (number_field e.order) e.rows) (get_or so_far.columns t 0)
        (mirrored (gf e.order) e.cols (matrix_of (number_field e.order) m.rows t))
    unit t below vector = subst (λ (x : Vector (gf e.order)).
        IsUnitOrthogonal (gf e.order) e.cols (length e.rows) (matrix_of (number_field e.order) e.rows) (get_or so_far.columns t 0) x)
        (vector_of_reverse (number_field e.order) e.cols (get_or m.rows t []) (long t below))
        (record { within = vector.orthogonal; one = vector.one; zeros = vector.zeros })
