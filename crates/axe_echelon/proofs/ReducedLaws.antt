-- The reduced basis of the rows' span, made from the representatives of unit vectors.
use Rattle.std.specs.Prelude.{◌≡◌, ◌≢◌, ℕ, suc, ◌+◌, ◌<◌, ◌≤◌, List, [], ◌∷◌, ◌++◌, length, get_or, set}
use Rattle.std.proofs.Common.{get_or-set_other, get_or-set_same}
use Rattle.std.proofs.lemmas.List.{length-set, length-append, get_or_append_left, get_or-append-add}
use Rattle.axe_algebra.specs.NumberField.{NumberField}
use Rattle.axe_algebra.specs.Field.{Field}
use Rattle.axe_algebra.specs.Vectors.{Vector, unit_vector, subtract, scale}
use Rattle.axe_algebra.specs.Bridge.{element, vector_of, matrix_of}
use Rattle.axe_algebra.specs.Lists.{unit_row}
use Rattle.axe_algebra.specs.SpansOfLists.{IsPivot, IsRepresentative}
use Rattle.axe_algebra.proofs.FieldLaws.{zero-add, neg-zero, neg-mul, one-mul}
use Rattle.axe_algebra.proofs.ProductLaws.{unit_at, unit_off}
use Rattle.axe_algebra.proofs.Spanning.{span_same, span_length}
use Rattle.axe_algebra.proofs.ElementNumbers.{element_neg, element_one}
use Rattle.axe_algebra.proofs.ListEntries.{rows_length}
use Rattle.axe_algebra.proofs.ListVectors.{vector_of_unit_row, vector_of_scaled}
use Rattle.axe_field.specs.Order.{Order, IsElement}
use Rattle.axe_field.specs.Arithmetic.{field_neg}
use Rattle.axe_field.specs.NumberFields.{number_field, gf}
use Rattle.axe_field.proofs.NumberFields.{number_field-neg}
use Rattle.axe_row.specs.Rows.{RowValue, IsRow}
use Rattle.axe_row.specs.Operations.{multiple, multiple_row}
use Rattle.axe_row.proofs.OperationLaws.{get_or-multiple, length-multiple}
use Rattle.axe_matrix.specs.Matrices.{MatrixValue}
use Rattle.axe_echelon.specs.Echelons.{EchelonValue, IsEchelon, IsReducedMatrix}
use Rattle.axe_echelon.specs.Subspaces.{IsPivotRow}
use Rattle.axe_echelon.proofs.FormLaws.{below_or_at}
use Rattle.axe_echelon.proofs.StepLaws.{over_of_row, below_of_element}
use mathlib.Core.Path.{refl, sym, ◌∙◌, ap, ap₂, subst, fun_ext}
use native.Mathlib.Omega.{arith}
use native.Mathlib.Decide.{ℕ_discrete, dec_lt}

module _ (e : EchelonValue) (h : IsEchelon e) where
  abbrev K : NumberField
  K = number_field e.order

  abbrev F : Field
  F = gf e.order

  -- the unit vector of a pivot less its representative, which is 0 at the pivots
  pub pivot_row_of : (pivot scalar : ℕ) (q : Order) (unit left scaled row : RowValue) → pivot < e.cols →
      unit ≡ record { order = e.order; entries = unit_row e.cols pivot } → IsPivot K e.rows pivot → IsRepresentative K e.rows unit.entries left.entries →
      left.order ≡ e.order → length left.entries ≡ e.cols → IsRow left → q ≡ e.order → IsElement q scalar → scalar ≡ field_neg q 1 →
      scaled ≡ multiple_row scalar left → IsRow scaled → row ≡ record { order = scaled.order; entries = set scaled.entries pivot 1 } → IsRow row →
      IsPivotRow e pivot row
  pivot_row_of pivot scalar q unit left scaled row inside unit_is is_pivot represents left_field left_long left_row same_field is_element scalar_is
      scaled_is scaled_row row_is row_row = record {
        field = field;
        over = over_of_row e.order e.cols row field row_row row_long;
        in_span = span_same F (length e.rows) (matrix_of K e.rows) (vector_of K row.entries) (subtract F (vector_of K unit.entries) (vector_of K left.entries))
            (fun_ext λ j. difference j (ℕ_discrete j pivot)) represents.in_coset;
        one = at_pivot;
        zeros = λ j is_other other. at_other j other ∙ ap F.neg (represents.at_pivots j is_other) ∙ neg-zero F;
      }
    where
      scaled_field : scaled.order ≡ e.order
      scaled_field = ap (λ (r : RowValue). r.order) scaled_is ∙ left_field

      field : row.order ≡ e.order
      field = ap (λ (r : RowValue). r.order) row_is ∙ scaled_field

      scaled_long : length scaled.entries ≡ e.cols
      scaled_long = ap (λ (r : RowValue). length r.entries) scaled_is ∙ length-multiple (number_field left.order) scalar left.entries ∙ left_long

      row_long : length row.entries ≡ e.cols
      row_long = ap (λ (r : RowValue). length r.entries) row_is ∙ length-set scaled.entries pivot 1 ∙ scaled_long

      below : scalar < K.order
      below = subst (λ o. scalar < (number_field o).order) same_field (below_of_element q scalar is_element)

      scaled_vector : vector_of K scaled.entries ≡ scale F (element K scalar) (vector_of K left.entries)
      scaled_vector = vector_of_scaled K e.cols scalar left.entries scaled.entries (over_of_row e.order e.cols left left_field left_row left_long)
          (over_of_row e.order e.cols scaled scaled_field scaled_row scaled_long) below
          (λ j within. ap (λ (r : RowValue). get_or r.entries j 0) scaled_is
          ∙ ap (λ o. get_or (multiple (number_field o) scalar left.entries) j 0) left_field
          ∙ get_or-multiple K scalar left.entries j (omega (arith, within, left_long)))

      minus_one : element K scalar ≡ F.neg F.one
      minus_one = ap (element K) (scalar_is ∙ ap (λ o. field_neg o 1) same_field ∙ sym (number_field-neg e.order 1)) ∙ element_neg K 1 K.one-below ∙ ap F.neg (element_one K)

      at_other : (j : ℕ) → j ≢ pivot → vector_of K row.entries j ≡ F.neg (vector_of K left.entries j)
      at_other j other =
          ap (element K) (ap (λ (r : RowValue). get_or r.entries j 0) row_is ∙ get_or-set_other scaled.entries pivot j 1 0 other)
          ∙ ap (λ (x : Vector F). x j) scaled_vector ∙ ap (λ (c : F.Element). F.mul c (vector_of K left.entries j)) minus_one
          ∙ neg-mul F F.one (vector_of K left.entries j) ∙ ap F.neg (one-mul F (vector_of K left.entries j))

      at_pivot : vector_of K row.entries pivot ≡ F.one
      at_pivot =
          ap (element K) (ap (λ (r : RowValue). get_or r.entries pivot 0) row_is
          ∙ get_or-set_same scaled.entries pivot 1 0 (omega (arith, inside, scaled_long))) ∙ element_one K

      unit_is_vector : vector_of K unit.entries ≡ unit_vector F pivot
      unit_is_vector = ap (λ (r : RowValue). vector_of K r.entries) unit_is ∙ vector_of_unit_row K e.cols pivot inside

      difference : (j : ℕ) → Dec (j ≡ pivot) → vector_of K row.entries j ≡ F.add (vector_of K unit.entries j) (F.neg (vector_of K left.entries j))
      difference j (yes same) =
          ap (vector_of K row.entries) same ∙ at_pivot
          ∙ sym (ap₂ (λ (a b : F.Element). F.add a (F.neg b))
          (ap (vector_of K unit.entries) same ∙ ap (λ (x : Vector F). x pivot) unit_is_vector ∙ unit_at F pivot)
          (ap (vector_of K left.entries) same ∙ represents.at_pivots pivot is_pivot)
          ∙ ap (F.add F.one) (neg-zero F) ∙ F.add-zero F.one)
      difference j (no other) =
          at_other j other ∙ sym (zero-add F (F.neg (vector_of K left.entries j)))
          ∙ ap (λ (a : F.Element). F.add a (F.neg (vector_of K left.entries j)))
          (sym (ap (λ (x : Vector F). x j) unit_is_vector ∙ unit_off F pivot j (λ same. other (sym same))))

  -- a pivot is a column
  pub pivot-below : (j : ℕ) → IsPivot K e.rows j → j < e.cols
  pivot-below j pivot = cases (dec_lt j e.cols)
    where
      cases : Dec (j < e.cols) → j < e.cols
      cases (yes inside) = inside
      cases (no past) = absurd (pivot.leads.nonzero
          (span_length F e.cols (length e.rows) (matrix_of K e.rows) pivot.vector (rows_length K e.cols e.rows h.over) pivot.in_span j (omega arith)))

-- the rows of the reduced basis with pivots below a column
pub record IsReducedUpTo (e : EchelonValue) (column : ℕ) (m : MatrixValue) : Type 0 where
  pub field : m.order ≡ e.order
  pub columns : m.cols ≡ e.cols
  pub places : List ℕ
  pub as_many : length places ≡ length m.rows
  pub few : length m.rows ≤ column
  pub ascending : (s t : ℕ) → s < t → t < length m.rows → get_or places s 0 < get_or places t 0
  pub below : (t : ℕ) → t < length m.rows → get_or places t 0 < column
  pub each : (t : ℕ) → t < length m.rows → IsPivot (number_field e.order) e.rows (get_or places t 0)
  pub rows : (t : ℕ) → t < length m.rows → IsPivotRow e (get_or places t 0) (record { order = e.order; entries = get_or m.rows t [] })
  pub all : (j : ℕ) → j < column → IsPivot (number_field e.order) e.rows j → (t : ℕ) × (t < length m.rows) × (get_or places t 0 ≡ j)

pub reduced_none : (e : EchelonValue) (m : MatrixValue) → m ≡ record { order = e.order; cols = e.cols; rows = [] } → IsReducedUpTo e 0 m
reduced_none e m is = record {
  field = ap (λ (x : MatrixValue). x.order) is;
  columns = ap (λ (x : MatrixValue). x.cols) is;
  places = [];
  as_many = sym none;
  few = omega (arith, none);
  ascending = λ s t first inside. absurd (omega (arith, none));
  below = λ t inside. absurd (omega (arith, none));
  each = λ t inside. absurd (omega (arith, none));
  rows = λ t inside. absurd (omega (arith, none));
  all = λ j ahead. absurd (omega arith);
}
  where
    none : length m.rows ≡ 0
    none = ap (λ (x : MatrixValue). length x.rows) is

-- a column that is no pivot
pub reduced_other : (e : EchelonValue) (column : ℕ) (m : MatrixValue) → IsReducedUpTo e column m → ¬ (IsPivot (number_field e.order) e.rows column) →
    IsReducedUpTo e (column + 1) m
reduced_other e column m so_far none = record {
  field = so_far.field;
  columns = so_far.columns;
  places = so_far.places;
  as_many = so_far.as_many;
  few = omega (arith, so_far.few);
  ascending = so_far.ascending;
  below = λ t inside. omega (arith, so_far.below t inside);
  each = so_far.each;
  rows = so_far.rows;
  all = λ j ahead pivot. at j ahead pivot (ℕ_discrete j column);
}
  where
    at : (j : ℕ) → j < column + 1 → IsPivot (number_field e.order) e.rows j → Dec (j ≡ column) →
        (t : ℕ) × (t < length m.rows) × (get_or so_far.places t 0 ≡ j)
    at j ahead pivot (yes same) = absurd (none (subst (IsPivot (number_field e.order) e.rows) same pivot))
    at j ahead pivot (no other) = so_far.all j (omega arith) pivot

-- a pivot
pub reduced_more : (e : EchelonValue) (column : ℕ) (m next : MatrixValue) (row : RowValue) → IsReducedUpTo e column m →
    IsPivot (number_field e.order) e.rows column → IsPivotRow e column row → next ≡ record { order = m.order; cols = m.cols; rows = m.rows ++ row.entries ∷ [] } →
    IsReducedUpTo e (column + 1) next
reduced_more e column m next row so_far pivot pivot_row is = record {
  field = ap (λ (x : MatrixValue). x.order) is ∙ so_far.field;
  columns = ap (λ (x : MatrixValue). x.cols) is ∙ so_far.columns;
  places = places;
  as_many = omega (arith, length-append so_far.places (column ∷ []), so_far.as_many, more);
  few = omega (arith, more, so_far.few);
  ascending = λ s t first inside. below_or_at (λ t. s < t → get_or places s 0 < get_or places t 0) (length m.rows)
      (λ t below before. rw (place_before s (omega arith), place_before t below) (so_far.ascending s t before below))
      (λ before. rw (place_before s before, place_last) (so_far.below s before)) t (omega (arith, more)) first;
  below = λ t inside. below_or_at (λ t. get_or places t 0 < column + 1) (length m.rows)
      (λ t below. rw (place_before t below) (let b = so_far.below t below in omega (arith, b))) (rw place_last (omega arith)) t (omega (arith, more));
  each = λ t inside. below_or_at (λ t. IsPivot (number_field e.order) e.rows (get_or places t 0)) (length m.rows)
      (λ t below. subst (IsPivot (number_field e.order) e.rows) (sym (place_before t below)) (so_far.each t below))
      (subst (IsPivot (number_field e.order) e.rows) (sym place_last) pivot) t (omega (arith, more));
  rows = λ t inside. below_or_at (λ t. IsPivotRow e (get_or places t 0) (record { order = e.order; entries = get_or next.rows t [] })) (length m.rows)
      (λ t below. pair (sym (place_before t below)) (sym (row_before t below)) (so_far.rows t below))
      (pair (sym place_last) (sym row_last) (own_field pivot_row)) t (omega (arith, more));
  all = λ j ahead is_pivot. at j ahead is_pivot (ℕ_discrete j column);
}
  where
    places : List ℕ
    places = so_far.places ++ column ∷ []

    more : length next.rows ≡ suc (length m.rows)
    more = ap (λ (x : MatrixValue). length x.rows) is ∙ (let grown : length (m.rows ++ row.entries ∷ []) ≡ suc (length m.rows) = omega (arith, length-append m.rows (row.entries ∷ [])) in grown)

    place_before : (t : ℕ) → t < length m.rows → get_or places t 0 ≡ get_or so_far.places t 0
    place_before t below = get_or_append_left so_far.places (column ∷ []) 0 t (omega (arith, so_far.as_many))

    place_last : get_or places (length m.rows) 0 ≡ column
    place_last =
        ap (λ k. get_or places k 0) (let same : length m.rows ≡ length so_far.places + 0 = omega (arith, so_far.as_many) in same)
        ∙ get_or-append-add so_far.places (column ∷ []) 0 0

    row_before : (t : ℕ) → t < length m.rows → get_or next.rows t [] ≡ get_or m.rows t []
    row_before t below = ap (λ (x : MatrixValue). get_or x.rows t []) is ∙ get_or_append_left m.rows (row.entries ∷ []) [] t below

    row_last : get_or next.rows (length m.rows) [] ≡ row.entries
    row_last =
        ap (λ (x : MatrixValue). get_or x.rows (length m.rows) []) is
        ∙ ap (λ k. get_or (m.rows ++ row.entries ∷ []) k []) (let same : length m.rows ≡ length m.rows + 0 = omega arith in same)
        ∙ get_or-append-add m.rows (row.entries ∷ []) 0 []

    pair : {a b : ℕ} {v w : List ℕ} → a ≡ b → v ≡ w → IsPivotRow e a (record { order = e.order; entries = v }) → IsPivotRow e b (record { order = e.order; entries = w })
    pair {a} {b} {v} {w} same_place same_row at_a =
        subst (λ k. IsPivotRow e k (record { order = e.order; entries = w })) same_place
        (subst (λ u. IsPivotRow e a (record { order = e.order; entries = u })) same_row at_a)

    own_field : IsPivotRow e column row → IsPivotRow e column (record { order = e.order; entries = row.entries })
    own_field p = record { field = refl; over = p.over; in_span = p.in_span; one = p.one; zeros = p.zeros }

    at : (j : ℕ) → j < column + 1 → IsPivot (number_field e.order) e.rows j → Dec (j ≡ column) → (t : ℕ) × (t < length next.rows) × (get_or places t 0 ≡ j)
    at j ahead is_pivot (yes same) = (length m.rows, omega (arith, more), place_last ∙ sym same)
    at j ahead is_pivot (no other) = from (so_far.all j (omega arith) is_pivot)
      where
        from : (t : ℕ) × (t < length m.rows) × (get_or so_far.places t 0 ≡ j) → (t : ℕ) × (t < length next.rows) × (get_or places t 0 ≡ j)
        from (t, below, found) = (t, omega (arith, more), place_before t below ∙ found)

-- all columns
pub reduced_whole : (e : EchelonValue) (column : ℕ) (m : MatrixValue) → IsEchelon e → IsReducedUpTo e column m → e.cols ≤ column → IsReducedMatrix e m
reduced_whole e column m h so_far whole = record {
  field = so_far.field;
  columns = so_far.columns;
  basis = record {
    pivots = λ t. get_or so_far.places t 0;
    are_pivots = record {
      ascending = so_far.ascending;
      each = so_far.each;
      all = λ j pivot. so_far.all j (omega (arith, pivot-below e h j pivot)) pivot;
    };
    in_span = λ t inside. (so_far.rows t inside).in_span;
    one = λ t inside. (so_far.rows t inside).one;
    zero = λ s t first inside other. (so_far.rows t inside).zeros (get_or so_far.places s 0) (so_far.each s first) (apart s t first inside other (dec_lt s t));
  };
}
  where
    apart : (s t : ℕ) → s < length m.rows → t < length m.rows → s ≢ t → Dec (s < t) → get_or so_far.places s 0 ≢ get_or so_far.places t 0
    apart s t first inside other (yes before) = λ same. let less = so_far.ascending s t before inside in omega (arith, same, less)
    apart s t first inside other (no later) = λ same. let less = so_far.ascending t s (omega arith) first in omega (arith, same, less)
