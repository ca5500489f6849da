-- Rows from which the pivots of an echelon form are cleared, one after another in the order of their columns.
use Rattle.std.specs.Prelude.{◌≡◌, ◌≢◌, ℕ, suc, ◌+◌, ◌<◌, ◌≤◌, List, length, get_or, set, replicate}
use Rattle.std.proofs.Common.{get_or-set_other, get_or-set_same}
use Rattle.std.proofs.lemmas.List.{length-map, length-set}
use Rattle.axe_algebra.specs.NumberField.{NumberField}
use Rattle.axe_algebra.specs.Vectors.{Vector, HasLength, zero_vector, unit_vector, add_vectors, scale, times}
use Rattle.axe_algebra.specs.Bridge.{element, vector_of, matrix_of}
use Rattle.axe_algebra.specs.Lists.{IsVectorOver}
use Rattle.axe_algebra.specs.Reduced.{IsZeroAtPivots}
use Rattle.axe_algebra.specs.SpansOfLists.{IsSpanned, IsRepresentative}
use Rattle.axe_algebra.proofs.ProductLaws.{times_zero, times_unit, unit_at, unit_off}
use Rattle.axe_algebra.proofs.FieldLaws.{zero-add, mul-zero}
use Rattle.axe_algebra.proofs.Spanning.{span_same, span_row}
use Rattle.axe_algebra.proofs.ElementNumbers.{element_neg, element_zero, entry-below, same_number, zero-below}
use Rattle.axe_algebra.proofs.ListVectors.{vector_of_added, IsInCoset, coset_of_itself, added_in_coset}
use Rattle.axe_layer.specs.Supports.{restricted}
use Rattle.axe_layer.proofs.SupportLaws.{length-restricted}
use Rattle.axe_lane.specs.Entries.{AreZerosBefore, AreZerosFrom, AreZerosBetween, IsNextNonzero}
use Rattle.axe_field.specs.Order.{Order, IsElement, order_number}
use Rattle.axe_field.specs.Arithmetic.{field_add, field_neg}
use Rattle.axe_field.specs.CheckedLaws.{field_add-zero, field_add-neg}
use Rattle.axe_field.specs.NumberFields.{number_field, gf}
use Rattle.axe_field.proofs.NumberFields.{number_field-neg}
use Rattle.axe_row.specs.Rows.{RowValue, IsRow}
use Rattle.axe_row.specs.FoundEntries.{IsNextEntry}
use Rattle.axe_row.specs.Operations.{sum_with_multiple, row_with_multiple}
use Rattle.axe_row.proofs.OperationLaws.{get_or-sum_with_multiple}
use Rattle.axe_echelon.specs.Subspaces.{rows_of, pivots_of, space_of, IsRowOfForm, AreFormRows, AreTabledRows, IsCleared}
use Rattle.axe_echelon.specs.PivotTables.{marks_of, HasRoom, IsPivotAt}
use Rattle.axe_echelon.specs.declared.subspace.PivotRow.{PivotRow}
use Rattle.axe_echelon.specs.declared.pivot_table.PivotTable.{PivotTable}
use Rattle.axe_echelon.proofs.FormLaws.{cleared_more, cleared_all, offset_more}
use Rattle.axe_echelon.proofs.PivotTableLaws.{zero_where_marked, found_is_marked, room_if_marked}
use Rattle.axe_echelon.proofs.PivotRowLaws.{rows_fit, vector_at, pivot_at, length-rows_of, form_row_at}
use Rattle.axe_echelon.proofs.StepLaws.{over_of_row, below_of_element, zeros_over, vector_of_zeros}
use mathlib.Core.Path.{refl, sym, ◌∙◌, ap, ap₂, subst, fun_ext}
use native.Mathlib.Omega.{arith}
use native.Mathlib.Decide.{ℕ_discrete, dec_lt}

-- a row with a multiple of another
sum_entry : (o : Order) (n : ℕ) (row other next : RowValue) (scalar : ℕ) → row.order ≡ o → IsVectorOver (number_field o) n row.entries →
    next ≡ row_with_multiple row scalar other → (j : ℕ) → j < n →
    get_or next.entries j 0 ≡ (number_field o).add (get_or row.entries j 0) ((number_field o).mul scalar (get_or other.entries j 0))
sum_entry o n row other next scalar field over is j inside =
    ap (λ (r : RowValue). get_or r.entries j 0) is
    ∙ ap (λ q. get_or (sum_with_multiple (number_field q) row.entries scalar other.entries) j 0) field
    ∙ get_or-sum_with_multiple (number_field o) row.entries scalar other.entries j (omega (arith, over.length_is))

pub vector_of_sum : (o : Order) (n : ℕ) (row other next : RowValue) (scalar : ℕ) → row.order ≡ o → IsVectorOver (number_field o) n row.entries →
    IsVectorOver (number_field o) n other.entries → next ≡ row_with_multiple row scalar other → IsVectorOver (number_field o) n next.entries →
    scalar < (number_field o).order →
    vector_of (number_field o) next.entries ≡
    add_vectors (gf o) (vector_of (number_field o) row.entries) (scale (gf o) (element (number_field o) scalar) (vector_of (number_field o) other.entries))
vector_of_sum o n row other next scalar field over over_other is over_next below =
    vector_of_added (number_field o) n scalar row.entries other.entries next.entries over over_other over_next below (sum_entry o n row other next scalar field over is)

-- a row that is 0 at the pivots before a column
pub record IsClearBefore (o : Order) (n : ℕ) (rows : List PivotRow) (column : ℕ) (row : RowValue) : Type 0 where
  pub field : row.order ≡ o
  pub over : IsVectorOver (number_field o) n row.entries
  pub cleared : (s : ℕ) → s < length (rows_of rows) → get_or (pivots_of rows) s 0 < column →
      vector_of (number_field o) row.entries (get_or (pivots_of rows) s 0) ≡ (gf o).zero

-- a row that is 0 at the pivots before a column, in the coset of the first row
pub record IsReducedBefore (o : Order) (n : ℕ) (rows : List PivotRow) (column : ℕ) (first row : RowValue) : Type 0 where
  pub clear : IsClearBefore o n rows column row
  pub in_coset : IsInCoset (number_field o) (rows_of rows) first.entries row.entries

-- a row that is 0 at the pivots before a column: the first row plus a combination of the rows that have these pivots
pub record IsClearedBefore (o : Order) (n : ℕ) (rows : List PivotRow) (column : ℕ) (first row multipliers : RowValue) : Type 0 where
  pub clear : IsClearBefore o n rows column row
  pub multipliers_field : multipliers.order ≡ o
  pub multipliers_over : IsVectorOver (number_field o) n multipliers.entries
  pub offset : vector_of (number_field o) row.entries ≡
      add_vectors (gf o) (vector_of (number_field o) first.entries)
      (times (gf o) (length (rows_of rows)) (vector_of (number_field o) multipliers.entries) (matrix_of (number_field o) (rows_of rows)))
  pub no_others : (t : ℕ) → t < length (rows_of rows) → column ≤ get_or (pivots_of rows) t 0 →
      vector_of (number_field o) multipliers.entries t ≡ (gf o).zero
  pub few : HasLength (gf o) (length (rows_of rows)) (vector_of (number_field o) multipliers.entries)

-- what is added to a row to clear the pivot of a row of the form: the multiple by the negative of its entry there
pub record IsClearing (o : Order) (n : ℕ) (p : PivotRow) (row next : RowValue) (scalar : ℕ) : Type 0 where
  pub below : scalar < (number_field o).order
  pub is : scalar ≡ (number_field o).neg (get_or row.entries p.pivot 0)
  pub sum : next ≡ row_with_multiple row scalar p.row
  pub field : next.order ≡ o
  pub over : IsVectorOver (number_field o) n next.entries

-- what a table of negatives has at the place of an element
pub record IsNegative (q : Order) (entry scalar : ℕ) : Type 0 where
  pub element : IsElement q scalar
  pub value : scalar ≡ field_neg q entry

pub negative_at : (o q : Order) (table : List ℕ) (entry index : ℕ) → ((a : ℕ) → IsElement q a → get_or table a 0 ≡ field_neg q a) →
    ((a : ℕ) → IsElement q a → IsElement q (get_or table a 0)) → o ≡ q → IsElement o entry → index ≡ entry →
    IsNegative q entry (get_or table index 0)
negative_at o q table entry index values elements same element is =
    let there : IsElement q index = subst (IsElement q) (sym is) (subst (λ r. IsElement r entry) same element) in
    record { element = elements index there; value = values index there ∙ ap (field_neg q) is }

-- the negative of an element, as it is told over the field of so many elements by a table of negatives
pub negative_told : (o q : Order) (table : List ℕ) (size entry scalar : ℕ) → ((a : ℕ) → IsElement q a → get_or table a 0 ≡ field_neg q a) →
    ((a : ℕ) → IsElement q a → IsElement q (get_or table a 0)) → o ≡ q → order_number o ≡ size → IsElement o entry →
    ((r : Order) → order_number r ≡ size → IsElement r entry → ((a : ℕ) → IsElement r a → get_or table a 0 ≡ field_neg r a) →
    scalar ≡ field_neg r entry) → IsNegative q entry scalar
negative_told o q table size entry scalar values elements same sized element told =
    let there : IsElement q entry = subst (λ r. IsElement r entry) same element in
    let value : scalar ≡ field_neg q entry = told q (ap order_number (sym same) ∙ sized) there values in
    record { element = subst (IsElement q) (values entry there ∙ sym value) (elements entry there); value = value }

-- the negative of an element other than 0 is not 0
pub negative_nonzero : (q : Order) (entry scalar : ℕ) → IsElement q entry → entry ≢ 0 → IsNegative q entry scalar → scalar ≢ 0
negative_nonzero q entry scalar element some negative none =
    some (sym (field_add-zero q entry element) ∙ ap (field_add q entry) (sym none ∙ negative.value) ∙ field_add-neg q entry element)

-- as the code clears it, by the negative of the entry that was found
pub clearing_of : (o q : Order) (n : ℕ) (p : PivotRow) (row next : RowValue) (places : List ℕ) (start column entry scalar : ℕ) → row.order ≡ o →
    IsVectorOver (number_field o) n row.entries → p.pivot ≡ column → IsNextEntry places row.entries start column entry → q ≡ o → IsElement q scalar →
    scalar ≡ field_neg q entry → next ≡ row_with_multiple row scalar p.row → length next.entries ≡ length row.entries → IsRow next →
    IsClearing o n p row next scalar
clearing_of o q n p row next places start column entry scalar field over pivot found same element value sum long h = record {
  below = subst (λ p. scalar < (number_field p).order) same (below_of_element q scalar element);
  is = value ∙ ap₂ field_neg same (found.entry_is ∙ ap (λ k. get_or row.entries k 0) (sym pivot)) ∙ sym (number_field-neg o (get_or row.entries p.pivot 0));
  sum = sum;
  field = next_field;
  over = over_of_row o n next next_field h (long ∙ over.length_is);
}
  where
    next_field : next.order ≡ o
    next_field = ap (λ (r : RowValue). r.order) sum ∙ field

-- ---- the pivots up to the next at which a row is not 0

module _ (o : Order) (n : ℕ) (rows : List PivotRow) (table : PivotTable) (tabled : AreTabledRows o n rows table) (row : RowValue) (start : ℕ)
    (clear : IsClearBefore o n rows start row) where
  counted : length (pivots_of rows) ≡ length (rows_of rows)
  counted = omega (arith, length-rows_of rows, length-map rows (λ (p : PivotRow). p.pivot))

  pub clear_up_to : (column : ℕ) → AreZerosBetween (restricted (marks_of table) row.entries) start column → IsClearBefore o n rows column row
  clear_up_to column zeros = record {
    field = clear.field;
    over = clear.over;
    cleared = λ s below ahead. at s below ahead (dec_lt (get_or (pivots_of rows) s 0) start);
  }
    where
      at : (s : ℕ) → s < length (rows_of rows) → get_or (pivots_of rows) s 0 < column → Dec (get_or (pivots_of rows) s 0 < start) →
          vector_of (number_field o) row.entries (get_or (pivots_of rows) s 0) ≡ (gf o).zero
      at s below ahead (yes before) = clear.cleared s below before
      at s below ahead (no after) =
          ap (element (number_field o))
          (zero_where_marked (marks_of table) row.entries (get_or (pivots_of rows) s 0) (tabled.tabled.marked s (omega (arith, below, counted)))
          (zeros (get_or (pivots_of rows) s 0) (omega (arith, after)) ahead))
          ∙ element_zero (number_field o)

  -- where there is none the row is clear
  pub clear_everywhere : AreZerosFrom (restricted (marks_of table) row.entries) start → IsClearBefore o n rows n row
  clear_everywhere zeros = clear_up_to n (λ j from ahead. zeros j from)

-- the row of the pivot that was found
pub record IsFoundRow (rows : List PivotRow) (column t : ℕ) : Type 0 where
  pub within : t < length rows
  pub pivot : get_or (pivots_of rows) t 0 ≡ column

pub found_row : (o : Order) (n : ℕ) (rows : List PivotRow) (table : PivotTable) (entries : List ℕ) (start column t : ℕ) → AreTabledRows o n rows table →
    IsNextNonzero (restricted (marks_of table) entries) start column → t ≡ get_or table.rows.items column 0 → IsFoundRow rows column t
found_row o n rows table entries start column t tabled found is = record {
  within = omega (arith, at.within, length-map rows (λ (p : PivotRow). p.pivot));
  pivot = at.is;
}
  where
    at : IsPivotAt (pivots_of rows) t column
    at = subst (λ k. IsPivotAt (pivots_of rows) k column) (sym is) (tabled.tabled.row column (found_is_marked (marks_of table) entries start column found))

pub room_of_found : (o : Order) (n : ℕ) (rows : List PivotRow) (table : PivotTable) (entries : List ℕ) (start column : ℕ) → AreTabledRows o n rows table →
    IsNextNonzero (restricted (marks_of table) entries) start column → HasRoom n table
room_of_found o n rows table entries start column tabled found =
    room_if_marked n (pivots_of rows) table column tabled.tabled (found_is_marked (marks_of table) entries start column found)

pub place_of_found : (marks entries : List ℕ) (start column : ℕ) → IsNextNonzero (restricted marks entries) start column → column < length entries
place_of_found marks entries start column found = omega (arith, found.within, length-restricted marks entries)

-- ---- one more pivot

module _ (o : Order) (n : ℕ) (rows : List PivotRow) (t : ℕ) (p : PivotRow) (are : AreFormRows o n rows) (below : t < length rows) (is : p ≡ get_or rows t p) where
  abbrev K : NumberField
  K = number_field o

  at_t : IsRowOfForm o n p
  at_t = form_row_at o n rows t p are below is

  inside : t < length (rows_of rows)
  inside = omega (arith, length-rows_of rows)

  pivot_is : get_or (pivots_of rows) t 0 ≡ p.pivot
  pivot_is = pivot_at rows t p below is

  -- the row is 0 before the column of its pivot
  pub zeros_before_pivot : (column : ℕ) → get_or (pivots_of rows) t 0 ≡ column → AreZerosBefore p.row.entries column
  zeros_before_pivot column place j ahead =
      same_number K (get_or p.row.entries j 0) 0 (entry-below K p.row.entries j at_t.row_over.elements) (zero-below K)
      (ap (λ (x : Vector (gf o)). x j) (sym (vector_at o rows t p below is))
      ∙ are.form.before t j inside (subst (λ k. j < k) (sym place) ahead) ∙ sym (element_zero K))

  row_spanned : IsSpanned K (rows_of rows) p.row.entries
  row_spanned =
      span_same (gf o) (length (rows_of rows)) (matrix_of K (rows_of rows)) (vector_of K p.row.entries) (matrix_of K (rows_of rows) t)
      (sym (vector_at o rows t p below is)) (span_row (gf o) (length (rows_of rows)) (matrix_of K (rows_of rows)) t inside)

  clears : (row next : RowValue) (scalar : ℕ) → IsClearBefore o n rows p.pivot row → IsClearing o n p row next scalar →
      IsClearBefore o n rows (suc p.pivot) next
  clears row next scalar clear clearing = record {
    field = clearing.field;
    over = clearing.over;
    cleared = subst (λ k. (s : ℕ) → s < length (rows_of rows) → get_or (pivots_of rows) s 0 < suc k →
        vector_of K next.entries (get_or (pivots_of rows) s 0) ≡ (gf o).zero) pivot_is
        (cleared_more (gf o) n (length (rows_of rows)) (matrix_of K (rows_of rows)) (λ t. get_or (pivots_of rows) t 0) are.form t (vector_of K row.entries)
        (vector_of K next.entries) inside (λ s within ahead. clear.cleared s within (omega (arith, ahead, pivot_is)))
        (vector_of_sum o n row p.row next scalar clear.field clear.over at_t.row_over clearing.sum clearing.over clearing.below
        ∙ ap₂ (λ e (x : Vector (gf o)). add_vectors (gf o) (vector_of K row.entries) (scale (gf o) e x))
        (ap (element K) clearing.is ∙ element_neg K (get_or row.entries p.pivot 0) (entry-below K row.entries p.pivot clear.over.elements)
        ∙ ap (λ k. (gf o).neg (vector_of K row.entries k)) (sym pivot_is))
        (sym (vector_at o rows t p below is))));
  }

  pub reduced_more : (first row next : RowValue) (scalar : ℕ) → IsReducedBefore o n rows p.pivot first row → IsClearing o n p row next scalar →
      IsReducedBefore o n rows (suc p.pivot) first next
  reduced_more first row next scalar so_far clearing = record {
    clear = clears row next scalar so_far.clear clearing;
    in_coset = added_in_coset K n scalar (rows_of rows) first.entries row.entries p.row.entries next.entries so_far.clear.over at_t.row_over
        clearing.over clearing.below (sum_entry o n row p.row next scalar so_far.clear.field so_far.clear.over clearing.sum) so_far.in_coset row_spanned;
  }

  pub cleared_by_row : (first row next multipliers following : RowValue) (scalar : ℕ) → IsClearedBefore o n rows p.pivot first row multipliers →
      IsClearing o n p row next scalar → following ≡ record { order = multipliers.order; entries = set multipliers.entries t scalar } → IsRow following →
      IsClearedBefore o n rows (suc p.pivot) first next following
  cleared_by_row first row next multipliers following scalar so_far clearing placed following_row = record {
    clear = clears row next scalar so_far.clear clearing;
    multipliers_field = following_field;
    multipliers_over = over_of_row o n following following_field following_row
        (ap (λ (r : RowValue). length r.entries) placed ∙ length-set multipliers.entries t scalar ∙ so_far.multipliers_over.length_is);
    offset = offset_more (gf o) (length (rows_of rows)) (matrix_of K (rows_of rows)) (vector_of K first.entries) (vector_of K row.entries)
        (vector_of K next.entries) (vector_of K p.row.entries) (vector_of K multipliers.entries) (vector_of K following.entries)
        (unit_vector (gf o) t) (element K scalar) so_far.offset
        (sym (vector_at o rows t p below is)
        ∙ sym (times_unit (gf o) (length (rows_of rows)) t (matrix_of K (rows_of rows)) inside))
        (vector_of_sum o n row p.row next scalar so_far.clear.field so_far.clear.over at_t.row_over clearing.sum clearing.over clearing.below)
        (fun_ext λ j. at j (ℕ_discrete j t));
    no_others = λ s within past. other s (λ e. absurd (omega (arith, past, pivot_is, ap (λ k. get_or (pivots_of rows) k 0) e)))
        ∙ so_far.no_others s within (omega (arith, past));
    few = λ j past. other j (omega (arith, past, inside)) ∙ so_far.few j past;
  }
    where
      following_field : following.order ≡ o
      following_field = ap (λ (r : RowValue). r.order) placed ∙ so_far.multipliers_field

      place : t < length multipliers.entries
      place = omega (arith, below, rows_fit o n rows are, so_far.multipliers_over.length_is)

      none_there : vector_of K multipliers.entries t ≡ (gf o).zero
      none_there = so_far.no_others t inside (omega (arith, pivot_is))

      other : (j : ℕ) → j ≢ t → vector_of K following.entries j ≡ vector_of K multipliers.entries j
      other j differs = ap (element K) (ap (λ (r : RowValue). get_or r.entries j 0) placed ∙ get_or-set_other multipliers.entries t j scalar 0 differs)

      at : (j : ℕ) → Dec (j ≡ t) → vector_of K following.entries j ≡
          (gf o).add (vector_of K multipliers.entries j) ((gf o).mul (element K scalar) (unit_vector (gf o) t j))
      at j (yes e) =
          ap (vector_of K following.entries) e
          ∙ ap (element K) (ap (λ (r : RowValue). get_or r.entries t 0) placed ∙ get_or-set_same multipliers.entries t scalar 0 place)
          ∙ sym (ap₂ (gf o).add (ap (vector_of K multipliers.entries) e ∙ none_there)
          (ap (λ (k : ℕ). (gf o).mul (element K scalar) (unit_vector (gf o) t k)) e ∙ ap ((gf o).mul (element K scalar)) (unit_at (gf o) t)
          ∙ (gf o).mul-one (element K scalar))
          ∙ zero-add (gf o) (element K scalar))
      at j (no differs) =
          other j differs
          ∙ sym (ap ((gf o).add (vector_of K multipliers.entries j))
          (ap ((gf o).mul (element K scalar)) (unit_off (gf o) t j (λ e. differs (sym e))) ∙ mul-zero (gf o) (element K scalar))
          ∙ (gf o).add-zero (vector_of K multipliers.entries j))

-- ---- none, and all

pub clear_before_none : (o : Order) (n : ℕ) (rows : List PivotRow) (row : RowValue) → row.order ≡ o → IsVectorOver (number_field o) n row.entries →
    IsClearBefore o n rows 0 row
clear_before_none o n rows row field over = record { field = field; over = over; cleared = λ s below ahead. absurd (omega (arith, ahead)) }

pub reduced_before_none : (o : Order) (n : ℕ) (rows : List PivotRow) (row : RowValue) → row.order ≡ o → IsVectorOver (number_field o) n row.entries →
    IsReducedBefore o n rows 0 row row
reduced_before_none o n rows row field over = record {
  clear = clear_before_none o n rows row field over;
  in_coset = coset_of_itself (number_field o) (rows_of rows) row.entries;
}

pub cleared_by_none : (o : Order) (n : ℕ) (rows : List PivotRow) (row multipliers : RowValue) → row.order ≡ o → IsVectorOver (number_field o) n row.entries →
    multipliers ≡ record { order = o; entries = replicate n 0 } → IsClearedBefore o n rows 0 row row multipliers
cleared_by_none o n rows row multipliers field over zeros = record {
  clear = clear_before_none o n rows row field over;
  multipliers_field = ap (λ (r : RowValue). r.order) zeros;
  multipliers_over = subst (λ (r : RowValue). IsVectorOver (number_field o) n r.entries) (sym zeros) (zeros_over o n);
  offset = fun_ext (λ j. sym ((gf o).add-zero (vector_of (number_field o) row.entries j)))
      ∙ ap (add_vectors (gf o) (vector_of (number_field o) row.entries)) (sym (times_zero (gf o) (length (rows_of rows)) (matrix_of (number_field o) (rows_of rows)))
      ∙ ap (λ (x : Vector (gf o)). times (gf o) (length (rows_of rows)) x (matrix_of (number_field o) (rows_of rows))) (sym no_multipliers));
  no_others = λ t below past. ap (λ (x : Vector (gf o)). x t) no_multipliers;
  few = λ j past. ap (λ (x : Vector (gf o)). x j) no_multipliers;
}
  where
    no_multipliers : vector_of (number_field o) multipliers.entries ≡ zero_vector (gf o)
    no_multipliers = ap (λ (r : RowValue). vector_of (number_field o) r.entries) zeros ∙ vector_of_zeros o n

zero_at_pivots : (o : Order) (n : ℕ) (rows : List PivotRow) (row : RowValue) → AreFormRows o n rows → IsClearBefore o n rows n row →
    IsZeroAtPivots (gf o) (length (rows_of rows)) (matrix_of (number_field o) (rows_of rows)) (vector_of (number_field o) row.entries)
zero_at_pivots o n rows row are clear =
    cleared_all (gf o) n (length (rows_of rows)) (matrix_of (number_field o) (rows_of rows))
    (λ t. get_or (pivots_of rows) t 0) are.form (vector_of (number_field o) row.entries) clear.cleared

pub reduced_all : (o : Order) (n : ℕ) (rows : List PivotRow) (table : PivotTable) (start : ℕ) (first row : RowValue) → AreTabledRows o n rows table →
    IsReducedBefore o n rows start first row → AreZerosFrom (restricted (marks_of table) row.entries) start →
    IsRepresentative (number_field o) (rows_of rows) first.entries row.entries
reduced_all o n rows table start first row tabled so_far zeros = record {
  in_coset = so_far.in_coset;
  at_pivots = zero_at_pivots o n rows row tabled.are_rows (clear_everywhere o n rows table tabled row start so_far.clear zeros);
}

pub cleared_by_all : (o : Order) (n : ℕ) (rows : List PivotRow) (table : PivotTable) (start : ℕ) (first row multipliers : RowValue) → AreTabledRows o n rows table →
    IsClearedBefore o n rows start first row multipliers → AreZerosFrom (restricted (marks_of table) row.entries) start →
    IsCleared (space_of o n rows) first row multipliers
cleared_by_all o n rows table start first row multipliers tabled so_far zeros = record {
  row_field = so_far.clear.field;
  multipliers_field = so_far.multipliers_field;
  row_over = so_far.clear.over;
  multipliers_over = so_far.multipliers_over;
  offset = so_far.offset;
  at_pivots = zero_at_pivots o n rows row tabled.are_rows (clear_everywhere o n rows table tabled row start so_far.clear zeros);
  few = so_far.few;
}

-- ---- the next pivot, as the code finds and clears it

reduce_next : (o : Order) (n : ℕ) (rows : List PivotRow) (table : PivotTable) (start column t : ℕ) (p : PivotRow) (first row next : RowValue)
    (scalar : ℕ) →
    AreTabledRows o n rows table → IsReducedBefore o n rows start first row → IsNextNonzero (restricted (marks_of table) row.entries) start column →
    IsFoundRow rows column t → p ≡ get_or rows t p → IsClearing o n p row next scalar → IsReducedBefore o n rows (column + 1) first next
reduce_next o n rows table start column t p first row next scalar tabled so_far found at is clearing =
    subst (λ k. IsReducedBefore o n rows k first next)
    (let after : suc p.pivot ≡ column + 1 = omega (arith, pivot_at rows t p at.within is, at.pivot) in after)
    (reduced_more o n rows t p tabled.are_rows at.within is first row next scalar
    (record {
      clear = clear_up_to o n rows table tabled row start so_far.clear p.pivot
          (λ j from ahead. found.zeros_between j from (omega (arith, ahead, pivot_at rows t p at.within is, at.pivot)));
      in_coset = so_far.in_coset;
    }) clearing)

clear_next : (o : Order) (n : ℕ) (rows : List PivotRow) (table : PivotTable) (start column t : ℕ) (p : PivotRow)
    (first row next multipliers following : RowValue) (scalar : ℕ) → AreTabledRows o n rows table →
    IsClearedBefore o n rows start first row multipliers → IsNextNonzero (restricted (marks_of table) row.entries) start column →
    IsFoundRow rows column t → p ≡ get_or rows t p → IsClearing o n p row next scalar →
    following ≡ record { order = multipliers.order; entries = set multipliers.entries t scalar } → IsRow following →
    IsClearedBefore o n rows (column + 1) first next following
clear_next o n rows table start column t p first row next multipliers following scalar tabled so_far found at is clearing placed following_row =
    subst (λ k. IsClearedBefore o n rows k first next following)
    (let after : suc p.pivot ≡ column + 1 = omega (arith, pivot_is, at.pivot) in after)
    (cleared_by_row o n rows t p tabled.are_rows at.within is first row next multipliers following scalar
    (record {
      clear = clear_up_to o n rows table tabled row start so_far.clear p.pivot
          (λ j from ahead. found.zeros_between j from (omega (arith, ahead, pivot_is, at.pivot)));
      multipliers_field = so_far.multipliers_field;
      multipliers_over = so_far.multipliers_over;
      offset = so_far.offset;
      no_others = λ s within past. so_far.no_others s within (omega (arith, past, found.not_before, pivot_is, at.pivot));
      few = so_far.few;
    })
    clearing placed following_row)
  where
    pivot_is : get_or (pivots_of rows) t 0 ≡ p.pivot
    pivot_is = pivot_at rows t p at.within is

-- by the negative of the entry that was found there
clearing_found : (o : Order) (n : ℕ) (rows : List PivotRow) (start column entry t : ℕ) (p : PivotRow) (places : List ℕ) (row next : RowValue) (scalar : ℕ) →
    IsClearBefore o n rows start row → IsNextEntry places row.entries start column entry → IsFoundRow rows column t → p ≡ get_or rows t p →
    IsNegative o entry scalar → next ≡ row_with_multiple row scalar p.row → length next.entries ≡ length row.entries → IsRow next →
    IsClearing o n p row next scalar
clearing_found o n rows start column entry t p places row next scalar clear found at is negative sum long h =
    clearing_of o o n p row next places start column entry scalar clear.field clear.over (sym (pivot_at rows t p at.within is) ∙ at.pivot) found refl
    negative.element negative.value sum long h

pub reduce_found : (o : Order) (n : ℕ) (rows : List PivotRow) (table : PivotTable) (start column entry t : ℕ) (p : PivotRow) (first row next : RowValue)
    (scalar : ℕ) → AreTabledRows o n rows table → IsReducedBefore o n rows start first row →
    IsNextEntry (marks_of table) row.entries start column entry → IsFoundRow rows column t → p ≡ get_or rows t p → IsNegative o entry scalar →
    next ≡ row_with_multiple row scalar p.row → length next.entries ≡ length row.entries → IsRow next → IsReducedBefore o n rows (column + 1) first next
reduce_found o n rows table start column entry t p first row next scalar tabled so_far found at is negative sum long h =
    reduce_next o n rows table start column t p first row next scalar tabled so_far found.next at is
    (clearing_found o n rows start column entry t p (marks_of table) row next scalar so_far.clear found at is negative sum long h)

pub clear_found : (o : Order) (n : ℕ) (rows : List PivotRow) (table : PivotTable) (start column entry t : ℕ) (p : PivotRow)
    (first row next multipliers following : RowValue) (scalar : ℕ) → AreTabledRows o n rows table →
    IsClearedBefore o n rows start first row multipliers → IsNextEntry (marks_of table) row.entries start column entry → IsFoundRow rows column t →
    p ≡ get_or rows t p → IsNegative o entry scalar → next ≡ row_with_multiple row scalar p.row → length next.entries ≡ length row.entries →
    IsRow next → following ≡ record { order = multipliers.order; entries = set multipliers.entries t scalar } → IsRow following →
    IsClearedBefore o n rows (column + 1) first next following
clear_found o n rows table start column entry t p first row next multipliers following scalar tabled so_far found at is negative sum long h placed
    following_row =
    clear_next o n rows table start column t p first row next multipliers following scalar tabled so_far found.next at is
    (clearing_found o n rows start column entry t p (marks_of table) row next scalar so_far.clear found at is negative sum long h)
    placed following_row
