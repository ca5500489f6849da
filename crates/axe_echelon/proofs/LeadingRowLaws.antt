-- Rows of an echelon form that move one by one into the reduced basis.
use Rattle.std.specs.Prelude.{◌≡◌, ◌≢◌, ℕ, suc, ◌+◌, ◌-◌, ◌<◌, ◌≤◌, ◌↔◌, List, All, [], ◌∷◌, ◌++◌, length, get_or, set}
use Rattle.std.proofs.lemmas.List.{length-map, length-set, get_or_default, get_or-set_same, get_or-set_other}
use Rattle.axe_algebra.specs.NumberField.{NumberField}
use Rattle.axe_algebra.specs.Field.{Field}
use Rattle.axe_algebra.specs.Vectors.{Vector, add_vectors, scale}
use Rattle.axe_algebra.specs.Bridge.{element, vector_of, matrix_of}
use Rattle.axe_algebra.specs.Lists.{IsVectorOver}
use Rattle.axe_algebra.specs.SpansOfLists.{IsPivot, IsSpanned}
use Rattle.axe_algebra.proofs.FieldLaws.{mul-zero}
use Rattle.axe_algebra.proofs.Spanning.{span_same, span_add, span_scale}
use Rattle.axe_algebra.proofs.ElementNumbers.{element_neg, element_zero, entry-below, same_number, zero-below}
use Rattle.axe_algebra.proofs.ListSpans.{row_spanned}
use Rattle.axe_layer.specs.Supports.{restricted}
use Rattle.axe_lane.specs.Entries.{AreZerosBefore, AreZerosFrom, IsNextNonzero}
use Rattle.axe_field.specs.Order.{Order}
use Rattle.axe_field.specs.NumberFields.{number_field, gf}
use Rattle.axe_row.specs.Rows.{RowValue}
use Rattle.axe_matrix.specs.Matrices.{MatrixValue, IsMatrix}
use Rattle.axe_echelon.specs.Echelons.{EchelonValue}
use Rattle.axe_echelon.specs.Subspaces.{rows_of, pivots_of, space_of, IsRowOfForm, AreTabledRows, IsPivotRow}
use Rattle.axe_echelon.specs.PivotTables.{marks_in, marks_of, HasRoom, IsPivotAt}
use Rattle.axe_echelon.specs.LeadingRows.{IsLeadingRow, HasPivotAt, HasRowsFrom, IsTakenOut, IsClearedAfter}
use Rattle.axe_echelon.specs.declared.pivot_table.PivotTable.{PivotTable}
use Rattle.axe_echelon.specs.declared.subspace.PivotRow.{PivotRow}
use Rattle.axe_echelon.proofs.ClearingLaws.{IsClearing, vector_of_sum}
use Rattle.axe_echelon.proofs.PivotLaws.{pivot_if_marked, marked_if_pivot}
use Rattle.axe_echelon.proofs.PivotTableLaws.{zero_where_marked, room_if_marked}
use Rattle.axe_echelon.proofs.ReducedLaws.{IsReducedUpTo, reduced_none, reduced_other, reduced_more}
use Rattle.axe_echelon.proofs.PivotRowLaws.{vector_at, pivot_at, length-rows_of, form_row_at, rows_fit, row_at, length-rows}
use mathlib.Core.Path.{refl, sym, ◌∙◌, ap, ap₂, subst}
use native.Mathlib.Omega.{arith}
use native.Mathlib.Decide.{ℕ_discrete, dec_lt}

-- ---- a row is taken out

module _ (rows after : List PivotRow) (table told : PivotTable) (column : ℕ) (row : RowValue) (out : IsTakenOut rows table column after told row) where
  abbrev index : ℕ
  index = get_or table.rows.items column 0

  -- what holds of each row holds of those that are left
  pub all_left : (P : PivotRow → Type 0) → All P rows → All P after
  all_left P each k p below = at (ℕ_discrete k index)
    where
      at : Dec (k ≡ index) → P (get_or after k p)
      at (yes e) = subst P (sym (ap (λ i. get_or after i p) e ∙ out.moved p (omega (arith, below, e)))) (each (length after) p (omega (arith, out.count)))
      at (no other) = subst P (sym (out.others k p other below)) (each k p (omega (arith, below, out.count)))

  -- the table has the rows that are left for the columns after the one that was taken
  left_found : (order : Order) (cols : ℕ) → HasRowsFrom order cols column rows table → get_or (marks_of table) column 0 ≢ 0 → column < length table.rows.items →
      (j : ℕ) → suc column ≤ j → get_or (marks_of told) j 0 ≢ 0 → HasPivotAt after j (get_or told.rows.items j 0)
  left_found order cols has marked inside j later marked_j = at (dec_lt index (length after))
    where
      here : HasPivotAt rows column index
      here = has.found column (omega arith) marked

      place : ℕ
      place = get_or table.rows.items j 0

      there : HasPivotAt rows j place
      there = has.found j (omega (arith, later)) (λ none. marked_j (ap (λ (l : List ℕ). get_or l j 0) out.marks ∙ none))

      some_row : PivotRow
      some_row = record { pivot = 0; row = row }

      apart : place ≢ index
      apart same =
          let p : PivotRow = get_or rows index some_row in
          let is : p ≡ get_or rows index p = get_or_default rows index some_row p here.within in
          absurd (omega (arith, later, sym (here.pivot p is) ∙ there.pivot p (is ∙ ap (λ k. get_or rows k p) (sym same))))

      stays : place < length after → HasPivotAt after j place
      stays below = record {
        within = below;
        pivot = λ p is. there.pivot p (is ∙ out.others place p apart below);
      }

      at : Dec (index < length after) → HasPivotAt after j (get_or told.rows.items j 0)
      at (no last) =
          subst (HasPivotAt after j) (sym (ap (λ (l : List ℕ). get_or l j 0) (out.kept (omega (arith, last)))))
          (stays (omega (arith, last, apart, there.within, here.within, out.count)))
      at (yes within) = moves (ℕ_discrete j moved.pivot)
        where
          moved : PivotRow
          moved = get_or after index some_row

          is : moved ≡ get_or after index moved
          is = get_or_default after index some_row moved within

          was_last : moved ≡ get_or rows (length after) moved
          was_last = is ∙ out.moved moved within

          moves : Dec (j ≡ moved.pivot) → HasPivotAt after j (get_or told.rows.items j 0)
          moves (yes same) =
              subst (HasPivotAt after j)
              (sym (ap₂ (λ (l : List ℕ) (k : ℕ). get_or l k 0) (out.noted moved within is) same
              ∙ get_or-set_same table.rows.items moved.pivot index 0
              (let room = (has.room j (λ none. marked_j (ap (λ (l : List ℕ). get_or l j 0) out.marks ∙ none))).rows in
              let led = (has.each (length after) moved (omega (arith, out.count))).place in
              let fit : moved.pivot < cols = subst (λ (p : PivotRow). p.pivot < cols) (sym was_last) led in omega (arith, room, fit))))
              (record { within = within; pivot = λ p p_is. ap (λ (q : PivotRow). q.pivot) (p_is ∙ get_or_default after index p moved within ∙ sym is) ∙ sym same })
          moves (no other) =
              subst (HasPivotAt after j)
              (sym (ap (λ (l : List ℕ). get_or l j 0) (out.noted moved within is) ∙ get_or-set_other table.rows.items moved.pivot j index 0 other))
              (stays (below_last (ℕ_discrete place (length after))))
            where
              below_last : Dec (place ≡ length after) → place < length after
              below_last (yes same) = absurd (other (sym (there.pivot moved (was_last ∙ ap (λ k. get_or rows k moved) (sym same)))))
              below_last (no differs) = omega (arith, differs, there.within, out.count)

  pub rows_left : (order : Order) (cols : ℕ) → HasRowsFrom order cols column rows table → get_or (marks_of table) column 0 ≢ 0 → column < length table.rows.items →
      HasRowsFrom order cols (suc column) after told
  rows_left order cols has marked inside = record {
    each = all_left (IsLeadingRow order cols) has.each;
    few = omega (arith, has.few, out.count);
    room = λ j marked_j. room_told (has.room column marked);
    found = left_found order cols has marked inside;
  }
    where
      rows_told : length told.rows.items ≡ length table.rows.items
      rows_told = at (dec_lt index (length after))
        where
          at : Dec (index < length after) → length told.rows.items ≡ length table.rows.items
          at (no last) = ap length (out.kept (omega (arith, last)))
          at (yes within) =
              let some_row : PivotRow = record { pivot = 0; row = row } in
              let moved : PivotRow = get_or after index some_row in
              ap length (out.noted moved within (get_or_default after index some_row moved within)) ∙ length-set table.rows.items moved.pivot index

      room_told : HasRoom cols table → HasRoom cols told
      room_told room = record { marks = ap length out.marks ∙ room.marks; rows = rows_told ∙ room.rows; blocks = ap length out.blocks ∙ room.blocks }

  -- the row that was taken leads at the column
  pub taken_leads : (order : Order) (cols : ℕ) → HasRowsFrom order cols column rows table → get_or (marks_of table) column 0 ≢ 0 →
      IsLeadingRow order cols (record { pivot = column; row = row })
  taken_leads order cols has marked = subst (IsLeadingRow order cols) same (has.each index some_row here.within)
    where
      here : HasPivotAt rows column index
      here = has.found column (omega arith) marked

      some_row : PivotRow
      some_row = record { pivot = 0; row = row }

      p : PivotRow
      p = get_or rows index some_row

      is : p ≡ get_or rows index p
      is = get_or_default rows index some_row p here.within

      same : p ≡ record { pivot = column; row = row }
      same = λ i. record { pivot = here.pivot p is i; row = (sym (out.taken p is)) i }

  pub taken_holds : (P : RowValue → Type 0) → index < length rows → All (λ (p : PivotRow). P p.row) rows → P row
  taken_holds P below each =
      let some_row : PivotRow = record { pivot = 0; row = row } in
      let p : PivotRow = get_or rows index some_row in
      subst P (sym (out.taken p (get_or_default rows index some_row p below))) (each index some_row below)

-- the pivot of the row that moves is that of a row
pub left_fits : (rows after : List PivotRow) (index n room : ℕ) (other : PivotRow) → All (λ (p : PivotRow). p.pivot < room) rows → n ≡ length rows →
    length after + 1 ≡ length rows → ((p : PivotRow) → index + 1 < n → get_or after index p ≡ get_or rows (n - 1) p) → index < length after →
    other ≡ get_or after index other → other.pivot < room
left_fits rows after index n room other fits counted count moved inside is =
    subst (λ (p : PivotRow). p.pivot < room) (sym (is ∙ moved other (omega (arith, inside, count, counted)))) (fits (n - 1) other (omega (arith, inside, count, counted)))

-- as the code takes it out: there are n rows; another has moved, or it was the last
module _ (rows after : List PivotRow) (table told : PivotTable) (column index n : ℕ) (first : PivotRow) (place : index ≡ get_or table.rows.items column 0)
    (below : index < n) (counted : n ≡ length rows) (is : first ≡ get_or rows index first) (count : length after + 1 ≡ length rows)
    (moved : (p : PivotRow) → index + 1 < n → get_or after index p ≡ get_or rows (n - 1) p)
    (others : (k : ℕ) (p : PivotRow) → k ≢ index → k + 1 < n → get_or after k p ≡ get_or rows k p) where
  pub taken_out_of : marks_of told ≡ marks_of table → told.blocks.items ≡ table.blocks.items →
      ((p : PivotRow) → index < length after → p ≡ get_or after index p → told.rows.items ≡ set table.rows.items p.pivot index) →
      (length after ≤ index → told.rows.items ≡ table.rows.items) → IsTakenOut rows table column after told first.row
  taken_out_of marks blocks noted kept = subst (λ i. (marks_of told ≡ marks_of table) →
      ((p : PivotRow) → i < length after → p ≡ get_or after i p → told.rows.items ≡ set table.rows.items p.pivot i) →
      (length after ≤ i → told.rows.items ≡ table.rows.items) → IsTakenOut rows table column after told first.row) (sym place) at marks noted kept
    where
      at : marks_of told ≡ marks_of table →
          ((p : PivotRow) → get_or table.rows.items column 0 < length after → p ≡ get_or after (get_or table.rows.items column 0) p →
          told.rows.items ≡ set table.rows.items p.pivot (get_or table.rows.items column 0)) →
          (length after ≤ get_or table.rows.items column 0 → told.rows.items ≡ table.rows.items) → IsTakenOut rows table column after told first.row
      at same_marks told_noted told_kept = record {
        taken = λ p p_is. ap (λ (q : PivotRow). q.row) (is ∙ get_or_default rows index first p (omega (arith, below, counted)) ∙ ap (λ i. get_or rows i p) place ∙ sym p_is);
        count = count;
        others = λ k p other inside. others k p (λ e. other (e ∙ place)) (omega (arith, inside, count, counted));
        moved = λ p inside. ap (λ i. get_or after i p) (sym place) ∙ moved p (omega (arith, inside, place, count, counted))
            ∙ ap (λ i. get_or rows i p) (let last : n - 1 ≡ length after = omega (arith, count, counted) in last);
        marks = same_marks;
        blocks = blocks;
        noted = told_noted;
        kept = told_kept;
      }

  pub taken_out_moved : (other : PivotRow) → index < length after → other ≡ get_or after index other → told.marks ≡ table.marks →
      told.blocks.items ≡ table.blocks.items →
      told.rows.items ≡ set table.rows.items other.pivot index → IsTakenOut rows table column after told first.row
  taken_out_moved other inside other_is marks blocks noted =
      taken_out_of (ap marks_in marks) blocks
      (λ p within p_is. noted ∙ ap (λ (q : PivotRow). set table.rows.items q.pivot index) (other_is ∙ get_or_default after index other p within ∙ sym p_is))
      (λ past. absurd (omega (arith, past, inside)))

-- ---- the columns after one are cleared, up to a start

pub record IsClearedUpTo (order : Order) (cols column : ℕ) (rows : List PivotRow) (table : PivotTable) (start : ℕ) (first row : RowValue) : Type 0 where
  pub field : row.order ≡ order
  pub over : IsVectorOver (number_field order) cols row.entries
  pub later : column < start
  pub before : (i : ℕ) → i ≤ column → vector_of (number_field order) row.entries i ≡ vector_of (number_field order) first.entries i
  pub zeros : (j : ℕ) → column < j → j < start → get_or (marks_of table) j 0 ≢ 0 → vector_of (number_field order) row.entries j ≡ (gf order).zero
  pub spanned : (vectors : List (List ℕ)) → All (λ (p : PivotRow). IsSpanned (number_field order) vectors p.row.entries) rows →
      IsSpanned (number_field order) vectors first.entries → IsSpanned (number_field order) vectors row.entries

pub cleared_none : (order : Order) (cols column : ℕ) (rows : List PivotRow) (table : PivotTable) (row : RowValue) → row.order ≡ order →
    IsVectorOver (number_field order) cols row.entries → IsClearedUpTo order cols column rows table (column + 1) row row
cleared_none order cols column rows table row field over = record {
  field = field;
  over = over;
  later = omega arith;
  before = λ i within. refl;
  zeros = λ j after ahead. absurd (omega (arith, after, ahead));
  spanned = λ vectors each in_span. in_span;
}

module _ (order : Order) (cols column : ℕ) (rows : List PivotRow) (table : PivotTable) (start : ℕ) (first row : RowValue)
    (so_far : IsClearedUpTo order cols column rows table start first row) where
  abbrev K : NumberField
  K = number_field order

  abbrev F : Field
  F = gf order

  -- the marked columns at which the row is 0 as a search tells
  zero_ahead : (place : ℕ) → ((j : ℕ) → start ≤ j → j < place → get_or (restricted (marks_of table) row.entries) j 0 ≡ 0) →
      (j : ℕ) → column < j → j < place → get_or (marks_of table) j 0 ≢ 0 → vector_of K row.entries j ≡ F.zero
  zero_ahead place zeros j after ahead marked = at (dec_lt j start)
    where
      at : Dec (j < start) → vector_of K row.entries j ≡ F.zero
      at (yes earlier) = so_far.zeros j after earlier marked
      at (no later) =
          ap (element K) (zero_where_marked (marks_of table) row.entries j marked (zeros j (omega (arith, later)) ahead)) ∙ element_zero K

  pub cleared_after : AreZerosFrom (restricted (marks_of table) row.entries) start → IsClearedAfter order cols column rows table first row
  cleared_after zeros = record {
    field = so_far.field;
    over = so_far.over;
    before = so_far.before;
    zeros = λ j after marked. zero_ahead (suc j) (λ i from ahead. zeros i from) j after (omega arith) marked;
    spanned = so_far.spanned;
  }

  -- one more
  pub cleared_next : (place index : ℕ) (p : PivotRow) (next : RowValue) (scalar : ℕ) → IsNextNonzero (restricted (marks_of table) row.entries) start place →
      IsLeadingRow order cols p → index < length rows → p ≡ get_or rows index p → p.pivot ≡ place → IsClearing order cols p row next scalar →
      IsClearedUpTo order cols column rows table (place + 1) first next
  cleared_next place index p next scalar found leads below is pivot clearing = record {
    field = clearing.field;
    over = clearing.over;
    later = omega (arith, so_far.later, found.not_before);
    before = λ i within. unchanged i (omega (arith, within, so_far.later, found.not_before)) ∙ so_far.before i within;
    zeros = λ j after ahead marked. at j after ahead marked (ℕ_discrete j place);
    spanned = λ vectors each in_span. span_same F (length vectors) (matrix_of K vectors) (vector_of K next.entries) _ sum
        (span_add F (length vectors) (matrix_of K vectors) (vector_of K row.entries) _ (so_far.spanned vectors each in_span)
        (span_scale F (length vectors) (matrix_of K vectors) (element K scalar) (vector_of K p.row.entries)
        (subst (λ (q : PivotRow). IsSpanned K vectors q.row.entries) (sym is) (each index p below))));
  }
    where
      sum : vector_of K next.entries ≡ add_vectors F (vector_of K row.entries) (scale F (element K scalar) (vector_of K p.row.entries))
      sum = vector_of_sum order cols row p.row next scalar so_far.field so_far.over leads.over clearing.sum clearing.over clearing.below

      unchanged : (i : ℕ) → i < place → vector_of K next.entries i ≡ vector_of K row.entries i
      unchanged i ahead = ap (λ (x : Vector F). x i) sum
          ∙ ap (λ (a : F.Element). F.add (vector_of K row.entries i) (F.mul (element K scalar) a)) (leads.before i (omega (arith, ahead, pivot)))
          ∙ ap (F.add (vector_of K row.entries i)) (mul-zero F (element K scalar)) ∙ F.add-zero (vector_of K row.entries i)

      minus : element K scalar ≡ F.neg (vector_of K row.entries p.pivot)
      minus = ap (element K) clearing.is ∙ element_neg K (get_or row.entries p.pivot 0) (entry-below K row.entries p.pivot so_far.over.elements)

      cleared_there : vector_of K next.entries p.pivot ≡ F.zero
      cleared_there = ap (λ (x : Vector F). x p.pivot) sum
          ∙ ap₂ (λ (a b : F.Element). F.add (vector_of K row.entries p.pivot) (F.mul a b)) minus leads.one
          ∙ ap (F.add (vector_of K row.entries p.pivot)) (F.mul-one (F.neg (vector_of K row.entries p.pivot))) ∙ F.add-neg (vector_of K row.entries p.pivot)

      at : (j : ℕ) → column < j → j < place + 1 → get_or (marks_of table) j 0 ≢ 0 → Dec (j ≡ place) → vector_of K next.entries j ≡ F.zero
      at j after ahead marked (yes same) = ap (vector_of K next.entries) (same ∙ sym pivot) ∙ cleared_there
      at j after ahead marked (no other) =
          unchanged j (omega (arith, ahead, other)) ∙ zero_ahead place (λ i from earlier. found.zeros_between i from earlier) j after (omega (arith, ahead, other)) marked

-- a row of those that lead
pub leads_at : (order : Order) (cols : ℕ) (rows : List PivotRow) (index : ℕ) (p : PivotRow) → All (IsLeadingRow order cols) rows → index < length rows →
    p ≡ get_or rows index p → IsLeadingRow order cols p
leads_at order cols rows index p each below is = subst (IsLeadingRow order cols) (sym is) (each index p below)

-- a row that leads is 0 before its pivot
pub leading_zeros : (order : Order) (cols : ℕ) (p : PivotRow) (column : ℕ) → IsLeadingRow order cols p → p.pivot ≡ column → AreZerosBefore p.row.entries column
leading_zeros order cols p column leads same j ahead =
    same_number (number_field order) (get_or p.row.entries j 0) 0 (entry-below (number_field order) p.row.entries j leads.over.elements) (zero-below (number_field order))
    (leads.before j (omega (arith, ahead, same)) ∙ sym (element_zero (number_field order)))

-- ---- the rows of an echelon form, of which those with pivots below a column have moved into the reduced basis

pub record IsHalfMoved (e : EchelonValue) (column : ℕ) (rows : List PivotRow) (table : PivotTable) (m : MatrixValue) : Type 0 where
  pub so_far : IsReducedUpTo e column m
  pub well_formed : IsMatrix m
  pub left : HasRowsFrom e.order e.cols column rows table
  pub spanned : All (λ (p : PivotRow). IsSpanned (number_field e.order) e.rows p.row.entries) rows
  pub marked : (j : ℕ) → (get_or (marks_of table) j 0 ≢ 0) ↔ IsPivot (number_field e.order) e.rows j

-- none has moved
module _ (o : Order) (n : ℕ) (rows : List PivotRow) (table : PivotTable) (tabled : AreTabledRows o n rows table) where
  abbrev N : NumberField
  N = number_field o

  row_leads : (i : ℕ) (p : PivotRow) → i < length rows → p ≡ get_or rows i p → IsLeadingRow o n p
  row_leads i p below is = record {
    field = at.row_field;
    over = at.row_over;
    place = subst (λ k. k < n) pivot_is (tabled.are_rows.form.place i inside);
    one = ap₂ (λ (x : Vector (gf o)) (k : ℕ). x k) (sym row_is) (sym pivot_is) ∙ tabled.are_rows.form.one i inside;
    before = λ j ahead. ap (λ (x : Vector (gf o)). x j) (sym row_is) ∙ tabled.are_rows.form.before i j inside (subst (λ k. j < k) (sym pivot_is) ahead);
  }
    where
      inside : i < length (rows_of rows)
      inside = omega (arith, below, length-rows_of rows)

      at : IsRowOfForm o n p
      at = form_row_at o n rows i p tabled.are_rows below is

      row_is : matrix_of N (rows_of rows) i ≡ vector_of N p.row.entries
      row_is = vector_at o rows i p below is

      pivot_is : get_or (pivots_of rows) i 0 ≡ p.pivot
      pivot_is = pivot_at rows i p below is

  itself : (i : ℕ) (p : PivotRow) → i < length rows → get_or rows i p ≡ get_or rows i (get_or rows i p)
  itself i p below = get_or_default rows i p (get_or rows i p) below

  none_moved : (m : MatrixValue) → m ≡ record { order = o; cols = n; rows = [] } → IsMatrix m → IsHalfMoved (space_of o n rows) 0 rows table m
  none_moved m is well = record {
    so_far = reduced_none (space_of o n rows) m is;
    well_formed = well;
    left = record {
      each = λ i p below. row_leads i (get_or rows i p) below (itself i p below);
      few = omega (arith, rows_fit o n rows tabled.are_rows, tabled.are_rows.columns_fit);
      room = λ j marked. room_if_marked n (pivots_of rows) table j tabled.tabled marked;
      found = λ j from marked. found (tabled.tabled.row j marked);
    };
    spanned = λ i p below. subst (λ (r : RowValue). IsSpanned N (rows_of rows) r.entries)
        (sym (row_at o n rows i (get_or rows i p) (space_of o n rows) tabled.are_rows refl below (itself i p below)))
        (row_spanned N (rows_of rows) i (omega (arith, below, length-rows o n rows (space_of o n rows) refl)));
    marked = λ j. (pivot_if_marked o n rows table j tabled, marked_if_pivot o n rows table j tabled);
  }
    where
      found : {j index : ℕ} → IsPivotAt (pivots_of rows) index j → HasPivotAt rows j index
      found {j} {index} at = record {
        within = below;
        pivot = λ p p_is. sym (pivot_at rows index p below p_is) ∙ at.is;
      }
        where
          below : index < length rows
          below = omega (arith, at.within, length-map rows (λ (p : PivotRow). p.pivot))

pub moved_none : (o : Order) (n : ℕ) (rows : List PivotRow) (table : PivotTable) (e : EchelonValue) (m : MatrixValue) →
    AreTabledRows o n rows table → space_of o n rows ≡ e → m ≡ record { order = e.order; cols = e.cols; rows = [] } → IsMatrix m →
    IsHalfMoved e 0 rows table m
moved_none o n rows table e m tabled view is well =
    subst (λ (x : EchelonValue). IsHalfMoved x 0 rows table m) view
    (none_moved o n rows table tabled m (is ∙ ap (λ (x : EchelonValue). record { order = x.order; cols = x.cols; rows = [] }) (sym view)) well)

-- a column that is no pivot, and one that is
pub moved_other : (e : EchelonValue) (column : ℕ) (rows : List PivotRow) (table : PivotTable) (m : MatrixValue) → IsHalfMoved e column rows table m →
    ¬ (get_or (marks_of table) column 0 ≢ 0) → IsHalfMoved e (column + 1) rows table m
moved_other e column rows table m half unmarked = record {
  so_far = reduced_other e column m half.so_far (λ pivot. unmarked ((half.marked column).1 pivot));
  well_formed = half.well_formed;
  left = record { each = half.left.each; few = half.left.few; room = half.left.room; found = λ j from. half.left.found j (omega (arith, from)) };
  spanned = half.spanned;
  marked = half.marked;
}

-- a column that is a pivot has a row, which the table tells of
module _ (e : EchelonValue) (column : ℕ) (rows : List PivotRow) (table : PivotTable) (m : MatrixValue) (half : IsHalfMoved e column rows table m)
    (marked : get_or (marks_of table) column 0 ≢ 0) where
  here : HasPivotAt rows column (get_or table.rows.items column 0)
  here = half.left.found column (omega arith) marked

  pub row_there : get_or table.rows.items column 0 < length rows
  row_there = here.within

  pub column_has_row : column < length table.rows.items
  column_has_row =
      let p : PivotRow = get_or rows (get_or table.rows.items column 0) (record { pivot = 0; row = record { order = e.order; entries = [] } }) in
      let is : p ≡ get_or rows (get_or table.rows.items column 0) p =
      get_or_default rows (get_or table.rows.items column 0) (record { pivot = 0; row = record { order = e.order; entries = [] } }) p here.within in
      let place : p.pivot < e.cols = (half.left.each (get_or table.rows.items column 0) (record { pivot = 0; row = record { order = e.order; entries = [] } }) here.within).place in
      omega (arith, place, here.pivot p is, (half.left.room column marked).rows)

  pub pivots_have_room : All (λ (p : PivotRow). p.pivot < length table.rows.items) rows
  pivots_have_room i p below = let place = (half.left.each i p below).place in omega (arith, place, (half.left.room column marked).rows)

module _ (e : EchelonValue) (column : ℕ) (rows after : List PivotRow) (table told : PivotTable) (m : MatrixValue) (taken : RowValue)
    (half : IsHalfMoved e column rows table m) (marked : get_or (marks_of table) column 0 ≢ 0) (out : IsTakenOut rows table column after told taken) where
  pub leads_there : IsLeadingRow e.order e.cols (record { pivot = column; row = taken })
  leads_there = taken_leads rows after table told column taken out e.order e.cols half.left marked

  -- what is left, over the field and of the length that the row tells
  pub rows_after : HasRowsFrom taken.order (length taken.entries) (suc column) after told
  rows_after =
      subst (λ o. HasRowsFrom o (length taken.entries) (suc column) after told) (sym leads_there.field)
      (subst (λ n. HasRowsFrom e.order n (suc column) after told) (sym leads_there.over.length_is)
      (rows_left rows after table told column taken out e.order e.cols half.left marked (column_has_row e column rows table m half marked)))

  pub room_after : HasRoom (length taken.entries) told
  room_after = rows_after.room column (λ none. marked (ap (λ (l : List ℕ). get_or l column 0) (sym out.marks) ∙ none))

  -- the row as it is cleared
  module _ (row : RowValue) (of_taken : IsClearedAfter taken.order (length taken.entries) column after told taken row) where
    cleared : IsClearedAfter e.order e.cols column after told taken row
    cleared = subst (λ o. IsClearedAfter o e.cols column after told taken row) leads_there.field
        (subst (λ n. IsClearedAfter taken.order n column after told taken row) leads_there.over.length_is of_taken)

    pub cleared_is_pivot_row : IsPivotRow e column row
    cleared_is_pivot_row = record {
      field = cleared.field;
      over = cleared.over;
      in_span = cleared.spanned e.rows
          (all_left rows after table told column taken out (λ (p : PivotRow). IsSpanned (number_field e.order) e.rows p.row.entries) half.spanned)
          (taken_holds rows after table told column taken out (λ (r : RowValue). IsSpanned (number_field e.order) e.rows r.entries)
          (half.left.found column (omega arith) marked).within half.spanned);
      one = cleared.before column (omega arith) ∙ leads_there.one;
      zeros = λ j pivot other. at j pivot other (dec_lt j column);
    }
      where
        at : (j : ℕ) → IsPivot (number_field e.order) e.rows j → j ≢ column → Dec (j < column) → vector_of (number_field e.order) row.entries j ≡ (gf e.order).zero
        at j pivot other (yes earlier) = cleared.before j (omega (arith, earlier)) ∙ leads_there.before j earlier
        at j pivot other (no later) = cleared.zeros j (omega (arith, later, other))
            (λ none. (half.marked j).1 pivot (ap (λ (l : List ℕ). get_or l j 0) (sym out.marks) ∙ none))

    pub moved_more : (next : MatrixValue) → next ≡ record { order = m.order; cols = m.cols; rows = m.rows ++ row.entries ∷ [] } → IsMatrix next →
        IsHalfMoved e (column + 1) after told next
    moved_more next is well = record {
      so_far = reduced_more e column m next row half.so_far ((half.marked column).0 marked) cleared_is_pivot_row is;
      well_formed = well;
      left = subst (λ k. HasRowsFrom e.order e.cols k after told) (let same : suc column ≡ column + 1 = omega arith in same)
          (rows_left rows after table told column taken out e.order e.cols half.left marked (column_has_row e column rows table m half marked));
      spanned = all_left rows after table told column taken out (λ (p : PivotRow). IsSpanned (number_field e.order) e.rows p.row.entries) half.spanned;
      marked = λ j. (
        λ there. (half.marked j).0 (λ none. there (ap (λ (l : List ℕ). get_or l j 0) out.marks ∙ none)),
        λ pivot none. (half.marked j).1 pivot (ap (λ (l : List ℕ). get_or l j 0) (sym out.marks) ∙ none),
      );
    }
