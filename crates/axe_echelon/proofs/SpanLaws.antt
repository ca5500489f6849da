-- The span of the rows of a matrix, as the rows are inserted one by one.
use Rattle.std.specs.Prelude.{◌≡◌, ℕ, ◌+◌, ◌<◌, ◌≤◌, List, [], ◌∷◌, ◌++◌, length, get_or, take, ◌↔◌, Bool, true, false}
use Rattle.std.proofs.Common.{length-append}
use Rattle.std.proofs.lemmas.List.{get_or_append_left, get_or-append-add, take_all}
use Rattle.axe_algebra.specs.NumberField.{NumberField}
use Rattle.axe_algebra.specs.SpansOfLists.{IsIndependent, IsSpanned}
use Rattle.axe_algebra.proofs.ListSpans.{appended_spans, appended_row_spanned, row_spanned}
use Rattle.axe_algebra.proofs.ListVectors.{same_span_by_rows}
use Rattle.axe_field.specs.NumberFields.{number_field}
use Rattle.axe_row.specs.Rows.{RowValue}
use Rattle.axe_matrix.specs.Matrices.{MatrixValue}
use Rattle.axe_echelon.specs.Echelons.{EchelonValue, IsEchelon, with_row_where, AreNewRows, none, IsSpanOfRows}
use Rattle.axe_echelon.proofs.FormLaws.{below_or_at}
use Rattle.axe_echelon.proofs.InverseLaws.{HasFirstRows, first_rows_none, first_rows_more, first_rows_all, first_rows_dependent, spanned_of_not_new}
use Rattle.axe_echelon.proofs.NewRows.{new_row, old_row}
use mathlib.Core.Path.{refl, sym, ◌∙◌, ap, subst}
use native.Mathlib.Omega.{arith}

-- the echelon form has the new ones of the first rows of a matrix, and all of these rows where they are independent, or as many
pub record IsSpanOfFirst (m : MatrixValue) (i : ℕ) (e : EchelonValue) : Type 0 where
  pub field : e.order ≡ m.order
  pub columns : e.cols ≡ m.cols
  pub few : i ≤ length m.rows
  pub new : AreNewRows (number_field m.order) (take i m.rows) e.rows
  pub forth : (t : ℕ) → t < i → IsSpanned (number_field m.order) e.rows (get_or m.rows t [])
  pub back : (t : ℕ) → t < length e.rows → IsSpanned (number_field m.order) m.rows (get_or e.rows t [])
  pub all : IsIndependent (number_field m.order) m.rows → HasFirstRows m i e
  pub no_more : length e.rows ≤ i
  pub as_many : length e.rows ≡ i → HasFirstRows m i e
  pub well_formed : IsEchelon e

-- no rows
pub span_none : (m : MatrixValue) (e : EchelonValue) → e ≡ record { order = m.order; cols = m.cols; rows = [] } → IsEchelon e → IsSpanOfFirst m 0 e
span_none m e is h = record {
  field = ap (λ (x : EchelonValue). x.order) is;
  columns = ap (λ (x : EchelonValue). x.cols) is;
  few = omega arith;
  new = subst (λ (x : EchelonValue). AreNewRows (number_field m.order) [] x.rows) (sym is) none;
  forth = λ t below. absurd (omega arith);
  back = λ t below. absurd (omega (arith, below, empty));
  all = λ independent. first_rows_none m e is h;
  no_more = omega (arith, empty);
  as_many = λ same. first_rows_none m e is h;
  well_formed = h;
}
  where
    empty : length e.rows ≡ 0
    empty = ap (λ (x : EchelonValue). length x.rows) is

-- a new row
span_new : (m : MatrixValue) (i : ℕ) (e next : EchelonValue) (row : RowValue) → IsSpanOfFirst m i e → i < length m.rows → row.entries ≡ get_or m.rows i [] →
    ¬ (IsSpanned (number_field e.order) e.rows row.entries) → next ≡ record { order = e.order; cols = e.cols; rows = e.rows ++ row.entries ∷ [] } → IsEchelon next →
    IsSpanOfFirst m (i + 1) next
span_new m i e next row first below row_is outside is h = record {
  field = ap (λ (x : EchelonValue). x.order) is ∙ first.field;
  columns = ap (λ (x : EchelonValue). x.cols) is ∙ first.columns;
  few = omega arith;
  new = subst (AreNewRows K (take (i + 1) m.rows)) (sym rows_are)
      (new_row K m.rows e.rows i row.entries first.new below row_is (subst (λ o. ¬ (IsSpanned (number_field o) e.rows row.entries)) first.field outside));
  forth = λ t inside. subst (λ (rows : List (List ℕ)). IsSpanned K rows (get_or m.rows t [])) (sym rows_are)
      (below_or_at (λ t. IsSpanned K (e.rows ++ row.entries ∷ []) (get_or m.rows t [])) i
      (λ t before. appended_spans K e.rows row.entries (get_or m.rows t []) (first.forth t before))
      (subst (IsSpanned K (e.rows ++ row.entries ∷ [])) row_is (appended_row_spanned K e.rows row.entries))
      t (omega arith));
  back = λ t inside. subst (λ (rows : List (List ℕ)). IsSpanned K m.rows (get_or rows t [])) (sym rows_are)
      (below_or_at (λ t. IsSpanned K m.rows (get_or (e.rows ++ row.entries ∷ []) t [])) (length e.rows)
      (λ t before. subst (IsSpanned K m.rows) (sym (get_or_append_left e.rows (row.entries ∷ []) [] t before)) (first.back t before))
      (subst (IsSpanned K m.rows) (sym row_last) (row_spanned K m.rows i below))
      t (omega (arith, inside, ap (λ (x : EchelonValue). length x.rows) is, length-append e.rows (row.entries ∷ []))));
  all = λ independent. first_rows_more m i e next row (first.all independent) below row_is is h;
  no_more = omega (arith, longer, first.no_more);
  as_many = λ same. first_rows_more m i e next row (first.as_many (omega (arith, same, longer))) below row_is is h;
  well_formed = h;
}
  where
    K : NumberField
    K = number_field m.order

    rows_are : next.rows ≡ e.rows ++ row.entries ∷ []
    rows_are = ap (λ (x : EchelonValue). x.rows) is

    longer : length next.rows ≡ length e.rows + 1
    longer = ap (λ (x : EchelonValue). length x.rows) is ∙ length-append e.rows (row.entries ∷ [])

    row_last : get_or (e.rows ++ row.entries ∷ []) (length e.rows) [] ≡ get_or m.rows i []
    row_last =
        ap (λ k. get_or (e.rows ++ row.entries ∷ []) k []) (let same : length e.rows ≡ length e.rows + 0 = omega arith in same)
        ∙ get_or-append-add e.rows (row.entries ∷ []) 0 [] ∙ row_is

-- a row that is not new
span_old : (m : MatrixValue) (i : ℕ) (e : EchelonValue) (row : RowValue) → IsSpanOfFirst m i e → i < length m.rows → row.entries ≡ get_or m.rows i [] →
    IsSpanned (number_field e.order) e.rows row.entries → IsSpanOfFirst m (i + 1) e
span_old m i e row first below row_is spanned = record {
  field = first.field;
  columns = first.columns;
  few = omega arith;
  new = old_row (number_field m.order) m.rows e.rows i row.entries first.new below row_is (subst (λ o. IsSpanned (number_field o) e.rows row.entries) first.field spanned);
  forth = λ t inside. below_or_at (λ t. IsSpanned (number_field m.order) e.rows (get_or m.rows t [])) i first.forth
      (subst (IsSpanned (number_field m.order) e.rows) row_is (subst (λ o. IsSpanned (number_field o) e.rows row.entries) first.field spanned))
      t (omega arith);
  back = first.back;
  all = λ independent. absurd (first_rows_dependent m i e row (first.all independent) below row_is spanned independent);
  no_more = omega (arith, first.no_more);
  as_many = λ same. absurd (omega (arith, same, first.no_more));
  well_formed = first.well_formed;
}

pub span_more : (m : MatrixValue) (i : ℕ) (e next : EchelonValue) (row : RowValue) (new : Bool) → IsSpanOfFirst m i e → i < length m.rows →
    row.entries ≡ get_or m.rows i [] → length row.entries ≡ e.cols → ((new ≡ true) ↔ ¬ (IsSpanned (number_field e.order) e.rows row.entries)) →
    next ≡ with_row_where new e row.entries → IsEchelon next → IsSpanOfFirst m (i + 1) next
span_more m i e next row true first below row_is long exactly is h = span_new m i e next row first below row_is (exactly.0 refl) is h
span_more m i e next row false first below row_is long exactly is h =
    subst (IsSpanOfFirst m (i + 1)) (sym is)
    (span_old m i e row first below row_is (spanned_of_not_new e row.entries false first.well_formed long exactly.1 refl))

pub span_whole : (m : MatrixValue) (i : ℕ) (e : EchelonValue) → IsSpanOfFirst m i e → length m.rows ≤ i → IsSpanOfRows m e
span_whole m i e first whole = record {
  field = first.field;
  columns = first.columns;
  new = subst (λ (l : List (List ℕ)). AreNewRows (number_field m.order) l e.rows) (take_all i m.rows whole) first.new;
  same = same_span_by_rows (number_field m.order) m.rows e.rows (λ t below. first.forth t (omega arith)) first.back;
  all = λ independent. (first_rows_all m i e (first.all independent) whole).rows;
  as_many = λ same. (first_rows_all m i e (first.as_many (omega (arith, same, first.few, whole))) whole).rows;
  well_formed = first.well_formed;
}
