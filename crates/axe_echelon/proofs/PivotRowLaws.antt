-- The rows of an echelon form: as vectors, with their pivots, and one more of them.
use Rattle.std.specs.Prelude.{◌≡◌, ℕ, zero, suc, ◌+◌, ◌<◌, ◌≤◌, List, [], ◌∷◌, ◌++◌, All, length, get_or}
use Rattle.std.proofs.lemmas.List.{get_or-map, length-map, map-append, get_or_append_left, get_or-append-add}
use Rattle.std.proofs.lemmas.List.Elements.{All-from_get_or, All-push}
use Rattle.axe_algebra.specs.NumberField.{NumberField}
use Rattle.axe_algebra.specs.Vectors.{Vector}
use Rattle.axe_algebra.specs.Bridge.{vector_of, matrix_of}
use Rattle.axe_algebra.specs.Lists.{IsVectorOver}
use Rattle.axe_algebra.proofs.ListSpans.{appended_length, appended_before, appended_last, independent_rows_are_few}
use Rattle.axe_field.specs.Order.{Order}
use Rattle.axe_field.specs.NumberFields.{number_field, gf}
use Rattle.axe_echelon.specs.Echelons.{EchelonValue, IsEchelon}
use Rattle.axe_echelon.specs.Forms.{IsEchelonForm}
use Rattle.axe_echelon.specs.PivotTables.{HasPivots, HasBlocks}
use Rattle.axe_echelon.specs.Subspaces.{rows_of, pivots_of, space_of, IsRowOfForm, AreFormRows, AreTabledRows, IsNextRow}
use Rattle.axe_echelon.specs.declared.pivot_table.PivotTable.{PivotTable}
use Rattle.axe_echelon.specs.declared.subspace.PivotRow.{PivotRow}
use Rattle.axe_echelon.proofs.FormLaws.{rows_independent, form_more}
use mathlib.Core.Path.{refl, sym, ◌∙◌, ap, ap₂, subst}
use native.Mathlib.Omega.{arith}

pub length-rows_of : (rows : List PivotRow) → length (rows_of rows) ≡ length rows
length-rows_of rows = length-map rows (λ (p : PivotRow). p.row.entries)

-- a row of a list of them, and its pivot
pub entries_at : (rows : List PivotRow) (i : ℕ) (p : PivotRow) → i < length rows → p ≡ get_or rows i p → get_or (rows_of rows) i [] ≡ p.row.entries
entries_at rows i p below is = get_or-map (λ (p : PivotRow). p.row.entries) rows i p [] below ∙ ap (λ (p : PivotRow). p.row.entries) (sym is)

pub vector_at : (o : Order) (rows : List PivotRow) (i : ℕ) (p : PivotRow) → i < length rows → p ≡ get_or rows i p →
    matrix_of (number_field o) (rows_of rows) i ≡ vector_of (number_field o) p.row.entries
vector_at o rows i p below is = ap (vector_of (number_field o)) (entries_at rows i p below is)

pub pivot_at : (rows : List PivotRow) (i : ℕ) (p : PivotRow) → i < length rows → p ≡ get_or rows i p → get_or (pivots_of rows) i 0 ≡ p.pivot
pivot_at rows i p below is = get_or-map (λ (p : PivotRow). p.pivot) rows i p 0 below ∙ ap (λ (p : PivotRow). p.pivot) (sym is)

pub form_row_at : (o : Order) (n : ℕ) (rows : List PivotRow) (i : ℕ) (p : PivotRow) → AreFormRows o n rows → i < length rows → p ≡ get_or rows i p →
    IsRowOfForm o n p
form_row_at o n rows i p are below is = subst (IsRowOfForm o n) (sym is) (are.each i p below)

pub row_place : (o : Order) (n : ℕ) (rows : List PivotRow) (i : ℕ) (p : PivotRow) → AreFormRows o n rows → i < length rows → p ≡ get_or rows i p → p.pivot < n
row_place o n rows i p are below is =
    subst (λ k. k < n) (pivot_at rows i p below is) (are.form.place i (omega (arith, length-rows_of rows)))

-- each row of a list that has one
first_row : (rows : List PivotRow) (i : ℕ) → i < length rows → (p : PivotRow) × (p ≡ get_or rows i p)
first_row [] i below = absurd (omega arith)
first_row (p ∷ rest) zero below = (p, refl)
first_row (p ∷ rest) (suc i) below = first_row rest i (omega arith)

pub rows_are_over : (o : Order) (n : ℕ) (rows : List PivotRow) → All (IsRowOfForm o n) rows → All (IsVectorOver (number_field o) n) (rows_of rows)
rows_are_over o n rows each = All-from_get_or (IsVectorOver (number_field o) n) (rows_of rows) [] (λ i below. at i (omega (arith, below, length-rows_of rows)))
  where
    at : (i : ℕ) → i < length rows → IsVectorOver (number_field o) n (get_or (rows_of rows) i [])
    at i inside = found (first_row rows i inside)
      where
        found : (p : PivotRow) × (p ≡ get_or rows i p) → IsVectorOver (number_field o) n (get_or (rows_of rows) i [])
        found (p, is) = subst (IsVectorOver (number_field o) n) (sym (get_or-map (λ (p : PivotRow). p.row.entries) rows i p [] inside)) (each i p inside).row_over

-- the rows as callers see them
pub echelon_of_rows : (o : Order) (n : ℕ) (rows : List PivotRow) → AreFormRows o n rows → IsEchelon (space_of o n rows)
echelon_of_rows o n rows are = record {
  some_column = are.some_column;
  columns_fit = are.columns_fit;
  over = rows_are_over o n rows are.each;
  independent = rows_independent (gf o) n (length (rows_of rows)) (matrix_of (number_field o) (rows_of rows)) (λ t. get_or (pivots_of rows) t 0) are.form;
}

-- there are no more rows than columns
pub rows_fit : (o : Order) (n : ℕ) (rows : List PivotRow) → AreFormRows o n rows → length rows ≤ n
rows_fit o n rows are =
    let few = independent_rows_are_few (number_field o) n (rows_of rows) (rows_are_over o n rows are.each) (echelon_of_rows o n rows are).independent in
    omega (arith, few, length-rows_of rows)

-- as many rows as a subspace has, and each of them
pub length-rows : (o : Order) (n : ℕ) (rows : List PivotRow) (e : EchelonValue) → space_of o n rows ≡ e → length rows ≡ length e.rows
length-rows o n rows e view = sym (length-rows_of rows) ∙ ap (λ (x : EchelonValue). length x.rows) view

pub row_at : (o : Order) (n : ℕ) (rows : List PivotRow) (i : ℕ) (p : PivotRow) (e : EchelonValue) → AreFormRows o n rows → space_of o n rows ≡ e →
    i < length rows → p ≡ get_or rows i p → p.row ≡ record { order = e.order; entries = get_or e.rows i [] }
row_at o n rows i p e are view below is =
    subst (λ (x : EchelonValue). p.row ≡ record { order = x.order; entries = get_or x.rows i [] }) view
    (λ j. record { order = (form_row_at o n rows i p are below is).row_field j; entries = (sym (entries_at rows i p below is)) j })

-- ---- one more row

pub form_rows_more : (o : Order) (n : ℕ) (rows : List PivotRow) (p : PivotRow) → AreFormRows o n rows → IsNextRow (space_of o n rows) p →
    AreFormRows o n (rows ++ p ∷ [])
form_rows_more o n rows p are next = record {
  some_column = are.some_column;
  columns_fit = are.columns_fit;
  each = All-push (IsRowOfForm o n) rows p are.each next.each;
  form = subst (λ k. IsEchelonForm (gf o) n k (matrix_of N after) (λ t. get_or (pivots_of (rows ++ p ∷ [])) t 0)) (sym longer)
      (form_more (gf o) n (length (rows_of rows)) (matrix_of N (rows_of rows)) (λ t. get_or (pivots_of rows) t 0) are.form
      (matrix_of N after) (λ t. get_or (pivots_of (rows ++ p ∷ [])) t 0)
      (λ t below. ap (λ (l : List (List ℕ)). matrix_of N l t) split ∙ appended_before N (rows_of rows) p.row.entries t below)
      (λ t below. ap (λ (l : List ℕ). get_or l t 0) (map-append (λ (p : PivotRow). p.pivot) rows (p ∷ []))
      ∙ get_or_append_left (pivots_of rows) (p.pivot ∷ []) 0 t (omega (arith, below, length-rows_of rows, length-map rows (λ (p : PivotRow). p.pivot))))
      (subst (λ k. k < n) (sym pivot_is) next.place)
      (ap₂ (λ (x : Vector (gf o)) (k : ℕ). x k) row_is pivot_is ∙ next.one)
      (λ i ahead. ap (λ (x : Vector (gf o)). x i) row_is ∙ next.before i (subst (λ k. i < k) pivot_is ahead))
      (λ j is_pivot. ap (λ (x : Vector (gf o)). x j) row_is ∙ next.at_pivots j is_pivot));
}
  where
    N : NumberField
    N = number_field o

    after : List (List ℕ)
    after = rows_of (rows ++ p ∷ [])

    split : after ≡ rows_of rows ++ p.row.entries ∷ []
    split = map-append (λ (p : PivotRow). p.row.entries) rows (p ∷ [])

    longer : length after ≡ suc (length (rows_of rows))
    longer = ap (λ (l : List (List ℕ)). length l) split ∙ appended_length N (rows_of rows) p.row.entries

    row_is : matrix_of N after (length (rows_of rows)) ≡ vector_of N p.row.entries
    row_is = ap (λ (l : List (List ℕ)). matrix_of N l (length (rows_of rows))) split ∙ appended_last N (rows_of rows) p.row.entries

    pivot_is : get_or (pivots_of (rows ++ p ∷ [])) (length (rows_of rows)) 0 ≡ p.pivot
    pivot_is =
        ap₂ (λ (l : List ℕ) (k : ℕ). get_or l k 0) (map-append (λ (p : PivotRow). p.pivot) rows (p ∷ []))
        (let same : length (rows_of rows) ≡ length (pivots_of rows) + 0 = omega (arith, length-rows_of rows, length-map rows (λ (p : PivotRow). p.pivot)) in same)
        ∙ get_or-append-add (pivots_of rows) (p.pivot ∷ []) 0 0

pub tabled_more : (o : Order) (n : ℕ) (rows next : List PivotRow) (p : PivotRow) (e : EchelonValue) (table after : PivotTable) → next ≡ rows ++ p ∷ [] →
    AreTabledRows o n rows table → space_of o n rows ≡ e → IsNextRow e p → HasPivots n (pivots_of next) after →
    HasBlocks next after → AreTabledRows o n next after
tabled_more o n rows next p e table after pushed tabled view given has blocks = record {
  are_rows = subst (AreFormRows o n) (sym pushed) (form_rows_more o n rows p tabled.are_rows (subst (λ (x : EchelonValue). IsNextRow x p) (sym view) given));
  tabled = has;
  has_blocks = blocks;
}

pub space_of_more : (o : Order) (n : ℕ) (rows next : List PivotRow) (p : PivotRow) (e : EchelonValue) → next ≡ rows ++ p ∷ [] → space_of o n rows ≡ e →
    space_of o n next ≡ record { order = e.order; cols = e.cols; rows = e.rows ++ p.row.entries ∷ [] }
space_of_more o n rows next p e pushed view =
    ap (λ (l : List PivotRow). space_of o n l) pushed
    ∙ ap (λ (l : List (List ℕ)). record { order = o; cols = n; rows = l }) (map-append (λ (p : PivotRow). p.row.entries) rows (p ∷ []))
    ∙ ap (λ (x : EchelonValue). record { order = x.order; cols = x.cols; rows = x.rows ++ p.row.entries ∷ [] }) view
