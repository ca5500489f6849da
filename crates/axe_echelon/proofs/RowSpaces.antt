-- The row space of a matrix, as its rows are inserted into a subspace.
use Rattle.std.specs.Prelude.{◌≡◌, ℕ, ◌+◌, ◌<◌, ◌≤◌, List, [], ◌∷◌, ◌++◌, length, get_or, Bool, true, false}
use Rattle.std.proofs.Math.Seq.{get_or-append_seam}
use Rattle.std.proofs.lemmas.List.{append_assoc, get_or-map, length-append, length-map}
use Rattle.axe_algebra.specs.NumberField.{NumberField}
use Rattle.axe_algebra.specs.Field.{Field}
use Rattle.axe_algebra.specs.Vectors.{Vector}
use Rattle.axe_algebra.specs.Spans
use Rattle.axe_algebra.specs.Bridge.{field_of, vector_of, matrix_of}
use Rattle.axe_algebra.specs.SpansOfLists.{IsSpanned, HaveSameSpan}
use Rattle.axe_algebra.proofs.ListSpans.{appended_length, appended_before, appended_last, appended_spans, appended_row_spanned, appended_same_span, row_spanned}
use Rattle.axe_algebra.proofs.ListVectors.{spanned_within, same_span_by_rows, same_span_sym, same_span_trans}
use Rattle.axe_algebra.proofs.Spaces.{IsSpace, space_has_span, span_is_space}
use Rattle.axe_field.specs.Order.{Order}
use Rattle.axe_field.specs.NumberFields.{number_field, gf}
use Rattle.axe_row.specs.Rows.{RowValue}
use Rattle.axe_matrix.specs.Matrices.{MatrixValue}
use Rattle.axe_matrix.specs.RowLists.{AreRowsOf}
use Rattle.axe_echelon.specs.Echelons.{EchelonValue, IsEchelon, IsRowSpace}
use Rattle.axe_echelon.specs.Subspaces.{SpansOneMore}
use Rattle.axe_echelon.proofs.FormLaws.{below_or_at}
use Rattle.axe_echelon.proofs.InverseLaws.{spanned_of_not_new}
use mathlib.Core.Path.{refl, sym, ◌∙◌, ap, subst}
use native.Mathlib.Omega.{arith}

-- ---- one more vector, new or not

-- the span grows by the vector
pub grown_span : (o : Order) (old next : EchelonValue) (v : List ℕ) (new : Bool) → old.order ≡ o → SpansOneMore new old v next → IsEchelon old →
    length v ≡ old.cols → (¬ (IsSpanned (number_field old.order) old.rows v) → new ≡ true) →
    HaveSameSpan (number_field o) (old.rows ++ v ∷ []) next.rows
grown_span o old next v true field one_more h long exactly =
    subst (λ q. HaveSameSpan (number_field q) (old.rows ++ v ∷ []) next.rows) field one_more.same
grown_span o old next v false field one_more h long exactly =
    subst (λ q. HaveSameSpan (number_field q) (old.rows ++ v ∷ []) next.rows) field
    (same_span_trans (number_field old.order) (old.rows ++ v ∷ []) old.rows next.rows
    (same_span_sym (number_field old.order) old.rows (old.rows ++ v ∷ [])
    (appended_same_span (number_field old.order) old.rows v (spanned_of_not_new old v false h long exactly refl)))
    one_more.same)

module _ (K : NumberField) (rows next : List (List ℕ)) (v : List ℕ) (same : HaveSameSpan K (rows ++ v ∷ []) next) where
  abbrev F : Field
  F = field_of K

  -- what was spanned stays spanned, and the vector is
  stays_spanned : (u : List ℕ) → IsSpanned K rows u → IsSpanned K next u
  stays_spanned u spanned = spanned_within K (rows ++ v ∷ []) next u same (appended_spans K rows v u spanned)

  is_spanned : IsSpanned K next v
  is_spanned = spanned_within K (rows ++ v ∷ []) next v same (appended_row_spanned K rows v)

  -- a space that has the rows and the vector has the rows of the grown span
  each_grown : (P : Vector F → Type 0) → IsSpace F P → ((t : ℕ) → t < length rows → P (matrix_of K rows t)) → P (vector_of K v) →
      (t : ℕ) → t < length next → P (matrix_of K next t)
  each_grown P space before last t below =
      space_has_span F P space (length (rows ++ v ∷ [])) (matrix_of K (rows ++ v ∷ []))
      (λ s inside. below_or_at (λ s. P (matrix_of K (rows ++ v ∷ []) s)) (length rows)
      (λ s early. subst P (sym (appended_before K rows v s early)) (before s early))
      (subst P (sym (appended_last K rows v)) last)
      s (omega (arith, inside, appended_length K rows v)))
      (matrix_of K next t) (same.back t below)

-- ---- the span of the rows of a matrix

-- the space is the span of the first rows of a matrix
pub record IsRowSpaceOfFirst (m : MatrixValue) (i : ℕ) (e : EchelonValue) : Type 0 where
  pub field : e.order ≡ m.order
  pub columns : e.cols ≡ m.cols
  pub forth : (t : ℕ) → t < i → IsSpanned (number_field m.order) e.rows (get_or m.rows t [])
  pub back : (t : ℕ) → t < length e.rows → IsSpanned (number_field m.order) m.rows (get_or e.rows t [])
  pub well_formed : IsEchelon e

pub row_space_none : (m : MatrixValue) (e : EchelonValue) → e ≡ record { order = m.order; cols = m.cols; rows = [] } → IsEchelon e → IsRowSpaceOfFirst m 0 e
row_space_none m e is h = record {
  field = ap (λ (x : EchelonValue). x.order) is;
  columns = ap (λ (x : EchelonValue). x.cols) is;
  forth = λ t below. absurd (omega arith);
  back = λ t below. absurd (omega (arith, below, ap (λ (x : EchelonValue). length x.rows) is));
  well_formed = h;
}

pub row_space_more : (m : MatrixValue) (i : ℕ) (e next : EchelonValue) (row : RowValue) (new : Bool) → IsRowSpaceOfFirst m i e → i < length m.rows →
    row.entries ≡ get_or m.rows i [] → length row.entries ≡ e.cols → SpansOneMore new e row.entries next →
    (¬ (IsSpanned (number_field e.order) e.rows row.entries) → new ≡ true) → IsEchelon next → IsRowSpaceOfFirst m (i + 1) next
row_space_more m i e next row new first below row_is long one_more exactly h = record {
  field = one_more.field ∙ first.field;
  columns = one_more.columns ∙ first.columns;
  forth = λ t inside. below_or_at (λ t. IsSpanned K next.rows (get_or m.rows t [])) i
      (λ t before. stays_spanned K e.rows next.rows row.entries same (get_or m.rows t []) (first.forth t before))
      (subst (IsSpanned K next.rows) row_is (is_spanned K e.rows next.rows row.entries same))
      t (omega arith);
  back = each_grown K e.rows next.rows row.entries same (Spans.InSpan (gf m.order) (length m.rows) (matrix_of K m.rows))
      (span_is_space (gf m.order) (length m.rows) (matrix_of K m.rows)) first.back
      (subst (IsSpanned K m.rows) (sym row_is) (row_spanned K m.rows i below));
  well_formed = h;
}
  where
    K : NumberField
    K = number_field m.order

    same : HaveSameSpan K (e.rows ++ row.entries ∷ []) next.rows
    same = grown_span m.order e next row.entries new first.field one_more first.well_formed long exactly

pub row_space_whole : (m : MatrixValue) (i : ℕ) (e : EchelonValue) → IsRowSpaceOfFirst m i e → length m.rows ≤ i → IsRowSpace m e
row_space_whole m i e first whole = record {
  field = first.field;
  columns = first.columns;
  same = same_span_by_rows (number_field m.order) m.rows e.rows (λ t below. first.forth t (omega arith)) first.back;
  well_formed = first.well_formed;
}

-- ---- the rows themselves, one after the other

-- those that were taken, and those that are left
module _ (m : MatrixValue) (done left rest : List RowValue) (row : RowValue) (rows : AreRowsOf m (done ++ left)) (next_is : left ≡ row ∷ rest) where
  -- the row stands after those that were taken
  abbrev here : get_or (done ++ left) (length done) row ≡ row
  here = ap (λ l. get_or (done ++ l) (length done) row) next_is ∙ get_or-append_seam done row rest row

  abbrev inside : length done < length (done ++ left)
  inside = omega (arith, length-append done left, ap (λ (l : List RowValue). length l) next_is)

  -- one row more is taken
  pub rows_more : AreRowsOf m (done ++ row ∷ [] ++ rest)
  rows_more = subst (AreRowsOf m) (ap (λ l. done ++ l) next_is ∙ sym (append_assoc done (row ∷ []) rest)) rows

  -- the row can be inserted: it is over the field, and has an entry in each column
  pub next_field : row.order ≡ m.order
  next_field = subst (λ (r : RowValue). r.order ≡ m.order) here (rows.one_field (length done) row inside)

  pub next_long : length row.entries ≡ m.cols
  next_long = subst (λ (r : RowValue). length r.entries ≡ m.cols) here (rows.as_long (length done) row inside)

  -- it is the matrix's row at this index
  next_below : length done < length m.rows
  next_below = omega (arith, inside, length-map (done ++ left) (λ (r : RowValue). r.entries), ap (λ (l : List (List ℕ)). length l) rows.entries)

  next_at : row.entries ≡ get_or m.rows (length done) []
  next_at = ap (λ (r : RowValue). r.entries) (sym here) ∙ sym (get_or-map (λ r. r.entries) (done ++ left) (length done) row [] inside)
      ∙ ap (λ (l : List (List ℕ)). get_or l (length done) []) rows.entries

  -- the space with the row
  pub space_more : (e next : EchelonValue) (new : Bool) → IsRowSpaceOfFirst m (length done) e → SpansOneMore new e row.entries next →
      (¬ (IsSpanned (number_field e.order) e.rows row.entries) → new ≡ true) → IsEchelon next → IsRowSpaceOfFirst m (length (done ++ row ∷ [])) next
  space_more e next new first one_more exactly h =
      subst (λ i. IsRowSpaceOfFirst m i next) (sym (length-append done (row ∷ [])))
      (row_space_more m (length done) e next row new first next_below next_at (next_long ∙ sym first.columns) one_more exactly h)

-- all are taken
pub space_whole : (m : MatrixValue) (done left : List RowValue) (e : EchelonValue) → AreRowsOf m (done ++ left) → left ≡ [] →
    IsRowSpaceOfFirst m (length done) e → IsRowSpace m e
space_whole m done left e rows none first = row_space_whole m (length done) e first
    (omega (
      arith,
      length-append done left,
      ap (λ (l : List RowValue). length l) none,
      length-map (done ++ left) (λ (r : RowValue). r.entries),
      ap (λ (l : List (List ℕ)). length l) rows.entries,
    ))
