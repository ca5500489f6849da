-- The action of a module modulo a span, row by row, and its columns.
use Rattle.std.specs.Prelude.{◌≡◌, ℕ, ◌+◌, ◌<◌, ◌≤◌, List, [], ◌∷◌, ◌++◌, length, get_or, map, None, Result, Bool, true, false, not, IsTrue, ◌↔◌}
use Rattle.std.specs.List.{All}
use Rattle.std.proofs.lemmas.List.{length-append, length-map, get_or_append_left, get_or-append-add, get_or-map}
use Rattle.std.proofs.lemmas.List.Elements.{All-from_get_or, All-map, All-weaker}
use Rattle.axe_algebra.specs.NumberField.{NumberField}
use Rattle.axe_algebra.specs.Bridge.{matrix_of}
use Rattle.axe_algebra.specs.Lists.{IsMatrixOver, IsSquareOver, unit_row}
use Rattle.axe_algebra.specs.SpansOfLists.{IsPivot, IsRepresentative, HaveSameSpan}
use Rattle.axe_algebra.specs.ModulesOfLists.{IsQuotientAction}
use Rattle.axe_algebra.proofs.Spanning.{span_within}
use Rattle.axe_algebra.proofs.ReducedBases.{pivot_of_same_span}
use Rattle.axe_algebra.proofs.FreeColumns.{free_columns_count}
use Rattle.axe_algebra.proofs.ListEntries.{rows_length}
use Rattle.axe_algebra.proofs.ListQuotients.{IsRowOfQuotient, quotient_action_by_rows}
use Rattle.axe_field.specs.NumberFields.{number_field, gf}
use Rattle.axe_row.specs.Rows.{RowValue, IsRow}
use Rattle.axe_row.specs.Refusals.{AnswersOr}
use Rattle.axe_row.specs.declared.refusals.Refusal.{Refusal}
use Rattle.axe_matrix.specs.Matrices.{MatrixValue, IsMatrix}
use Rattle.axe_echelon.specs.Echelons.{EchelonValue, IsEchelon, IsSpanOfRows}
use Rattle.axe_echelon.proofs.FormLaws.{below_or_at}
use Rattle.axe_echelon.proofs.StepLaws.{over_of_row}
use Rattle.axe_spin.specs.Modules.{ModuleValue, IsModule, IsInvariantIn, rows_refusal, generator_of, rows_of_each, module_of_matrices}
use Rattle.axe_spin.specs.Generators.{IsGeneratorMatrix}
use Rattle.axe_spin.proofs.ModuleLaws.{square_over}
use Rattle.axe_spin.proofs.SeedLaws.{AreVectors, vectors_of, vectors_over}
use Rattle.axe_algebra.proofs.ListModules.{invariant_by_images}
use Rattle.axe_action.specs.Actions.{action_late, IsActionModulo}
use Rattle.axe_action.specs.Coordinates.{HasImagesIn}
use Rattle.axe_action.specs.FreeColumns.{IsFreeColumn, AreFreeColumns, IsRowModulo, HasRowsModulo, HasUnitsModulo, rows_to_span, row_at}
use Rattle.axe_action.proofs.GeneratorLists.{AreNewGenerators, module_of_made}
use mathlib.Core.Path.{refl, sym, ◌∙◌, ap, subst}
use native.Mathlib.Omega.{arith}

-- a column is free exactly where a test finds no pivot
pub free_exactly : (e : EchelonValue) (j : ℕ) (pivot : Bool) → j < e.cols → (IsTrue pivot ↔ IsPivot (number_field e.order) e.rows j) →
    IsTrue (not pivot) ↔ IsFreeColumn e j
free_exactly e j true below exactly = (λ is. absurd (different is), λ free. absurd (free.no_pivot (exactly.0 refl)))
  where
    different : false ≡ true → ⊥
    different same = cc
free_exactly e j false below exactly = (λ is. record { below = below; no_pivot = λ pivot. different (exactly.1 pivot) }, λ free. refl)
  where
    different : false ≡ true → ⊥
    different same = cc

-- there are as many free columns as rows are missing
pub free_count : (e : EchelonValue) (columns : List ℕ) → IsEchelon e → AreFreeColumns e columns → length e.rows + length columns ≡ e.cols
free_count e columns h free =
    free_columns_count (gf e.order) e.cols (length e.rows) (matrix_of (number_field e.order) e.rows) (rows_length (number_field e.order) e.cols e.rows h.over)
    (length columns) (λ t. get_or columns t 0) free h.independent

-- so there is one where the span is not everything
pub some_free : (m : ModuleValue) (rows : MatrixValue) (e : EchelonValue) (columns : List ℕ) → rows_refusal m rows ≡ None → IsSpanOfRows rows e →
    AreFreeColumns e columns → length e.rows < m.dim → 1 ≤ length columns
some_free m rows e columns none span free small =
    let vectors : AreVectors m rows = vectors_of m rows none in
    omega (arith, free_count e columns span.well_formed free, span.columns, vectors.columns)

pub free_within : (e : EchelonValue) (columns : List ℕ) → AreFreeColumns e columns → All (λ column. column < e.cols) columns
free_within e columns free = All-from_get_or (λ column. column < e.cols) columns 0 (λ t below. (free.each t below).below)

-- the entries of a reduced row at the columns
pub row_is_modulo : (e : EchelonValue) (columns v : List ℕ) (rest entries : RowValue) → IsRepresentative (number_field e.order) e.rows v rest.entries →
    rest.order ≡ e.order → length rest.entries ≡ e.cols → IsRow rest →
    entries ≡ record { order = rest.order; entries = map (λ column. get_or rest.entries column 0) columns } →
    IsRowModulo e columns v entries.entries
row_is_modulo e columns v rest entries represents field long is_row is = record {
  fits = ap (λ (x : RowValue). length x.entries) is ∙ length-map columns (λ column. get_or rest.entries column 0);
  representative = rest.entries;
  over = over_of_row e.order e.cols rest field is_row long;
  represents = represents;
  entries = λ s below. ap (λ (x : RowValue). get_or x.entries s 0) is ∙ get_or-map (λ column. get_or rest.entries column 0) columns s 0 0 below;
}

-- one more row
pub modulo_more : (e : EchelonValue) (columns : List ℕ) (vectors : ℕ → List ℕ) (i : ℕ) (action next : MatrixValue) (row : RowValue) →
    HasRowsModulo e columns vectors i action → IsRowModulo e columns (vectors i) row.entries →
    next ≡ record { order = action.order; cols = action.cols; rows = action.rows ++ row.entries ∷ [] } → IsMatrix next →
    HasRowsModulo e columns vectors (i + 1) next
modulo_more e columns vectors i action next row so_far is_row is h = record {
  field = ap (λ (x : MatrixValue). x.order) is ∙ so_far.field;
  width = ap (λ (x : MatrixValue). x.cols) is ∙ so_far.width;
  count = ap (λ (x : MatrixValue). length x.rows) is
      ∙ (let grown : length (action.rows ++ row.entries ∷ []) ≡ i + 1 = omega (arith, so_far.count, length-append action.rows (row.entries ∷ [])) in grown);
  well_formed = h;
  each = λ t inside. below_or_at (λ t. IsRowModulo e columns (vectors t) (get_or next.rows t [])) i
      (λ t before. subst (IsRowModulo e columns (vectors t)) (sym (row_before t before)) (so_far.each t before))
      (subst (IsRowModulo e columns (vectors i)) (sym row_last) is_row)
      t (omega arith);
}
  where
    row_before : (t : ℕ) → t < i → get_or next.rows t [] ≡ get_or action.rows t []
    row_before t before =
        ap (λ (x : MatrixValue). get_or x.rows t []) is ∙ get_or_append_left action.rows (row.entries ∷ []) [] t (omega (arith, so_far.count))

    row_last : get_or next.rows i [] ≡ row.entries
    row_last =
        ap (λ (x : MatrixValue). get_or x.rows i []) is
        ∙ ap (λ k. get_or (action.rows ++ row.entries ∷ []) k []) (let same : i ≡ length action.rows + 0 = omega (arith, so_far.count) in same)
        ∙ get_or-append-add action.rows (row.entries ∷ []) 0 []

-- the rows are taken into their span by generator j, and the matrix is its action modulo that span
abbrev pub IsQuotientOf : ModuleValue → MatrixValue → List ℕ → ℕ → List (List ℕ) → Type 0
IsQuotientOf m rows columns j matrix =
    HasImagesIn (generator_of m j) rows.rows rows.rows
    × ((t : ℕ) → t < length columns → IsRowModulo (rows_to_span rows) columns (row_at (get_or m.generators j []) columns t) (get_or matrix t []))

pub modulo_is_generator : (m : ModuleValue) (rows : MatrixValue) (columns : List ℕ) (vectors : ℕ → List ℕ) (action : MatrixValue) → rows.order ≡ m.order →
    HasRowsModulo (rows_to_span rows) columns vectors (length columns) action → IsGeneratorMatrix m.order (length columns) action
modulo_is_generator m rows columns vectors action field all = record {
  field = all.field ∙ field;
  columns = all.width;
  rows = all.count;
  well_formed = all.well_formed;
}

-- the module of the actions of all generators
module _ (m : ModuleValue) (rows : MatrixValue) (columns : List ℕ) (matrices : List MatrixValue) (h : IsModule m) (field : rows.order ≡ m.order)
    (fits : rows.cols ≡ m.dim) (rows_h : IsMatrix rows) (free : AreFreeColumns (rows_to_span rows) columns)
    (are : AreNewGenerators m.order (length columns) (IsQuotientOf m rows columns) (length m.generators) matrices) where
  abbrev K : NumberField
  K = number_field m.order

  -- the rows in the module's field
  abbrev form : EchelonValue
  form = record { order = m.order; cols = m.dim; rows = rows.rows }

  same_form : rows_to_span rows ≡ form
  same_form = λ i. record { order = field i; cols = fits i; rows = rows.rows }

  over : IsMatrixOver K m.dim rows.rows
  over = vectors_over m rows field fits rows_h

  count : length (rows_of_each matrices) ≡ length m.generators
  count = length-map matrices (λ (x : MatrixValue). x.rows) ∙ are.as_many

  squares : All (IsSquareOver K (length columns)) (rows_of_each matrices)
  squares = All-map (IsSquareOver K (length columns)) (λ (x : MatrixValue). x.rows) matrices
      (All-weaker (IsGeneratorMatrix m.order (length columns)) (λ (x : MatrixValue). IsSquareOver K (length columns) x.rows)
      (square_over m.order (length columns)) matrices are.each)

  row : (i t : ℕ) → IsRowModulo form columns (row_at (get_or m.generators i []) columns t) (get_or (get_or (rows_of_each matrices) i []) t []) →
      IsRowOfQuotient K m.dim rows.rows (λ t. get_or columns t 0) (length columns) (get_or m.generators i []) (get_or (rows_of_each matrices) i []) t
  row i t is = record { representative = is.representative; over = is.over; represents = is.represents; entries = is.entries }

  acts : IsQuotientAction K m.dim m.generators rows.rows (length columns) (rows_of_each matrices)
  acts =
      quotient_action_by_rows K m.dim m.generators h.over.square rows.rows over (length columns) (λ t. get_or columns t 0) (rows_of_each matrices)
      (subst (λ x. AreFreeColumns x columns) same_form free) squares count
      (λ i t below inside. row i t (subst (λ x. IsRowModulo x columns (row_at (get_or m.generators i []) columns t) (get_or (get_or (rows_of_each matrices) i []) t []))
      same_form ((are.made i below).1 t inside)))

  invariant : IsInvariantIn m rows
  invariant = invariant_by_images K m.dim m.generators rows.rows h.over.square over (λ t i inside below. (are.made i below).0 t inside)

  pub modulo_made : (result : Result ModuleValue Refusal) → result ≡ module_of_matrices matrices →
      AnswersOr None (λ action. IsInvariantIn m rows × IsActionModulo m rows action) (action_late m rows) result
  modulo_made result is =
      subst (AnswersOr None (λ action. IsInvariantIn m rows × IsActionModulo m rows action) (action_late m rows))
      (sym (module_of_made m.order (length columns) (IsQuotientOf m rows columns) (length m.generators) matrices result are h.some_generator is))
      (invariant, record { field = refl; acts = acts })

-- ---- from a span of the rows to the rows

of_same_span : (rows : MatrixValue) (e : EchelonValue) (columns : List ℕ) → HaveSameSpan (number_field rows.order) rows.rows e.rows →
    (v row : List ℕ) → IsRowModulo (record { order = rows.order; cols = rows.cols; rows = e.rows }) columns v row → IsRowModulo (rows_to_span rows) columns v row
of_same_span rows e columns same v row is = record {
  fits = is.fits;
  representative = is.representative;
  over = is.over;
  represents = record {
    in_coset = span_within (gf rows.order) (length e.rows) (matrix_of (number_field rows.order) e.rows) (length rows.rows)
        (matrix_of (number_field rows.order) rows.rows) _ same.back is.represents.in_coset;
    at_pivots = λ j pivot. is.represents.at_pivots j (pivot_of_same_span (gf rows.order) (length rows.rows) (matrix_of (number_field rows.order) rows.rows)
        (length e.rows) (matrix_of (number_field rows.order) e.rows) j same.forth pivot);
  };
  entries = is.entries;
}

in_rows_field : (rows : MatrixValue) (e : EchelonValue) → IsSpanOfRows rows e → e ≡ record { order = rows.order; cols = rows.cols; rows = e.rows }
in_rows_field rows e span = λ i. record { order = span.field i; cols = span.columns i; rows = e.rows }

pub free_of_rows : (rows : MatrixValue) (e : EchelonValue) (columns : List ℕ) → IsSpanOfRows rows e → AreFreeColumns e columns →
    AreFreeColumns (rows_to_span rows) columns
free_of_rows rows e columns span of_span = record {
  ascending = free.ascending;
  each = λ t below. there (get_or columns t 0) (free.each t below);
  all = λ j is. free.all j (back j is);
}
  where
    here : EchelonValue
    here = record { order = rows.order; cols = rows.cols; rows = e.rows }

    K : NumberField
    K = number_field rows.order

    free : AreFreeColumns here columns
    free = subst (λ x. AreFreeColumns x columns) (in_rows_field rows e span) of_span

    there : (j : ℕ) → IsFreeColumn here j → IsFreeColumn (rows_to_span rows) j
    there j is = record {
      below = is.below;
      no_pivot = λ pivot. is.no_pivot (pivot_of_same_span (gf rows.order) (length rows.rows) (matrix_of K rows.rows) (length e.rows) (matrix_of K e.rows) j
          span.same.forth pivot);
    }

    back : (j : ℕ) → IsFreeColumn (rows_to_span rows) j → IsFreeColumn here j
    back j is = record {
      below = is.below;
      no_pivot = λ pivot. is.no_pivot (pivot_of_same_span (gf rows.order) (length e.rows) (matrix_of K e.rows) (length rows.rows) (matrix_of K rows.rows) j
          span.same.back pivot);
    }

pub units_of_rows : (rows : MatrixValue) (e : EchelonValue) (columns : List ℕ) (units : MatrixValue) → IsSpanOfRows rows e →
    HasUnitsModulo e columns units → HasUnitsModulo (rows_to_span rows) columns units
units_of_rows rows e columns units span of_span = record {
  field = all.field;
  width = all.width;
  count = all.count;
  well_formed = all.well_formed;
  each = λ t below. of_same_span rows e columns span.same (unit_row rows.cols t) (get_or units.rows t []) (all.each t below);
}
  where
    all : HasRowsModulo (record { order = rows.order; cols = rows.cols; rows = e.rows }) columns (unit_row rows.cols) rows.cols units
    all = subst (λ (x : EchelonValue). HasRowsModulo x columns (unit_row x.cols) x.cols units) (in_rows_field rows e span) of_span
