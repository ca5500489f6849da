-- The action of a generator on independent rows, row by row, and that of a module.
use Rattle.std.specs.Prelude.{◌≡◌, ℕ, ◌+◌, ◌<◌, ◌≤◌, List, [], ◌∷◌, ◌++◌, length, get_or, None, Result}
use Rattle.std.proofs.lemmas.List.{length-append, get_or_append_left, get_or-append-add}
use Rattle.axe_algebra.specs.NumberField.{NumberField}
use Rattle.axe_algebra.specs.Lists.{IsMatrixOver, IsSquareOver}
use Rattle.axe_algebra.specs.SpansOfLists.{IsIndependent, IsSpanned}
use Rattle.axe_algebra.specs.ModulesOfLists.{IsSubAction}
use Rattle.axe_algebra.proofs.ListSpans.{spanned_by_coefficients}
use Rattle.axe_algebra.proofs.ListModules.{invariant_by_images, images_of_invariant, sub_action_by_rows}
use Rattle.axe_field.specs.NumberFields.{number_field}
use Rattle.axe_row.specs.Rows.{RowValue}
use Rattle.axe_row.specs.Refusals.{AnswersOr}
use Rattle.axe_row.specs.declared.refusals.Refusal.{Refusal}
use Rattle.axe_matrix.specs.Matrices.{MatrixValue, IsMatrix}
use Rattle.axe_echelon.specs.Echelons.{EchelonValue, IsEchelon, AreCoordinates, IsSpanOfRows}
use Rattle.axe_echelon.proofs.FormLaws.{below_or_at}
use Rattle.axe_echelon.proofs.InverseLaws.{matrix_over}
use Rattle.axe_spin.specs.Modules.{ModuleValue, IsModule, IsInvariantIn, generator_of, rows_of_each, module_of_matrices}
use Rattle.axe_spin.specs.Generators.{IsGeneratorMatrix}
use Rattle.axe_spin.proofs.ModuleLaws.{square_over}
use Rattle.axe_action.specs.Actions.{action_late, IsActionOverRows}
use Rattle.axe_action.specs.Coordinates.{row_times, HasImagesIn, IsActionRow, HasActionRows}
use Rattle.axe_action.proofs.GeneratorLists.{AreNewGenerators, module_of_made}
use Rattle.std.specs.List.{All}
use Rattle.std.proofs.lemmas.List.{length-map}
use Rattle.std.proofs.lemmas.List.Elements.{All-map, All-weaker}
use mathlib.Core.Path.{refl, sym, ◌∙◌, ap, subst}
use native.Mathlib.Omega.{arith}

-- the echelon form of independent rows
abbrev pub form_of : MatrixValue → List (List ℕ) → EchelonValue
form_of g rows = record { order = g.order; cols = g.cols; rows = rows }

pub span_is_form : (rows : MatrixValue) (e : EchelonValue) (g : MatrixValue) → IsSpanOfRows rows e → IsIndependent (number_field rows.order) rows.rows →
    rows.order ≡ g.order → rows.cols ≡ g.cols → e ≡ form_of g rows.rows
span_is_form rows e g span independent field columns =
    let orders : e.order ≡ g.order = span.field ∙ field in
    let widths : e.cols ≡ g.cols = span.columns ∙ columns in
    let lists : e.rows ≡ rows.rows = span.all independent in
    λ i. record { order = orders i; cols = widths i; rows = lists i }

-- the rows of such a form
pub form_over : (g : MatrixValue) (rows : List (List ℕ)) (e : EchelonValue) → e ≡ form_of g rows → IsEchelon e → IsMatrixOver (number_field g.order) g.cols rows
form_over g rows e is h = let formed : IsEchelon (form_of g rows) = subst IsEchelon is h in formed.over

-- the coefficients of an image
pub action_row_of : (g : MatrixValue) (rows : List (List ℕ)) (t : ℕ) (e : EchelonValue) (image coefficients : RowValue) → e ≡ form_of g rows →
    image.entries ≡ row_times g rows t → AreCoordinates e image.entries coefficients → IsActionRow g rows t coefficients.entries
action_row_of g rows t e image coefficients is image_is are =
    let here : AreCoordinates (form_of g rows) image.entries coefficients = subst (λ x. AreCoordinates x image.entries coefficients) is are in
    record { over = here.over; combine = sym image_is ∙ here.combine }

-- an image outside the span
pub image_outside : (g : MatrixValue) (rows : List (List ℕ)) (t : ℕ) (e : EchelonValue) (image : RowValue) → e ≡ form_of g rows →
    image.entries ≡ row_times g rows t → t < length rows → ¬ (IsSpanned (number_field e.order) e.rows image.entries) → ¬ (HasImagesIn g rows rows)
image_outside g rows t e image is image_is below outside = λ images.
    outside (subst (λ (x : EchelonValue). IsSpanned (number_field x.order) x.rows image.entries) (sym is)
    (subst (IsSpanned (number_field g.order) rows) (sym image_is) (images t below)))

-- one more row
pub action_rows_more : (g : MatrixValue) (rows : List (List ℕ)) (i : ℕ) (action next : MatrixValue) (row : RowValue) → HasActionRows g rows i action →
    IsActionRow g rows i row.entries → next ≡ record { order = action.order; cols = action.cols; rows = action.rows ++ row.entries ∷ [] } → IsMatrix next →
    HasActionRows g rows (i + 1) next
action_rows_more g rows i action next row so_far is_row is h = record {
  field = ap (λ (x : MatrixValue). x.order) is ∙ so_far.field;
  columns = ap (λ (x : MatrixValue). x.cols) is ∙ so_far.columns;
  count = ap (λ (x : MatrixValue). length x.rows) is
      ∙ (let grown : length (action.rows ++ row.entries ∷ []) ≡ i + 1 = omega (arith, so_far.count, length-append action.rows (row.entries ∷ [])) in grown);
  well_formed = h;
  each = λ t inside. below_or_at (λ t. IsActionRow g rows t (get_or next.rows t [])) i
      (λ t before. subst (IsActionRow g rows t) (sym (row_before t before)) (so_far.each t before))
      (subst (IsActionRow g rows i) (sym row_last) is_row)
      t (omega arith);
}
  where
    row_before : (t : ℕ) → t < i → get_or next.rows t [] ≡ get_or action.rows t []
    row_before t before =
        ap (λ (x : MatrixValue). get_or x.rows t []) is ∙ get_or_append_left action.rows (row.entries ∷ []) [] t (omega (arith, so_far.count))

    row_last : get_or next.rows i [] ≡ row.entries
    row_last =
        ap (λ (x : MatrixValue). get_or x.rows i []) is
        ∙ ap (λ k. get_or (action.rows ++ row.entries ∷ []) k []) (let same : i ≡ length action.rows + 0 = omega (arith, so_far.count) in same)
        ∙ get_or-append-add action.rows (row.entries ∷ []) 0 []

-- with all rows the images are in the span
pub action_images : (g : MatrixValue) (rows : List (List ℕ)) (i : ℕ) (action : MatrixValue) → HasActionRows g rows i action →
    IsMatrixOver (number_field g.order) g.cols rows → length rows ≤ i → HasImagesIn g rows rows
action_images g rows i action all over whole t below =
    let row : IsActionRow g rows t (get_or action.rows t []) = all.each t (omega arith) in
    spanned_by_coefficients (number_field g.order) g.cols rows (row_times g rows t) (get_or action.rows t []) over row.over row.combine

-- the matrix is the action of generator j
abbrev pub IsActionOf : ModuleValue → List (List ℕ) → ℕ → List (List ℕ) → Type 0
IsActionOf m rows j matrix = (t : ℕ) → t < length rows → IsActionRow (generator_of m j) rows t (get_or matrix t [])

pub action_is_generator : (g : MatrixValue) (rows : List (List ℕ)) (action : MatrixValue) → HasActionRows g rows (length rows) action →
    IsGeneratorMatrix g.order (length rows) action
action_is_generator g rows action all = record { field = all.field; columns = all.columns; rows = all.count; well_formed = all.well_formed }

-- a generator that maps the rows out of their span
pub outside_invariant : (m : ModuleValue) (rows : MatrixValue) (j : ℕ) → IsModule m → IsMatrixOver (number_field m.order) m.dim rows.rows →
    j < length m.generators → IsInvariantIn m rows → HasImagesIn (generator_of m j) rows.rows rows.rows
outside_invariant m rows j h over below invariant t inside =
    images_of_invariant (number_field m.order) m.dim m.generators rows.rows h.over.square over invariant t j inside below

-- rows over the field of a generator, and of its length
pub rows_over_field : (g rows : MatrixValue) → IsMatrix rows → rows.order ≡ g.order → rows.cols ≡ g.cols →
    IsMatrixOver (number_field g.order) g.cols rows.rows
rows_over_field g rows h field columns =
    subst (λ n. IsMatrixOver (number_field g.order) n rows.rows) columns
    (subst (λ o. IsMatrixOver (number_field o) rows.cols rows.rows) field (matrix_over rows h))

-- rows of the module
pub module_rows_over : (m : ModuleValue) (rows : MatrixValue) → IsMatrix rows → rows.order ≡ m.order → rows.cols ≡ m.dim →
    IsMatrixOver (number_field m.order) m.dim rows.rows
module_rows_over m rows h field columns = rows_over_field (generator_of m 0) rows h field columns

-- the module of the actions of all generators
pub action_made : (m : ModuleValue) (rows : MatrixValue) (matrices : List MatrixValue) (result : Result ModuleValue Refusal) → IsModule m →
    IsMatrixOver (number_field m.order) m.dim rows.rows →
    AreNewGenerators m.order (length rows.rows) (IsActionOf m rows.rows) (length m.generators) matrices → result ≡ module_of_matrices matrices →
    AnswersOr None (IsActionOverRows m rows) (action_late m rows) result
action_made m rows matrices result h over are is =
    subst (AnswersOr None (IsActionOverRows m rows) (action_late m rows))
    (sym (module_of_made m.order (length rows.rows) (IsActionOf m rows.rows) (length m.generators) matrices result are h.some_generator is))
    (invariant, record { field = refl; dimension = refl; acts = acts })
  where
    K : NumberField
    K = number_field m.order

    count : length (rows_of_each matrices) ≡ length m.generators
    count = length-map matrices (λ (x : MatrixValue). x.rows) ∙ are.as_many

    squares : All (IsSquareOver K (length rows.rows)) (rows_of_each matrices)
    squares = All-map (IsSquareOver K (length rows.rows)) (λ (x : MatrixValue). x.rows) matrices
        (All-weaker (IsGeneratorMatrix m.order (length rows.rows)) (λ (x : MatrixValue). IsSquareOver K (length rows.rows) x.rows)
        (square_over m.order (length rows.rows)) matrices are.each)

    invariant : IsInvariantIn m rows
    invariant = invariant_by_images K m.dim m.generators rows.rows h.over.square over (λ t i inside below.
        let row : IsActionRow (generator_of m i) rows.rows t (get_or (get_or (rows_of_each matrices) i []) t []) = are.made i below t inside in
        spanned_by_coefficients K m.dim rows.rows (row_times (generator_of m i) rows.rows t) (get_or (get_or (rows_of_each matrices) i []) t []) over row.over row.combine)

    acts : IsSubAction K m.dim m.generators rows.rows (rows_of_each matrices)
    acts = sub_action_by_rows K m.dim m.generators rows.rows (rows_of_each matrices) h.over.square over squares count
        (λ i t below inside. (are.made i below t inside).combine)
