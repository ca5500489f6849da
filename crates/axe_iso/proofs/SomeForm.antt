-- A vector that generates everything gives a form, and a form and a module a match or none.
use Rattle.std.proofs.Common.{◌≡◌, ◌≢◌, ℕ, zero, suc, ◌<◌, ◌≤◌, ◌⊎◌, inl, inr, List, [], length, get_or, drop, Option, Some, None, Ok, refl, sym, ap, subst, ◌∙◌, arith}
use Rattle.std.proofs.Math.Seq.{drop-cons}
use Rattle.axe_algebra.specs.NumberField.{NumberField}
use Rattle.axe_algebra.specs.Field.{Field}
use Rattle.axe_algebra.specs.Vectors.{Matrix, zero_vector, HasShape}
use Rattle.axe_algebra.specs.Modules.{Module}
use Rattle.axe_algebra.specs.Words.{word_value}
use Rattle.axe_algebra.specs.Bridge.{vector_of, matrix_of, module_of, word_of}
use Rattle.axe_algebra.specs.Lists.{rows_of, IsMatrixOver, IsSquareOver}
use Rattle.axe_algebra.specs.ModulesOfLists.{IsStandardBasis, IsSubAction, GeneratesEverything}
use Rattle.axe_algebra.specs.PointTheorems.{IsNonzeroSpanned}
use Rattle.axe_algebra.proofs.ListEntries.{table_length, rows_over, matrix_of_rows}
use Rattle.axe_algebra.proofs.ListExistence.{standard_rows}
use Rattle.axe_algebra.proofs.ListModules.{module_shape}
use Rattle.axe_algebra.proofs.ListSpans.{independent_rows_are_few}
use Rattle.axe_algebra.proofs.ListWords.{is_word}
use Rattle.axe_algebra.proofs.StandardBases.{standard_basis_is_invariant}
use Rattle.axe_algebra.proofs.WordValues.{word_value_is_matrix}
use Rattle.axe_echelon.specs.Echelons.{IsNullSpaceMatrix}
use Rattle.axe_echelon.proofs.SomeMatrix.{matrix_of_rows_over, some_null_space}
use Rattle.axe_polynomial_algebra.specs.PolynomialsOfLists.{IsPolynomialValue}
use Rattle.axe_polynomial_algebra.proofs.ValueLists.{list_value_exists, value_square}
use Rattle.axe_field.specs.Order.{Order, order_number}
use Rattle.axe_field.specs.NumberFields.{number_field, gf}
use Rattle.axe_row.specs.Rows.{RowValue}
use Rattle.axe_matrix.specs.Limits.{most_columns}
use Rattle.axe_matrix.specs.Matrices.{MatrixValue, IsMatrix}
use Rattle.axe_poly.specs.Polys.{PolyValue, IsValueAt}
use Rattle.axe_spin.specs.Limits.{most_generators}
use Rattle.axe_spin.specs.Modules.{ModuleValue, IsModule, HasSquareGenerators}
use Rattle.axe_spin.specs.Spinning.{IsStandardMatrix}
use Rattle.axe_spin.specs.SpinLaws.{IsVectorOf}
use Rattle.axe_action.specs.Actions.{IsBasisAction}
use Rattle.axe_action.proofs.OneAction.{basis_action_is_one}
use Rattle.axe_action.proofs.SomeAction.{some_basis_action}
use Rattle.axe_word.specs.Words.{WordValue, IsWordIn, IsValueOf}
use Rattle.axe_word.specs.Drawing.{drawn_word}
use Rattle.axe_word.specs.PointsOfMatrix.{points_of, PointsLeft, GivesNext}
use Rattle.axe_word.proofs.ValueLaws.{drawn_word-in}
use Rattle.axe_word.proofs.TestedLaws.{tested_by, poly_value_over}
use Rattle.axe_iso.specs.Forms.{FormValue, IsNullSpaceOf, IsForm, IsFormFrom}
use Rattle.axe_iso.specs.Matches.{HasStandardMatrices, point_row, IsFirstMatch, IsMatch}
use Rattle.axe_iso.proofs.FormAnswers.{generator_is_nonzero}
use Rattle.axe_iso.proofs.FormLaws.{IsDecidingSpace, deciding_space, point_in_module, other_dimension, no_match}
use Rattle.axe_iso.proofs.Forming.{basis_is_square, form_made}
use Rattle.axe_iso.proofs.MatchLaws.{standard_matrices_of_action, rows_of_standard_matrices, action_of_standard_matrices}
use Rattle.axe_iso.proofs.Matched.{matched}
use Rattle.axe_iso.proofs.PointForms.{point_is_vector}
use mathlib.Core.List.{List-discrete}
use native.Mathlib.Decide.{ℕ_discrete}

-- ---- values of words, and their null spaces

pub some_value : (m : ModuleValue) (word : WordValue) → IsModule m → IsWordIn m word → (x : MatrixValue) × (IsValueOf m word x × IsMatrix x)
some_value m word is_module of_module = (
  record { order = m.order; cols = m.dim; rows = rows },
  (
    record { field = refl; columns = refl; value = record { square = square; value = matrix_of_rows K m.dim m.dim value shape } },
    matrix_of_rows_over m.order m.dim rows (omega (arith, is_module.over.positive)) is_module.dim_fits
        (omega (arith, is_module.dim_fits, square.length_is)) square.matrix,
  ),
)
  where
    K : NumberField
    K = number_field m.order

    F : Field
    F = gf m.order

    M : Module F
    M = module_of K m.dim m.generators

    value : Matrix F
    value = word_value F M (word_of K word)

    shape : HasShape F m.dim m.dim value
    shape = word_value_is_matrix F M (module_shape K m.dim m.generators is_module.over.square) (word_of K word)
        (is_word K m.dim m.generators word of_module.over)

    rows : List (List ℕ)
    rows = rows_of K m.dim m.dim value

    square : IsSquareOver K m.dim rows
    square = record { length_is = table_length m.dim m.dim (λ i j. (value i j).0); matrix = rows_over K m.dim m.dim value }

-- the value of a polynomial at a square matrix, and the null spaces of deciding matrices
some_value_at : (o : Order) (n : ℕ) (coefficients : List ℕ) (x : MatrixValue) → 0 < n → n ≤ most_columns → x.order ≡ o → x.cols ≡ n →
    IsSquareOver (number_field o) n x.rows → (value : MatrixValue) × (IsValueAt coefficients x value × IsMatrix value)
some_value_at o n coefficients x positive fits field columns square = of_rows (list_value_exists (number_field o) n coefficients x.rows square)
  where
    of_rows : (rows : List (List ℕ)) × IsPolynomialValue (number_field o) coefficients x.rows rows →
        (value : MatrixValue) × (IsValueAt coefficients x value × IsMatrix value)
    of_rows (rows, is) =
        let over : IsSquareOver (number_field o) n rows = value_square (number_field o) n x.rows square coefficients rows is in (
          record { order = o; cols = n; rows = rows },
          (
            record {
              field = sym field;
              columns = sym columns;
              value_is = subst (λ order. IsPolynomialValue (number_field order) coefficients x.rows rows) (sym field) is;
            },
            matrix_of_rows_over o n rows positive fits (omega (arith, fits, over.length_is)) over.matrix,
          ),
        )

module _ (m : ModuleValue) (seed number : ℕ) (is_module : IsModule m) where
  abbrev word : WordValue
  word = drawn_word seed number (order_number m.order) (length m.generators)

  abbrev SomeSpace : Option PolyValue → Type 0
  SomeSpace poly = (space : MatrixValue) × IsNullSpaceOf m seed number poly space

  drawn_has_value : (x : MatrixValue) × (IsValueOf m word x × IsMatrix x)
  drawn_has_value =
      some_value m word is_module (drawn_word-in m seed number (order_number m.order) (length m.generators) refl refl is_module.some_generator)

  space_of_value : (x : MatrixValue) × (IsValueOf m word x × IsMatrix x) → SomeSpace None
  space_of_value (x, (is_value, well)) = of_null (some_null_space x well (omega (arith, is_value.value.square.length_is, is_module.over.positive)))
    where
      of_null : (space : MatrixValue) × (IsNullSpaceMatrix x space × IsMatrix space) → SomeSpace None
      of_null (space, (is_null_space, of_space)) =
          (space, record { matrix = x; is_tested = tested_by m word x space is_value is_null_space of_space })

  module _ (p : PolyValue) (x : MatrixValue) (is_value : IsValueOf m word x) where
    space_at : (a : MatrixValue) × (IsValueAt p.coefficients x a × IsMatrix a) → SomeSpace (Some p)
    space_at (a, (is, well)) =
        of_null (some_null_space a well (omega (arith, (poly_value_over m word p x a is_value is).length_is, is_module.over.positive)))
      where
        of_null : (space : MatrixValue) × (IsNullSpaceMatrix a space × IsMatrix space) → SomeSpace (Some p)
        of_null (space, (is_null_space, of_space)) = (
          space,
          record {
            matrix = a;
            is_tested = record {
              argument = x;
              is_value = is_value;
              tested_at = record { value = is; tested = record { null_space = is_null_space; well_formed = of_space } };
            };
          },
        )

  space_by : (p : PolyValue) → (x : MatrixValue) × (IsValueOf m word x × IsMatrix x) → SomeSpace (Some p)
  space_by p (x, (is_value, well)) =
      space_at p x is_value
      (some_value_at m.order m.dim p.coefficients x is_module.over.positive is_module.dim_fits is_value.field is_value.columns is_value.value.square)

  pub some_space : (poly : Option PolyValue) → SomeSpace poly
  some_space None = space_of_value drawn_has_value
  some_space (Some p) = space_by p drawn_has_value

-- ---- standard bases, and the actions on them

pub some_standard_matrix : (m : ModuleValue) (v : RowValue) → IsModule m → length v.entries ≡ m.dim →
    vector_of (number_field m.order) v.entries ≢ zero_vector (gf m.order) → (basis : MatrixValue) × (IsStandardMatrix m v basis × IsMatrix basis)
some_standard_matrix m v is_module fits nonzero =
    from (standard_rows K m.dim m.generators is_module.over.square v.entries fits nonzero)
  where
    K : NumberField
    K = number_field m.order

    from : (rows : List (List ℕ)) × IsMatrixOver K m.dim rows × IsStandardBasis K m.dim m.generators v.entries rows →
        (basis : MatrixValue) × (IsStandardMatrix m v basis × IsMatrix basis)
    from (rows, over, standard) = (
      record { order = m.order; cols = m.dim; rows = rows },
      (
        record { field = refl; columns = refl; standard = standard },
        matrix_of_rows_over m.order m.dim rows (omega (arith, is_module.over.positive)) is_module.dim_fits
            (omega (arith, is_module.dim_fits, independent_rows_are_few K m.dim rows over standard.independent)) over,
      ),
    )

pub some_standard_action : (m : ModuleValue) (v : RowValue) (basis : MatrixValue) → IsStandardMatrix m v basis →
    (action : ModuleValue) × (IsBasisAction m basis action × HasSquareGenerators action)
some_standard_action m v basis standard =
    some_basis_action m basis
    (standard_basis_is_invariant (gf m.order) (module_of K m.dim m.generators) (vector_of K v.entries) (length basis.rows) (matrix_of K basis.rows) standard.standard)
  where
    K : NumberField
    K = number_field m.order

-- ---- forms

pub some_form : (m : ModuleValue) (seed number : ℕ) (poly : Option PolyValue) (v : RowValue) → IsModule m → IsVectorOf m v →
    GeneratesEverything (number_field m.order) m.dim m.generators v.entries → (form : FormValue) × IsFormFrom m seed number poly v form
some_form m seed number poly v is_module of_module generates =
    of_basis (some_standard_matrix m v is_module of_module.fits
    (generator_is_nonzero (gf m.order) (module_of K m.dim m.generators) (vector_of K v.entries) is_module.over.positive generates))
  where
    K : NumberField
    K = number_field m.order

    of_basis : (basis : MatrixValue) × (IsStandardMatrix m v basis × IsMatrix basis) → (form : FormValue) × IsFormFrom m seed number poly v form
    of_basis (basis, (standard, well)) = of_action (some_standard_action m v basis standard)
      where
        square : length basis.rows ≡ m.dim
        square = basis_is_square m v basis is_module of_module standard well generates

        of_action : (action : ModuleValue) × (IsBasisAction m basis action × HasSquareGenerators action) →
            (form : FormValue) × IsFormFrom m seed number poly v form
        of_action (action, (acts, squares)) = (
          record { matrices = action; basis = basis; word = number; poly = poly; seed = seed },
          form_made m v basis is_module of_module standard well generates action acts seed number poly poly refl (record {
            over = record { positive = omega (arith, acts.dimension, square, is_module.over.positive); square = squares };
            dim_fits = omega (arith, acts.dimension, square, is_module.dim_fits);
            some_generator = subst (λ k. 1 ≤ k) (sym acts.acts.count) is_module.some_generator;
            generators_fit = subst (λ k. k ≤ most_generators) (sym acts.acts.count) is_module.generators_fit;
          }),
        )

-- ---- matches

-- the first number with P below a bound, or none
abbrev FirstBelow : (ℕ → Type 0) → ℕ → Type 0
FirstBelow P n = (j : ℕ) × (j < n) × P j × ((i : ℕ) → i < j → ¬ (P i))

first_or_none : (P : ℕ → Type 0) (n : ℕ) → ((j : ℕ) → j < n → Dec (P j)) → FirstBelow P n ⊎ ((j : ℕ) → j < n → ¬ (P j))
first_or_none P zero decide = inr (λ j below. absurd (omega arith))
first_or_none P (suc n) decide = cases (first_or_none P n (λ j below. decide j (omega arith))) (decide n (omega arith))
  where
    later : (j : ℕ) × (j < n) × P j × ((i : ℕ) → i < j → ¬ (P i)) → FirstBelow P (suc n)
    later (j, below, here, before) = (j, omega arith, here, before)

    at : ((j : ℕ) → j < n → ¬ (P j)) → ¬ (P n) → (j : ℕ) → j < suc n → Dec (j ≡ n) → ¬ (P j)
    at before here j below (yes e) = subst (λ k. ¬ (P k)) (sym e) here
    at before here j below (no other) = before j (omega arith)

    cases : FirstBelow P n ⊎ ((j : ℕ) → j < n → ¬ (P j)) → Dec (P n) → FirstBelow P (suc n) ⊎ ((j : ℕ) → j < suc n → ¬ (P j))
    cases (inl found) _ = inl (later found)
    cases (inr none) (yes here) = inl (n, omega arith, here, none)
    cases (inr none) (no fails) = inr (λ j below. at none fails j below (ℕ_discrete j n))

module _ (form : FormValue) (m : ModuleValue) (is_form : IsForm form) (is_module : IsModule m) (field : m.order ≡ form.matrices.order)
    (dimension : m.dim ≡ form.matrices.dim) where
  abbrev K : NumberField
  K = number_field m.order

  -- whether the form's matrices are the standard matrices of a vector, decided by the action on its standard basis
  module _ (v : RowValue) (basis : MatrixValue) (standard : IsStandardMatrix m v basis) (action : ModuleValue) (acts : IsBasisAction m basis action)
      (squares : HasSquareGenerators action) where
    has_matrices : length basis.rows ≡ m.dim → action.generators ≡ form.matrices.generators → HasStandardMatrices m v.entries form.matrices
    has_matrices square same =
        standard_matrices_of_action K m.dim m.generators v.entries basis.rows form.matrices.dim form.matrices.generators (sym dimension) standard.standard square
        (subst (λ generators. IsSubAction K m.dim m.generators basis.rows generators) same acts.acts)

    square_of : HasStandardMatrices m v.entries form.matrices → length basis.rows ≡ m.dim
    square_of = rows_of_standard_matrices K m.dim m.generators v.entries basis.rows form.matrices.dim form.matrices.generators (sym dimension) standard.standard

    same_of : HasStandardMatrices m v.entries form.matrices → action.generators ≡ form.matrices.generators
    same_of has = ap (λ (a : ModuleValue). a.generators)
        (basis_action_is_one m basis action form.matrices standard.standard.independent (acts, squares) (
          record {
            field = sym field;
            dimension = sym dimension ∙ sym (square_of has);
            acts = action_of_standard_matrices K m.dim m.generators v.entries basis.rows form.matrices.dim form.matrices.generators (sym dimension)
                standard.standard has;
          },
          is_form.well_formed.over.square,
        ))

    decided : Dec (length basis.rows ≡ m.dim) → Dec (action.generators ≡ form.matrices.generators) → Dec (HasStandardMatrices m v.entries form.matrices)
    decided (yes square) (yes same) = yes (has_matrices square same)
    decided (no other) _ = no (λ has. other (square_of has))
    decided (yes square) (no other) = no (λ has. other (same_of has))

  matrices_or_not : (v : RowValue) → length v.entries ≡ m.dim → vector_of K v.entries ≢ zero_vector (gf m.order) →
      Dec (HasStandardMatrices m v.entries form.matrices)
  matrices_or_not v fits nonzero = of_basis (some_standard_matrix m v is_module fits nonzero)
    where
      of_basis : (basis : MatrixValue) × (IsStandardMatrix m v basis × IsMatrix basis) → Dec (HasStandardMatrices m v.entries form.matrices)
      of_basis (basis, (standard, well)) = of_action (some_standard_action m v basis standard)
        where
          of_action : (action : ModuleValue) × (IsBasisAction m basis action × HasSquareGenerators action) → Dec (HasStandardMatrices m v.entries form.matrices)
          of_action (action, (acts, squares)) =
              decided v basis standard action acts squares (ℕ_discrete (length basis.rows) m.dim)
              (List-discrete (List-discrete (List-discrete ℕ_discrete)) action.generators form.matrices.generators)

  module _ (count : length m.generators ≡ length form.matrices.generators) (space : MatrixValue)
      (is_space : IsNullSpaceOf m form.seed form.word form.poly space) where
    facts : IsDecidingSpace m form.seed form.word form.poly space
    facts = deciding_space m form.seed form.word form.poly space is_space

    abbrev Matches : ℕ → Type 0
    Matches j = HasStandardMatrices m (point_row space j).entries form.matrices

    point : (j : ℕ) → j < length (points_of space) → IsNonzeroSpanned K m.dim space.rows (get_or (points_of space) j [])
    point = point_in_module m _ space facts

    point_decided : (j : ℕ) → j < length (points_of space) → Dec (Matches j)
    point_decided j inside = matrices_or_not (point_row space j) (point j inside).over.length_is (point j inside).nonzero

    abbrev left_from : ℕ → PointsLeft
    left_from j = record { order = space.order; left = drop j (points_of space) }

    match_at : (j : ℕ) → j < length (points_of space) → Matches j → ((i : ℕ) → i < j → ¬ (Matches i)) → (t : MatrixValue) × IsFirstMatch form m t
    match_at j inside here before =
        of_basis (some_standard_matrix m (point_row space j) is_module (point j inside).over.length_is (point j inside).nonzero)
      where
        gives : GivesNext (left_from j) (Some (Ok (point_row space j))) (left_from (suc j))
        gives = (
          drop-cons (points_of space) j [] inside,
          refl,
          refl,
          (point_is_vector m form.seed form.word form.poly space is_space j inside
              (point_row space j) refl facts.field).well_formed,
        )

        of_basis : (basis : MatrixValue) × (IsStandardMatrix m (point_row space j) basis × IsMatrix basis) → (t : MatrixValue) × IsFirstMatch form m t
        of_basis (basis, (standard, well)) = (
          basis,
          matched form m space is_module is_space field dimension (left_from j) (left_from (suc j)) (point_row space j)
              (record { field = refl; place = j; rest = refl; tried = before }) gives basis
              (record { standard = standard; matches = here; well_formed = well }),
        )

    match_of_space : (answer : Option MatrixValue) × IsMatch form m answer
    match_of_space = cases (first_or_none Matches (length (points_of space)) point_decided)
      where
        first : (j : ℕ) × (j < length (points_of space)) × Matches j × ((i : ℕ) → i < j → ¬ (Matches i)) → (answer : Option MatrixValue) × IsMatch form m answer
        first (j, inside, here, before) = let (t, is_match) = match_at j inside here before in (Some t, is_match)

        cases : FirstBelow Matches (length (points_of space)) ⊎ ((j : ℕ) → j < length (points_of space) → ¬ (Matches j)) →
            (answer : Option MatrixValue) × IsMatch form m answer
        cases (inl found) = first found
        cases (inr none) = (None, no_match form m is_form is_module field count space is_space none)

pub some_match : (form : FormValue) (m : ModuleValue) → IsForm form → IsModule m → m.order ≡ form.matrices.order →
    length m.generators ≡ length form.matrices.generators → (answer : Option MatrixValue) × IsMatch form m answer
some_match form m is_form is_module field count = cases (ℕ_discrete m.dim form.matrices.dim)
  where
    cases : Dec (m.dim ≡ form.matrices.dim) → (answer : Option MatrixValue) × IsMatch form m answer
    cases (no other) = (None, other_dimension form.matrices m is_form.well_formed is_module field count other)
    cases (yes dimension) =
        let (space, is_space) = some_space m form.seed form.word is_module form.poly in
        match_of_space form m is_form is_module field dimension count space is_space
