-- The values of words in the actions on a submodule and modulo it are the actions of the values there.
use Rattle.std.specs.Prelude.{◌≡◌, ℕ, ◌+◌, ◌<◌, ◌≤◌, List, [], ◌∷◌, ◌++◌, length, get_or, Result, Ok, Err}
use Rattle.std.specs.List.{All}
use Rattle.std.proofs.lemmas.List.{length-map, length-append, get_or-map, get_or_default, get_or_append_left, get_or-append-add}
use Rattle.std.proofs.lemmas.List.Elements.{All-push}
use Rattle.axe_algebra.specs.NumberField.{NumberField}
use Rattle.axe_algebra.specs.Field.{Field}
use Rattle.axe_algebra.specs.Vectors.{Matrix, HasRowsOfLength, subtract, times}
use Rattle.axe_algebra.specs.Modules.{Module, HasSquareMatrices}
use Rattle.axe_algebra.specs.Actions
use Rattle.axe_algebra.specs.Words.{Word, word_value}
use Rattle.axe_algebra.specs.Bridge.{field_of, matrix_of, module_of, word_of}
use Rattle.axe_algebra.specs.Lists.{IsMatrixOver, IsSquareOver}
use Rattle.axe_algebra.specs.SpansOfLists.{IsIndependent}
use Rattle.axe_algebra.specs.ModulesOfLists.{IsInvariant, IsSubAction, IsQuotientAction}
use Rattle.axe_algebra.specs.WordsOfLists.{IsWordValue}
use Rattle.axe_algebra.proofs.ProductLaws.{unit_length}
use Rattle.axe_algebra.proofs.Spanning.{span_row, span_same}
use Rattle.axe_algebra.proofs.ListEntries.{rows_length}
use Rattle.axe_algebra.proofs.ListModules.{module_shape}
use Rattle.axe_algebra.proofs.SubActions.{sub_action_is_unique}
use Rattle.axe_algebra.proofs.Quotients.{quotient_size_is_unique, quotient_action_is_unique}
use Rattle.axe_norton.proofs.CutWords.{IsSquareThroughout, value_is_square, span_has_values, value_acts, same_modulo_nothing, square_throughout, kept_throughout, sub_acts_throughout, quotient_acts_throughout}
use Rattle.axe_field.specs.Order.{order_number}
use Rattle.axe_field.specs.NumberFields.{number_field}
use Rattle.axe_row.specs.declared.refusals.Refusal.{Refusal}
use Rattle.axe_matrix.specs.Matrices.{MatrixValue, IsMatrix}
use Rattle.axe_spin.specs.Generators.{IsGeneratorMatrix}
use Rattle.axe_spin.specs.Modules.{ModuleValue, IsModule, IsInvariantIn, rows_of_each, module_of_matrices}
use Rattle.axe_action.specs.Actions.{IsBasisAction, IsActionModulo}
use Rattle.axe_action.proofs.GeneratorLists.{module_of_generators}
use Rattle.axe_action.proofs.SubRows.{module_rows_over}
use Rattle.axe_word.specs.Words.{WordValue, IsValueOf}
use Rattle.axe_word.specs.Drawing.{drawn_word}
use Rattle.axe_norton.specs.Known.{AreValuesOf, most_values, word_of_seed}
use Rattle.axe_norton.specs.Spaces.{IsProperSubmodule}
use mathlib.Core.Path.{refl, sym, ◌∙◌, ap, subst}
use native.Mathlib.Omega.{arith}
use native.Mathlib.Decide.{ℕ_discrete}

-- ---- lists of rows

module _ (K : NumberField) (n : ℕ) (generators values : List (List (List ℕ))) (words : ℕ → List (ℕ × List ℕ))
    (each : (i : ℕ) → i < length values → IsWordValue K n generators (words i) (get_or values i []))
    (rows : List (List ℕ)) (over : IsMatrixOver K n rows) where
  abbrev F : Field
  F = field_of K

  abbrev M : Module F
  M = module_of K n generators

  -- the module of the values
  abbrev V : Module F
  V = module_of K n values

  abbrev b : Matrix F
  b = matrix_of K rows

  abbrev word : ℕ → Word F
  word i = word_of K (words i)

  lengths : HasRowsOfLength F n b
  lengths = rows_length K n rows over

  values_are_square : All (IsSquareOver K n) values
  values_are_square i other below = subst (IsSquareOver K n) (get_or_default values i [] other below) (each i below).square

  -- the values keep an invariant span
  pub values_keep : IsInvariant K n generators rows → IsInvariant K n values rows
  values_keep invariant = record {
    images = λ t i inside below.
        span_same F (length rows) b (times F n (b t) (matrix_of K (get_or values i []))) (times F n (b t) (word_value F M (word i)))
        (ap (times F n (b t)) (each i below).value)
        (span_has_values F M (length rows) b lengths (kept_throughout K n generators (length rows) b invariant) (word i) (b t)
        (span_row F (length rows) b t inside));
  }

  -- their actions on the rows are the values in the action there
  pub sub_values : IsIndependent K rows → (subs cut : List (List (List ℕ))) → IsSubAction K n generators rows subs →
      IsSubAction K n values rows cut → All (IsSquareOver K (length rows)) cut → (i : ℕ) → i < length values →
      IsWordValue K (length rows) subs (words i) (get_or cut i [])
  sub_values independent subs cut action cut_action squares i below = record {
    square = squares i [] (omega (arith, cut_action.count));
    value = sub_action_is_unique F V (length rows) b (module_of K (length rows) cut) A independent cut_action made i below;
  }
    where
      D : Module F
      D = module_of K (length rows) subs

      square : IsSquareThroughout F D
      square = square_throughout K (length rows) subs (length rows) (λ j inside. action.square j (omega (arith, action.count)))

      A : Module F
      A = record { dimension = length rows; count = length values; generator = λ j. word_value F D (word j) }

      made : Actions.IsSubAction F V (length rows) b A
      made = record {
        dimension = refl;
        count = refl;
        square = λ j inside. value_is_square F D square (word j);
        acts = λ j t inside small.
            ap (times F n (b t)) (each j inside).value
            ∙ same_modulo_nothing F b (times F n (b t) (word_value F M (word j))) (times F (length rows) (word_value F D (word j) t) b)
            (value_acts F M 0 b lengths (λ l s none. absurd (omega arith)) b D (λ s here. lengths s) square
            (sub_acts_throughout K n generators (length rows) b subs action) (word j) t small);
      }

  -- their actions modulo the rows are the values in the action modulo them
  module _ (invariant : IsInvariant K n generators rows) (d : ℕ) (quotients : List (List (List ℕ))) (action : IsQuotientAction K n generators rows d quotients)
      (e : ℕ) (cut : List (List (List ℕ))) (cut_action : IsQuotientAction K n values rows e cut) where
    abbrev D : Module F
    D = module_of K d quotients

    square : IsSquareThroughout F D
    square = square_throughout K d quotients d (λ j inside. action.square j (omega (arith, action.count)))

    abbrev Q : Module F
    Q = record { dimension = d; count = length values; generator = λ j. word_value F D (word j) }

    abbrev r : Matrix F
    r = Actions.unit_vectors F action.columns

    made : Actions.IsQuotientAction F V (length rows) b d Q
    made = record {
      dimension = refl;
      count = refl;
      square = λ j inside. value_is_square F D square (word j);
      columns = action.columns;
      free = action.free;
      acts = λ j t inside small.
          span_same F (length rows) b (subtract F (times F n (r t) (matrix_of K (get_or values j []))) (times F d (word_value F D (word j) t) r))
          (subtract F (times F n (r t) (word_value F M (word j))) (times F d (word_value F D (word j) t) r))
          (ap (λ (a : Matrix F). subtract F (times F n (r t) a) (times F d (word_value F D (word j) t) r)) (each j inside).value)
          (value_acts F M (length rows) b lengths (kept_throughout K n generators (length rows) b invariant) r D (λ s here. unit_length F n (action.columns s) (action.free.each s here).below) square
          (quotient_acts_throughout K n generators (length rows) b d quotients action) (word j) t small);
    }

    shape : HasSquareMatrices F V
    shape = module_shape K n values values_are_square

    pub quotient_size : d ≡ e
    quotient_size = quotient_size_is_unique F V shape (length rows) b lengths d e Q (module_of K e cut) made cut_action

    pub quotient_values : All (IsSquareOver K e) cut → (i : ℕ) → i < length values → IsWordValue K d quotients (words i) (get_or cut i [])
    quotient_values squares i below = record {
      square = subst (λ k. IsSquareOver K k (get_or cut i [])) (sym quotient_size) (squares i [] (omega (arith, cut_action.count)));
      value = sym (quotient_action_is_unique F V shape (length rows) b lengths d Q (module_of K d cut) made of_one_size i below);
    }
      where
        of_one_size : IsQuotientAction K n values rows d cut
        of_one_size = subst (λ k. IsQuotientAction K n values rows k cut) (sym quotient_size) cut_action

-- ---- values of words of a seed

-- the module whose generators are the values
abbrev pub module_of_values : ModuleValue → List MatrixValue → ModuleValue
module_of_values m values = record { order = m.order; dim = m.dim; generators = rows_of_each values }

-- modules over one field with as many generators have the same words of a seed
same_word : (m n : ModuleValue) (seed number : ℕ) → n.order ≡ m.order → length n.generators ≡ length m.generators →
    word_of_seed m seed number ≡ word_of_seed n seed number
same_word m n seed number field count =
    ap (λ q. drawn_word seed number q (length m.generators)) (ap order_number (sym field)) ∙ ap (drawn_word seed number (order_number n.order)) (sym count)

-- the rows of a listed matrix
rows_of_listed : (matrices : List MatrixValue) (i : ℕ) (other : MatrixValue) → i < length matrices →
    get_or (rows_of_each matrices) i [] ≡ (get_or matrices i other).rows
rows_of_listed matrices i other below = get_or-map (λ (x : MatrixValue). x.rows) matrices i other [] below

module _ (m : ModuleValue) (seed : ℕ) (values : List MatrixValue) (are : AreValuesOf m seed values) where
  -- values are square matrices of the module's dimension
  values_are_generators : All (IsGeneratorMatrix m.order m.dim) values
  values_are_generators i other below = let v = are.each i other below in record {
    field = v.field;
    columns = v.columns;
    rows = v.value.square.length_is;
    well_formed = are.well_formed i other below;
  }

  -- some values make a module
  pub values_make_module : 1 ≤ length values → module_of_matrices values ≡ Ok (module_of_values m values)
  values_make_module some = module_of_generators m.order m.dim values some values_are_generators

  -- and are not refused
  pub values_not_refused : (refusal : Refusal) → 1 ≤ length values → Err refusal ≡ module_of_matrices values → ⊥
  values_not_refused refusal some refused = different (module_of_values m values) (refused ∙ values_make_module some)
    where
      different : (made : ModuleValue) → Err refusal ≡ Ok made → ⊥
      different made same = cc

  pub module_is : (made : ModuleValue) → 1 ≤ length values → Ok made ≡ module_of_matrices values → made ≡ module_of_values m values
  module_is made some is = same_module made (module_of_values m values) (is ∙ values_make_module some)
    where
      same_module : (a b : ModuleValue) → ◌≡◌ {A = Result ModuleValue Refusal} (Ok a) (Ok b) → a ≡ b
      same_module a b same = cc

  each_value : (i : ℕ) → i < length (rows_of_each values) →
      IsWordValue (number_field m.order) m.dim m.generators (word_of_seed m seed (i + 1)) (get_or (rows_of_each values) i [])
  each_value i below =
      subst (IsWordValue (number_field m.order) m.dim m.generators (word_of_seed m seed (i + 1)))
      (sym (rows_of_listed values i nothing inside)) (are.each i nothing inside).value
    where
      nothing : MatrixValue
      nothing = record { order = m.order; cols = m.dim; rows = [] }

      inside : i < length values
      inside = omega (arith, length-map values (λ (x : MatrixValue). x.rows))

  -- the generators of a module are values in another with as many generators
  module _ (n action : ModuleValue) (field : n.order ≡ m.order) (count : length n.generators ≡ length m.generators)
      (action_field : action.order ≡ m.order) (action_dimension : action.dim ≡ n.dim) (action_count : length action.generators ≡ length (rows_of_each values))
      (each : (i : ℕ) → i < length (rows_of_each values) →
      IsWordValue (number_field m.order) n.dim n.generators (word_of_seed m seed (i + 1)) (get_or action.generators i []))
      (cut : List MatrixValue) (lists : rows_of_each cut ≡ action.generators) (all : All (IsGeneratorMatrix action.order action.dim) cut) where
    as_many : length cut ≡ length values
    as_many =
        sym (length-map cut (λ (x : MatrixValue). x.rows)) ∙ ap (λ (l : List (List (List ℕ))). length l) lists ∙ action_count
        ∙ length-map values (λ (x : MatrixValue). x.rows)

    are_values : AreValuesOf n seed cut
    are_values = record {
      each = λ i other below. record {
        field = (all i other below).field ∙ action_field ∙ sym field;
        columns = (all i other below).columns ∙ action_dimension;
        value = value i other below;
      };
      well_formed = λ i other below. (all i other below).well_formed;
      few = omega (arith, as_many, are.few);
    }
      where
        value : (i : ℕ) (other : MatrixValue) → i < length cut →
            IsWordValue (number_field n.order) n.dim n.generators (word_of_seed n seed (i + 1)) (get_or cut i other).rows
        value i other below =
            subst (λ o. IsWordValue (number_field o) n.dim n.generators (word_of_seed n seed (i + 1)) (get_or cut i other).rows) (sym field)
            (subst (λ (w : WordValue). IsWordValue (number_field m.order) n.dim n.generators w (get_or cut i other).rows)
            (same_word m n seed (i + 1) field count)
            (subst (IsWordValue (number_field m.order) n.dim n.generators (word_of_seed m seed (i + 1)))
            (ap (λ (l : List (List (List ℕ))). get_or l i []) (sym lists) ∙ rows_of_listed cut i other below)
            (each i (omega (arith, as_many, length-map values (λ (x : MatrixValue). x.rows))))))

  module _ (space : MatrixValue) (is : IsProperSubmodule m space) where
    over : IsMatrixOver (number_field m.order) m.dim space.rows
    over = module_rows_over m space is.well_formed is.field is.columns

    abbrev words : ℕ → WordValue
    words i = word_of_seed m seed (i + 1)

    -- the values keep a submodule
    pub space_is_kept : IsInvariantIn (module_of_values m values) space
    space_is_kept = values_keep (number_field m.order) m.dim m.generators (rows_of_each values) words each_value space.rows over is.invariant

    -- their actions on it are the values there
    pub cut_to_sub : (sub action : ModuleValue) → IsBasisAction m space sub → IsBasisAction (module_of_values m values) space action → IsModule action →
        (cut : List MatrixValue) → rows_of_each cut ≡ action.generators → All (IsGeneratorMatrix action.order action.dim) cut → AreValuesOf sub seed cut
    cut_to_sub sub action acts cut_acts formed cut lists all =
        are_values sub action acts.field acts.acts.count cut_acts.field (cut_acts.dimension ∙ sym acts.dimension) cut_acts.acts.count each cut lists all
      where
        squares : All (IsSquareOver (number_field m.order) (length space.rows)) action.generators
        squares =
            subst (λ d. All (IsSquareOver (number_field m.order) d) action.generators) cut_acts.dimension
            (subst (λ o. All (IsSquareOver (number_field o) action.dim) action.generators) cut_acts.field formed.over.square)

        each : (i : ℕ) → i < length (rows_of_each values) →
            IsWordValue (number_field m.order) sub.dim sub.generators (words i) (get_or action.generators i [])
        each i below =
            subst (λ d. IsWordValue (number_field m.order) d sub.generators (words i) (get_or action.generators i [])) (sym acts.dimension)
            (sub_values (number_field m.order) m.dim m.generators (rows_of_each values) words each_value space.rows over is.independent
            sub.generators action.generators acts.acts cut_acts.acts squares i below)

    -- and their actions modulo it are the values there
    pub cut_to_quotient : (quotient action : ModuleValue) → IsActionModulo m space quotient → IsActionModulo (module_of_values m values) space action →
        IsModule action → (cut : List MatrixValue) → rows_of_each cut ≡ action.generators → All (IsGeneratorMatrix action.order action.dim) cut →
        AreValuesOf quotient seed cut
    cut_to_quotient quotient action acts cut_acts formed cut lists all =
        are_values quotient action acts.field acts.acts.count cut_acts.field (sym size) cut_acts.acts.count each cut lists all
      where
        size : quotient.dim ≡ action.dim
        size =
            quotient_size (number_field m.order) m.dim m.generators (rows_of_each values) words each_value space.rows over is.invariant
            quotient.dim quotient.generators acts.acts action.dim action.generators cut_acts.acts

        squares : All (IsSquareOver (number_field m.order) action.dim) action.generators
        squares = subst (λ o. All (IsSquareOver (number_field o) action.dim) action.generators) cut_acts.field formed.over.square

        each : (i : ℕ) → i < length (rows_of_each values) →
            IsWordValue (number_field m.order) quotient.dim quotient.generators (words i) (get_or action.generators i [])
        each i below =
            quotient_values (number_field m.order) m.dim m.generators (rows_of_each values) words each_value space.rows over is.invariant
            quotient.dim quotient.generators acts.acts action.dim action.generators cut_acts.acts squares i below

-- one more value, the next
pub one_more_value : (m : ModuleValue) (seed number : ℕ) (values more : List MatrixValue) (value : MatrixValue) → AreValuesOf m seed values →
    number ≡ length values + 1 → length values < most_values → IsMatrix value → IsValueOf m (word_of_seed m seed number) value → more ≡ values ++ value ∷ [] →
    AreValuesOf m seed more
one_more_value m seed number values more value are next room formed is pushed = subst (AreValuesOf m seed) (sym pushed) (record {
  each = λ i other below. each i other below (ℕ_discrete i (length values));
  well_formed = All-push IsMatrix values value are.well_formed formed;
  few = omega (arith, length-append values (value ∷ []));
})
  where
    each : (i : ℕ) (other : MatrixValue) → i < length (values ++ value ∷ []) → Dec (i ≡ length values) →
        IsValueOf m (word_of_seed m seed (i + 1)) (get_or (values ++ value ∷ []) i other)
    each i other below (yes last) =
        subst (λ k. IsValueOf m (word_of_seed m seed (k + 1)) (get_or (values ++ value ∷ []) k other))
        (let place : length values + 0 ≡ i = omega arith in place)
        (subst (IsValueOf m (word_of_seed m seed (length values + 0 + 1))) (sym (get_or-append-add values (value ∷ []) 0 other))
        (subst (λ k. IsValueOf m (word_of_seed m seed k) value) (let same : number ≡ length values + 0 + 1 = omega arith in same) is))
    each i other below (no before) =
        let inside : i < length values = omega (arith, length-append values (value ∷ [])) in
        subst (IsValueOf m (word_of_seed m seed (i + 1))) (sym (get_or_append_left values (value ∷ []) other i inside)) (are.each i other inside)
