-- There are actions on an invariant span and modulo it.
use Rattle.std.specs.Prelude.{◌≡◌, ℕ, ◌<◌, List, [], length, get_or}
use Rattle.std.specs.List.{All}
use Rattle.std.proofs.lemmas.List.Elements.{All-from_get_or}
use Rattle.axe_algebra.specs.NumberField.{NumberField}
use Rattle.axe_algebra.specs.Field.{Field}
use Rattle.axe_algebra.specs.Vectors.{Matrix, HasShape, times, unit_vector, subtract}
use Rattle.axe_algebra.specs.Spans.{InSpan}
use Rattle.axe_algebra.specs.Modules.{Module, image}
use Rattle.axe_algebra.specs.Actions
use Rattle.axe_algebra.specs.Actions.{unit_vectors}
use Rattle.axe_algebra.specs.Bridge.{field_of, matrix_of, module_of}
use Rattle.axe_algebra.specs.Lists.{listed, rows_of, IsMatrixOver, IsSquareOver}
use Rattle.axe_algebra.proofs.SubActions.{sub_action_exists}
use Rattle.axe_algebra.proofs.Quotients.{quotient_action_exists}
use Rattle.axe_algebra.proofs.ListEntries.{listed_length, listed_at, table_length, rows_length, rows_over, matrix_of_rows}
use Rattle.axe_algebra.proofs.ListModules.{module_shape}
use Rattle.axe_field.specs.NumberFields.{number_field}
use Rattle.axe_matrix.specs.Matrices.{MatrixValue}
use Rattle.axe_spin.specs.Modules.{ModuleValue, HasSquareGenerators, IsInvariantIn}
use Rattle.axe_action.specs.Actions.{IsBasisAction, IsActionModulo}
use mathlib.Core.Path.{refl, sym, ◌∙◌, ap, subst}
use native.Mathlib.Omega.{arith}

-- matrices of one size as lists
record AreListed (K : NumberField) (n count : ℕ) (g : ℕ → Matrix (field_of K)) (matrices : List (List (List ℕ))) : Type 0 where
  many : length matrices ≡ count
  square : All (IsSquareOver K n) matrices
  each : (i : ℕ) → i < count → g i ≡ matrix_of K (get_or matrices i [])

listed_matrices : (K : NumberField) (n count : ℕ) (g : ℕ → Matrix (field_of K)) → ((i : ℕ) → i < count → HasShape (field_of K) n n (g i)) →
    (matrices : List (List (List ℕ))) × AreListed K n count g matrices
listed_matrices K n count g shape = (
  listed count rows,
  record {
    many = listed_length count rows;
    square = All-from_get_or (IsSquareOver K n) (listed count rows) [] (λ i below.
        subst (IsSquareOver K n) (sym (listed_at count rows i [] (omega (arith, listed_length count rows))))
        (record { length_is = table_length n n (λ t s. (g i t s).0); matrix = rows_over K n n (g i) }));
    each = λ i below. sym (matrix_of_rows K n n (g i) (shape i below)) ∙ ap (matrix_of K) (sym (listed_at count rows i [] below));
  },
)
  where
    rows : ℕ → List (List ℕ)
    rows i = rows_of K n n (g i)

pub some_basis_action : (m : ModuleValue) (rows : MatrixValue) → IsInvariantIn m rows → (action : ModuleValue) × (IsBasisAction m rows action × HasSquareGenerators action)
some_basis_action m rows invariant = from (sub_action_exists F M k (matrix_of K rows.rows) invariant)
  where
    K : NumberField
    K = number_field m.order

    F : Field
    F = field_of K

    M : Module F
    M = module_of K m.dim m.generators

    k : ℕ
    k = length rows.rows

    of_list : (A : Module F) → Actions.IsSubAction F M k (matrix_of K rows.rows) A → (matrices : List (List (List ℕ))) × AreListed K k M.count A.generator matrices →
        (action : ModuleValue) × (IsBasisAction m rows action × HasSquareGenerators action)
    of_list A S (matrices, are) = (
      record { order = m.order; dim = k; generators = matrices },
      (
        record {
          field = refl;
          dimension = refl;
          acts = record {
            dimension = refl;
            count = are.many;
            square = λ i below. subst (HasShape F k k) (are.each i below) (S.square i below);
            acts = λ i t below inside. S.acts i t below inside ∙ ap (λ (g : Matrix F). times F k (g t) (matrix_of K rows.rows)) (are.each i below);
          };
        },
        are.square,
      ),
    )

    from : (A : Module F) × Actions.IsSubAction F M k (matrix_of K rows.rows) A → (action : ModuleValue) × (IsBasisAction m rows action × HasSquareGenerators action)
    from (A, S) = of_list A S (listed_matrices K k M.count A.generator S.square)

pub some_quotient : (m : ModuleValue) (rows : MatrixValue) → HasSquareGenerators m → IsMatrixOver (number_field m.order) m.dim rows.rows →
    (action : ModuleValue) × (IsActionModulo m rows action × HasSquareGenerators action)
some_quotient m rows square over =
    from (quotient_action_exists F M (module_shape K m.dim m.generators square) k (matrix_of K rows.rows) (rows_length K m.dim rows.rows over))
  where
    K : NumberField
    K = number_field m.order

    F : Field
    F = field_of K

    M : Module F
    M = module_of K m.dim m.generators

    k : ℕ
    k = length rows.rows

    of_list : (n : ℕ) (Q : Module F) → Actions.IsQuotientAction F M k (matrix_of K rows.rows) n Q →
        (matrices : List (List (List ℕ))) × AreListed K n M.count Q.generator matrices →
        (action : ModuleValue) × (IsActionModulo m rows action × HasSquareGenerators action)
    of_list n Q S (matrices, are) = (
      record { order = m.order; dim = n; generators = matrices },
      (
        record {
          field = refl;
          acts = record {
            dimension = refl;
            count = are.many;
            square = λ i below. subst (HasShape F n n) (are.each i below) (S.square i below);
            columns = S.columns;
            free = S.free;
            acts = λ i t below inside.
                subst (λ (g : Matrix F). InSpan F k (matrix_of K rows.rows)
                (subtract F (image F M (unit_vector F (S.columns t)) i) (times F n (g t) (unit_vectors F S.columns))))
                (are.each i below) (S.acts i t below inside);
          };
        },
        are.square,
      ),
    )

    from : (n : ℕ) × (Q : Module F) × Actions.IsQuotientAction F M k (matrix_of K rows.rows) n Q →
        (action : ModuleValue) × (IsActionModulo m rows action × HasSquareGenerators action)
    from (n, Q, S) = of_list n Q S (listed_matrices K n M.count Q.generator S.square)
