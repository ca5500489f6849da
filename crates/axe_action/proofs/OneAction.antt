-- The actions on a space and modulo it are determined.
use Rattle.std.specs.Prelude.{◌≡◌, ℕ, ◌<◌, List, [], length, get_or}
use Rattle.std.specs.List.{All}
use Rattle.std.proofs.lemmas.List.{ext_get_or}
use Rattle.axe_algebra.specs.NumberField.{NumberField}
use Rattle.axe_algebra.specs.Vectors.{HasRowsOfLength}
use Rattle.axe_algebra.specs.Modules.{Module, HasSquareMatrices}
use Rattle.axe_algebra.specs.Bridge.{field_of, matrix_of, module_of}
use Rattle.axe_algebra.specs.Lists.{IsMatrixOver, IsSquareOver}
use Rattle.axe_algebra.specs.SpansOfLists.{IsIndependent}
use Rattle.axe_algebra.specs.ModulesOfLists.{IsQuotientAction}
use Rattle.axe_algebra.proofs.SubActions.{sub_action_is_unique}
use Rattle.axe_algebra.proofs.Quotients.{quotient_size_is_unique, quotient_action_is_unique}
use Rattle.axe_algebra.proofs.ListEntries.{rows_length, same_matrix}
use Rattle.axe_algebra.proofs.ListModules.{module_shape}
use Rattle.axe_field.specs.Order.{Order}
use Rattle.axe_field.specs.NumberFields.{number_field}
use Rattle.axe_matrix.specs.Matrices.{MatrixValue}
use Rattle.axe_spin.specs.Modules.{ModuleValue, HasSquareGenerators}
use Rattle.axe_action.specs.Actions.{IsBasisAction, IsActionModulo}
use mathlib.Core.Path.{refl, sym, ◌∙◌, subst}
use native.Mathlib.Omega.{arith}

-- modules with the same parts are the same
pub same_module : (a b : ModuleValue) → a.order ≡ b.order → a.dim ≡ b.dim → a.generators ≡ b.generators → a ≡ b
same_module a b orders dims generators = λ i. record { order = orders i; dim = dims i; generators = generators i }

-- lists of square matrices over one field, of one size, with the same matrices
pub same_generators : (K : NumberField) (n : ℕ) (a b : List (List (List ℕ))) → All (IsSquareOver K n) a → All (IsSquareOver K n) b → length a ≡ length b →
    ((i : ℕ) → i < length a → matrix_of K (get_or a i []) ≡ matrix_of K (get_or b i [])) → a ≡ b
same_generators K n a b over_a over_b counts same =
    ext_get_or [] a b counts (λ i below.
    let first : IsSquareOver K n (get_or a i []) = over_a i [] below in
    let second : IsSquareOver K n (get_or b i []) = over_b i [] (omega arith) in
    same_matrix K n (get_or a i []) (get_or b i []) (first.length_is ∙ sym second.length_is) first.matrix second.matrix (same i below))

-- the generators over the field and of the size that are their own
pub squares_of : (a : ModuleValue) (o : Order) (n : ℕ) → HasSquareGenerators a → a.order ≡ o → a.dim ≡ n → All (IsSquareOver (number_field o) n) a.generators
squares_of a o n square orders dims =
    subst (λ k. All (IsSquareOver (number_field o) k) a.generators) dims (subst (λ order. All (IsSquareOver (number_field order) a.dim) a.generators) orders square)

pub basis_action_is_one : (m : ModuleValue) (rows : MatrixValue) (a b : ModuleValue) → IsIndependent (number_field m.order) rows.rows →
    IsBasisAction m rows a × HasSquareGenerators a → IsBasisAction m rows b × HasSquareGenerators b → a ≡ b
basis_action_is_one m rows a b independent (first, of_a) (second, of_b) =
    same_module a b (first.field ∙ sym second.field) (first.dimension ∙ sym second.dimension)
    (same_generators K (length rows.rows) a.generators b.generators (squares_of a m.order (length rows.rows) of_a first.field first.dimension)
    (squares_of b m.order (length rows.rows) of_b second.field second.dimension) (first.acts.count ∙ sym second.acts.count)
    (λ i below. sub_action_is_unique (field_of K) (module_of K m.dim m.generators) (length rows.rows) (matrix_of K rows.rows)
    (module_of K (length rows.rows) a.generators) (module_of K (length rows.rows) b.generators) independent first.acts second.acts i
    (subst (λ k. i < k) first.acts.count below)))
  where
    K : NumberField
    K = number_field m.order

pub quotient_is_one : (m : ModuleValue) (rows : MatrixValue) (a b : ModuleValue) → HasSquareGenerators m → IsMatrixOver (number_field m.order) m.dim rows.rows →
    IsActionModulo m rows a → HasSquareGenerators a → IsActionModulo m rows b → HasSquareGenerators b → a ≡ b
quotient_is_one m rows a b square over first of_a second of_b =
    same_module a b (first.field ∙ sym second.field) sizes
    (same_generators K a.dim a.generators b.generators (squares_of a m.order a.dim of_a first.field refl) (squares_of b m.order a.dim of_b second.field (sym sizes))
    (first.acts.count ∙ sym second.acts.count)
    (λ i below. quotient_action_is_unique (field_of K) M shape (length rows.rows) (matrix_of K rows.rows) lengths a.dim
    (module_of K a.dim a.generators) (module_of K a.dim b.generators) first.acts again i (subst (λ k. i < k) first.acts.count below)))
  where
    K : NumberField
    K = number_field m.order

    M : Module (field_of K)
    M = module_of K m.dim m.generators

    shape : HasSquareMatrices (field_of K) M
    shape = module_shape K m.dim m.generators square

    lengths : HasRowsOfLength (field_of K) m.dim (matrix_of K rows.rows)
    lengths = rows_length K m.dim rows.rows over

    sizes : a.dim ≡ b.dim
    sizes = quotient_size_is_unique (field_of K) M shape (length rows.rows) (matrix_of K rows.rows) lengths a.dim b.dim
        (module_of K a.dim a.generators) (module_of K b.dim b.generators) first.acts second.acts

    again : IsQuotientAction K m.dim m.generators rows.rows a.dim b.generators
    again = subst (λ n. IsQuotientAction K m.dim m.generators rows.rows n b.generators) (sym sizes) second.acts
