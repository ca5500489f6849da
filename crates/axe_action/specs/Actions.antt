-- Actions of a module on invariant spaces and modulo them, duals, annihilators, extended bases and conjugates.
use Rattle.std.specs.Prelude.{◌≡◌, ℕ, ◌<◌, ◌==◌, ◌&&◌, ◌⊎◌, not, List, [], length, get_or}
use Rattle.std.specs.Prelude.{Option, Some, None, if◌then◌else◌}
use Rattle.axe_algebra.specs.Lists.{IsMatrixOver}
use Rattle.axe_algebra.specs.ListArithmetic.{IsConjugate, transposed_generators}
use Rattle.axe_algebra.specs.SpansOfLists.{IsReducedBasis, IsAnnihilatorBasis, IsExtendedBasis}
use Rattle.axe_algebra.specs.ModulesOfLists.{IsSubAction, IsQuotientAction}
use Rattle.axe_field.specs.Order.{order_number}
use Rattle.axe_field.specs.NumberFields.{number_field}
use Rattle.axe_row.specs.declared.refusals.Refusal.{Refusal}
use Rattle.axe_row.specs.declared.refusals.Refusal.TheVariants.{FieldsDiffer, ShapesDiffer}
use Rattle.axe_row.specs.declared.refusals.Refusal.TheVariants.{NotInvariant, WholeSpace, ZeroSpace}
use Rattle.axe_row.specs.Refusals.{RefusedAs, first_of}
use Rattle.axe_matrix.specs.Matrices.{MatrixValue, has_only_zeros}
use Rattle.axe_spin.specs.Modules.{ModuleValue, rows_refusal, IsInvariantIn, SpansModule}

-- why a module has no action on the span of the rows, so far as it needs no elimination to tell: they are no vectors of
-- it, or else span zero
abbrev pub sub_action_refusal : ModuleValue → MatrixValue → Option Refusal
sub_action_refusal m rows =
    first_of (rows_refusal m rows) (if has_only_zeros rows.rows then Some ZeroSpace else None)

-- why there is no action on the span of rows that are vectors of the module, and not all zero: it is not invariant
abbrev pub action_late : ModuleValue → MatrixValue → Refusal → Type 0
action_late m rows = RefusedAs NotInvariant (¬ (IsInvariantIn m rows))

-- why there is no action modulo the span of rows that are vectors of the module: it is everything, or else is not
-- invariant
abbrev pub quotient_late : ModuleValue → MatrixValue → Refusal → Type 0
quotient_late m rows refusal =
    RefusedAs WholeSpace (SpansModule m rows) refusal
    ⊎ RefusedAs NotInvariant ((¬ (SpansModule m rows)) × (¬ (IsInvariantIn m rows))) refusal

-- `action` is the sub action on the rows of the matrix as they stand: row t times a generator is the combination of the
-- rows with row t of the action's matrix as coefficients (Parker 1984)
pub record IsBasisAction (m : ModuleValue) (rows : MatrixValue) (action : ModuleValue) : Type 0 where
  pub field : action.order ≡ m.order
  pub dimension : action.dim ≡ length rows.rows
  pub acts : IsSubAction (number_field m.order) m.dim m.generators rows.rows action.generators

-- `action` is the sub action on the reduced basis of the rows' span (Parker 1984)
pub record IsActionOnSpan (m : ModuleValue) (rows : MatrixValue) (action : ModuleValue) : Type 0 where
  pub field : action.order ≡ m.order
  pub basis : List (List ℕ)
  pub over : IsMatrixOver (number_field m.order) m.dim basis
  pub reduced : IsReducedBasis (number_field m.order) rows.rows basis
  pub dimension : action.dim ≡ length basis
  pub acts : IsSubAction (number_field m.order) m.dim m.generators basis action.generators

-- `action` is the quotient action modulo the rows' span, over the columns that are no pivots, ascending (Parker 1984)
pub record IsActionModulo (m : ModuleValue) (rows : MatrixValue) (action : ModuleValue) : Type 0 where
  pub field : action.order ≡ m.order
  pub acts : IsQuotientAction (number_field m.order) m.dim m.generators rows.rows action.dim action.generators

-- the rows' span is invariant, and `action` is the sub action on the rows as they stand
abbrev pub IsActionOverRows : ModuleValue → MatrixValue → ModuleValue → Type 0
IsActionOverRows m rows action = IsInvariantIn m rows × IsBasisAction m rows action

-- the rows' span is invariant and not everything, and `action` is the quotient action modulo it
abbrev pub IsProperActionModulo : ModuleValue → MatrixValue → ModuleValue → Type 0
IsProperActionModulo m rows action = (¬ (SpansModule m rows)) × IsInvariantIn m rows × IsActionModulo m rows action

-- the transposed module: its generators are the transposes (Parker 1984)
abbrev pub dual_module : ModuleValue → ModuleValue
dual_module m = record { order = m.order; dim = m.dim; generators = transposed_generators m.dim m.generators }

-- the matrix has as its rows the reduced basis of the annihilator: of all v with v w^T = 0 for every row w (Holt and
-- Rees 1994)
pub record IsAnnihilatorMatrix (rows basis : MatrixValue) : Type 0 where
  pub field : basis.order ≡ rows.order
  pub columns : basis.cols ≡ rows.cols
  pub basis_of_annihilator : IsAnnihilatorBasis (number_field rows.order) rows.cols rows.rows basis.rows

-- the matrix has these rows, and then the unit vectors of the columns that are no pivots, ascending
pub record IsExtendedMatrix (rows extended : MatrixValue) : Type 0 where
  pub field : extended.order ≡ rows.order
  pub columns : extended.cols ≡ rows.cols
  pub extends : IsExtendedBasis (number_field rows.order) rows.cols rows.rows extended.rows

-- why a module has no conjugate by a matrix, so far as it needs no elimination to tell: it is over another field, or
-- else not of the module's dimension
abbrev pub conjugate_refusal : ModuleValue → MatrixValue → Option Refusal
conjugate_refusal m p =
    if not (order_number p.order == order_number m.order) then Some FieldsDiffer
    else (if not (length p.rows == m.dim && p.cols == m.dim) then Some ShapesDiffer else None)

-- the generators of `conjugate` are p g p^-1 for the generators g of the module, in their order
pub record IsConjugateModule (m : ModuleValue) (p : MatrixValue) (conjugate : ModuleValue) : Type 0 where
  pub field : conjugate.order ≡ m.order
  pub dimension : conjugate.dim ≡ m.dim
  pub count : length conjugate.generators ≡ length m.generators
  pub each : (i : ℕ) → i < length m.generators →
      IsConjugate (number_field m.order) m.dim p.rows (get_or m.generators i []) (get_or conjugate.generators i [])
