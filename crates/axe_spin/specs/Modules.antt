-- Modules: square matrices of one dimension over one field.
use Rattle.std.specs.Prelude.{ℕ, ◌≤◌, ◌==◌, not, List, [], ◌∷◌, length, map, slice_index_or, All}
use Rattle.std.specs.Prelude.{Option, Some, None, Result, Err, if◌then◌else◌}
use Rattle.axe_algebra.specs.Lists.{IsModuleOver, IsSquareOver}
use Rattle.axe_algebra.specs.SpansOfLists.{SpansEverything}
use Rattle.axe_algebra.specs.ModulesOfLists.{IsInvariant}
use Rattle.axe_field.specs.Order.{Order, order_number}
use Rattle.axe_field.specs.NumberFields.{number_field}
use Rattle.axe_row.specs.declared.refusals.Refusal.{Refusal}
use Rattle.axe_row.specs.declared.refusals.Refusal.TheVariants.{FieldsDiffer, ShapesDiffer, NotSquare, NoRows}
use Rattle.axe_matrix.specs.Limits.{most_columns}
use Rattle.axe_row.specs.Refusals.{first_of, unless_refused}
use Rattle.axe_matrix.specs.Matrices.{MatrixValue}
use Rattle.axe_spin.specs.Limits.{most_generators}

-- a module: the order of its field, its dimension, and its generators, each the list of its rows (Parker 1984)
pub record ModuleValue : Type 0 where
  pub order : Order
  pub dim : ℕ
  pub generators : List (List (List ℕ))

-- the dimension is at least 1, the generators are square matrices of that dimension, and there are no more of them and
-- of columns than the limits allow
pub record IsModule (m : ModuleValue) : Type 0 where
  pub over : IsModuleOver (number_field m.order) m.dim m.generators
  pub dim_fits : m.dim ≤ most_columns
  pub some_generator : 1 ≤ length m.generators
  pub generators_fit : length m.generators ≤ most_generators

-- generator i of a module, counted from 0, as a matrix
abbrev pub generator_of : ModuleValue → ℕ → MatrixValue
generator_of m i = record { order = m.order; cols = m.dim; rows = slice_index_or m.generators i [] }

-- why a matrix is no generator of a module over this field and of this dimension: it has no rows, or else is not
-- square, or else is over another field, or else has another number of rows
abbrev pub generator_refusal : Order → ℕ → MatrixValue → Option Refusal
generator_refusal order dim m =
    if length m.rows == 0 then Some NoRows
    else (if not (length m.rows == m.cols) then Some NotSquare
    else (if not (order_number m.order == order_number order) then Some FieldsDiffer
    else (if not (m.cols == dim) then Some ShapesDiffer else None)))

-- why not all of the matrices are such generators: the refusal of the first that is none
abbrev pub generators_refusal : Order → ℕ → List MatrixValue → Option Refusal
generators_refusal order dim [] = None
generators_refusal order dim (m ∷ rest) = first_of (generator_refusal order dim m) (generators_refusal order dim rest)

-- the rows of each of the matrices
abbrev pub rows_of_each : List MatrixValue → List (List (List ℕ))
rows_of_each matrices = map (λ (m : MatrixValue). m.rows) matrices

-- why the rows of a matrix are no vectors of a module: they are over another field, or else of another length than the
-- dimension
abbrev pub rows_refusal : ModuleValue → MatrixValue → Option Refusal
rows_refusal m rows =
    if not (order_number rows.order == order_number m.order) then Some FieldsDiffer
    else (if not (rows.cols == m.dim) then Some ShapesDiffer else None)

-- the generators of a module are square matrices over its field, of as many rows as its dimension
abbrev pub HasSquareGenerators : ModuleValue → Type 0
HasSquareGenerators m = All (IsSquareOver (number_field m.order) m.dim) m.generators

-- the span of the rows is invariant in the module (Parker 1984)
abbrev pub IsInvariantIn : ModuleValue → MatrixValue → Type 0
IsInvariantIn m rows = IsInvariant (number_field m.order) m.dim m.generators rows.rows

-- the rows span all vectors of the module
abbrev pub SpansModule : ModuleValue → MatrixValue → Type 0
SpansModule m rows = SpansEverything (number_field m.order) m.dim rows.rows

-- the module whose generators are these matrices, over the field and of the dimension of the first, or the refusal of
-- the first that is no generator beside the first; of no matrices there is no module
abbrev pub module_of_matrices : List MatrixValue → Result ModuleValue Refusal
module_of_matrices [] = Err NoRows
module_of_matrices (first ∷ rest) =
    unless_refused (generators_refusal first.order first.cols (first ∷ rest))
    (record { order = first.order; dim = first.cols; generators = rows_of_each (first ∷ rest) })
