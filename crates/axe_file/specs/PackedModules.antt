-- The packed form of whole modules: the one spelling of each, what is wrong with bytes that are no spelling, and the
-- generators that faultless bytes spell. Their rows lie as those of a matrix do.
use Rattle.std.specs.Prelude.{◌≡◌, ℕ, ◌+◌, ◌*◌, ◌≤◌, List, [], ◌∷◌, ◌++◌, length, All, Option}
use Rattle.std.specs.Prelude.{slice_get, slice_index, slice_range, codes}
use Rattle.std.specs.List.{flat_map}
use Rattle.std.specs.Int.{w32, to_le_bytes, from_le_bytes}
use Rattle.axe_algebra.specs.Lists.{listed}
use Rattle.axe_field.specs.Order.{Order, Two, order_number}
use Rattle.axe_matrix.specs.Matrices.{MatrixValue, IsMatrix}
use Rattle.axe_matrix.specs.Limits.{most_rows}
use Rattle.axe_file.specs.Limits.{most_generators}
use Rattle.axe_file.specs.Packed.{header_length, header_order, packed_rows, data_length, matrix_at, data_faults}
use Rattle.axe_file.specs.Packed.{fault_where, is_out_of_range, has_reserved, beginning_faults}
use Rattle.axe_file.specs.declared.fault.FileFault.{FileFault}
use Rattle.axe_file.specs.declared.fault.FileFault.TheVariants.{BadGens, BadReserved, BadRows}

-- ---- where a header has what: its length, and the offset of the order, are those of a matrix

-- the bytes that a module begins with
abbrev pub module_magic : List ℕ
module_magic = codes "AXP2"

-- the offset of the number of generators
abbrev pub generators_offset : ℕ
generators_offset = 5

-- the offset of the dimension
abbrev pub dimension_offset : ℕ
dimension_offset = 8

-- the offsets of the reserved bytes
abbrev pub module_reserved : List ℕ
module_reserved = 6 ∷ 7 ∷ 12 ∷ 13 ∷ 14 ∷ 15 ∷ []

-- ---- the spelling of a module

-- a square matrix of so many rows over the field of this order
pub record IsGenerator (o : Order) (dimension : ℕ) (m : MatrixValue) : Type 0 where
  pub field : m.order ≡ o
  pub columns : m.cols ≡ dimension
  pub rows : length m.rows ≡ dimension
  pub well_formed : IsMatrix m

-- the order of the first of these matrices; where there is none, any
abbrev pub first_order : List MatrixValue → Order
first_order [] = Two
first_order (m ∷ rest) = m.order

-- how many columns the first of these matrices has; where there is none, 0
abbrev pub first_columns : List MatrixValue → ℕ
first_columns [] = 0
first_columns (m ∷ rest) = m.cols

-- these matrices are the generators of a module, in a file: there is one and no more than the limit allows, and they
-- are square, over one field and of one dimension (of at least 1, as each matrix has a column)
pub record AreGenerators (matrices : List MatrixValue) : Type 0 where
  pub some : 1 ≤ length matrices
  pub few : length matrices ≤ most_generators
  pub each : All (IsGenerator (first_order matrices) (first_columns matrices)) matrices

-- the header: the magic bytes, the order, the number of generators, two zeros, the dimension as 4 bytes, low byte
-- first, and four zeros
unfoldable pub module_header : Order → ℕ → ℕ → List ℕ
module_header o count dimension =
    module_magic ++ (order_number o ∷ count ∷ 0 ∷ 0 ∷ []) ++ to_le_bytes w32 dimension ++ (0 ∷ 0 ∷ 0 ∷ 0 ∷ [])

-- the one packed spelling of a module: its header, then the rows of generator after generator
unfoldable pub packed_module : List MatrixValue → List ℕ
packed_module matrices =
    module_header (first_order matrices) (length matrices) (first_columns matrices) ++ flat_map packed_rows matrices

-- ---- what bytes say

-- how many generators a header names
unfoldable pub header_generators : List ℕ → ℕ
header_generators bytes = slice_index bytes generators_offset

-- the dimension that a header names
unfoldable pub header_dimension : List ℕ → ℕ
header_dimension bytes = from_le_bytes w32 (slice_range bytes dimension_offset (dimension_offset + 4))

-- generator i, counted from 0, of those whose rows begin at an offset
unfoldable pub generator_at : Order → ℕ → List ℕ → ℕ → ℕ → MatrixValue
generator_at o dimension bytes offset i =
    matrix_at o dimension dimension bytes (offset + i * data_length o dimension dimension)

-- the generators that faultless bytes spell
unfoldable pub unpacked_module : List ℕ → List MatrixValue
unpacked_module bytes =
    listed (header_generators bytes) (generator_at (header_order bytes) (header_dimension bytes) bytes header_length)

-- ---- what is wrong with bytes

-- what is wrong with the header, in the order of the checks
unfoldable pub module_header_faults : List ℕ → List FileFault
module_header_faults bytes =
    beginning_faults module_magic bytes
    ++ fault_where (is_out_of_range most_generators (header_generators bytes)) BadGens
    ++ fault_where (has_reserved module_reserved bytes) BadReserved
    ++ fault_where (is_out_of_range most_rows (header_dimension bytes)) BadRows

-- the first fault, of the header or of the rows of all generators after it, where there is one; bytes without one are
-- the spelling of a module
unfoldable pub module_fault : List ℕ → Option FileFault
module_fault bytes =
    slice_get (module_header_faults bytes
    ++ data_faults (header_order bytes) (header_generators bytes * header_dimension bytes) (header_dimension bytes)
    bytes header_length) 0
