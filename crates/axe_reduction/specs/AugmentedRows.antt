-- Rows of augmented matrices, and the reduction of the first few of them.
use Rattle.std.specs.List.{insert, count_by}
use Rattle.std.specs.Prelude.{◌≡◌, ℕ, ◌+◌, ◌<◌, List, [], ◌++◌, length, map, slice_index, get_or, ltb, All}
use Rattle.axe_algebra.specs.Bridge.{vector_of, matrix_of}
use Rattle.axe_algebra.specs.Lists.{listed}
use Rattle.axe_field.specs.Arithmetic.{field_neg, field_inv}
use Rattle.axe_field.specs.NumberFields.{number_field, gf}
use Rattle.axe_field.specs.Order.{Order}
use Rattle.axe_row.specs.Operations.{row_with_multiple, multiple_row}
use Rattle.axe_row.specs.Rows.{IsRow}
use Rattle.axe_reduction.specs.Augmented.{AugmentedValue, IsAugmented}
use Rattle.axe_reduction.specs.Forms.{AreReducedRows, AreReduced, less_rows}
use Rattle.axe_reduction.specs.declared.augmented_row.AugmentedRow.{AugmentedRow}
use Rattle.axe_reduction.specs.declared.few.GrowingReduction.{GrowingReduction}

-- the entries of a row, those left of the bar first
abbrev pub whole : AugmentedRow → List ℕ
whole row = row.left.entries ++ row.right.entries

-- a row of an augmented matrix over a field, with so many columns left of the bar and in all
pub record IsRowOver (order : Order) (left all : ℕ) (row : AugmentedRow) : Type 0 where
  pub left_field : row.left.order ≡ order
  pub right_field : row.right.order ≡ order
  pub left_length : length row.left.entries ≡ left
  pub columns : left + length row.right.entries ≡ all
  pub left_elements : IsRow row.left
  pub right_elements : IsRow row.right

-- a row of the augmented matrix a, or of one like it
abbrev pub IsRowOf : AugmentedValue → AugmentedRow → Type 0
IsRowOf a row = IsRowOver a.order a.left a.cols row

-- the rows of the augmented matrix a, in their order
pub record AreRowsInOrder (a : AugmentedValue) (rows : List AugmentedRow) : Type 0 where
  pub entries : map whole rows ≡ a.rows
  pub alike : All (IsRowOf a) rows

-- a row over the field of another, with its columns
abbrev pub IsRowLike : AugmentedRow → AugmentedRow → Type 0
IsRowLike other row =
    IsRowOver other.left.order (length other.left.entries) (length other.left.entries + length other.right.entries) row

-- a row less the multiple of another by the row's entry at a column left of the bar
abbrev pub cancelled : ℕ → AugmentedRow → AugmentedRow → AugmentedRow
cancelled column other row =
    let factor : ℕ = field_neg row.left.order (slice_index row.left.entries column) in
    record {
      left = row_with_multiple row.left factor other.left;
      right = row_with_multiple row.right factor other.right;
    }

-- the multiple of a row that is 1 at a column left of the bar
abbrev pub scaled_at : ℕ → AugmentedRow → AugmentedRow
scaled_at column row =
    let factor : ℕ = field_inv row.left.order (slice_index row.left.entries column) in
    record { left = multiple_row factor row.left; right = multiple_row factor row.right }

-- rows of an augmented matrix over a field that are reduced at these pivots, all left of the bar
pub record AreReducedOver (order : Order) (left columns : ℕ) (pivots : List ℕ) (rows : List AugmentedRow) : Type 0 where
  pub over : All (IsRowOver order left columns) rows
  pub count : length pivots ≡ length rows
  pub pivots_left : All (λ pivot. pivot < left) pivots
  pub reduced : AreReducedRows (gf order) (length rows) (matrix_of (number_field order) (map whole rows))
      (λ t. get_or pivots t 0)

-- the same over the field of another row, with its columns
abbrev pub AreReducedLike : AugmentedRow → List ℕ → List AugmentedRow → Type 0
AreReducedLike other pivots rows =
    AreReducedOver other.left.order (length other.left.entries)
    (length other.left.entries + length other.right.entries) pivots rows

-- the row after is the row before less the combination of the rows that has as its coefficients the entries of the row
-- before at the pivots
abbrev pub IsClearedBy : List ℕ → List AugmentedRow → AugmentedRow → AugmentedRow → Type 0
IsClearedBy pivots rows before after =
    vector_of (number_field before.left.order) (whole after)
    ≡ less_rows (gf before.left.order) (length rows) (λ t. get_or pivots t 0)
    (matrix_of (number_field before.left.order) (map whole rows))
    (vector_of (number_field before.left.order) (whole before))

-- how many of some numbers are below another
abbrev pub count_below : ℕ → List ℕ → ℕ
count_below bound numbers = count_by (λ number. ltb number bound) numbers

-- with a further row, made 1 at its pivot and put at its place by that, and the other rows less their multiples of it
-- that make them 0 there
pub record IsInsertedAt (pivot : ℕ) (row : AugmentedRow) (before after : GrowingReduction) : Type 0 where
  pub reduced : after.reduced.items ≡ insert (map (cancelled pivot (scaled_at pivot row)) before.reduced.items)
      (count_below pivot before.pivots.items) (scaled_at pivot row)
  pub pivots : after.pivots.items ≡ insert before.pivots.items (count_below pivot before.pivots.items) pivot
  pub rest : after.rest.items ≡ before.rest.items
  pub alike : All (IsRowLike row) after.reduced.items

-- this reduces the first n rows of the augmented matrix a
pub record IsReductionOfFirst (a : AugmentedValue) (n : ℕ) (r : GrowingReduction) : Type 0 where
  pub reduced_over : All (IsRowOf a) r.reduced.items
  pub rest_over : All (IsRowOf a) r.rest.items
  pub reduces : AreReduced (number_field a.order) a.left a.cols (listed n (λ i. get_or a.rows i [])) r.pivots.items
      (map whole r.reduced.items) (map whole r.rest.items)

-- what reduces the first rows of an augmented matrix before, of which this row is the next, reduces these and it after
abbrev pub GoesOnBy : AugmentedRow → GrowingReduction → GrowingReduction → Type 0
GoesOnBy row before after =
    (a : AugmentedValue) (n : ℕ) → IsAugmented a → IsReductionOfFirst a n before → whole row ≡ get_or a.rows n [] →
    IsRowOf a row → IsReductionOfFirst a (n + 1) after
