-- The points of the span of a reduced basis whose rows are a matrix, and what is left of them while they are gone over.
use Rattle.std.specs.Prelude.{◌≡◌, ℕ, ◌-◌, ◌*◌, ◌^◌, ◌<◌, ◌≤◌, List, [], ◌∷◌, map, length}
use Rattle.std.specs.Prelude.{Option, Some, None, Result, Ok, Err}
use Rattle.std.specs.List.{filter, range_with_len}
use Rattle.axe_algebra.specs.Digits.{digits}
use Rattle.axe_algebra.specs.ListArithmetic.{combination}
use Rattle.axe_algebra.specs.PointsOfLists.{leads_with_one, point_coordinates, points}
use Rattle.axe_algebra.specs.SpansOfLists.{IsReducedBasis}
use Rattle.axe_field.specs.Order.{Order, order_number}
use Rattle.axe_field.specs.NumberFields.{number_field}
use Rattle.axe_row.specs.Rows.{RowValue, IsRow}
use Rattle.axe_row.specs.declared.refusals.Refusal.{Refusal}
use Rattle.axe_row.specs.declared.refusals.Refusal.TheVariants.{Memory}
use Rattle.axe_matrix.specs.Matrices.{MatrixValue}

-- how many points a space of dimension m over q elements has
abbrev pub point_count : ℕ → ℕ → ℕ
point_count q m = length (point_coordinates q m)

-- the most points of a null space that are all tried: "few" points are no more
abbrev pub most_points : ℕ
most_points = 1000

-- the rows are the reduced basis of their span
abbrev pub IsReduced : MatrixValue → Type 0
IsReduced b = IsReducedBasis (number_field b.order) b.rows b.rows

-- the points of the span of the rows, which are a reduced basis, in ascending order (Holt and Rees 1994)
abbrev pub points_of : MatrixValue → List (List ℕ)
points_of b = points (number_field b.order) b.cols b.rows

-- what is left of the points of a space, first point first, and the order of their field
pub record PointsLeft : Type 0 where
  pub order : Order
  pub left : List (List ℕ)

-- a call of `next`, which found the points s left and leaves t: None where none was left; else the first that was
-- left, and the others are left, or Memory, and none is left
abbrev pub GivesNext : PointsLeft → Option (Result RowValue Refusal) → PointsLeft → Type 0
GivesNext s None t = (s.left ≡ []) × (t ≡ s)
GivesNext s (Some (Ok row)) t =
    (s.left ≡ row.entries ∷ t.left) × (row.order ≡ s.order) × (t.order ≡ s.order) × IsRow row
GivesNext s (Some (Err refusal)) t =
    (refusal ≡ Memory) × (0 < length s.left) × (t ≡ record { order = s.order; left = [] })

-- ---- how a place among the points is held

-- the combination of the rows whose coordinates are the digits of a number
abbrev pub point_with_number : MatrixValue → ℕ → List ℕ
point_with_number b x =
    combination (number_field b.order) b.cols (digits (order_number b.order) (length b.rows) x) b.rows

-- the points from a number on: those with its digits as coordinates, and with those of the numbers after it
unfoldable pub points_from : MatrixValue → ℕ → List (List ℕ)
points_from b x =
    let q = order_number b.order in
    let m = length b.rows in
    map (point_with_number b) (filter (λ n. leads_with_one (digits q m n)) (range_with_len x (q ^ m - x)))

-- the number of the next point leads with the digit 1, whose place is a power of q; past the points it is q^m
pub record IsPlaceOfPoint (b : MatrixValue) (number leading end : ℕ) : Type 0 where
  pub end_is : end ≡ order_number b.order ^ length b.rows
  pub small : end < 2 ^ 32
  pub number_within : number ≤ end
  pub leads : number < end →
      (p : ℕ) × (p < length b.rows) × (leading ≡ order_number b.order ^ p) × (leading ≤ number) × (number < 2 * leading)
