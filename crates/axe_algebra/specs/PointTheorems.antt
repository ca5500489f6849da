-- What the law functions promise of digits, and of the points of a space.
use Rattle.std.specs.Prelude.{◌≡◌, ◌≢◌, ℕ, ◌+◌, ◌-◌, ◌*◌, ◌^◌, ◌<◌, ◌≤◌, true, List, [], length, get_or}
use Rattle.std.specs.List.{All}
use Rattle.axe_algebra.specs.NumberField.{NumberField}
use Rattle.axe_algebra.specs.Vectors.{Vector, zero_vector, scale}
use Rattle.axe_algebra.specs.Spans.{InSpan}
use Rattle.axe_algebra.specs.Bridge.{ElementOf, zero_of, field_of, vector_of, matrix_of}
use Rattle.axe_algebra.specs.Lists.{IsVectorOver, IsMatrixOver}
use Rattle.axe_algebra.specs.SpansOfLists.{IsSpanned, IsIndependent}
use Rattle.axe_algebra.specs.Digits.{digits, number_with_digits}
use Rattle.axe_algebra.specs.PointsOfLists.{leads_with_one, point_coordinates, points}

-- ---- digits

-- there are m digits, each below q
abbrev pub DigitsAreBelow : Type 0
DigitsAreBelow = (q m x : ℕ) → 0 < q → (length (digits q m x) ≡ m) × All (λ digit. digit < q) (digits q m x)

-- two numbers below q^m with the same digits are the same
abbrev pub DigitsTellTheNumber : Type 0
DigitsTellTheNumber = (q m x y : ℕ) → 0 < q → x < q ^ m → y < q ^ m → digits q m x ≡ digits q m y → x ≡ y

-- every list of m digits below q is the digits of a number below q^m: of the number that has these digits
abbrev pub ListsAreDigits : Type 0
ListsAreDigits = (q : ℕ) (ds : List ℕ) → All (λ digit. digit < q) ds →
    (number_with_digits q ds < q ^ length ds) × (digits q (length ds) (number_with_digits q ds) ≡ ds)

-- ---- coordinates of points

-- m digits below q, of which the first other than 0 is 1
pub record IsMonicList (q m : ℕ) (c : List ℕ) : Type 0 where
  pub length_is : length c ≡ m
  pub below : All (λ digit. digit < q) c
  pub leads : leads_with_one c ≡ true

-- each entry of the list of coordinates is such a list
abbrev pub CoordinatesAreMonic : Type 0
CoordinatesAreMonic = (q m : ℕ) → 2 ≤ q → All (IsMonicList q m) (point_coordinates q m)

-- each such list is in the list of coordinates
abbrev pub MonicListsAreCoordinates : Type 0
MonicListsAreCoordinates = (q m : ℕ) (c : List ℕ) → 2 ≤ q → IsMonicList q m c →
    (i : ℕ) × (i < length (point_coordinates q m)) × (get_or (point_coordinates q m) i [] ≡ c)

-- they ascend, so that none is in it twice
abbrev pub CoordinatesAscend : Type 0
CoordinatesAscend = (q m i j : ℕ) → 2 ≤ q → i < j → j < length (point_coordinates q m) →
    number_with_digits q (get_or (point_coordinates q m) i [])
    < number_with_digits q (get_or (point_coordinates q m) j [])

-- there are (q^m - 1) / (q - 1)
abbrev pub CoordinatesAreCounted : Type 0
CoordinatesAreCounted = (q m : ℕ) → 2 ≤ q → length (point_coordinates q m) * (q - 1) + 1 ≡ q ^ m

-- a space of a larger dimension has no fewer
abbrev pub CoordinatesGrow : Type 0
CoordinatesGrow = (q m n : ℕ) → 2 ≤ q → m ≤ n → length (point_coordinates q m) ≤ length (point_coordinates q n)

-- ---- points

-- v is a vector of length n of the basis' span, other than zero
pub record IsNonzeroSpanned (K : NumberField) (n : ℕ) (basis : List (List ℕ)) (v : List ℕ) : Type 0 where
  pub over : IsVectorOver K n v
  pub spanned : IsSpanned K basis v
  pub nonzero : vector_of K v ≢ zero_vector (field_of K)

-- x is a multiple, by an element other than 0, of the point at a place
pub record IsMultipleOfPoint (K : NumberField) (n : ℕ) (basis : List (List ℕ)) (x : Vector (field_of K)) : Type 0 where
  pub place : ℕ
  pub inside : place < length (points K n basis)
  pub factor : ElementOf K
  pub nonzero : factor ≢ zero_of K
  pub equals : x ≡ scale (field_of K) factor (matrix_of K (points K n basis) place)

-- the points of independent rows are nonzero vectors of their span
abbrev pub PointsAreNonzeroSpanned : NumberField → Type 0
PointsAreNonzeroSpanned K = (n : ℕ) (basis : List (List ℕ)) → IsMatrixOver K n basis → IsIndependent K basis →
    All (IsNonzeroSpanned K n basis) (points K n basis)

-- every nonzero vector of the span of rows is a nonzero multiple of a point
abbrev pub SpannedAreMultiplesOfPoints : NumberField → Type 0
SpannedAreMultiplesOfPoints K = (n : ℕ) (basis : List (List ℕ)) (x : Vector (field_of K)) → IsMatrixOver K n basis →
    InSpan (field_of K) (length basis) (matrix_of K basis) x → x ≢ zero_vector (field_of K) →
    IsMultipleOfPoint K n basis x

-- a nonzero vector is a multiple of only one point of independent rows
abbrev pub MultiplesAreOfOnePoint : NumberField → Type 0
MultiplesAreOfOnePoint K =
    (n : ℕ) (basis : List (List ℕ)) (x : Vector (field_of K)) → IsMatrixOver K n basis → IsIndependent K basis →
    (one other : IsMultipleOfPoint K n basis x) → one.place ≡ other.place

-- the first point is the last row of the basis
abbrev pub FirstPointIsLastRow : NumberField → Type 0
FirstPointIsLastRow K = (n : ℕ) (basis : List (List ℕ)) → IsMatrixOver K n basis → 0 < length basis →
    (0 < length (points K n basis)) × (get_or (points K n basis) 0 [] ≡ get_or basis (length basis - 1) [])
