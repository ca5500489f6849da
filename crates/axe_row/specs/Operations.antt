-- Sums, multiples and dot products of row vectors, and the vectors that are zero.
use Rattle.std.specs.Prelude.{◌≡◌, ℕ, zero, suc, List, length, slice_index, All}
use Rattle.axe_algebra.specs.Lists.{listed}
use Rattle.axe_algebra.specs.ListArithmetic.{number_sum}
use Rattle.axe_algebra.specs.NumberField.{NumberField}
use Rattle.axe_field.specs.Arithmetic.{field_mul}
use Rattle.axe_field.specs.NumberFields.{number_field}
use Rattle.axe_field.specs.Order.{Order, prime_of}
use Rattle.axe_row.specs.Rows.{RowValue}

-- a vector plus a multiple of another of its length: entry j is a[j] + c b[j] (any linear algebra text)
unfoldable pub sum_with_multiple : NumberField → List ℕ → ℕ → List ℕ → List ℕ
sum_with_multiple K a c b = listed (length a) (λ j. K.add (slice_index a j) (K.mul c (slice_index b j)))

-- a multiple of a vector: entry j is c a[j] (any linear algebra text)
unfoldable pub multiple : NumberField → ℕ → List ℕ → List ℕ
multiple K c a = listed (length a) (λ j. K.mul c (slice_index a j))

-- the dot product of two vectors of one length: the sum over j of a[j] b[j] (any linear algebra text)
unfoldable pub dot_product : NumberField → List ℕ → List ℕ → ℕ
dot_product K a b = number_sum K (λ j. K.mul (slice_index a j) (slice_index b j)) (length a)

-- the row a plus c times the row b
abbrev pub row_with_multiple : RowValue → ℕ → RowValue → RowValue
row_with_multiple a c b =
    record { order = a.order; entries = sum_with_multiple (number_field a.order) a.entries c b.entries }

-- c times the row a
abbrev pub multiple_row : ℕ → RowValue → RowValue
multiple_row c a = record { order = a.order; entries = multiple (number_field a.order) c a.entries }

-- the power x^k of the element x, whose number is the prime (any algebra text)
unfoldable pub power_of_x : Order → ℕ → ℕ
power_of_x o zero = 1
power_of_x o (suc k) = field_mul o (prime_of o) (power_of_x o k)

-- each entry is 0
abbrev pub IsZeroVector : List ℕ → Type 0
IsZeroVector entries = All (λ number. number ≡ 0) entries
