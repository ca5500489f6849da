-- What a table of rows keeps: tables of the planes of the coefficients of 1, x and x^2.
use Rattle.std.specs.Prelude.{◌≡◌, ℕ, ◌^◌, ◌≤◌, List, [], length, replicate, slice_index_or, All, cond, ltb}
use Rattle.axe_algebra.specs.Lists.{listed}
use Rattle.axe_field.specs.Order.{Order, order_number, prime_of, degree_of}
use Rattle.axe_lane.specs.Bytes.{AreDigits}
use Rattle.axe_plane.specs.Tables.{prime_of_table, entries_of_table}
use Rattle.axe_plane.specs.declared.tables.PlaneTable.{PlaneTable}
use Rattle.axe_row.specs.Combinations.{most_combined}
use Rattle.axe_row.specs.Planes.{entries_of_digits}

-- row x of a table has the digits of entry x of each table of planes
unfoldable pub rows_of_tables : Order → List (List ℕ) → List (List ℕ) → List (List ℕ) → List (List ℕ)
rows_of_tables o c l q =
    listed (length c)
    (λ x. entries_of_digits o (slice_index_or c x []) (slice_index_or l x []) (slice_index_or q x []))

-- a table of so many planes of n digits modulo p, the first of zeros
pub record IsPlaneTable (p count n : ℕ) (table : PlaneTable) : Type 0 where
  pub prime : prime_of_table table ≡ p
  pub counted : length (entries_of_table table) ≡ count
  pub long : All (λ entry. length entry ≡ n) (entries_of_table table)
  pub digits : All (AreDigits p) (entries_of_table table)
  pub zero_first : slice_index_or (entries_of_table table) 0 [] ≡ replicate n 0

-- the tables of the planes of a table of q^size rows of n entries: the planes from the degree of the field on have no
-- digits
pub record ArePlaneTables (o : Order) (size n : ℕ) (c l q : PlaneTable) : Type 0 where
  pub size_fits : size ≤ most_combined o
  pub constant : IsPlaneTable (prime_of o) (order_number o ^ size) n c
  pub linear : IsPlaneTable (prime_of o) (order_number o ^ size) (cond (ltb 1 (degree_of o)) n 0) l
  pub quadratic : IsPlaneTable (prime_of o) (order_number o ^ size) (cond (ltb 2 (degree_of o)) n 0) q
