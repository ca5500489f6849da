-- A table of planes as its prime and the digits of its entries.
use Rattle.std.specs.Prelude.{◌≡◌, ℕ, ◌<◌, List, [], length, slice_index_or}
use Rattle.axe_plane.specs.Planes.{prime_of_plane, digits_of}
use Rattle.axe_plane.specs.Primes.{byte_prime}
use Rattle.axe_plane.specs.declared.Plane.{Plane}
use Rattle.axe_plane.specs.declared.tables.PlaneTable.{PlaneTable}
use Rattle.axe_plane.specs.declared.Plane.TheVariants.{Bits as BitsOf, Trits as TritsOf, Bytes as BytesOf}
use Rattle.axe_plane.specs.declared.tables.PlaneTable.TheVariants.{Bits, Trits, Bytes}

-- the prime that the digits are taken modulo of
abbrev pub prime_of_table : PlaneTable → ℕ
prime_of_table (Bits entries) = 2
prime_of_table (Trits entries) = 3
prime_of_table (Bytes table) = byte_prime table.prime

-- the entries, each a list of digits
abbrev pub entries_of_table : PlaneTable → List (List ℕ)
entries_of_table (Bits entries) = entries
entries_of_table (Trits entries) = entries
entries_of_table (Bytes table) = table.entries

-- entry x, counted from 0, as a plane
abbrev pub plane_at : PlaneTable → ℕ → Plane
plane_at (Bits entries) x = BitsOf (slice_index_or entries x [])
plane_at (Trits entries) x = TritsOf (slice_index_or entries x [])
plane_at (Bytes table) x = BytesOf (record { prime = table.prime; digits = slice_index_or table.entries x [] })

-- a table of these entries modulo this prime
pub record IsTable (p : ℕ) (entries : List (List ℕ)) (table : PlaneTable) : Type 0 where
  pub prime : prime_of_table table ≡ p
  pub entries_are : entries_of_table table ≡ entries

-- an entry of a table that may be added to a plane: modulo the same prime, and of the plane's length
pub record IsEntryFor (plane : Plane) (table : PlaneTable) (x : ℕ) : Type 0 where
  pub within : x < length (entries_of_table table)
  pub prime : prime_of_table table ≡ prime_of_plane plane
  pub fits : length (digits_of (plane_at table x)) ≡ length (digits_of plane)
