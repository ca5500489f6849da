-- A plane that may be added to another.
use Rattle.std.specs.Prelude.{◌≡◌, length}
use Rattle.axe_plane.specs.Planes.{prime_of_plane, digits_of}
use Rattle.axe_plane.specs.declared.Plane.{Plane}

-- it is modulo the same prime, and of the other's length
pub record IsAddend (plane other : Plane) : Type 0 where
  pub prime : prime_of_plane other ≡ prime_of_plane plane
  pub fits : length (digits_of other) ≡ length (digits_of plane)
