-- What a row keeps beside the plane of the coefficients of 1: nothing over the prime fields, and over the others the
-- planes of the coefficients of x and x^2.
use Rattle.std.specs.Prelude.{◌≢◌, ◌≡◌, ℕ, [], Box, Option, Some, None, MatchOption}
use Rattle.std.specs.declared.alloc.Global.{Global}
use Rattle.axe_field.specs.Order.{Order, Two, Three, Four, Five, Seven, Eight, Nine, degree_of}
use Rattle.axe_plane.specs.declared.Plane.{Plane}
use Rattle.axe_plane.specs.declared.Plane.TheVariants.{Bits, Trits, Bytes}
use Rattle.axe_plane.specs.declared.primes.BytePrime.TheVariants as byte
use Rattle.axe_row.specs.Planes.{ArePlanes}
use Rattle.axe_row.specs.declared.higher.Higher.{Higher}

-- the planes of the coefficients of x and x^2, where they are kept
abbrev pub HigherPlanes : Type 0
HigherPlanes = Option (Box Higher Global)

-- the plane of no digits modulo the prime of the field
unfoldable pub empty_plane : Order → Plane
empty_plane Two = Bits []
empty_plane Three = Trits []
empty_plane Four = Bits []
empty_plane Five = Bytes (record { prime = byte.Five; digits = [] })
empty_plane Seven = Bytes (record { prime = byte.Seven; digits = [] })
empty_plane Eight = Bits []
empty_plane Nine = Trits []

-- the plane of the coefficients of x, without digits where there is none
abbrev pub linear_of : Order → HigherPlanes → Plane
linear_of o None = empty_plane o
linear_of o (Some higher) = higher.value.linear

-- the plane of the coefficients of x^2, without digits where there is none
abbrev pub quadratic_of : Order → HigherPlanes → Plane
quadratic_of o None = empty_plane o
quadratic_of o (Some higher) = higher.value.quadratic

-- what a row of n entries keeps: its planes, and those of x and x^2 exactly where the field is not prime
pub record AreKeptPlanes (o : Order) (n : ℕ) (c : Plane) (higher : HigherPlanes) : Type 0 where
  pub planes : ArePlanes o n c (linear_of o higher) (quadratic_of o higher)
  pub needed : MatchOption higher (degree_of o ≡ 1) (λ planes. degree_of o ≢ 1)
