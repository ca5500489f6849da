-- Sums of digits whose remainders are not taken yet, as the plane that they stand for, and digits at a place of one.
use Rattle.std.specs.Prelude.{ℕ, ◌%◌, List, ◌++◌, map, replicate, slice_index}
use Rattle.axe_algebra.specs.Lists.{listed}
use Rattle.axe_plane.specs.Primes.{ByteDigits}
use Rattle.axe_plane.specs.declared.Plane.{Plane}
use Rattle.axe_plane.specs.declared.Plane.TheVariants.{Bytes}

-- the remainders of numbers modulo p
abbrev pub remainders : ℕ → List ℕ → List ℕ
remainders p numbers = map (λ x. x % p) numbers

-- the plane of the digits that sums stand for
abbrev pub plane_of_sums : ByteDigits → Plane
plane_of_sums sums = Bytes sums

-- the list of n numbers that has zeros before an index, these numbers from there on, and zeros after them
abbrev pub placed : ℕ → ℕ → List ℕ → List ℕ
placed n start numbers = listed n (λ j. slice_index (replicate start 0 ++ numbers) j)
