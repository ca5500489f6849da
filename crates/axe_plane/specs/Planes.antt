-- A plane as its prime and its digits.
use Rattle.std.specs.Prelude.{◌≡◌, ℕ, ◌-◌, ◌%◌, List, length}
use Rattle.axe_lane.specs.Bytes.{AreDigits}
use Rattle.axe_plane.specs.Primes.{byte_prime}
use Rattle.axe_plane.specs.declared.Plane.{Plane}
use Rattle.axe_plane.specs.declared.Plane.TheVariants.{Bits, Trits, Bytes}

-- the prime that the digits are taken modulo of
abbrev pub prime_of_plane : Plane → ℕ
prime_of_plane (Bits digits) = 2
prime_of_plane (Trits digits) = 3
prime_of_plane (Bytes plane) = byte_prime plane.prime

-- the digits, in order
abbrev pub digits_of : Plane → List ℕ
digits_of (Bits digits) = digits
digits_of (Trits digits) = digits
digits_of (Bytes plane) = plane.digits

-- the digit whose sum with the digit d is 0 modulo p
abbrev pub negative_modulo : ℕ → ℕ → ℕ
negative_modulo p d = (p - d) % p

-- a plane of these digits modulo this prime
pub record IsPlane (p : ℕ) (digits : List ℕ) (plane : Plane) : Type 0 where
  pub prime : prime_of_plane plane ≡ p
  pub digits_are : digits_of plane ≡ digits

-- a plane of n digits modulo p
pub record IsPlaneOf (p n : ℕ) (plane : Plane) : Type 0 where
  pub prime : prime_of_plane plane ≡ p
  pub long : length (digits_of plane) ≡ n
  pub digits : AreDigits p (digits_of plane)
