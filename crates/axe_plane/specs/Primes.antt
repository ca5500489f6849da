-- The primes 5 and 7, whose digits are kept in bytes.
use Rattle.std.specs.Prelude.{ℕ, List}
use Rattle.axe_plane.specs.declared.primes.BytePrime.{BytePrime}
use Rattle.axe_plane.specs.declared.primes.BytePrime.TheVariants.{Five, Seven}

-- the prime as a number
abbrev pub byte_prime : BytePrime → ℕ
byte_prime Five = 5
byte_prime Seven = 7

-- a list of digits modulo 5 or 7
pub record ByteDigits : Type 0 where
  pub prime : BytePrime
  pub digits : List ℕ

-- lists of digits modulo 5 or 7
pub record ByteEntries : Type 0 where
  pub prime : BytePrime
  pub entries : List (List ℕ)
