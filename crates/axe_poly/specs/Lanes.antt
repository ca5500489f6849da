-- Polynomials of small degree in one word: each coefficient in a lane of some bits, as a sum of codes of elements.
use Rattle.std.specs.Prelude.{◌≡◌, ℕ, zero, suc, ◌+◌, ◌*◌, ◌/◌, ◌%◌, ◌^◌, ◌-◌, ◌<◌, ◌≤◌, List, length, get_or, if◌then◌else◌, nat_le}
use Rattle.std.specs.Prelude.{take, ◌++◌, map}
use Rattle.std.specs.List.{range_with_len}
use Rattle.axe_field.specs.Arithmetic.{field_mul, field_neg}
use Rattle.axe_field.specs.NumberFields.{number_field}
use Rattle.axe_polynomial_algebra.specs.PolynomialsOfLists.{IsCongruent}
use Rattle.axe_field.specs.Order.{Order, Two, Three, Four, Five, Seven, Eight, Nine, order_number, prime_of}

-- one more than the greatest number of a part of a lane
abbrev pub part_base : Order → ℕ
part_base Two = 16
part_base Three = 32
part_base Four = 8
part_base Five = 32
part_base Seven = 32
part_base Eight = 8
part_base Nine = 16

-- one more than the greatest number of a lane
abbrev pub lane_base : Order → ℕ
lane_base Two = 16
lane_base Three = 32
lane_base Four = 64
lane_base Five = 32
lane_base Seven = 32
lane_base Eight = 512
lane_base Nine = 256

-- the code of an element: its coefficients over the prime field, each in a part of a lane
unfoldable pub code : Order → ℕ → ℕ
code o a = a % prime_of o + part_base o * (a / prime_of o % prime_of o)
    + part_base o * part_base o * (a / prime_of o / prime_of o)

-- the element that a sum of codes stands for
unfoldable pub meaning : Order → ℕ → ℕ
meaning o x = x % part_base o % prime_of o + prime_of o * (x / part_base o % part_base o % prime_of o)
    + prime_of o * prime_of o * (x / part_base o / part_base o % prime_of o)

abbrev pub larger : ℕ → ℕ → ℕ
larger a b = if nat_le a b then b else a

-- the greatest part of a lane
unfoldable pub weight : Order → ℕ → ℕ
weight o x = larger (x % part_base o) (larger (x / part_base o % part_base o) (x / part_base o / part_base o))

-- the word with these lanes, lowest first
unfoldable pub packed : ℕ → ℕ → (ℕ → ℕ) → ℕ
packed w zero lanes = 0
packed w (suc n) lanes = packed w n lanes + lanes n * w ^ n

-- the number is a sum of codes whose element is a, and its greatest part is within a bound
pub record IsLane (o : Order) (x a bound : ℕ) : Type 0 where
  pub means : meaning o x ≡ a
  pub light : weight o x ≤ bound
  pub below : x < lane_base o

-- the elements for which the first so many lanes stand
abbrev pub window : Order → ℕ → (ℕ → ℕ) → List ℕ
window o n lanes = map (λ j. meaning o (lanes j)) (range_with_len 0 n)

-- the code of c times a coefficient of p
unfoldable pub term : Order → List ℕ → ℕ → ℕ → ℕ
term o p c j = code o (field_mul o c (get_or p j 0))

-- the list has, for each element a, the word of the codes of -a times the coefficients of p, but for the leading one
pub record AreMultiples (o : Order) (p : List ℕ) (multiples : List ℕ) : Type 0 where
  pub long : length multiples ≡ 9
  pub each : (a : ℕ) → a < order_number o →
      get_or multiples a 0 ≡ packed (lane_base o) (length p - 1) (term o p (field_neg o a))

-- the list has the codes of the elements, in their order
pub record AreCodes (o : Order) (codes : List ℕ) : Type 0 where
  pub long : length codes ≡ 9
  pub each : (a : ℕ) → a < order_number o → get_or codes a 0 ≡ code o a

-- the list has the elements that lanes stand for, in the order of the lanes
pub record AreMeanings (o : Order) (meanings : List ℕ) : Type 0 where
  pub long : length meanings ≡ 512
  pub each : (x : ℕ) → x < lane_base o → get_or meanings x 0 ≡ meaning o x

-- the tables have the codes of the elements, and the elements for which lanes stand
pub record AreTables (o : Order) (codes meanings : List ℕ) : Type 0 where
  pub codes_are : AreCodes o codes
  pub meanings_are : AreMeanings o meanings

-- f is congruent modulo p to its first k coefficients, followed by the elements that the lanes of a word stand for, as
-- many as p's degree n: with k = 0 these are the remainder
pub record IsWindow (o : Order) (p f : List ℕ) (n k word : ℕ) : Type 0 where
  pub lanes : ℕ → ℕ
  pub packed_is : word ≡ packed (lane_base o) n lanes
  pub each : (j : ℕ) → j < n → IsLane o (lanes j) (meaning o (lanes j)) ((prime_of o - 1) * (j + 2))
  pub rest : IsCongruent (number_field o) p f (take k f ++ window o n lanes)
