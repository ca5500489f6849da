-- Digits in base q, where q is the order of a field, in the numbers of a byte.
use Rattle.std.specs.Prelude.{ℕ}
use Rattle.axe_field.specs.Order.{Order, Two, Three, Four, Five, Seven, Eight, Nine}

-- how many of them a byte has room for: the greatest m with q ^ m ≤ 256
abbrev pub digits_per_byte : Order → ℕ
digits_per_byte Two = 8
digits_per_byte Three = 5
digits_per_byte Four = 4
digits_per_byte Five = 3
digits_per_byte Seven = 2
digits_per_byte Eight = 2
digits_per_byte Nine = 2
