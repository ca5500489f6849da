-- Up to which degree irreducible polynomials are listed.
use Rattle.std.specs.Prelude.{ℕ}
use Rattle.axe_field.specs.Order.{Order, Two, Three, Four, Five, Seven, Eight, Nine}

-- the greatest s for which the field has no more than 4,096 polynomials of degree below s
abbrev pub greatest_degree : Order → ℕ
greatest_degree Two = 12
greatest_degree Three = 7
greatest_degree Four = 6
greatest_degree Five = 5
greatest_degree Seven = 4
greatest_degree Eight = 4
greatest_degree Nine = 3
