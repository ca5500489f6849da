use Rattle.std.proofs.Common.{arith, ◌∙◌}
use Rattle.axe_row.proofs.PackedNumbers.{constant_prime, linear_prime, quadratic_prime, linear_long, quadratic_long, packed_of_two, packed_of_three}
use Rattle.axe_row.proofs.lanes.packed_numbers.Goals as goal

pub packed_numbers-constant-requires-clause-prime : goal.packed_numbers-constant-requires-clause-prime
packed_numbers-constant-requires-clause-prime c = constant_prime _ _ _ _ c.requires.planes c.requires.not_prime

pub packed_numbers-linear-requires-clause-prime : goal.packed_numbers-linear-requires-clause-prime
packed_numbers-linear-requires-clause-prime c = linear_prime _ _ _ _ c.requires.planes c.requires.not_prime

pub packed_numbers-linear-requires-clause-within : goal.packed_numbers-linear-requires-clause-within
packed_numbers-linear-requires-clause-within c =
    omega (arith, c.requires.within, linear_long _ _ _ _ c.requires.planes c.requires.not_prime)

pub packed_numbers-quadratic-requires-clause-prime : goal.packed_numbers-quadratic-requires-clause-prime
packed_numbers-quadratic-requires-clause-prime c = quadratic_prime _ _ _ _ c.requires.planes c.requires.not_prime

pub packed_numbers-quadratic-requires-clause-within : goal.packed_numbers-quadratic-requires-clause-within
packed_numbers-quadratic-requires-clause-within c =
    omega (
      arith,
      c.requires.within,
      quadratic_long _ _ _ _ c.requires.planes c.requires.not_prime _ c.degree-without_squares.ensures c.if-without_squares.false,
    )

pub returns-then-without_squares : goal.returns-then-without_squares
returns-then-without_squares c =
    packed_of_two _ _ _ _ c.requires.planes c.requires.not_prime c.from-order.result c.from-prime.result _ c.args.size c.args.at _ _
    (c.from-order.ensures ∙ c.order.ensures.value) (c.from-prime.ensures ∙ c.prime.ensures)
    c.degree-without_squares.ensures c.if-without_squares.true c.packed_numbers-constant.ensures.value c.packed_numbers-linear.ensures.value

pub returns : goal.returns
returns c =
    packed_of_three _ _ _ _ c.requires.planes c.requires.not_prime c.from-order.result c.from-prime.result c.args.size c.args.at _ _ _
    (c.from-order.ensures ∙ c.order.ensures.value) (c.from-prime.ensures ∙ c.prime.ensures)
    c.packed_numbers-constant.ensures.value c.packed_numbers-linear.ensures.value c.packed_numbers-quadratic.ensures.value
