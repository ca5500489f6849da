use Rattle.std.proofs.Common.{◌≡◌, ◌/◌, ◌%◌, sym, ap, arith}
use Rattle.axe_field.specs.Order.{degree_of, order_number}
use Rattle.axe_lane.specs.Multiples.{to_constant_of_two, to_linear_of_two, to_constant_of_three, to_linear_of_three, to_quadratic_of_three}
use Rattle.axe_row.proofs.AddedPlanes.{bits_with_two, bits_with_three, trits_with_two, degree_of_four, prime_of_four, degree_of_nine, prime_of_nine, degree_of_eight, planes_with_two, row_with_two, planes_with_three, row_with_three}
use Rattle.axe_row.proofs.planes.add_planes_in.Goals as goal

pub returns-then-this-eq4-clause-planes : goal.returns-then-this-eq4-clause-planes
returns-then-this-eq4-clause-planes g c =
    let four : order_number c.args.field.now ≡ 4 = omega (arith, c.requires.order, c.if-this-eq4.true) in
    let prime = prime_of_four _ four in
    let is = c.in-Bits-Bits-Bits-Bits in
    planes_with_two _ c.args.scalar (c.args.scalar % 2) (c.args.scalar / 2) (degree_of_four _ four) c.requires.element
    (ap (λ r. c.args.scalar % r) (sym prime)) (ap (λ r. c.args.scalar / r) (sym prime)) _ _ _ _ _ _ _ _ c.requires.planes c.requires.others
    (bits_with_two (λ p. to_constant_of_two (c.args.scalar % 2) (c.args.scalar / 2)) is.is-0 is.is-0 is.is-2 is.is-3 c.add_multiple_of_two.ensures.first)
    (bits_with_two (λ p. to_linear_of_two p (c.args.scalar % 2) (c.args.scalar / 2)) is.is-0 is.is-1 is.is-2 is.is-3 c.add_multiple_of_two.ensures.second)

pub returns-then-this-eq4-clause-sum : goal.returns-then-this-eq4-clause-sum
returns-then-this-eq4-clause-sum g c =
    let four : order_number c.args.field.now ≡ 4 = omega (arith, c.requires.order, c.if-this-eq4.true) in
    let prime = prime_of_four _ four in
    let is = c.in-Bits-Bits-Bits-Bits in
    row_with_two _ c.args.scalar (c.args.scalar % 2) (c.args.scalar / 2) (degree_of_four _ four) c.requires.element
    (ap (λ r. c.args.scalar % r) (sym prime)) (ap (λ r. c.args.scalar / r) (sym prime)) _ _ _ _ _ _ _ _ c.requires.planes c.requires.others
    (bits_with_two (λ p. to_constant_of_two (c.args.scalar % 2) (c.args.scalar / 2)) is.is-0 is.is-0 is.is-2 is.is-3 c.add_multiple_of_two.ensures.first)
    (bits_with_two (λ p. to_linear_of_two p (c.args.scalar % 2) (c.args.scalar / 2)) is.is-0 is.is-1 is.is-2 is.is-3 c.add_multiple_of_two.ensures.second)

pub returns-then-this-eq9-clause-planes : goal.returns-then-this-eq9-clause-planes
returns-then-this-eq9-clause-planes g c =
    let nine : order_number c.args.field.now ≡ 9 = omega (arith, c.requires.order, c.if-this-eq9.true) in
    let prime = prime_of_nine _ nine in
    let is = c.in-Trits-Trits-Trits-Trits in
    planes_with_two _ c.args.scalar (c.args.scalar % 3) (c.args.scalar / 3) (degree_of_nine _ nine) c.requires.element
    (ap (λ r. c.args.scalar % r) (sym prime)) (ap (λ r. c.args.scalar / r) (sym prime)) _ _ _ _ _ _ _ _ c.requires.planes c.requires.others
    (trits_with_two (λ p. to_constant_of_two (c.args.scalar % 3) (c.args.scalar / 3)) is.is-0 is.is-0 is.is-2 is.is-3 c.add_multiple_of_two-in-Trits-Trits-Trits-Trits.ensures.first)
    (trits_with_two (λ p. to_linear_of_two p (c.args.scalar % 3) (c.args.scalar / 3)) is.is-0 is.is-1 is.is-2 is.is-3 c.add_multiple_of_two-in-Trits-Trits-Trits-Trits.ensures.second)

pub returns-then-this-eq9-clause-sum : goal.returns-then-this-eq9-clause-sum
returns-then-this-eq9-clause-sum g c =
    let nine : order_number c.args.field.now ≡ 9 = omega (arith, c.requires.order, c.if-this-eq9.true) in
    let prime = prime_of_nine _ nine in
    let is = c.in-Trits-Trits-Trits-Trits in
    row_with_two _ c.args.scalar (c.args.scalar % 3) (c.args.scalar / 3) (degree_of_nine _ nine) c.requires.element
    (ap (λ r. c.args.scalar % r) (sym prime)) (ap (λ r. c.args.scalar / r) (sym prime)) _ _ _ _ _ _ _ _ c.requires.planes c.requires.others
    (trits_with_two (λ p. to_constant_of_two (c.args.scalar % 3) (c.args.scalar / 3)) is.is-0 is.is-0 is.is-2 is.is-3 c.add_multiple_of_two-in-Trits-Trits-Trits-Trits.ensures.first)
    (trits_with_two (λ p. to_linear_of_two p (c.args.scalar % 3) (c.args.scalar / 3)) is.is-0 is.is-1 is.is-2 is.is-3 c.add_multiple_of_two-in-Trits-Trits-Trits-Trits.ensures.second)

pub returns-clause-planes : goal.returns-clause-planes
returns-clause-planes g c =
    let three : degree_of c.args.field.now ≡ 3 =
    degree_of_eight _ c.requires.not_prime (λ four. omega (arith, four, c.requires.order, c.if-this-eq4.false))
    (λ nine. omega (arith, nine, c.requires.order, c.if-this-eq9.false)) in
    let is = c.in-Bits-Bits-Bits-Bits-Bits-Bits in
    planes_with_three _ c.args.scalar three c.requires.element _ _ _ _ _ _ _ _ _ c.requires.planes c.requires.others
    (bits_with_three (to_constant_of_three (c.args.scalar % 2) (c.args.scalar / 2 % 2) (c.args.scalar / 4)) is.is-0 is.is-3 is.is-4 is.is-5 c.add_multiple_of_three.ensures.first)
    (bits_with_three (to_linear_of_three (c.args.scalar % 2) (c.args.scalar / 2 % 2) (c.args.scalar / 4)) is.is-1 is.is-3 is.is-4 is.is-5 c.add_multiple_of_three.ensures.second)
    (bits_with_three (to_quadratic_of_three (c.args.scalar % 2) (c.args.scalar / 2 % 2) (c.args.scalar / 4)) is.is-2 is.is-3 is.is-4 is.is-5 c.add_multiple_of_three.ensures.third)

pub returns-clause-sum : goal.returns-clause-sum
returns-clause-sum g c =
    let three : degree_of c.args.field.now ≡ 3 =
    degree_of_eight _ c.requires.not_prime (λ four. omega (arith, four, c.requires.order, c.if-this-eq4.false))
    (λ nine. omega (arith, nine, c.requires.order, c.if-this-eq9.false)) in
    let is = c.in-Bits-Bits-Bits-Bits-Bits-Bits in
    row_with_three _ c.args.scalar three c.requires.element _ _ _ _ _ _ _ _ _ c.requires.planes c.requires.others
    (bits_with_three (to_constant_of_three (c.args.scalar % 2) (c.args.scalar / 2 % 2) (c.args.scalar / 4)) is.is-0 is.is-3 is.is-4 is.is-5 c.add_multiple_of_three.ensures.first)
    (bits_with_three (to_linear_of_three (c.args.scalar % 2) (c.args.scalar / 2 % 2) (c.args.scalar / 4)) is.is-1 is.is-3 is.is-4 is.is-5 c.add_multiple_of_three.ensures.second)
    (bits_with_three (to_quadratic_of_three (c.args.scalar % 2) (c.args.scalar / 2 % 2) (c.args.scalar / 4)) is.is-2 is.is-3 is.is-4 is.is-5 c.add_multiple_of_three.ensures.third)
