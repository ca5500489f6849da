use Rattle.std.proofs.Common.{◌/◌, ◌%◌, sym, ap, ◌∙◌, arith}
use Rattle.axe_row.proofs.AddedPlanes.{degree_of_four, prime_of_four, degree_of_nine, prime_of_nine, degree_of_eight, planes_with_two, row_with_two, planes_with_three, row_with_three}
use Rattle.axe_row.proofs.planes.add_planes.Goals as goal

pub returns-in-4-clause-planes : goal.returns-in-4-clause-planes
returns-in-4-clause-planes c =
    let is = sym c.order.ensures.value ∙ c.in-4.is in
    let prime = prime_of_four _ is in
    planes_with_two _ c.args.scalar (c.args.scalar % 2) (c.args.scalar / 2) (degree_of_four _ is) c.requires.element
    (ap (λ r. c.args.scalar % r) (sym prime)) (ap (λ r. c.args.scalar / r) (sym prime)) _ _ _ _ _ _ _ _ c.requires.planes c.requires.others
    c.add_multiple_of_two.ensures.first c.add_multiple_of_two.ensures.second

pub returns-in-4-clause-sum : goal.returns-in-4-clause-sum
returns-in-4-clause-sum c =
    let is = sym c.order.ensures.value ∙ c.in-4.is in
    let prime = prime_of_four _ is in
    row_with_two _ c.args.scalar (c.args.scalar % 2) (c.args.scalar / 2) (degree_of_four _ is) c.requires.element
    (ap (λ r. c.args.scalar % r) (sym prime)) (ap (λ r. c.args.scalar / r) (sym prime)) _ _ _ _ _ _ _ _ c.requires.planes c.requires.others
    c.add_multiple_of_two.ensures.first c.add_multiple_of_two.ensures.second

pub returns-in-9-clause-planes : goal.returns-in-9-clause-planes
returns-in-9-clause-planes c =
    let is = sym c.order.ensures.value ∙ c.in-9.is in
    let prime = prime_of_nine _ is in
    planes_with_two _ c.args.scalar (c.args.scalar % 3) (c.args.scalar / 3) (degree_of_nine _ is) c.requires.element
    (ap (λ r. c.args.scalar % r) (sym prime)) (ap (λ r. c.args.scalar / r) (sym prime)) _ _ _ _ _ _ _ _ c.requires.planes c.requires.others
    c.add_multiple_of_two-in-9.ensures.first c.add_multiple_of_two-in-9.ensures.second

pub returns-in-9-clause-sum : goal.returns-in-9-clause-sum
returns-in-9-clause-sum c =
    let is = sym c.order.ensures.value ∙ c.in-9.is in
    let prime = prime_of_nine _ is in
    row_with_two _ c.args.scalar (c.args.scalar % 3) (c.args.scalar / 3) (degree_of_nine _ is) c.requires.element
    (ap (λ r. c.args.scalar % r) (sym prime)) (ap (λ r. c.args.scalar / r) (sym prime)) _ _ _ _ _ _ _ _ c.requires.planes c.requires.others
    c.add_multiple_of_two-in-9.ensures.first c.add_multiple_of_two-in-9.ensures.second

pub returns-in_default-clause-planes : goal.returns-in_default-clause-planes
returns-in_default-clause-planes c =
    let three = degree_of_eight _ c.requires.not_prime (λ four. omega (arith, four, c.order.ensures.value)) (λ nine. omega (arith, nine, c.order.ensures.value)) in
    planes_with_three _ c.args.scalar three c.requires.element _ _ _ _ _ _ _ _ _ c.requires.planes c.requires.others
    c.add_multiple_of_three.ensures.first c.add_multiple_of_three.ensures.second c.add_multiple_of_three.ensures.third

pub returns-in_default-clause-sum : goal.returns-in_default-clause-sum
returns-in_default-clause-sum c =
    let three = degree_of_eight _ c.requires.not_prime (λ four. omega (arith, four, c.order.ensures.value)) (λ nine. omega (arith, nine, c.order.ensures.value)) in
    row_with_three _ c.args.scalar three c.requires.element _ _ _ _ _ _ _ _ _ c.requires.planes c.requires.others
    c.add_multiple_of_three.ensures.first c.add_multiple_of_three.ensures.second c.add_multiple_of_three.ensures.third
