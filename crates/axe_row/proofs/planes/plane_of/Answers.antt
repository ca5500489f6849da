use Rattle.axe_row.proofs.ElementPlanes.{made_in, place_is_low}
use Rattle.axe_row.proofs.planes.plane_of.Goals as goal

pub of_numbers-requires-clause-bytes : goal.of_numbers-requires-clause-bytes
of_numbers-requires-clause-bytes c = place_is_low c.args.field.now _ _ c.args.power c.prime-prime.ensures c.degree-degree.ensures c.if-power-degree.true

pub returns-then-power-degree : goal.returns-then-power-degree
returns-then-power-degree c =
    made_in c.of_numbers.result c.args.field.now _ _ c.args.power c.args.elements.now c.prime-prime.ensures c.degree-degree.ensures
    c.if-power-degree.true c.of_numbers.ensures
