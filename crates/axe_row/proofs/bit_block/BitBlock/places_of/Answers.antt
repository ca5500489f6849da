use Rattle.std.proofs.Common.{◌<◌, arith}
use Rattle.axe_field.proofs.Orders.{order_number-at_most}
use Rattle.axe_row.proofs.BitBlockLaws.{lower-small, place_marked, upper-small}
use Rattle.axe_row.proofs.bit_block.BitBlock.places_of.Goals as goal

pub returns : goal.returns
returns g c = λ o is prime element entries h i low.
    let w = c.weight_of_size-weight in
    let small : c.args.element < 9 = omega (arith, element, order_number-at_most o) in
    place_marked o c.args.self.now c.args.element w.result entries (w.ensures.weight o is prime) w.ensures.either h i low _ _ _ _
    (c.places_of_bit.ensures (omega arith) i low)
    (c.places_of_bit-2.ensures (lower-small w.result c.args.element w.ensures.either) i low)
    (c.places_of_bit-3.ensures (omega arith) i low)
    (c.places_of_bit-4.ensures (upper-small w.result c.args.element w.ensures.either small) i low)
