use Rattle.std.proofs.Common.{◌+◌, ◌*◌}
use Rattle.axe_row.proofs.PackedNumbers.{pieces_small}
use Rattle.axe_row.proofs.lanes.numbers_in_lanes.Goals as goal

pub returns : goal.returns
returns c =
    let size = c.args.size in
    let at = c.args.at in
    c.lanes_of.ensures _ _ _ _
    (pieces_small _ _ _ _ c.requires.planes c.requires.not_prime size at c.requires.few)
    (pieces_small _ _ _ _ c.requires.planes c.requires.not_prime size (at + size) c.requires.few)
    (pieces_small _ _ _ _ c.requires.planes c.requires.not_prime size (at + 2 * size) c.requires.few)
    (pieces_small _ _ _ _ c.requires.planes c.requires.not_prime size (at + 3 * size) c.requires.few)
    c.packed_numbers.ensures
