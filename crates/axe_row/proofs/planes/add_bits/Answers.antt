use Rattle.axe_row.proofs.AddedPlanes.{bits_with_one}
use Rattle.axe_row.proofs.planes.add_bits.Goals as goal

pub returns : goal.returns
returns c = bits_with_one c.in-Bits-Bits.is-0 c.in-Bits-Bits.is-1 c.add_from.ensures
