use Rattle.axe_plane.proofs.Plane.packed_numbers.Goals as goal

pub returns-in-Bits-clause-value : goal.returns-in-Bits-clause-value
returns-in-Bits-clause-value c = rw c.in-Bits.is c.packed_numbers.ensures.value

pub returns-in-Trits-clause-value : goal.returns-in-Trits-clause-value
returns-in-Trits-clause-value c = rw c.in-Trits.is c.packed_numbers-in-Trits.ensures.value
