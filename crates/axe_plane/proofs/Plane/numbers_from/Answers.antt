use Rattle.axe_plane.proofs.Plane.numbers_from.Goals as goal

pub returns-in-Bits-clause-value : goal.returns-in-Bits-clause-value
returns-in-Bits-clause-value c = rw c.in-Bits.is c.numbers_from.ensures.value

pub returns-in-Bits-clause-small : goal.returns-in-Bits-clause-small
returns-in-Bits-clause-small c = c.numbers_from.ensures.small

pub returns-in-Trits : goal.returns-in-Trits
returns-in-Trits c = c.numbers_modulo_odd.ensures
