use Rattle.axe_plane.proofs.Plane.get.Goals as goal

pub returns-in-Bits : goal.returns-in-Bits
returns-in-Bits c = rw c.in-Bits.is c.get.ensures

pub returns-in-Trits : goal.returns-in-Trits
returns-in-Trits c = c.digit_modulo_odd.ensures
