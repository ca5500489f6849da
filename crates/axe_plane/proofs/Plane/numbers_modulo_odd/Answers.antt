use Rattle.axe_plane.proofs.Plane.numbers_modulo_odd.Goals as goal

pub returns-in-Bytes : goal.returns-in-Bytes
returns-in-Bytes c = rw c.in-Bytes.is c.numbers_from-in-Bytes.ensures

pub returns-in-Trits : goal.returns-in-Trits
returns-in-Trits c = rw c.in-Trits.is c.numbers_from.ensures
