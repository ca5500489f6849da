use Rattle.std.proofs.Common.{refl}
use Rattle.axe_plane.proofs.Plane.set.Goals as goal

pub returns-in-Bits : goal.returns-in-Bits
returns-in-Bits c = rw c.in-Bits.is (record { prime = refl; digits_are = c.set.ensures })

pub returns-in-Trits : goal.returns-in-Trits
returns-in-Trits c = rw c.in-Trits.is (record { prime = refl; digits_are = c.set-in-Trits.ensures })
