use Rattle.axe_plane.proofs.Plane.len.Goals as goal

pub returns-in-Bits : goal.returns-in-Bits
returns-in-Bits c = rw c.in-Bits.is c.len.ensures.count

pub returns-in-Trits : goal.returns-in-Trits
returns-in-Trits c = rw c.in-Trits.is c.len-in-Trits.ensures.count

pub returns-in-Bytes : goal.returns-in-Bytes
returns-in-Bytes c = rw c.in-Bytes.is c.len-in-Bytes.ensures.count
