use Rattle.axe_plane.proofs.Plane.dot.Goals as goal

pub returns-in-Bits-Bits : goal.returns-in-Bits-Bits
returns-in-Bits-Bits c = rw (c.in-Bits-Bits.is-0, c.in-Bits-Bits.is-1) c.dot.ensures

pub returns-in-Trits-Trits : goal.returns-in-Trits-Trits
returns-in-Trits-Trits c = rw (c.in-Trits-Trits.is-0, c.in-Trits-Trits.is-1) c.dot-in-Trits-Trits.ensures

pub returns-in-Bytes-Bytes : goal.returns-in-Bytes-Bytes
returns-in-Bytes-Bytes c = rw (c.in-Bytes-Bytes.is-0, c.in-Bytes-Bytes.is-1) c.dot-in-Bytes-Bytes.ensures
