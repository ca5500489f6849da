use Rattle.axe_plane.proofs.Plane.cancel_where_zeros.Goals.{in-Bits-Bits, in-Trits-Trits, in-Bytes-Bytes}
use Rattle.axe_plane.proofs.Plane.cancel_where_zeros.Goals as goal

pub returns-clause-factor : goal.returns-clause-factor
returns-clause-factor c = elim c.match-self.branch [
  | in-Bits-Bits w ↦ rw (w.result-is, w.in-Bits-Bits.is-0) w.cancel_bits.ensures.factor
  | in-Trits-Trits w ↦ rw (w.result-is, w.in-Trits-Trits.is-0) w.cancel_trits.ensures.factor
  | in-Bytes-Bytes w ↦ rw (w.result-is, w.in-Bytes-Bytes.is-0) w.cancel.ensures.factor
]
