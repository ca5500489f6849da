use Rattle.axe_field.proofs.Field.new.Goals as goal
use Rattle.axe_field.proofs.Field.new.Goals.{in-2, in-3, in-4, in-5, in-7, in-8, in-9}

pub invariant_of-result : goal.invariant_of-result
invariant_of-result c = elim c.match-order.branch [
  | in-2 w ↦ rw (w.in-2.is, w.prime-is)
  | in-3 w ↦ rw (w.in-3.is, w.prime-is)
  | in-4 w ↦ rw (w.in-4.is, w.prime-is)
  | in-5 w ↦ rw (w.in-5.is, w.prime-is)
  | in-7 w ↦ rw (w.in-7.is, w.prime-is)
  | in-8 w ↦ rw (w.in-8.is, w.prime-is)
  | in-9 w ↦ rw (w.in-9.is, w.prime-is)
]
