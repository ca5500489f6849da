use Rattle.std.proofs.Common.{◌*◌, length}
use Rattle.axe_field.specs.Order.{order_number}
use Rattle.axe_poly.specs.Sieve.{MarksProducts}
use Rattle.axe_poly.proofs.sieve.mark_multiples.Given as goal

abbrev pub invariant-loop-higher : goal.invariant-loop-higher
invariant-loop-higher l =
    MarksProducts l.lanes l.divisor (length l.fn.marks) (l.first * order_number l.lanes)
    (l.higher * order_number l.lanes) l.fn.marks l.marks
