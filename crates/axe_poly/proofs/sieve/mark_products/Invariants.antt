use Rattle.std.proofs.Common.{◌*◌, ◌+◌, length}
use Rattle.axe_field.specs.Order.{order_number}
use Rattle.axe_poly.specs.Sieve.{MarksProducts}
use Rattle.axe_poly.proofs.sieve.mark_products.Given as goal

abbrev pub invariant-loop-digit : goal.invariant-loop-digit
invariant-loop-digit l =
    MarksProducts l.lanes l.divisor (length l.fn.marks) (l.higher * order_number l.lanes)
    (l.higher * order_number l.lanes + l.digit) l.fn.marks l.marks
