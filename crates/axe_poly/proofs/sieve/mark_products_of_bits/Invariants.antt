use Rattle.std.proofs.Common.{length}
use Rattle.axe_field.specs.Order.{Two}
use Rattle.axe_poly.specs.Sieve.{MarksProducts}
use Rattle.axe_poly.proofs.sieve.mark_products_of_bits.Given as goal

abbrev pub invariant-loop-cofactor : goal.invariant-loop-cofactor
invariant-loop-cofactor l = MarksProducts Two l.divisor (length l.fn.marks) l.first l.cofactor l.fn.marks l.marks
