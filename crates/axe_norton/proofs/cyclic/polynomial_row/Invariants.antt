use Rattle.axe_norton.proofs.CyclicLaws.{IsRowUpTo}
use Rattle.axe_norton.proofs.cyclic.polynomial_row.Given as goal

abbrev pub invariant-loop-exponent : goal.invariant-loop-exponent
invariant-loop-exponent l = IsRowUpTo l.basis l.poly l.start l.exponent l.row
