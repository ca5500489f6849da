use Rattle.std.proofs.Common.{◌≡◌, take}
use Rattle.axe_chop.proofs.reported.digits_of.Given as goal

abbrev pub invariant-loop-exponent : goal.invariant-loop-exponent
invariant-loop-exponent l = l.digits.items ≡ take l.exponent l.poly.coefficients
