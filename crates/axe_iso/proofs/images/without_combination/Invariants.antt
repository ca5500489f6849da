use Rattle.axe_iso.specs.Images.{IsImageWithout}
use Rattle.axe_iso.proofs.images.without_combination.Given as goal

abbrev pub invariant-loop-number : goal.invariant-loop-number
invariant-loop-number l = IsImageWithout l.coefficients.entries l.layers l.number l.fn.image l.difference
