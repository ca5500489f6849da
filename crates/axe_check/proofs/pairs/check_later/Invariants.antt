use Rattle.axe_check.specs.Steps.{IsApartTo}
use Rattle.axe_check.proofs.pairs.check_later.Given as goal

abbrev pub invariant-loop-second : goal.invariant-loop-second
invariant-loop-second l = IsApartTo l.factors l.first l.second
