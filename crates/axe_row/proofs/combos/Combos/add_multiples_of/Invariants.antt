use Rattle.axe_row.proofs.CombinationLaws.{AreMultiplesBelow}
use Rattle.axe_row.proofs.combos.Combos.add_multiples_of.Given as goal

abbrev pub invariant-loop-scalar : goal.invariant-loop-scalar
invariant-loop-scalar l = AreMultiplesBelow l.scalar l.filled l.row.entries l.fn.self l.self
