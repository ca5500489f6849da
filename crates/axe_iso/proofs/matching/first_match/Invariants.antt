use Rattle.axe_iso.proofs.FormLaws.{AreTried}
use Rattle.axe_iso.proofs.matching.first_match.Given as goal

abbrev pub invariant-loop-point : goal.invariant-loop-point
invariant-loop-point l = AreTried l.form l.module l.space l.point-iterator
