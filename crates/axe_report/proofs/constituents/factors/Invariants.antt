use Rattle.axe_report.proofs.NextLines.{LinesRead}
use Rattle.axe_report.proofs.constituents.factors.Given as goal

abbrev pub invariant-loop-factors : goal.invariant-loop-factors
invariant-loop-factors l = LinesRead l.text l.header l.factors.items l.rest l.room

abbrev pub decreases-loop-factors : goal.decreases-loop-factors
decreases-loop-factors l = l.room
