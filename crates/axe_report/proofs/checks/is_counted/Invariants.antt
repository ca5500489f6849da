use Rattle.axe_report.proofs.Counts.{CountedTo}
use Rattle.axe_report.proofs.checks.is_counted.Given as goal

abbrev pub invariant-loop-place : goal.invariant-loop-place
invariant-loop-place l = CountedTo l.factors l.series l.place
