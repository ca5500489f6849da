use Rattle.std.proofs.Common.{length}
use Rattle.axe_report.proofs.LastLines.{SeriesRead}
use Rattle.axe_report.proofs.last_line.series.Given as goal

abbrev pub invariant-loop-name : goal.invariant-loop-name
invariant-loop-name l = SeriesRead l.text l.factors l.series.items l.rest

abbrev pub decreases-loop-name : goal.decreases-loop-name
decreases-loop-name l = length l.rest
