use Rattle.axe_row.proofs.SumWords.{IsPassed}
use Rattle.axe_row.proofs.combos.row_sum.RowSum.next_in_word.Given as goal

abbrev pub invariant-loop-place : goal.invariant-loop-place
invariant-loop-place l = IsPassed l.self.entries l.at l.fn.places l.places

abbrev pub decreases-loop-place : goal.decreases-loop-place
decreases-loop-place l = l.places
