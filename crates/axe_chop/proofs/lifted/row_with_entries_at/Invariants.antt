use Rattle.axe_chop.proofs.Placements.{IsPlaced}
use Rattle.axe_chop.proofs.lifted.row_with_entries_at.Given as goal

abbrev pub invariant-loop-place : goal.invariant-loop-place
invariant-loop-place l = IsPlaced l.row l.dim l.columns l.place l.placed
