use Rattle.axe_matrix.proofs.ChosenRows.{row_at_place}
use Rattle.axe_matrix.proofs.PartialMatrices.{IsPartialMatrix}
use Rattle.axe_matrix.proofs.Matrix.rows_at.Given as goal

abbrev pub invariant-loop-place : goal.invariant-loop-place
invariant-loop-place l = IsPartialMatrix l.self.order l.self.cols (row_at_place l.self.rows l.places) l.place-index l.chosen
