use Rattle.std.proofs.Common.{[], length, get_or}
use Rattle.axe_matrix.specs.Matrices.{entries_at}
use Rattle.axe_matrix.proofs.PartialMatrices.{IsPartialMatrix}
use Rattle.axe_matrix.proofs.Matrix.columns_at.Given as goal

abbrev pub invariant-loop-index : goal.invariant-loop-index
invariant-loop-index l =
    IsPartialMatrix l.self.order (length l.columns) (λ i. entries_at l.columns (get_or l.self.rows i [])) l.index l.chosen
