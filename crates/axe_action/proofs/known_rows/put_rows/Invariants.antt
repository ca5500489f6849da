use Rattle.axe_matrix.proofs.PartialMatrices.{IsPartialMatrix}
use Rattle.axe_action.proofs.KnownRowLaws.{known_row_at}
use Rattle.axe_action.proofs.known_rows.put_rows.Given as goal

abbrev pub invariant-loop-known : goal.invariant-loop-known
invariant-loop-known l = IsPartialMatrix l.products.order l.products.cols (known_row_at l.products l.rows) l.known-index l.matrix
