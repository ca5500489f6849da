use Rattle.std.proofs.Common.{◌≡◌}
use Rattle.axe_matrix.specs.Strips.{placed_columns}
use Rattle.axe_matrix.proofs.MultipleLaws.{sum_row}
use Rattle.axe_matrix.proofs.RewrittenRows.{IsRewrittenBelow}
use Rattle.axe_matrix.proofs.Matrix.add_sums.Given as goal

abbrev pub invariant-loop-index : goal.invariant-loop-index
invariant-loop-index l = record {
  rewritten :
      IsRewrittenBelow l.index l.fn.self (sum_row l.fn.self 1 (placed_columns l.fn.self.cols l.start l.fn.sums)) l.self;
  sums : l.sums ≡ l.fn.sums;
}
