use Rattle.std.proofs.Common.{◌*◌, [], get_or}
use Rattle.axe_field.specs.NumberFields.{number_field}
use Rattle.axe_matrix.specs.Products.{row_with_terms}
use Rattle.axe_matrix.proofs.RewrittenRows.{IsRewrittenBelow}
use Rattle.axe_matrix.proofs.sums.MatrixSum.add_block.Given as goal

abbrev pub invariant-loop-index : goal.invariant-loop-index
invariant-loop-index l =
    IsRewrittenBelow l.index l.fn.self
    (λ i. row_with_terms (number_field l.fn.self.order) l.fn.self.cols (get_or l.fn.self.rows i []) 1 (get_or l.a.rows i []) l.b.rows l.at (4 * l.tables.size))
    l.self
