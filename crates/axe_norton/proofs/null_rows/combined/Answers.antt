use Rattle.axe_norton.proofs.MisfitLaws.{like_sum}
use Rattle.axe_norton.proofs.null_rows.combined.Goals as goal

pub loop-index-preserved : goal.loop-index-preserved
loop-index-preserved c =
    like_sum c.args.rows.now.order c.args.rows.now.cols c.loop-index.row c.row.result.now c.add_scaled.new.self
    c.get.result c.loop-index.invariant c.add_scaled.ensures.sum c.add_scaled.ensures.as_long
