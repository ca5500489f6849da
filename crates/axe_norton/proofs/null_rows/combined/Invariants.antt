use Rattle.axe_norton.specs.Misfits.{IsRowLike}
use Rattle.axe_norton.proofs.null_rows.combined.Given as goal

abbrev pub invariant-loop-index : goal.invariant-loop-index
invariant-loop-index l = IsRowLike l.rows.order l.rows.cols l.row
