use Rattle.std.proofs.Common.{length}
use Rattle.axe_norton.specs.Misfits.{IsRowLike}
use Rattle.axe_norton.proofs.null_rows.take_multiple.Given as goal

abbrev pub invariant-loop-exponent : goal.invariant-loop-exponent
invariant-loop-exponent l = IsRowLike l.fn.row.order (length l.fn.row.entries) l.row
