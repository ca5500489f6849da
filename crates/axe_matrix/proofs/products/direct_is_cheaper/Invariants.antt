use Rattle.std.proofs.Common.{◌-◌, length}
use Rattle.axe_matrix.proofs.products.direct_is_cheaper.Given as goal

abbrev pub decreases-loop-index : goal.decreases-loop-index
decreases-loop-index l = length l.a.rows - l.index
