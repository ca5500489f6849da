use Rattle.std.proofs.Common.{length}
use Rattle.axe_reduction.proofs.reduction.+reduction_of.Given as goal

abbrev pub decreases-reduction_of : goal.decreases-reduction_of
decreases-reduction_of l = length l.rows.rows
