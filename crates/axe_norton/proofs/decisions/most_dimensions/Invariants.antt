use Rattle.std.proofs.Common.{◌≤◌, ◌-◌}
use Rattle.axe_word.specs.PointsOfMatrix.{point_count, most_points}
use Rattle.axe_norton.proofs.decisions.most_dimensions.Given as goal

abbrev pub invariant-loop-most : goal.invariant-loop-most
invariant-loop-most l = point_count l.order l.most ≤ most_points

abbrev pub decreases-loop-most : goal.decreases-loop-most
decreases-loop-most l = most_points - l.most
