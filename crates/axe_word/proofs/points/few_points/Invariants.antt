use Rattle.std.proofs.Common.{◌≡◌, ◌≤◌}
use Rattle.axe_word.specs.PointsOfMatrix.{point_count}
use Rattle.axe_word.proofs.points.few_points.Given as goal

abbrev pub invariant-loop : goal.invariant-loop
invariant-loop l = record { counted : l.count ≡ point_count l.order l.counter; few : l.count ≤ l.bound }
