use Rattle.axe_algebra.proofs.PointLists.{count_times, count_grows}
use Rattle.axe_algebra.proofs.points.points_are_counted.Goals as goal

pub returns-clause-count : goal.returns-clause-count
returns-clause-count c = count_times

pub returns-clause-grows : goal.returns-clause-grows
returns-clause-grows c = count_grows
