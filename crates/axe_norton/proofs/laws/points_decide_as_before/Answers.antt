use Rattle.axe_norton.proofs.UniqueLaws.{says_by_points, points_decide}
use Rattle.axe_norton.proofs.laws.points_decide_as_before.Goals as goal

pub returns-clause-says : goal.returns-clause-says
returns-clause-says c = says_by_points

pub returns-clause-decides : goal.returns-clause-decides
returns-clause-decides c = points_decide
