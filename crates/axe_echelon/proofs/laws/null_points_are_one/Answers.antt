use Rattle.axe_echelon.proofs.NullSpacePoints
use Rattle.axe_echelon.proofs.laws.null_points_are_one.Goals as goal

pub returns : goal.returns
returns c = NullSpacePoints.null_points_are_one
