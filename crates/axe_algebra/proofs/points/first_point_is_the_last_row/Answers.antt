use Rattle.axe_algebra.proofs.PointSpans.{first_point_is_last_row}
use Rattle.axe_algebra.proofs.points.first_point_is_the_last_row.Goals as goal

pub returns : goal.returns
returns c = first_point_is_last_row
