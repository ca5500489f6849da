use Rattle.axe_algebra.proofs.PointSpans.{points_are_nonzero_spanned}
use Rattle.axe_algebra.proofs.points.points_are_nonzero_vectors.Goals as goal

pub returns : goal.returns
returns c = points_are_nonzero_spanned
