use Rattle.axe_algebra.proofs.PointSpans.{spanned_are_multiples, multiples_are_of_one_point}
use Rattle.axe_algebra.proofs.points.nonzero_vector_is_a_multiple_of_one_point.Goals as goal

pub returns-clause-some : goal.returns-clause-some
returns-clause-some c = spanned_are_multiples

pub returns-clause-only : goal.returns-clause-only
returns-clause-only c = multiples_are_of_one_point
