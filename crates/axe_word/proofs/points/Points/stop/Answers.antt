use Rattle.std.proofs.Common.{ap}
use Rattle.axe_word.specs.PointsOfMatrix.{PointsLeft}
use Rattle.axe_word.proofs.PointPlaces.{same_left, left_at_end}
use Rattle.axe_word.proofs.points.Points.stop.Goals as goal

pub returns : goal.returns
returns c =
    same_left _ _ (ap (λ (v : PointsLeft). v.order) c.self.view_is)
    (left_at_end c.self.inside.basis.now c.self.inside.number c.self.inside.leading c.self.inside.end c.self.invariant)
