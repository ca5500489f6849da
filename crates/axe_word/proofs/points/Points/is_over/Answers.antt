use Rattle.std.proofs.Common.{length, sym, ap, ◌∙◌}
use Rattle.std.proofs.lemmas.Bool.{leb-true, le-leb}
use Rattle.axe_word.specs.PointsOfMatrix.{PointsLeft}
use Rattle.axe_word.proofs.PointPlaces.{none_is_left, past_end}
use Rattle.axe_word.proofs.points.Points.is_over.Goals as goal

pub returns : goal.returns
returns c =
    let seen = ap (λ (v : PointsLeft). length v.left) c.self.view_is in (
      λ past. sym seen ∙ none_is_left _ _ _ _ c.self.invariant (leb-true c.self.inside.end c.self.inside.number past),
      λ none. le-leb c.self.inside.end c.self.inside.number (past_end _ _ _ _ c.self.invariant (seen ∙ none)),
    )
