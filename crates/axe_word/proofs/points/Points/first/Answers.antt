use Rattle.std.proofs.Common.{◌≡◌, ap, subst}
use Rattle.std.specs.Prelude.{None}
use Rattle.axe_row.specs.Rows.{RowValue}
use Rattle.axe_row.specs.Refusals.{Answers}
use Rattle.axe_row.proofs.RowLaws.{same_row}
use Rattle.axe_word.specs.PointsOfMatrix.{PointsLeft}
use Rattle.axe_word.proofs.PointPlaces.{value_first}
use Rattle.axe_word.proofs.points.Points.first.Goals as goal

pub returns-clause-first : goal.returns-clause-first
returns-clause-first c =
    subst (λ (v : RowValue). Answers {T = RowValue} None (λ point. point ≡ v) c.combination_with_number.result)
    (same_row _ _ (ap (λ (v : PointsLeft). v.order) c.self.view_is) (value_first _ _ _ _ c.self.invariant _ c.self.view_is c.requires))
    c.combination_with_number.ensures.combination
