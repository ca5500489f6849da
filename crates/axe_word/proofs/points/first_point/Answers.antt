use Rattle.std.proofs.Common.{◌≡◌, ◌-◌, length, subst, ◌∙◌, arith}
use Rattle.std.specs.Prelude.{None}
use Rattle.axe_row.specs.Rows.{RowValue}
use Rattle.axe_row.specs.Refusals.{Answers}
use Rattle.axe_word.proofs.PointSums.{last_row_is_first_point}
use Rattle.axe_word.proofs.points.first_point.Goals as goal

pub returns-clause-first : goal.returns-clause-first
returns-clause-first c =
    let last : c.rows.result - 1 ≡ length c.args.basis.now.rows - 1 = omega (arith, c.rows.ensures.count) in
    subst (λ (v : RowValue). Answers {T = RowValue} None (λ point. point ≡ v) c.copy.result)
    (c.row.ensures.value ∙ last_row_is_first_point c.args.basis.now (c.rows.result - 1) c.rows.ensures.well_formed c.requires.some_row last)
    c.copy.ensures.copied
