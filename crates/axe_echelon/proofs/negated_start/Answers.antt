use Rattle.std.proofs.Common.{◌∙◌}
use Rattle.axe_echelon.proofs.NegatedRows.{negated_row}
use Rattle.axe_echelon.proofs.negated_start.Goals as goal

pub returns : goal.returns
returns c =
    c.scale.ensures.multiple
    ∙ negated_row c.args.row.now c.in_ok-start.start c.field.result.now c.args.len c.neg-minus_one.result c.in_ok-start.ensures.part c.in_ok-start.ensures.well_formed
    c.field.ensures.order c.neg-minus_one.ensures.value
