use Rattle.std.proofs.Common.{rules, set, ap, ◌∙◌, arith}
use Rattle.std.proofs.lemmas.Grind.{common_steps}
use Rattle.axe_row.specs.Rows.{RowValue}
use Rattle.axe_row.proofs.RowLaws.{same_row}
use Rattle.axe_row.proofs.UnitRows.{unit_row-set}
use Rattle.axe_row.proofs.Row.unit.Goals as goal

pub returns-clause-unit : goal.returns-clause-unit
returns-clause-unit c =
    let zeros = c.in_ok-row.ensures.zeros in
    let made = c.set.ensures.replaced in
    same_row _ _ (ap (λ (r : RowValue). r.order) made ∙ ap (λ (r : RowValue). r.order) zeros)
    (ap (λ (r : RowValue). r.entries) made ∙ ap (λ (r : RowValue). set r.entries c.args.index 1) zeros ∙ unit_row-set c.args.len c.args.index c.requires)

pub set-requires-clause-index : goal.set-requires-clause-index
set-requires-clause-index c = grind (arith, common_steps)

pub set-requires-clause-element : goal.set-requires-clause-element
set-requires-clause-element c = search rules

pub returns-clause-well_formed : goal.returns-clause-well_formed
returns-clause-well_formed c = search rules
