use Rattle.std.proofs.Common.{rules, length, ap, ◌∙◌}
use Rattle.axe_row.specs.Rows.{RowValue}
use Rattle.axe_row.proofs.OperationLaws.{length-sum_with_multiple}
use Rattle.axe_row.proofs.combos.Combos.add_to.Goals as goal

pub returns-clause-as_long : goal.returns-clause-as_long
returns-clause-as_long c = ap (λ (r : RowValue). length r.entries) c.add_from_table.ensures.sum ∙ length-sum_with_multiple _ _ _ _

pub returns-clause-sum : goal.returns-clause-sum
returns-clause-sum c = search rules

pub add_from_table-requires-clause-fits : goal.add_from_table-requires-clause-fits
add_from_table-requires-clause-fits c = search rules

pub add_from_table-requires-clause-element : goal.add_from_table-requires-clause-element
add_from_table-requires-clause-element c = search rules

pub returns-clause-well_formed : goal.returns-clause-well_formed
returns-clause-well_formed c = search rules
