use Rattle.std.proofs.Common.{rules, ◌≡◌, arith}
use Rattle.axe_row.proofs.NegativeEntries.{row_with_none}
use Rattle.axe_row.proofs.Row.cancel_by_planes.Goals as goal

pub returns-else-factor-ne0-clause-sum : goal.returns-else-factor-ne0-clause-sum
returns-else-factor-ne0-clause-sum c =
    let none : c.neg-factor.result ≡ 0 = omega (arith, c.if-factor-ne0.false) in
    row_with_none _ _ _ c.get_by_planes.ensures.well_formed c.field.ensures.well_formed c.requires.field none

pub returns-then-factor-ne0-clause-sum : goal.returns-then-factor-ne0-clause-sum
returns-then-factor-ne0-clause-sum c = search rules

pub get_by_planes-requires : goal.get_by_planes-requires
get_by_planes-requires c = search rules

pub neg-factor-requires : goal.neg-factor-requires
neg-factor-requires c = search rules

pub add_by_planes-requires-clause-within : goal.add_by_planes-requires-clause-within
add_by_planes-requires-clause-within c = search rules

pub add_by_planes-requires-clause-field : goal.add_by_planes-requires-clause-field
add_by_planes-requires-clause-field c = search rules

pub add_by_planes-requires-clause-fits : goal.add_by_planes-requires-clause-fits
add_by_planes-requires-clause-fits c = search rules

pub add_by_planes-requires-clause-element : goal.add_by_planes-requires-clause-element
add_by_planes-requires-clause-element c = search rules

pub add_by_planes-requires-clause-zeros : goal.add_by_planes-requires-clause-zeros
add_by_planes-requires-clause-zeros c = search rules

pub returns-then-factor-ne0-clause-factor : goal.returns-then-factor-ne0-clause-factor
returns-then-factor-ne0-clause-factor c = search rules

pub returns-then-factor-ne0-clause-element : goal.returns-then-factor-ne0-clause-element
returns-then-factor-ne0-clause-element c = search rules

pub returns-then-factor-ne0-clause-well_formed : goal.returns-then-factor-ne0-clause-well_formed
returns-then-factor-ne0-clause-well_formed c = search rules

pub returns-else-factor-ne0-clause-factor : goal.returns-else-factor-ne0-clause-factor
returns-else-factor-ne0-clause-factor c = search rules

pub returns-else-factor-ne0-clause-element : goal.returns-else-factor-ne0-clause-element
returns-else-factor-ne0-clause-element c = search rules

pub returns-else-factor-ne0-clause-well_formed : goal.returns-else-factor-ne0-clause-well_formed
returns-else-factor-ne0-clause-well_formed c = search rules
