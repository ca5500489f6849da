use Rattle.axe_row.proofs.RowPlanes.{IsRow-of_planes}
use Rattle.axe_row.proofs.SumRows.{taken_kept, taken_prime, taken_row, left_kept, left_row}
use Rattle.axe_row.proofs.combos.row_sum.RowSum.take.Goals as goal

pub take-sums-requires : goal.take-sums-requires
take-sums-requires c = taken_prime _ _ c.row.inside.higher _ c.row.invariant c.row.view_is c.requires

pub invariant_of-row : goal.invariant_of-row
invariant_of-row c =
    left_kept _ _ c.row.inside.higher _ c.row.invariant c.row.view_is c.requires _ c.take-sums.ensures.left

pub invariant_of-result : goal.invariant_of-result
invariant_of-result c =
    taken_kept _ _ c.row.inside.higher _ c.row.invariant c.row.view_is c.requires _ c.take-sums.ensures.sums

pub returns-clause-value : goal.returns-clause-value
returns-clause-value c =
    taken_row _ _ c.row.inside.higher _ c.row.invariant c.row.view_is c.requires _ c.take-sums.ensures.sums

pub returns-clause-left : goal.returns-clause-left
returns-clause-left c =
    left_row _ _ c.row.inside.higher _ c.row.invariant c.row.view_is c.requires _ c.take-sums.ensures.left

pub returns-clause-well_formed : goal.returns-clause-well_formed
returns-clause-well_formed c = IsRow-of_planes _ _ _ _ _ (invariant_of-result c).planes
