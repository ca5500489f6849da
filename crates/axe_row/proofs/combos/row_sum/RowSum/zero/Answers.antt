use Rattle.std.proofs.Common.{refl}
use Rattle.axe_row.proofs.KeptPlanes.{empty_digits}
use Rattle.axe_row.proofs.PieceRows.{zero_sums}
use Rattle.axe_row.proofs.RowLaws.{same_row}
use Rattle.axe_row.proofs.RowPlanes.{IsRow-of_planes, zero_entries}
use Rattle.axe_row.proofs.combos.row_sum.RowSum.zero.Goals as goal

pub invariant_of-result : goal.invariant_of-result
invariant_of-result c = zero_sums _ _ _ _ c.prime.ensures c.requires c.in_ok-sums.ensures

pub returns-clause-zeros : goal.returns-clause-zeros
returns-clause-zeros c =
    same_row _ _ refl (zero_entries c.args.field c.args.len 0 0 _ _ _ c.in_ok-sums.ensures.digits_are (empty_digits c.args.field) (empty_digits c.args.field))

pub returns-clause-well_formed : goal.returns-clause-well_formed
returns-clause-well_formed c = IsRow-of_planes _ _ _ _ _ (invariant_of-result c).planes
